-- The blocks that the check of sorts carries before a block are those of the table's bytes up to that block's field.
use Prim.Native.Nat.{ℕ, ◌+◌}
use mathlib.Core.Path.{◌≡◌, sym, ap, subst, ◌∙◌}
use mathlib.Core.List.{List, [], ◌++◌}
use native.Mathlib.Omega.{arith}
use lib.ListN.{length, take}
use Rattle.grammar.specs.Written.{WrittenDefinition, Written}
use Rattle.grammar.specs.Fields.{fields_of}
use Rattle.grammar.specs.Encode.{field_bytes, encode}
use Rattle.decoding.specs.Within.{Each, DefinitionWithin, Within}
use Rattle.decoding.proofs.Spelled.{each_split}
use Rattle.decoding.proofs.Fronts.{front_fields}
use Rattle.productions.specs.Normal.{normalized}
use Rattle.productions.specs.Index.{normalized_by}
use Rattle.productions.proofs.NormalizedByFields.{normalized_before}
use Rattle.judgements.specs.Sizes.{spellings_size, blocks_size}
use Rattle.judgements.proofs.SizeLaws.{no_bytes, front_size}
use Rattle.elaboration.specs.Contexts.{Before, at_first}
use Rattle.elaboration.specs.CheckSequence.{check_blocks}
use Rattle.elaboration.specs.Elaboration.{Sequence}
use Rattle.elaboration.proofs.Ranges.{table_fine, blocks_fine}
use Rattle.elaboration.proofs.Rightness.{right_first}
use Rattle.elaboration.proofs.BlocksBefore.{carried}
use Rattle.elaboration.proofs.Elaborated.{blocks_made}

-- What the check carries to the blocks `behind` of a table, which stand at a place: it goes on with it there, and its normalized grammar is the one that
-- the table's bytes up to that place have.
pub record CarriedBefore (table : Written) (behind : List (List WrittenDefinition)) (at : ℕ) (P : Before) : Type 0 where
  -- the check of all blocks is that of these, with what is carried
  pub goes_on : check_blocks (at_first table) (spellings_size table.keywords + spellings_size table.outsides) table.blocks ≡ check_blocks P at behind
  -- the productions of the bytes before are those of the blocks that are carried
  pub productions : normalized_by (fields_of (take at (encode table))) 0 [] ≡ normalized P.blocks

-- Behind blocks that are derived the check carries what they give, and what they are elaborated to.
pub carried_before : (table : Written) → Within table → (before behind : List (List WrittenDefinition)) → table.blocks ≡ before ++ behind
    → {P : Before} → Sequence (at_first table) before P
    → CarriedBefore table behind (spellings_size table.keywords + spellings_size table.outsides + blocks_size before) P
carried_before table w before behind whole s =
    let first : ℕ = spellings_size table.keywords + spellings_size table.outsides in
    let place : length (field_bytes (front_fields table before)) ≡ first + blocks_size before
    = omega (arith, front_size table.keywords table.outsides before [], no_bytes) in
    let fine = (each_split before (subst (Each (Each DefinitionWithin)) whole w.blocks)).0 in
    record {
      goes_on = ap (check_blocks (at_first table) first) whole ∙ carried behind (right_first (table_fine w)) first (blocks_fine fine) s;
      productions = rw (← place) (normalized_before table before behind whole fine ∙ ap normalized (sym (blocks_made s fine)));
    }
