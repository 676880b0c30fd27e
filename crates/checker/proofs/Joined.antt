-- What an expansion may take from a table that passes: the room holds its grammar.
use Rattle.std.specs.Prelude.{Ok}
use Prim.Native.Nat.{ℕ}
use mathlib.Core.Path.{◌≡◌, refl}
use mathlib.Core.List.{List}
use native.Mathlib.Omega.{arith}
use lib.ListN.{length, drop}
use Rattle.answers.specs.Checked.{Checked, ok, bad, ◌>>◌}
use Rattle.answers.specs.Refusals.{Verdict}
use Rattle.grammar.specs.Fields.{fields_of}
use Rattle.decoding.specs.Layout.{layout}
use Rattle.decoding.specs.Decode.{table_of, decode_fields, decode}
use Rattle.decoding.proofs.Split.{Bytes}
use Rattle.decoding.proofs.Spelled.{each_map}
use Rattle.decoding.proofs.LayoutTheorems.{decode_exactly}
use Rattle.elaboration.proofs.SortTheorems.{sorts_exactly}
use Rattle.elaboration.proofs.Elaborated.{elaborated_blocks}
use Rattle.decoding.specs.Within.{Each}
use Rattle.productions.specs.Index.{Whole, places_of}
use Rattle.productions.proofs.FewAlternatives.{few_alternatives}
use Rattle.productions.proofs.NormalizedByFields.{normalized_by_lem}
use Rattle.productions.proofs.Places.{productions_at_lem, few_places, whole_places}
use Rattle.firsts.specs.Room.{productions_in, table_room, HoldsGrammar}
use Rattle.checker.specs.Check.{check}
use Rattle.checker.specs.CheckedInto.{room_after, CheckedInto}
use Rattle.checker.specs.Passes.{grammar_of, Passes}
use Rattle.checker.proofs.Passing.{check_exactly}

-- the layout of what was decoded is right
laid : {A : Type 0} (checked : Checked (Unit {0})) (given : A) {found : A} → (checked >> ok given) ≡ ok found → checked ≡ ok tt
laid (ok a) given e = refl
laid (bad r) given e = let z : ◌≡◌ {A = ℕ} 0 1 = cc in absurd (omega arith)

module _ {bs : List ℕ} (bytes : Bytes bs) (passes : Passes bs) where
  decoded : decode bs ≡ ok passes.written
  decoded = (decode_exactly bs bytes passes.written).1 (passes.encoded, passes.within)

  laid_out : layout bs ≡ ok tt
  unfolding decode
  laid_out = laid (layout bs) (table_of (decode_fields (fields_of bs))) decoded

  -- The productions of its bytes are the grammar of the table.
  pub passed_grammar : productions_in bs ≡ grammar_of passes.table
  passed_grammar =
      cc (productions_at_lem bs, passes.encoded, normalized_by_lem passes.written passes.within, elaborated_blocks passes.within passes.meets.elaborates)

  -- The room after its check holds its grammar, each production a whole alternative.
  pub passed_holds : {room₀ room : List ℕ} {verdict : Verdict} → CheckedInto bs room₀ room verdict → HoldsGrammar bs room
  unfolding room_after
  passed_holds {room₀} c =
      record {
        small = (few_alternatives bs laid_out).short;
        few = few_places bs laid_out;
        rest = drop (length (table_room bs)) room₀;
        held =
            cc (c.held, decoded, (sorts_exactly passes.written passes.table passes.within).1 passes.meets.elaborates);
        whole = each_map (λ q w. w.whole) (whole_places bs laid_out);
      }

  -- Each of its productions is of one of the 64 nonterminals, and stands whole in the table.
  pub passed_places : Each (Whole bs) (places_of bs)
  passed_places = whole_places bs laid_out

-- What a caller has of a room after a check that passed.
pub record Joined (bs room : List ℕ) : Type 0 where
  -- the bytes are those of a table that passes
  pub passes : Passes bs
  -- its productions are those found by place
  pub grammar : productions_in bs ≡ grammar_of passes.table
  -- the room holds what an expansion reads
  pub holds : HoldsGrammar bs room

-- bytes that pass, and the room that their check filled
pub joined : {bs : List ℕ} → Bytes bs → check bs ≡ Ok tt → {room₀ room : List ℕ} {verdict : Verdict} → CheckedInto bs room₀ room verdict → Joined bs room
joined {bs} bytes h c =
    let p : Passes bs = (check_exactly bs bytes).0 h in
    record { passes = p; grammar = passed_grammar bytes p; holds = passed_holds bytes p c }
