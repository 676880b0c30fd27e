-- Checking the blocks and the root is the judgement ⊢ gseq ⇒ E.
use Prim.Native.Nat.{ℕ, ◌+◌}
use mathlib.Core.Path.{◌≡◌, refl, subst}
use mathlib.Core.Bool.{◌&&◌}
use mathlib.Core.List.{List, [], ◌∷◌}
use native.Mathlib.Omega.{arith}
use lib.Dec.{eqb}
use lib.ListN.{length}
use borrow.Author.Tests.{eqb-true, eq-eqb}
use Rattle.grammar.specs.Sorts.{Signature, term}
use Rattle.grammar.specs.Table.{Table}
use Rattle.grammar.specs.Written.{WrittenDefinition, Written}
use Rattle.decoding.specs.Within.{Each, each_none, each_more}
use Rattle.judgements.specs.Sizes.{spellings_size, definitions_size, blocks_size}
use Rattle.judgements.specs.CheckSorts.{is_defined, signature_of, collect}
use Rattle.judgements.specs.Scopes.{Env, Scope}
use Rattle.judgements.specs.Judgements.{Newest}
use Rattle.judgements.proofs.Accepting.{Accepts, needs_passed, needs_passes, bind_passed, bind_passes, then_passed, then_passes}
use Rattle.judgements.proofs.Environments.{defined_newest, newest_defined, newest_signature}
use Rattle.judgements.proofs.TemplateSorts.{both, pair}
use Rattle.judgements.proofs.HeadSorts.{collect_rule, rule_collect}
use Rattle.elaboration.specs.Contexts.{Before, at_first, scope_after, behind_block}
use Rattle.elaboration.specs.CheckSequence.{none_yet, check_bodies, check_blocks, check_root, check_sorts}
use Rattle.elaboration.specs.Elaboration.{Sequence, no_grammar, by_grammar, Elaborates}
use Rattle.elaboration.proofs.Ranges.{DefinitionFine, TableFine}
use Rattle.elaboration.proofs.Normalizing.{declared_behind}
use Rattle.elaboration.proofs.Rightness.{Right, right_first, right_behind}
use Rattle.elaboration.proofs.ResultSorts.{ok_rule, rule_ok}

-- ------------------------------------------------------------------ ⊢ gseq ⇒ E

module _ (P : Before → Type 0) where
  sequence_rule :
      {before : Before} → Right before → (at : ℕ) (gs : List (List WrittenDefinition)) → Each (Each DefinitionFine) gs
      → Accepts (check_blocks before at gs) P → (last : Before) × Sequence before gs last × P last
  unfolding check_blocks
  sequence_rule {before} right at [] each_none h = (before, no_grammar, h)
  sequence_rule {before} right at (g ∷ gs) (each_more w ws) h =
      let (own, d, p) = collect_rule before.env _ [] (at + 3) g (bind_passed P (collect before.env [] (at + 3) g) _ h) in
      let G : Scope = scope_after before own in
      let (block, used, o, q) = ok_rule before right own (declared_behind d w right.declared) _ (none_yet before.used) (at + 3) g w
      (bind_passed P (check_bodies G before (none_yet before.used) (at + 3) g) _ p) in
      let (last, s, r) = sequence_rule {before = behind_block before own block used} (right_behind right d o w) (at + 3 + definitions_size g) gs ws q in
      (last, by_grammar d o s, r)

  rule_sequence :
      {before : Before} → Right before → (at : ℕ) {last : Before} {gs : List (List WrittenDefinition)} → Each (Each DefinitionFine) gs
      → Sequence before gs last → P last
      → Accepts (check_blocks before at gs) P
  unfolding check_blocks
  rule_sequence right at each_none no_grammar p = p
  rule_sequence {before} right at (each_more w ws) (by_grammar {own = own} {g = g} {h = block} {used = used} d o s) p =
      let G : Scope = scope_after before own in
      bind_passes P (collect before.env [] (at + 3) g) _
      (rule_collect before.env _ (at + 3) d
      (bind_passes P (check_bodies G before (none_yet before.used) (at + 3) g) _
      (rule_ok before right own (declared_behind d w right.declared) _ (none_yet before.used) (at + 3) w o
      (rule_sequence {before = behind_block before own block used} (right_behind right d o w) (at + 3 + definitions_size g) ws s p))))

-- ------------------------------------------------------------------ the root

-- defined, without parameters, of sort Term
pub record IsRoot (E : Env) (root : ℕ) : Type 0 where
  -- the root's signature
  pub signature : Signature
  -- it is defined
  pub defined : Newest E root signature
  -- without parameters
  pub without : signature.params ≡ []
  -- of sort Term
  pub of_term : signature.result ≡ term

empty : (L : List ℕ) → length L ≡ 0 → L ≡ []
empty [] h = refl
empty (x ∷ L) h = absurd (omega arith)

root_rule : (P : Unit {0} → Type 0) (E : Env) (at root : ℕ) → Accepts (check_root E at root) P → IsRoot E root × P tt
unfolding check_root
root_rule P E at root h =
    let S : Signature = signature_of E root in
    let q = needs_passed (is_defined E root) (eqb (length S.params) 0 && eqb S.result term) 9 11 at P h in
    let b = both (eqb (length S.params) 0) (eqb S.result term) q.1 in (
      record {
        signature = S;
        defined = defined_newest E root q.0;
        without = empty S.params (eqb-true _ 0 b.0);
        of_term = eqb-true _ term b.1;
      },
      q.2,
    )

rule_root : (P : Unit {0} → Type 0) (E : Env) (at root : ℕ) → IsRoot E root → P tt → Accepts (check_root E at root) P
unfolding check_root
rule_root P E at root r p =
    let S : Signature = signature_of E root in
    let e : S ≡ r.signature = newest_signature r.defined in
    needs_passes (is_defined E root) (eqb (length S.params) 0 && eqb S.result term) 9 11 at P (newest_defined r.defined)
    (pair (eqb (length S.params) 0) (eqb S.result term)
    (eq-eqb (length S.params) 0 (cc r.without))
    (eq-eqb S.result term (cc r.of_term)))
    p

-- ------------------------------------------------------------------ the whole table

module _ (P : Table → Type 0) (table : Written) where
  -- the root is checked behind the blocks
  abbrev root_place : ℕ
  root_place = spellings_size table.keywords + spellings_size table.outsides + blocks_size table.blocks

  -- a table that the check accepts is elaborated, to the check's value
  pub table_rule : TableFine table → Accepts (check_sorts table) P → (made : Table) × Elaborates table made × P made
  unfolding check_sorts
  table_rule w h =
      let (last, s, q) = sequence_rule _ (right_first w) _ table.blocks w.blocks (bind_passed P (check_blocks (at_first table) _ table.blocks) _ h) in
      let (r, p) = root_rule _ last.env root_place table.root (then_passed P (check_root last.env root_place table.root) _ q) in (
        record { keywords = table.keywords; outsides = table.outsides; blocks = last.blocks; root = table.root },
        record {
          last = last;
          sequence = s;
          same_keywords = refl;
          same_outsides = refl;
          same_blocks = refl;
          same_root = refl;
          signature = r.signature;
          defined = r.defined;
          without = r.without;
          of_term = r.of_term;
        },
        p,
      )

  -- a table that is elaborated is accepted
  pub rule_table : {made : Table} → TableFine table → Elaborates table made → P made → Accepts (check_sorts table) P
  unfolding check_sorts
  rule_table {made} w e p =
      let whole : made ≡ record { keywords = table.keywords; outsides = table.outsides; blocks = e.last.blocks; root = table.root }
      = rw (← e.same_keywords, ← e.same_outsides, ← e.same_blocks, ← e.same_root) refl in
      bind_passes P (check_blocks (at_first table) _ table.blocks) _
      (rule_sequence _ (right_first w) _ w.blocks e.sequence
      (then_passes P (check_root e.last.env root_place table.root) _
      (rule_root _ e.last.env root_place table.root
      (record { signature = e.signature; defined = rw e.same_root at e.defined; without = e.without; of_term = e.of_term })
      (subst P whole p))))
