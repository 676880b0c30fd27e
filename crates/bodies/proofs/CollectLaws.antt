-- Laws of the walk over a block that collects its heads: what is left gives what the whole gives.
use Prim.Native.Nat.{ℕ, ◌≤◌}
use mathlib.Core.Path.{◌≡◌, refl, sym, ◌∙◌}
use mathlib.Core.Bool.{Bool, true, false}
use mathlib.Core.List.{List}
use lib.ListN.{length}
use Rattle.std.specs.Prelude.{Result, Ok, Err, ⊤}
use Rattle.answers.specs.Refusals.{Verdict}
use Rattle.answers.specs.Refusals.{refusal}
use Rattle.grammar.specs.declared.FieldSpan.{FieldSpan}
use Rattle.grammar.specs.Lookup.{field_at, fields_at}
use Rattle.grammar.proofs.LookupLaws.{Walk, walk_field, walk_end}
use Rattle.bodies.specs.declared.Fault.{Fault}
use Rattle.bodies.specs.Faults.{cause_of}
use Rattle.bodies.specs.HeadBytes.{ends_block, fault_at, heads_with, Defined, collected, collect_after, collect_from}
use Rattle.bodies.proofs.TemplateInduction.{choose}

-- the heads of a block's fields before `at` are collected
pub record Collecting (bs : List ℕ) (block from : ℕ) (heads₀ : List ℕ) (at : ℕ) (heads : List ℕ) : Type 0 where
  -- the heads are as many as they were
  pub as_many : length heads ≡ length heads₀
  -- the fields left give what all of them give
  pub rest : collect_from (fields_at bs at) bs block heads ≡ collect_from (fields_at bs from) bs block heads₀

-- no field yet
pub collecting_start : {bs : List ℕ} {block from : ℕ} {heads₀ : List ℕ} → Collecting bs block from heads₀ from heads₀
collecting_start = record { as_many = refl; rest = refl }

collect_walk : (bs : List ℕ) (block : ℕ) (heads : List ℕ) → Walk (λ fs. collect_from fs bs block heads) (collected (Ok tt) heads)
unfolding collect_from
collect_walk bs block heads = record { at-end = λ at. refl; at_cut = λ at. refl; at_none = λ at to. refl }

module _ {bs : List ℕ} {block from : ℕ} {heads₀ : List ℕ} {at : ℕ} {heads : List ℕ} (collecting : Collecting bs block from heads₀ at heads) where
  -- at the end
  pub collecting_end : length bs ≤ at → collected (Ok tt) heads ≡ collect_from (fields_at bs from) bs block heads₀
  collecting_end h = sym (walk_end (collect_walk bs block heads) bs at h) ∙ collecting.rest

  module _ {field : FieldSpan} (equal : field ≡ field_at bs at) where
    -- the field, by whether it ends the block
    field_is : (ends : Bool) → ends_block field.tag ≡ ends
        → choose (collected (Ok tt) heads)
        (collect_after (fault_at field.tag bs at block heads) at heads
        (collect_from (fields_at bs field.to) bs block (heads_with field.tag bs at heads)))
        ends
        ≡ collect_from (fields_at bs from) bs block heads₀
    unfolding collect_from
    field_is ends e = cc (walk_field (collect_walk bs block heads) bs at equal, collecting.rest)

    -- at the next block or the root
    pub collecting_ends : ends_block field.tag ≡ true → collected (Ok tt) heads ≡ collect_from (fields_at bs from) bs block heads₀
    collecting_ends e = field_is true e

    module _ {tested : Result ⊤ Fault} {heads' : List ℕ} (agrees : ends_block field.tag ≡ false)
        (defined : Defined bs at field.tag block heads tested heads') where
      -- at a head that is refused
      pub collecting_fault :
          {fault : Fault} {number : ℕ} {verdict : Verdict} → tested ≡ Err fault → number ≡ cause_of fault → verdict ≡ Err (refusal number at 0 0)
          → collected verdict heads' ≡ collect_from (fields_at bs from) bs block heads₀
      collecting_fault f n q = cc (field_is false agrees, defined.tested_is, defined.heads_are)

      -- one field more
      pub collecting_next : length heads' ≡ length heads → tested ≡ Ok tt → Collecting bs block from heads₀ field.to heads'
      collecting_next l z =
          record { as_many = l ∙ collecting.as_many; rest = cc (field_is false agrees, defined.tested_is, defined.heads_are) }
