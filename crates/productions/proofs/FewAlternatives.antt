-- A table whose layout is right is short enough, and has few enough alternatives, for its index.
use Prim.Native.Nat.{ℕ, suc, ◌+◌, ◌≤◌}
use mathlib.Core.Path.{◌≡◌}
use mathlib.Core.Bool.{Bool, true, false, not, ◌||◌}
use mathlib.Core.List.{List, [], ◌∷◌}
use native.Mathlib.Omega.{arith}
use lib.Dec.{eqb, ltb}
use borrow.Author.Tests.{ltb-true}
use Rattle.answers.specs.Checked.{ok}
use Rattle.grammar.specs.Values.{Field, field}
use Rattle.grammar.specs.Fields.{RawFields, end, cut, next, fields_of}
use Rattle.decoding.specs.declared.Progress.{Progress}
use Rattle.spellings.specs.Bytes.{one_if}
use Rattle.decoding.specs.Layout.{passed, initial_progress, check_fields, layout}
use Rattle.decoding.proofs.Accept.{accepted}
use Rattle.decoding.proofs.Inverse.{layout_parts}
use Rattle.decoding.proofs.Rooms.{room_of}
use Rattle.productions.specs.Index.{alternative_fields}
use Rattle.productions.specs.IndexCalls.{FitsIndex}

-- where there is room, one more is not too many
one_more : (count : ℕ) (here : Bool) → (not here || ltb count 256) ≡ true → count ≤ 256 → count + one_if here ≤ 256
one_more count true e h = omega (arith, ltb-true count 256 e)
one_more count false e h = omega arith

-- a field, and those that follow it
count_field : (at tag : ℕ) (value : List ℕ) (fs : RawFields) → alternative_fields (next at tag value fs) ≡ one_if (eqb tag 5) + alternative_fields fs
unfolding alternative_fields
count_field at tag value fs = by (eqb tag 5)
  where
    by : (here : Bool) → (elim here as (λ x. ℕ) [ true ↦ suc (alternative_fields fs) | false ↦ alternative_fields fs ]) ≡ one_if here + alternative_fields fs
    by true = omega arith
    by false = omega arith

few_fields : (fs : RawFields) (before : List Field) (progress : Progress) → progress.alternatives ≤ 256 → check_fields fs before progress ≡ ok tt
    → progress.alternatives + alternative_fields fs ≤ 256
unfolding alternative_fields passed
few_fields (end at) before progress l h = omega arith
few_fields (cut at) before progress l h = omega arith
few_fields (next at tag v fs) before progress l h =
    let passes = accepted at tag v fs before progress h in
    let room : progress.alternatives + one_if (eqb tag 5) ≤ 256 =
    one_more progress.alternatives (eqb tag 5) (room_of tag progress passes.0.room).alternatives l in
    omega (arith, count_field at tag v fs, few_fields fs (field tag v ∷ before) (passed tag progress) room passes.1)

-- A table of a right layout fits the index.
pub few_alternatives : (bs : List ℕ) → layout bs ≡ ok tt → FitsIndex bs
few_alternatives bs h =
    let parts = layout_parts bs h in
    record { short = parts.0; few = omega (arith, few_fields (fields_of bs) [] initial_progress (omega arith) parts.1) }
