-- The sorts of values, and environments that match: 001, section 4.2, b : B and M ⊨ L, as document 01 changes them.
use Rattle.std.specs.Prelude.{ℕ, List, [], ◌∷◌}
use Rattle.grammar.specs.Sorts as Sorts
use Rattle.terms.specs.Term.{Name, Term, Fields}
use Rattle.expansion.specs.Figure3.{Value, unit, var, binder, label, num, term, fields}

-- v may stand where B is asked: it has that sort, or it is a Binder where Var is asked
pub data Typed : Value → ℕ → Type 0 where
  typed_unit : Typed unit Sorts.unit
  typed_var : {x : Name} → Typed (var x) Sorts.var
  typed_binder : {x : Name} → Typed (binder x) Sorts.binder
  typed_binder_as_var : {x : Name} → Typed (binder x) Sorts.var
  typed_label : {l : List ℕ} → Typed (label l) Sorts.label
  typed_term : {t : Term Name} → Typed (term t) Sorts.term
  typed_fields : {f : Fields Name} → Typed (fields f) Sorts.fields
  typed_num : {n : ℕ} → Typed (num n) Sorts.num

-- M ⊨ L: the values of the variables have their sorts
pub data Matches : List Value → List ℕ → Type 0 where
  matches-none : Matches [] []
  matches_more : {v : Value} {B : ℕ} {M : List Value} {L : List ℕ} → Typed v B → Matches M L → Matches (v ∷ M) (B ∷ L)
