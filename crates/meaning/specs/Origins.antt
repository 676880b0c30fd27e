-- Whose name is whose by origin, by rules of its own: nothing here is shared with what renames and prints.
-- Document 01, "Whose name is whose", and cause 23.
use Rattle.std.specs.Prelude.{ℕ, suc, ◌+◌, List, [], ◌∷◌, ◌++◌}
use Rattle.decoding.specs.Within.{Each}
use Rattle.terms.specs.Term.{Name, word, fresh, outside, Term, Fields, variable, function, apply, rcd, dot, number, nil, cons, size}
use Rattle.terms.specs.Binding.{Owner, unbound, bound_at, RefersTo, Binder, Occurrence}

-- the innermost binder around that a variable's origin calls for (`RefersTo`: a formula's name calls for a formula binder of its spelling as
-- written, a fresh name for a binder made with it), or none if there is none
pub data Innermost (v : Name) : List Binder → Owner → Type 0 where
  this_one : {b : Binder} {around : List Binder} → RefersTo v b.name → Innermost v (b ∷ around) (bound_at b.place)
  further_out : {b : Binder} {around : List Binder} {o : Owner} → ¬ RefersTo v b.name → Innermost v around o → Innermost v (b ∷ around) o
  nowhere : Innermost v [] unbound

-- a variable at a place, with its binder
abbrev pub at : ℕ → Name → Owner → Occurrence
at p v o = record { place = p; name = v; owner = o }

-- all variables of a term from the left, under the binders around it; the term's own place is p, and a constructor's place its number from
-- the left
mutual
  pub data Occurs : List Binder → ℕ → Term Name → List Occurrence → Type 0 where
    in_variable : {around : List Binder} {p : ℕ} {v : Name} {o : Owner} → Innermost v around o → Occurs around p (variable v) (at p v o ∷ [])
    in_function : {around : List Binder} {p : ℕ} {b : Name} {t : Term Name} {os : List Occurrence}
        → Occurs (record { name = b; place = p } ∷ around) (suc p) t os
        → Occurs around p (function b t) os
    in_apply : {around : List Binder} {p : ℕ} {t u : Term Name} {os qs : List Occurrence}
        → Occurs around (suc p) t os
        → Occurs around (suc p + size t) u qs
        → Occurs around p (apply t u) (os ++ qs)
    in_rcd : {around : List Binder} {p : ℕ} {f : Fields Name} {os : List Occurrence} → OccursFields around (suc p) f os → Occurs around p (rcd f) os
    in_dot : {around : List Binder} {p : ℕ} {t : Term Name} {l : List ℕ} {os : List Occurrence} → Occurs around (suc p) t os → Occurs around p (dot t l) os
    in_number : {around : List Binder} {p n : ℕ} → Occurs around p (number n) []

  pub data OccursFields : List Binder → ℕ → Fields Name → List Occurrence → Type 0 where
    in_nil : {around : List Binder} {p : ℕ} → OccursFields around p nil []
    in_cons : {around : List Binder} {p : ℕ} {l : List ℕ} {t : Term Name} {f : Fields Name} {os qs : List Occurrence}
        → Occurs around (suc p) t os
        → OccursFields around (suc p + size t) f qs
        → OccursFields around p (cons l t f) (os ++ qs)

-- ------------------------------------------------------------------ fresh variables under no binder made with them

pub data Loose : Occurrence → Type 0 where
  a_loose : {p n : ℕ} → Loose (at p (fresh n) unbound)

-- the first of them, and none
pub data FirstLoose : List Occurrence → ℕ → Type 0 where
  this_first : {o : Occurrence} {os : List Occurrence} → Loose o → FirstLoose (o ∷ os) o.place
  later : {o : Occurrence} {os : List Occurrence} {p : ℕ} → ¬ Loose o → FirstLoose os p → FirstLoose (o ∷ os) p

abbrev pub NoneLoose : List Occurrence → Type 0
NoneLoose os = Each (λ o. ¬ Loose o) os

-- ------------------------------------------------------------------ what demand 3 asks of a variable

-- a formula's variable has a binder or none, a fresh one always has one, an outside one has none
pub data Owned : Name → Owner → Type 0 where
  formula_bound : {s : List ℕ} {p : ℕ} → Owned (word s) (bound_at p)
  formula_free : {s : List ℕ} → Owned (word s) unbound
  fresh_bound : {n p : ℕ} → Owned (fresh n) (bound_at p)
  outside_free : {s : List ℕ} → Owned (outside s) unbound

abbrev pub IsOwned : Occurrence → Type 0
IsOwned o = Owned o.name o.owner
