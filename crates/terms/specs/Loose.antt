-- The first fresh variable under no binder made with it: refusal 23. Document 01, "Printing" and cause 23.
use Rattle.std.specs.Prelude.{ℕ, suc}
use mathlib.Core.{Bool.Bool, Bool.true, Bool.false, Bool.◌||◌, List.List, List.[], List.◌∷◌}
use Rattle.terms.specs.Term.{Name, word, fresh, outside, Term, Fields, variable, function, apply, rcd, dot, number, nil, cons}
use Rattle.terms.specs.Rename.{belongs}

-- a walk from a place on: either a fresh variable under no binder made with it stands at a place, or the walk reached a place
pub data Walk : Type 0 where
  loose : ℕ → Walk
  reached : ℕ → Walk

abbrev pub and_then : Walk → (ℕ → Walk) → Walk
and_then (loose p) k = loose p
and_then (reached p) k = k p

-- some binder around, from the innermost, is the variable's by origin
unfoldable pub bound : Name → List Name → Bool
bound v [] = false
bound v (b ∷ bs) = belongs v b || bound v bs

-- a variable at a place, under the binders around it
unfoldable pub walk_name : List Name → ℕ → Name → Walk
walk_name around p (word s) = reached (suc p)
walk_name around p (fresh n) = elim (bound (fresh n) around) [ true ↦ reached (suc p) | false ↦ loose p ]
walk_name around p (outside s) = reached (suc p)

-- the first fresh variable, from the left, under no binder made with it
unfoldable mutual
  pub walk : List Name → ℕ → Term Name → Walk
  walk around p (variable v) = walk_name around p v
  walk around p (function b t) = walk (b ∷ around) (suc p) t
  walk around p (apply t u) = and_then (walk around (suc p) t) (λ q. walk around q u)
  walk around p (rcd f) = walk_fields around (suc p) f
  walk around p (dot t l) = walk around (suc p) t
  walk around p (number n) = reached (suc p)

  pub walk_fields : List Name → ℕ → Fields Name → Walk
  walk_fields around p nil = reached (suc p)
  walk_fields around p (cons l t f) = and_then (walk around (suc p) t) (λ q. walk_fields around q f)
