-- The first label given twice in one record: refusal 29. Document 02, C-15.
use Rattle.std.specs.Prelude.{ℕ, suc, Bool, true, false, ◌||◌, List, [], ◌∷◌}
use Rattle.spellings.specs.Bytes.{same}
use Rattle.terms.specs.Term.{Term, Fields, variable, function, apply, rcd, dot, number, nil, cons}
use Rattle.terms.specs.Loose.{Walk, loose, reached, and_then}

-- a label is one of some labels, byte for byte
unfoldable pub is_among : List ℕ → List (List ℕ) → Bool
is_among l [] = false
is_among l (m ∷ ms) = same l m || is_among l ms

-- a walk ends at a place if a test holds there, and goes on if not
abbrev pub stop_if : Bool → ℕ → Walk → Walk
stop_if true p on = loose p
stop_if false p on = on

-- "A mkFieldCons whose label stood earlier in its record": the first from the left, which has the lowest place. A place is a constructor's number from the
-- left, from 0, as in 23; the term's own is p. `earlier` has the labels of the record before these fields; the label of a mkTermDot stands in no record.
unfoldable mutual
  pub label_walk : {N : Type 0} → ℕ → Term N → Walk
  label_walk p (variable x) = reached (suc p)
  label_walk p (function x t) = label_walk (suc p) t
  label_walk p (apply t u) = and_then (label_walk (suc p) t) (λ q. label_walk q u)
  label_walk p (rcd f) = label_walk_fields [] (suc p) f
  label_walk p (dot t l) = label_walk (suc p) t
  label_walk p (number n) = reached (suc p)

  pub label_walk_fields : {N : Type 0} → List (List ℕ) → ℕ → Fields N → Walk
  label_walk_fields earlier p nil = reached (suc p)
  label_walk_fields earlier p (cons l t f) =
      stop_if (is_among l earlier) p (and_then (label_walk (suc p) t) (λ q. label_walk_fields (l ∷ earlier) q f))
