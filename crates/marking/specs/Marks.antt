-- Resolution by places: one number for each constructor of a term, from the left. At the place of a variable, and at that of a binder, it is
-- the mark of scopes/specs/Marks; at any other place 0. Nobody needs this to believe `expand`.
use Rattle.std.specs.Prelude.{ℕ, suc, ◌+◌, List, [], ◌∷◌, ◌++◌}
use Rattle.terms.specs.Term.{Name, Term, Fields, variable, function, apply, rcd, dot, number, nil, cons, size}
use Rattle.terms.specs.Rename.{is_renamed}
use Rattle.terms.specs.Binding.{Binder}
use Rattle.terms.specs.Occurrences.{owner_of}
use Rattle.scopes.specs.Marks.{owner_code, mark_of, binder_mark}

unfoldable mutual
  pub marks : List Binder → ℕ → Term Name → List ℕ
  marks around p (variable v) = mark_of v (owner_code (owner_of around v)) ∷ []
  marks around p (function b t) = binder_mark (is_renamed b t) ∷ marks (record { name = b; place = p } ∷ around) (suc p) t
  marks around p (apply t u) = 0 ∷ marks around (suc p) t ++ marks around (suc p + size t) u
  marks around p (rcd f) = 0 ∷ marks_fields around (suc p) f
  marks around p (dot t l) = 0 ∷ marks around (suc p) t
  marks around p (number n) = 0 ∷ []

  pub marks_fields : List Binder → ℕ → Fields Name → List ℕ
  marks_fields around p nil = 0 ∷ []
  marks_fields around p (cons l t f) = 0 ∷ marks around (suc p) t ++ marks_fields around (suc p + size t) f
