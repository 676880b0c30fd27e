-- The names of a term as printed, by one number for each place, as the code has them between numbering and printing. A place is a
-- constructor's number from the left. Nobody needs this to believe `expand`.
use Rattle.std.specs.Prelude.{ℕ, zero, suc, ◌+◌, List, get_or}
use Rattle.terms.specs.Term.{Name, Term, Fields, variable, function, apply, rcd, dot, number, nil, cons, size}
use Rattle.terms.specs.Rename.{new_name, written}

-- a name, by the number of its new name; 0 if it has none
abbrev pub name_shown : ℕ → Name → List ℕ
name_shown zero v = written v
name_shown (suc k) v = new_name (suc k)

-- the names as printed, where `numbers` has a number for each place; the term's own place is p
unfoldable mutual
  pub labelled : List ℕ → ℕ → Term Name → Term (List ℕ)
  labelled numbers p (variable v) = variable (name_shown (get_or numbers p 0) v)
  labelled numbers p (function b t) = function (name_shown (get_or numbers p 0) b) (labelled numbers (suc p) t)
  labelled numbers p (apply t u) = apply (labelled numbers (suc p) t) (labelled numbers (suc p + size t) u)
  labelled numbers p (rcd f) = rcd (labelled_fields numbers (suc p) f)
  labelled numbers p (dot t l) = dot (labelled numbers (suc p) t) l
  labelled numbers p (number n) = number n

  pub labelled_fields : List ℕ → ℕ → Fields Name → Fields (List ℕ)
  labelled_fields numbers p nil = nil
  labelled_fields numbers p (cons l t f) = cons l (labelled numbers (suc p) t) (labelled_fields numbers (suc p + size t) f)
