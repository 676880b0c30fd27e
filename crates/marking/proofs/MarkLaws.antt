-- How many marks there are: one for each constructor.
use Prim.Native.Nat.{ℕ, suc, ◌+◌}
use mathlib.Core.Path.{◌≡◌, refl, ap}
use mathlib.Core.List.{List, ◌∷◌}
use lib.ListN.{length, set, length-append}
use Rattle.terms.specs.Cells.{column}
use Rattle.terms.specs.Term.{Name, Term, Fields, variable, function, apply, rcd, dot, number, nil, cons, size, size_fields}
use Rattle.terms.specs.Binding.{Binder}
use Rattle.binders.specs.Slots.{slot_of}
use Rattle.marking.specs.Marks.{marks, marks_fields}
use Rattle.marking.specs.RowMarks.{marked_term, marked_fields}

mutual
  unfolding marks marks_fields size size_fields

  -- A term has a mark for each constructor.
  pub length_marks : (around : List Binder) (place : ℕ) (t : Term Name) → length (marks around place t) ≡ size t
  length_marks around place (variable v) = refl
  length_marks around place (function b t) = ap suc (length_marks (record { name = b; place = place } ∷ around) (suc place) t)
  length_marks around place (apply t u) =
      ap suc (cc (
        length-append (marks around (suc place) t) (marks around (suc place + size t) u),
        length_marks around (suc place) t,
        length_marks around (suc place + size t) u,
      ))
  length_marks around place (rcd f) = ap suc (length_marks_fields around (suc place) f)
  length_marks around place (dot t l) = ap suc (length_marks around (suc place) t)
  length_marks around place (number n) = refl

  length_marks_fields : (around : List Binder) (place : ℕ) (fields : Fields Name) → length (marks_fields around place fields) ≡ size_fields fields
  length_marks_fields around place nil = refl
  length_marks_fields around place (cons l t fields) =
      ap suc (cc (
        length-append (marks around (suc place) t) (marks_fields around (suc place + size t) fields),
        length_marks around (suc place) t,
        length_marks_fields around (suc place + size t) fields,
      ))

module _ (cells : List ℕ) where
  mutual
    unfolding marked_term marked_fields size size_fields

    -- So has the term at a row.
    pub length_marked : (t : Term Name) (row place : ℕ) (current : List ℕ) → length (marked_term cells t row place current).marks ≡ size t
    length_marked (variable v) row place current = refl
    length_marked (function b t) row place current =
        ap suc (length_marked t (column cells row 2) (place + 1) (set current (slot_of cells (column cells row 1)) (place + 1)))
    length_marked (apply t u) row place current =
        let first = marked_term cells t (column cells row 1) (place + 1) current in
        let second = marked_term cells u (column cells row 2) (place + 1 + length first.marks) current in
        ap suc (cc (
          length-append first.marks second.marks,
          length_marked t (column cells row 1) (place + 1) current,
          length_marked u (column cells row 2) (place + 1 + length first.marks) current,
        ))
    length_marked (rcd f) row place current = ap suc (length_marked_fields f (column cells row 1) (place + 1) current)
    length_marked (dot t l) row place current = ap suc (length_marked t (column cells row 1) (place + 1) current)
    length_marked (number n) row place current = refl

    -- And a field list.
    pub length_marked_fields : (fields : Fields Name) (row place : ℕ) (current : List ℕ)
        → length (marked_fields cells fields row place current).marks ≡ size_fields fields
    length_marked_fields nil row place current = refl
    length_marked_fields (cons l t fields) row place current =
        let first = marked_term cells t (column cells row 2) (place + 1) current in
        let second = marked_fields cells fields (column cells row 3) (place + 1 + length first.marks) current in
        ap suc (cc (
          length-append first.marks second.marks,
          length_marked t (column cells row 2) (place + 1) current,
          length_marked_fields fields (column cells row 3) (place + 1 + length first.marks) current,
        ))
