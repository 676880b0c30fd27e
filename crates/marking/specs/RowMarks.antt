-- The marks of the term at a row, by the numbers that stand in its rows: for any cells, whatever the names. Nobody needs this to believe `expand`.
use Rattle.std.specs.Prelude.{ℕ, ◌+◌, List, [], ◌∷◌, ◌++◌, length, get_or, set}
use Rattle.std.specs.Int.Bits.{bit_or}
use Rattle.terms.specs.Cells.{column}
use Rattle.terms.specs.Term.{Name, Term, Fields, variable, function, apply, rcd, dot, number, nil, cons}
use Rattle.terms.specs.Rows.{term_at, field_list_at}
use Rattle.rows.specs.Sizes.{no_spell}
use Rattle.binders.specs.Slots.{slot_of}
use Rattle.scopes.specs.Marks.{variable_mark, outsides_of, binder_mark_of}

-- what a walk gives: a mark for each constructor, from the left, and the set of the outside names that stand as variables
pub record Marked : Type 0 where
  pub marks : List ℕ
  pub held : ℕ

-- a variable of name x, where `current` has the innermost binder of each slot
abbrev pub variable_marked : List ℕ → List ℕ → ℕ → Marked
variable_marked cells current x = record { marks = variable_mark x (get_or current (slot_of cells x) 0) ∷ []; held = outsides_of x }

-- a function that binds x, over its body
abbrev pub binding : ℕ → Marked → Marked
binding x body = record { marks = binder_mark_of x body.held ∷ body.marks; held = body.held }

-- a constructor without a name: with no part, over one, and over two, one behind the other
abbrev pub bare : Marked
bare = record { marks = 0 ∷ []; held = 0 }

abbrev pub over : Marked → Marked
over part = record { marks = 0 ∷ part.marks; held = part.held }

abbrev pub over_both : Marked → Marked → Marked
over_both first second = record { marks = 0 ∷ first.marks ++ second.marks; held = bit_or first.held second.held }

-- The term at a row r, and the field list, from place p on. They are walked by their shape, which does not depend on spellings; names stand in the rows.
unfoldable mutual
  pub marked_term : List ℕ → Term Name → ℕ → ℕ → List ℕ → Marked
  marked_term cells (variable v) r p current = variable_marked cells current (column cells r 1)
  marked_term cells (function b t) r p current =
      binding (column cells r 1) (marked_term cells t (column cells r 2) (p + 1) (set current (slot_of cells (column cells r 1)) (p + 1)))
  marked_term cells (apply t u) r p current =
      let first = marked_term cells t (column cells r 1) (p + 1) current in
      over_both first (marked_term cells u (column cells r 2) (p + 1 + length first.marks) current)
  marked_term cells (rcd f) r p current = over (marked_fields cells f (column cells r 1) (p + 1) current)
  marked_term cells (dot t l) r p current = over (marked_term cells t (column cells r 1) (p + 1) current)
  marked_term cells (number n) r p current = bare

  pub marked_fields : List ℕ → Fields Name → ℕ → ℕ → List ℕ → Marked
  marked_fields cells nil r p current = bare
  marked_fields cells (cons l t f) r p current =
      let first = marked_term cells t (column cells r 2) (p + 1) current in
      over_both first (marked_fields cells f (column cells r 3) (p + 1 + length first.marks) current)

-- the same, where `bound` bounds the depth
abbrev pub term_marks : List ℕ → ℕ → ℕ → ℕ → List ℕ → Marked
term_marks cells bound row p current = marked_term cells (term_at bound no_spell cells row) row p current

abbrev pub field_marks : List ℕ → ℕ → ℕ → ℕ → List ℕ → Marked
field_marks cells bound row p current = marked_fields cells (field_list_at bound no_spell cells row) row p current
