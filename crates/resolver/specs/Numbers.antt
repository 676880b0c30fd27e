-- From marks to the numbers of new names, from the left: a binder that is renamed takes the next number, a variable that has a binder its
-- binder's number, all else 0. Nobody needs this to believe `expand`.
use Rattle.std.specs.Prelude.{ℕ, zero, suc, ◌*◌, ◌≤◌, ◌≡◌, true, false, List, [], ◌∷◌, ◌++◌, eqb, length, get_or, take, drop, ⊤, Result, Ok, Err}
use Rattle.answers.specs.Checked.{Checked, ok, bad}
use Rattle.answers.specs.Refusals.{refusal}
use Rattle.terms.specs.Cells.{columns}
use Rattle.terms.specs.Term.{Name, Term, size, largest_term}
use Rattle.terms.specs.Rows.{term_at}
use Rattle.terms.specs.Names.{Distinct, WellNamed}
use Rattle.terms.specs.Rename.{rename}
use Rattle.terms.specs.Loose.{Walk, loose, reached, walk}
use Rattle.terms.specs.Emit.{binding_test}
use Rattle.terms.specs.Labelled.{labelled}
use Rattle.rows.specs.Sizes.{size_at, WholeRows}
use Rattle.scopes.specs.Marks.{new, no_owner}
use Rattle.marking.specs.Marks.{marks}

abbrev pub owner_number : List ℕ → ℕ → ℕ
owner_number done zero = 0
owner_number done (suc q) = get_or done q 0

-- the number at a place with the mark m, where `done` has the numbers of the places before and c is the next new one
unfoldable pub number_at : List ℕ → ℕ → ℕ → ℕ
number_at done c m = elim (eqb m new) [ true ↦ c | false ↦ elim (eqb m no_owner) [ true ↦ 0 | false ↦ owner_number done m ] ]

unfoldable pub next_number : ℕ → ℕ → ℕ
next_number c m = elim (eqb m new) [ true ↦ suc c | false ↦ c ]

unfoldable pub numbered_marks : List ℕ → ℕ → List ℕ → List ℕ
numbered_marks done c [] = done
numbered_marks done c (m ∷ ms) = numbered_marks (done ++ number_at done c m ∷ []) (next_number c m) ms

-- the places of the fresh variables that have no owner, from the left; the first mark's place is p
unfoldable pub loose_in : ℕ → List ℕ → List ℕ
loose_in p [] = []
loose_in p (m ∷ ms) = elim (eqb m no_owner) [ true ↦ p ∷ loose_in (suc p) ms | false ↦ loose_in (suc p) ms ]

-- the first place without an owner, if there is one
abbrev pub first_loose : List ℕ → Result ⊤ ℕ
first_loose [] = Ok tt
first_loose (p ∷ ps) = Err p

-- the marks as they are left: numbered before the first place without an owner, and from there on as they were
abbrev pub numbered_before : List ℕ → List ℕ → List ℕ
numbered_before [] marks = numbered_marks [] 1 marks
numbered_before (p ∷ ps) marks = numbered_marks [] 1 (take p marks) ++ drop p marks

abbrev pub numbering : List ℕ → List ℕ
numbering marks = numbered_before (loose_in 0 marks) marks

-- the answer, and the marks at exit
pub record NumbersMarks (marks marks' : List ℕ) (r : Result ⊤ ℕ) : Type 0 where
  pub answer : r ≡ first_loose (loose_in 0 marks)
  pub left : marks' ≡ numbering marks

-- ------------------------------------------------------------------ a resolution

-- what a resolution asks: whole rows, those made, and a mark for each constructor of a term, not too many, and none made
pub record Resolvable (cells : List ℕ) (made root : ℕ) (room : List ℕ) : Type 0 where
  pub whole : WholeRows cells
  pub rows_lie : made * columns ≤ length cells
  pub counted : length room ≡ size_at cells made root
  pub few : length room ≤ largest_term
  pub blank : (i : ℕ) → get_or room i 0 ≡ 0

-- the walk of a term that an answer stands for
abbrev pub walk_of : Result ⊤ ℕ → ℕ → Walk
walk_of (Err p) end = loose p
walk_of (Ok tt) end = reached end

-- Document 01's number and value for each answer, as the test on a term has them
abbrev pub resolution_test : Result ⊤ ℕ → Checked (Unit {0})
resolution_test (Err p) = bad (refusal 23 p 0 0)
resolution_test (Ok tt) = ok tt

-- The answer is that of the walk for 23, and of its test; the room has the numbers of the term's marks; where all are bound, this is the number of
-- each new name at its place.
pub record ResolvedAs (t : Term Name) (room : List ℕ) (r : Result ⊤ ℕ) : Type 0 where
  pub answer : walk [] 0 t ≡ walk_of r (size t)
  pub tested : binding_test t ≡ resolution_test r
  pub numbers : room ≡ numbering (marks [] 0 t)
  pub named : r ≡ Ok tt → labelled room 0 t ≡ rename t

-- this of the term at a row, under any spellings that give it proper names
abbrev pub Resolves : List ℕ → ℕ → ℕ → List ℕ → Result ⊤ ℕ → Type 0
Resolves cells made root room r =
    (spell : ℕ → List ℕ) → Distinct spell → WellNamed spell (term_at made spell cells root) → ResolvedAs (term_at made spell cells root) room r
