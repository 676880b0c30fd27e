-- What makes a cell: there is a row for it, which then has its numbers; or there is none: refusal 21.
use Prim.Native.Nat.{ℕ, ◌*◌, ◌≤◌, ◌<◌}
use mathlib.Core.Path.{◌≡◌, refl, subst⁻¹}
use mathlib.Core.Bool.{Bool, true, false}
use mathlib.Core.List.{List, [], ◌∷◌, ◌++◌}
use native.Mathlib.Omega.{arith}
use lib.Dec.{ltb}
use lib.ListN.{length, get_or, length-append}
use lib.Seq.{sets, length-take-le, get_or-take}
use borrow.Author.Tests.{ltb-true, ltb-false, lt-ltb, le-ltb}
use Rattle.answers.specs.Refusals.{refusal}
use Rattle.terms.specs.Cells.{columns, row_numbers}
use Rattle.expansion.specs.declared.State.{State}
use Rattle.expansion.specs.Run.{Result, done, halt}
use Rattle.expansion.specs.Expansion.{Input, cell_made, cell}

-- the cells after a row is written
abbrev pub with_row : List ℕ → ℕ → List ℕ → List ℕ
with_row cells row numbers = sets cells (row * columns) numbers

-- a code and its arguments, spare ones 0
abbrev pub filled : ℕ → List ℕ → List ℕ
filled code arguments = code ∷ arguments ++ 0 ∷ 0 ∷ 0 ∷ []

-- The numbers of a row that has a code and its arguments.
pub record Row (code : ℕ) (arguments numbers : List ℕ) : Type 0 where
  -- they fill a row
  pub as_many : length numbers ≡ columns
  -- the first four are the code and the arguments
  pub holds : (place : ℕ) → place < 4 → get_or numbers place 0 ≡ get_or (filled code arguments) place 0

-- The numbers of a row have its code and its arguments.
pub row_numbers_lem : (code : ℕ) (arguments : List ℕ) → Row code arguments (row_numbers code arguments)
row_numbers_lem code arguments =
    record {
      as_many = length-take-le columns (filled code arguments) (omega (arith, length-append arguments (0 ∷ 0 ∷ 0 ∷ [])));
      holds = λ place l. get_or-take columns (filled code arguments) place 0 l;
    }

module _ (lent : Input) (code : ℕ) (arguments : List ℕ) (state : State) (cells : List ℕ) where
  -- There is a row: the cell is made in it.
  pub cell_row : state.made < lent.rows
      → cell lent code arguments state cells ≡ done state.made (cell_made state) (with_row cells state.made (row_numbers code arguments))
  cell_row l = rw (lt-ltb state.made lent.rows l, cell) refl

  -- There is none: refusal 21.
  pub cell_none : lent.rows ≤ state.made → cell lent code arguments state cells ≡ halt (refusal 21 state.at 0 0) cells
  cell_none l = rw (le-ltb state.made lent.rows l, cell) refl

  -- What holds of both holds of a cell, whatever else its row has.
  pub cell_by : (P : Result ℕ → Type 0)
      → ((numbers : List ℕ) → Row code arguments numbers → state.made < lent.rows
      → P (done state.made (cell_made state) (with_row cells state.made numbers)))
      → (lent.rows ≤ state.made → P (halt (refusal 21 state.at 0 0) cells)) → P (cell lent code arguments state cells)
  cell_by P made none = go (ltb state.made lent.rows) refl
    where
      go : (test : Bool) → ltb state.made lent.rows ≡ test → P (cell lent code arguments state cells)
      go true e =
          let l = ltb-true state.made lent.rows e in
          subst⁻¹ P (cell_row l) (made (row_numbers code arguments) (row_numbers_lem code arguments) l)
      go false e = let l = ltb-false state.made lent.rows e in subst⁻¹ P (cell_none l) (none l)
