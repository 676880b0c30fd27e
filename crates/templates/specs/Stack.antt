-- Open constructors on the stack: each is one number, its code and 256 times where the one around it has its first argument, and behind it its
-- arguments so far. These definitions mirror code: nobody needs them to believe `expand`.
use Rattle.std.specs.Prelude.{ℕ, ◌+◌, ◌-◌, ◌*◌, ◌/◌, ◌%◌, ◌<◌, ◌≤◌, ◌≡◌, List, length, get_or, take, drop}
use Rattle.std.proofs.lemmas.List.Edits.{sets}
use Rattle.terms.specs.Cells.{columns, row_numbers, most_cells}

-- the row is one of the cells, and the arguments lie in the stack behind their constructor
pub record MayClose (row : ℕ) (stack : List ℕ) (pos n : ℕ) (cells : List ℕ) : Type 0 where
  pub few : row ≤ most_cells
  pub row_inside : row * columns + columns ≤ length cells
  pub behind : 0 < pos
  pub inside : pos + n ≤ length stack

-- its row is stored, and the answer is where the one around it has its first argument
pub record Closes (row : ℕ) (stack : List ℕ) (pos n : ℕ) (cells : List ℕ) (around : ℕ) (cells' : List ℕ) : Type 0 where
  pub stored : cells' ≡ sets cells (row * columns) (row_numbers (get_or stack (pos - 1) 0 % 256) (take n (drop pos stack)))
  pub around_is : around ≡ get_or stack (pos - 1) 0 / 256
