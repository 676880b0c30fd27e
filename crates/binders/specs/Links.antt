-- How the first row that binds a name is found by a hash. The first half of the links leads to the newest such row of each hash, the second
-- has a link a row, to the next older one of the same hash. A link is a row and one more; 0 leads to none. Nobody needs this to believe
-- `expand`.
use Rattle.std.specs.Prelude.{ℕ, suc, ◌+◌, ◌*◌, ◌/◌, ◌%◌, ◌<◌, ◌≤◌, ◌≡◌, true, List, length, get_or, set, replicate}
use Rattle.terms.specs.Cells.{column, columns, most_cells}
use Rattle.binders.specs.Slots.{binds, slot_from}

-- a row binds its name, and no row before it does
pub record FirstBinding (cells : List ℕ) (row : ℕ) : Type 0 where
  pub binding : binds cells row (column cells row 1) ≡ true
  pub earliest : slot_from row cells 0 (column cells row 1) ≡ most_cells

-- p leads to the newest of the first rows before `below` whose names have the hash h
pub record NewestRow (cells : List ℕ) (half h below p : ℕ) : Type 0 where
  pub small : p ≤ below
  pub all : (j : ℕ) → j < below → FirstBinding cells j → column cells j 1 % half ≡ h → j < p
  pub first : (q : ℕ) → p ≡ suc q → FirstBinding cells q
  pub hashed : (q : ℕ) → p ≡ suc q → column cells q 1 % half ≡ h

-- the links lead through the first rows of all names that n rows bind
pub record LinkedTo (n : ℕ) (cells links : List ℕ) : Type 0 where
  pub few : n ≤ most_cells
  pub some : 0 < length links / 2
  pub room : n ≤ length links / 2
  pub heads : (h : ℕ) → h < length links / 2 → NewestRow cells (length links / 2) h n (get_or links h 0)
  pub nexts : (i : ℕ) → i < n → FirstBinding cells i
      → NewestRow cells (length links / 2) (column cells i 1 % (length links / 2)) i (get_or links (length links / 2 + i) 0)

-- the links lead through the first rows of all names that rows bind
pub record RowsLinked (cells links : List ℕ) : Type 0 where
  pub few : length cells ≤ most_cells * columns
  pub linked : LinkedTo (length cells / columns) cells links

-- what linking asks: room for all rows, and no links
pub record RowsLinkable (cells links : List ℕ) : Type 0 where
  pub few : length cells ≤ most_cells * columns
  pub some : 0 < length links / 2
  pub room : length cells / columns ≤ length links / 2
  pub none : links ≡ replicate (length links) 0

-- the links with one more row, whose name is x
abbrev pub links_with_row : List ℕ → ℕ → ℕ → List ℕ
links_with_row links row x = set (set links (length links / 2 + row) (get_or links (x % (length links / 2)) 0)) (x % (length links / 2)) (row + 1)
