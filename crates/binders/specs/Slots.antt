-- The slot of a name: the first row that binds it. Nobody needs this to believe `expand`.
use Rattle.std.specs.Prelude.{ℕ, zero, suc, ◌/◌, Bool, true, false, ◌&&◌, List, eqb, length}
use Rattle.terms.specs.Cells.{column, columns, most_cells}

-- a row binds the name x
abbrev pub binds : List ℕ → ℕ → ℕ → Bool
binds cells row x = eqb (column cells row 0) 0x21 && eqb (column cells row 1) x

-- the first of n rows, from `row` on, that binds x; `most_cells`, which is no row, if none does
unfoldable pub slot_from : ℕ → List ℕ → ℕ → ℕ → ℕ
slot_from zero cells row x = most_cells
slot_from (suc n) cells row x = elim (binds cells row x) [ true ↦ row | false ↦ slot_from n cells (suc row) x ]

-- the first of all rows that binds x
abbrev pub slot_of : List ℕ → ℕ → ℕ
slot_of cells x = slot_from (length cells / columns) cells 0 x
