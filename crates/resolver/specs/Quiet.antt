-- Rows that leave nothing to resolve: none binds a name, and no variable is a fresh one. Nobody needs this to believe `expand`.
use Rattle.std.specs.Prelude.{ℕ, zero, suc, ◌/◌, Bool, true, not, ◌&&◌, ◌||◌, List, eqb, length}
use Rattle.terms.specs.Cells.{column, name_base, columns}

-- a row of this code and first argument
unfoldable pub is_quiet_row : ℕ → ℕ → Bool
is_quiet_row code x = not (eqb code 0x21 || (eqb code 0x20 && eqb (x / name_base) 2))

-- n rows from `row` on
unfoldable pub quiet_from : ℕ → List ℕ → ℕ → Bool
quiet_from zero cells row = true
quiet_from (suc n) cells row = is_quiet_row (column cells row 0) (column cells row 1) && quiet_from n cells (suc row)

-- all rows
abbrev pub is_quiet : List ℕ → Bool
is_quiet cells = quiet_from (length cells / columns) cells 0
