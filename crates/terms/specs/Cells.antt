-- How cells lie in lent numbers, and the numbers that stand for names. Document 01, "Formula".
use Rattle.std.specs.Prelude.{ℕ, ◌+◌, ◌*◌, ◌/◌, min, List, [], ◌∷◌, ◌++◌, get_or, take}

-- the numbers of a row: a constructor's code and up to three arguments
abbrev pub columns : ℕ
columns = 4

-- the number in a column of a row
abbrev pub column : List ℕ → ℕ → ℕ → ℕ
column cells row k = get_or cells (row * columns + k) 0

-- a row's numbers: code and arguments, spare ones 0
abbrev pub row_numbers : ℕ → List ℕ → List ℕ
row_numbers code arguments = take columns (code ∷ arguments ++ 0 ∷ 0 ∷ 0 ∷ [])

-- a name is its class × 2^24 and its number: class 1 a formula's word, 2 a fresh name, 3 an outside name
abbrev pub name_base : ℕ
name_base = 0x1000000

abbrev pub word_name : ℕ → ℕ
word_name n = 1 * name_base + n

abbrev pub fresh_name : ℕ → ℕ
fresh_name n = 2 * name_base + n

abbrev pub outside_name : ℕ → ℕ
outside_name n = 3 * name_base + n

-- the most cells that an expansion makes
abbrev pub most_cells : ℕ
most_cells = 16384

-- the rows that so many lent numbers hold for an expansion
abbrev pub rows_lent : ℕ → ℕ
rows_lent numbers = min (numbers / columns) most_cells
