-- The own bytes of a row, and what the length of a text asks where it is their sum. Nobody needs this to believe `expand`.
use Rattle.std.specs.Prelude.{ℕ, ◌+◌, ◌<◌, ◌≤◌, ◌≡◌, List, length, get_or}
use Rattle.spellings.specs.Bytes.{decimal}
use Rattle.terms.specs.Cells.{column}
use Rattle.terms.specs.Term.{largest_term}
use Rattle.terms.specs.Rows.{Constructor, var_row, fun_row, app_row, rcd_row, dot_row, nil_row, cons_row, num_row, constructor_of}
use Rattle.rows.specs.Sizes.{size_at}
use Rattle.rows.specs.Sums.{sum_limit}
use Rattle.writer.specs.Pool.{spell_in, ShortSpellings}
use Rattle.writer.specs.Beginnings.{name_text}
use Rattle.measuring.specs.Lengths.{term_length}

-- the bytes of a row's text that are of none of its parts, where no name is new: document 01, "Printing"
unfoldable pub own_of : Constructor → List ℕ → List ℕ → ℕ → ℕ
own_of var_row pool cells row = 11 + length (name_text pool (column cells row 1) 0)
own_of fun_row pool cells row = 12 + length (name_text pool (column cells row 1) 0)
own_of app_row pool cells row = 12
own_of rcd_row pool cells row = 11
own_of dot_row pool cells row = 12 + length (spell_in pool (column cells row 2))
own_of nil_row pool cells row = 12
own_of cons_row pool cells row = 15 + length (spell_in pool (column cells row 1))
own_of num_row pool cells row = 11 + length (decimal (column cells row 1))

abbrev pub own_length : List ℕ → List ℕ → ℕ → ℕ
own_length pool cells row = own_of (constructor_of (column cells row 0)) pool cells row

-- no name is new
abbrev pub Unnumbered : List ℕ → Type 0
Unnumbered numbers = (place : ℕ) → get_or numbers place 0 ≡ 0

-- short spellings, and cells of 32 bits
pub record Weighable (pool cells : List ℕ) : Type 0 where
  pub short : ShortSpellings pool
  pub wide : (place : ℕ) → get_or cells place 0 < 0x100000000

-- a room with the own bytes of each row
pub record OwnLengths (pool cells room weights : List ℕ) : Type 0 where
  pub long : length weights ≡ length room
  pub each : (row : ℕ) → row < length weights → get_or weights row 0 ≡ own_length pool cells row

-- what measuring asks of a whole term: its text is not too long, and there is a number for each of its constructors
pub record TextMeasurable (pool cells numbers : List ℕ) (made root : ℕ) : Type 0 where
  pub weighable : Weighable pool cells
  pub room : term_length pool cells numbers made root 0 < sum_limit
  pub inside : size_at cells made root ≤ length numbers
  pub few : length numbers ≤ largest_term
