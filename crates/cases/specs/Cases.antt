-- The conformance cases of a file's bytes, and what a case expects in the rooms that it lends. tests/cases/README.md has the layout. Nobody needs this to
-- believe `expand`.
use Rattle.std.specs.Prelude.{ℕ, zero, suc, ◌+◌, ◌-◌, ◌*◌, ◌/◌, Bool, true, false, ◌&&◌, List, [], ◌∷◌, ◌++◌, eqb, leb, length, get_or, take, drop, replicate, Option, Some, None, Result, Ok, Err}
use Rattle.spellings.specs.Bytes.{same}
use Rattle.answers.specs.declared.Refusal.{Refusal}
use Rattle.answers.specs.Refusals.{refusal}
use Rattle.cases.specs.declared.case.Places.{Places}
use Rattle.cases.specs.declared.case.Case.{Case}
use Rattle.cases.specs.declared.case.Broken.{Broken}

-- the bytes that a file of cases may have, and the cells and the bytes of text that a case may lend
abbrev pub longest_file : ℕ
longest_file = 2097152

abbrev pub most_cells : ℕ
most_cells = 80000

abbrev pub most_text : ℕ
most_text = 300000

-- the last of document 01's causes
abbrev pub last_cause : ℕ
last_cause = 24

-- ------------------------------------------------------------------ numbers

-- the number of the first four bytes, the high byte first; one that is missing counts as 0
unfoldable pub four_of : List ℕ → ℕ
four_of bytes = ((get_or bytes 0 0 * 256 + get_or bytes 1 0) * 256 + get_or bytes 2 0) * 256 + get_or bytes 3 0

-- the number of the four bytes at an offset
unfoldable pub four_at : List ℕ → ℕ → ℕ
four_at bytes at = four_of (take 4 (drop at bytes))

-- the number of the eight bytes at an offset
abbrev pub eight_at : List ℕ → ℕ → ℕ
eight_at bytes at = four_at bytes at * 4294967296 + four_at bytes (at + 4)

-- so many numbers of four bytes, from an offset on
unfoldable pub numbers_from : ℕ → List ℕ → ℕ → List ℕ
numbers_from zero bytes at = []
numbers_from (suc count) bytes at = four_at bytes at ∷ numbers_from count bytes (at + 4)

-- all numbers of four bytes
unfoldable pub numbers_in : List ℕ → List ℕ
numbers_in bytes = numbers_from (length bytes / 4) bytes 0

-- ------------------------------------------------------------------ the parts of a case

-- where a part ends that begins with its length
abbrev pub behind : List ℕ → ℕ → ℕ
behind file at = at + 4 + four_at file at

-- the places of the case at an offset: of its table, its formula, the two numbers lent with the number and the three values expected, the rows and the text
unfoldable pub places_at : List ℕ → ℕ → Places
places_at file at =
    let formula : ℕ = behind file at in
    let lent : ℕ = behind file formula in
    let rows : ℕ = lent + 36 in
    let written : ℕ = rows + 4 + 4 * four_at file rows in
    record { table = at; formula = formula; lent = lent; rows = rows; written = written; end = behind file written }

-- whether a case is whole, within the longest file, lends no more than may be lent, and expects a number that a cause has
unfoldable pub is_whole : List ℕ → Places → Bool
is_whole file p =
    leb p.end (length file)
    && leb p.end longest_file
    && (leb (four_at file p.lent) most_cells && leb (four_at file (p.lent + 4)) most_text)
    && leb (four_at file (p.lent + 8)) last_cause

-- the answer expected: its number and its three values, behind the two numbers lent
abbrev pub expected_at : List ℕ → ℕ → Refusal
expected_at file lent = refusal (four_at file (lent + 8)) (eight_at file (lent + 12)) (eight_at file (lent + 20)) (eight_at file (lent + 28))

-- the case at some places: the cells and the bytes of text lent, and the answer expected
unfoldable pub case_of : List ℕ → Places → Case
case_of file p =
    record { places = p; cells = four_at file p.lent; text = four_at file (p.lent + 4); expected = expected_at file p.lent }

-- the case at an offset, none at the end, or one that is not whole
unfoldable pub next_at : List ℕ → ℕ → Result (Option Case) Broken
next_at file at =
    elim (eqb at (length file)) [
      | true ↦ Ok None
      | false ↦ elim (is_whole file (places_at file at)) [ true ↦ Ok (Some (case_of file (places_at file at))) | false ↦ Err (record {}) ]
    ]

-- a part from one offset to another, without the count that it begins with
unfoldable pub part_of : List ℕ → ℕ → ℕ → List ℕ
part_of file from to = take (to - (from + 4)) (drop (from + 4) file)

abbrev pub table_of : List ℕ → Case → List ℕ
table_of file c = part_of file c.places.table c.places.formula

abbrev pub formula_of : List ℕ → Case → List ℕ
formula_of file c = part_of file c.places.formula c.places.lent

-- the rows expected
abbrev pub rows_of : List ℕ → Case → List ℕ
rows_of file c = numbers_in (part_of file c.places.rows c.places.written)

-- the text expected
abbrev pub written_of : List ℕ → Case → List ℕ
written_of file c = part_of file c.places.written c.places.end

-- ------------------------------------------------------------------ what is left in the rooms

-- what each cell and each byte of text holds before a call
abbrev pub untouched_cell : ℕ
untouched_cell = 0xAAAAAAAA

abbrev pub untouched_byte : ℕ
untouched_byte = 0xEE

-- a room of which only the front is written
unfoldable pub left_as : List ℕ → ℕ → ℕ → List ℕ
left_as written size untouched = written ++ replicate (size - length written) untouched

-- whether cells are the rows expected, and behind them as they were; and whether a text is the one expected, and behind it as it was
unfoldable pub left_as_expected : List ℕ → Case → List ℕ → List ℕ → Bool
left_as_expected file c cells text =
    same cells (left_as (rows_of file c) (length cells) untouched_cell) && same text (left_as (written_of file c) (length text) untouched_byte)
