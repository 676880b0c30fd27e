-- The lines of document 01's "Formulas and their terms" that stand at a limit: "13 `twice` and `q`: 16,383 constructors, and `phrase` refuses with 24, 196596;
-- with 14, 22 and 15 cells. 511 parentheses round a word pass, 512 give 19. 1,022 `.a` after a word pass, 1,023 give 19. Sixteen levels of nonterminals ..
-- make 65,535 calls; seventeen give 20."
use Rattle.std.specs.Prelude.{ℕ, zero, suc, Bool, true, false, not, List, [], ◌∷◌, ◌++◌, get_or, Err}
use Rattle.spellings.specs.Bytes.{bytes}
use Rattle.answers.specs.Refusals.{Answer, accepted, refusal, numbered}
use Rattle.reports.specs.Lines.{newline, same_refusal, difference}
use Rattle.boundaries.specs.declared.Line.{Line}
use Rattle.boundaries.specs.declared.Formula.{Formula}
use Rattle.boundaries.specs.declared.Formula.TheVariants.{Parentheses, Selections, Twice, Nothing}
use Rattle.boundaries.specs.declared.Table.{Table}
use Rattle.boundaries.specs.declared.Table.TheVariants as tables

-- a part some times
unfoldable pub times : ℕ → List ℕ → List ℕ
times zero part = []
times (suc n) part = times n part ++ part

-- a word between some openings and as many closings
abbrev pub between : List ℕ → List ℕ → List ℕ → ℕ → List ℕ
between opening word closing n = times n opening ++ word ++ times n closing

-- the bytes of a formula
unfoldable pub formula_bytes : Formula → List ℕ
unfolding bytes
formula_bytes (Parentheses n) = between (bytes "(") (bytes "w") (bytes ")") n
formula_bytes (Selections n) = between [] (bytes "w") (bytes ".a") n
formula_bytes (Twice n) = between (bytes "twice ") (bytes "q") [] n
formula_bytes Nothing = []

-- the file of a table
unfoldable pub file_name : Table → List ℕ
unfolding bytes
file_name tables.House = bytes "house.tab"
file_name tables.Twice = bytes "twice.tab"
file_name tables.SixteenLevels = bytes "levels16.tab"
file_name tables.SeventeenLevels = bytes "levels17.tab"

-- the answer that refuses by a number and one value
abbrev pub refusing : ℕ → ℕ → Answer
refusing number a = Err (refusal number a 0 0)

-- a line: its table and formula, whether 196,596 bytes of text are lent in place of those of the program `phrase`, and the answer listed
abbrev pub line : Table → Formula → Bool → Answer → Line
line table formula long expected = record { table = table; formula = formula; long = long; expected = expected }

-- the lines but the last
abbrev pub first_lines : List Line
first_lines =
    line tables.House (Parentheses 511) false (accepted 1 1 12)
    ∷ line tables.House (Parentheses 512) false (refusing 19 512)
    ∷ line tables.House (Selections 1022) false (accepted 1023 1023 13298)
    ∷ line tables.House (Selections 1023) false (refusing 19 2047)
    ∷ line tables.Twice (Twice 13) false (refusing 24 196596)
    ∷ line tables.Twice (Twice 13) true (accepted 14 16383 196596)
    ∷ line tables.Twice (Twice 14) false (refusing 22 15)
    ∷ line tables.SixteenLevels Nothing false (accepted 2 2 27)
    ∷ []

-- line i; the last for all numbers behind those
unfoldable pub line_at : ℕ → Line
line_at i = get_or first_lines i (line tables.SeventeenLevels Nothing false (refusing 20 0))

-- what the lines but the last are called
unfoldable pub first_labels : List (List ℕ)
unfolding bytes
first_labels =
    bytes "511 parentheses"
    ∷ bytes "512 parentheses"
    ∷ bytes "1,022 selections"
    ∷ bytes "1,023 selections"
    ∷ bytes "13 twice"
    ∷ bytes "13 twice, in 196,596 bytes of text"
    ∷ bytes "14 twice"
    ∷ bytes "sixteen levels"
    ∷ []

-- what line i is called
unfoldable pub label_at : ℕ → List ℕ
unfolding bytes
label_at i = get_or first_labels i (bytes "seventeen levels")

-- whether an answer is not the one listed
abbrev pub differs : Answer → Answer → Bool
differs listed found = not (same_refusal (numbered listed) (numbered found))

-- what a line says of the answer found
unfoldable pub saying : Answer → Answer → List ℕ
unfolding bytes
saying listed found =
    elim (differs listed found) [ false ↦ bytes ": as listed" ++ newline | true ↦ difference (numbered listed) (numbered found) ]
