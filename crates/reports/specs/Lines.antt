-- The lines that programs write. Document 01, of the program `phrase`: "`ok 2 2 31` (cells, constructors, text length)", "`refused 17 2 1 1` (number,
-- a, b, c)".
use Rattle.std.specs.Prelude.{ℕ, Bool, true, false, ◌&&◌, List, [], ◌∷◌, ◌++◌, eqb, Option, Some, None, Result, Ok, Err}
use Rattle.spellings.specs.Bytes.{bytes, decimal}
use Rattle.answers.specs.declared.Refusal.{Refusal}
use Rattle.answers.specs.Refusals.{Answer}
use Rattle.reports.specs.declared.lines.Difference.{Difference}
use Rattle.reports.specs.declared.lines.Difference.TheVariants.{OtherAnswer, OtherRooms}

-- whether two answers have one number and the same values
abbrev pub same_refusal : Refusal → Refusal → Bool
same_refusal x y = eqb x.number y.number && eqb x.a y.a && eqb x.b y.b && eqb x.c y.c

-- the end of a line
abbrev pub newline : List ℕ
newline = 0x0A ∷ []

-- a number in decimal, behind a space
abbrev pub spaced : ℕ → List ℕ
spaced n = 0x20 ∷ decimal n

-- three numbers
unfoldable pub values : ℕ → ℕ → ℕ → List ℕ
values a b c = spaced a ++ spaced b ++ spaced c

-- a refusal's number and its three values
unfoldable pub numbers : Refusal → List ℕ
numbers r = spaced r.number ++ values r.a r.b r.c

-- the line of an answer: `ok` with cells, constructors and text length, or `refused` with number and values
unfoldable pub answer_line : Answer → List ℕ
unfolding bytes
answer_line (Ok made) = bytes "ok" ++ values made.cells made.constructors made.length ++ newline
answer_line (Err r) = bytes "refused" ++ numbers r ++ newline

-- the rest of a line: what was expected, and what was found in its place
unfoldable pub difference : Refusal → Refusal → List ℕ
unfolding bytes
difference expected found = bytes ": expected" ++ numbers expected ++ bytes ", found" ++ numbers found ++ newline

-- the last line of a run of cases
unfoldable pub total : ℕ → ℕ → List ℕ
unfolding bytes
total cases differ = decimal cases ++ bytes " cases, " ++ decimal differ ++ bytes " differ" ++ newline

-- ------------------------------------------------------------------ lines of conformance cases

-- a case whose answer differs
unfoldable pub case_differs : ℕ → Refusal → Refusal → List ℕ
unfolding bytes
case_differs index expected found = bytes "case " ++ decimal index ++ difference expected found

-- a case whose answer is right and whose cells or text are not
unfoldable pub other_rooms : ℕ → List ℕ
unfolding bytes
other_rooms index = bytes "case " ++ decimal index ++ bytes ": the cells or the text differ" ++ newline

-- the only line if a case cannot be read whole
unfoldable pub broken : ℕ → List ℕ
unfolding bytes
broken index = bytes "cases.bin is cut or malformed in case " ++ decimal index ++ newline

-- the only line if the file of the cases cannot be opened
unfoldable pub missing : List ℕ
unfolding bytes
missing = bytes "cases.bin cannot be opened" ++ newline

-- what the cases of a file come to: how many there are and how many of them differ, or the index of the one that cannot be read
abbrev pub Tally : Type 0
Tally = Result (ℕ × ℕ) ℕ

-- whether a case differs
abbrev pub is_different : Option Difference → Bool
is_different None = false
is_different (Some found) = true

-- the line of a case that was compared; none if it is as expected
unfoldable pub compared_line : ℕ → Refusal → Option Difference → List ℕ
compared_line index expected None = []
compared_line index expected (Some (OtherAnswer found)) = case_differs index expected found
compared_line index expected (Some OtherRooms) = other_rooms index

-- the last line of a run of cases
unfoldable pub tally_line : Tally → List ℕ
tally_line (Ok counts) = total counts.0 counts.1
tally_line (Err index) = broken index
