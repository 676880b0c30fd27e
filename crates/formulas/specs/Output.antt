-- What the program `formulas` writes, from the bytes of a table and of the lines that it reads: for each line what `phrase` writes for it as a formula.
use Rattle.std.specs.Prelude.{ℕ, ◌+◌, ◌-◌, ◌<◌, min, ◌≡◌, Bool, true, false, not, List, [], ◌∷◌, ◌++◌, eqb, ltb, length, take, drop}
use Rattle.phrases.specs.Output.{phrase_output}
use Rattle.formulas.specs.declared.lines.Laid.{Laid}

-- byte 10 ends a line
abbrev pub is_line_byte : ℕ → Bool
is_line_byte b = not (eqb b 10)

-- the line that is not ended, if it has bytes
abbrev pub unended : List ℕ → List (List ℕ)
unended [] = []
unended (b ∷ bytes) = (b ∷ bytes) ∷ []

-- the lines of some bytes, behind the bytes that the first line has already
unfoldable pub lines_behind : List ℕ → List ℕ → List (List ℕ)
lines_behind line [] = unended line
lines_behind line (b ∷ bytes) = elim (is_line_byte b) [ true ↦ lines_behind (line ++ b ∷ []) bytes | false ↦ line ∷ lines_behind [] bytes ]

-- what is written for lines
unfoldable pub outputs : List ℕ → List (List ℕ) → List ℕ
outputs table [] = []
outputs table (line ∷ lines) = phrase_output table line ++ outputs table lines

-- all that is written
abbrev pub formulas_output : List ℕ → List ℕ → List ℕ
formulas_output table input = outputs table (lines_behind [] input)

-- the lines that are laid in a room with some bytes left: as long as it has place for one of the longest, 65,536 bytes of text and 128 more
unfoldable pub placed : List ℕ → ℕ → List (List ℕ) → List (List ℕ)
placed table place [] = []
placed table place (line ∷ lines) =
    elim (ltb place 65664) [ true ↦ [] | false ↦ line ∷ placed table (place - length (phrase_output table line)) lines ]

-- how many bytes lines have with their ends
unfoldable pub extent : List (List ℕ) → ℕ
extent [] = 0
extent (line ∷ lines) = length line + 1 + extent lines

-- the lines of an input from an offset on that are laid in a room
abbrev pub placed_from : List ℕ → List ℕ → ℕ → List ℕ → List (List ℕ)
placed_from table input from out = placed table (length out) (lines_behind [] (drop from input))

-- Lines of the input from an offset on are laid at the front of a room: where the next line begins, how many bytes are laid, and the room, in which the bytes
-- behind these are as they were. If there is a line, one is laid. What is laid and what is to be written for the rest is what is to be written from that offset
-- on.
pub record Tells (table input : List ℕ) (from : ℕ) (out : List ℕ) (laid : Laid) (out' : List ℕ) : Type 0 where
  pub goes_on : laid.next ≡ min (length input) (from + extent (placed_from table input from out))
  pub many : laid.size ≡ length (outputs table (placed_from table input from out))
  pub put : out' ≡ outputs table (placed_from table input from out) ++ drop laid.size out
  pub forward : from < length input → from < laid.next
  pub gives : formulas_output table (drop from input) ≡ take laid.size out' ++ formulas_output table (drop laid.next input)
