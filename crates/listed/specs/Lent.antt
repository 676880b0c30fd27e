-- What the program `listed` writes: for each line of document 01 at a limit whether the answer is as listed, by the bytes of the files of the tables.
use Rattle.std.specs.Prelude.{ℕ, zero, suc, ◌+◌, ◌≡◌, Bool, true, false, List, [], ◌++◌, replicate}
use Rattle.spellings.specs.Bytes.{one_if}
use Rattle.answers.specs.Refusals.{Answer}
use Rattle.meaning.specs.Expand.{expand}
use Rattle.rooms.specs.Laying.{Lays}
use Rattle.reports.specs.Lines.{total}
use Rattle.boundaries.specs.declared.Table.{Table}
use Rattle.boundaries.specs.declared.Table.TheVariants.{House, Twice, SixteenLevels, SeventeenLevels}
use Rattle.boundaries.specs.Lines.{formula_bytes, line_at, label_at, differs, saying}
use Rattle.phrases.specs.Output.{lent_cells, lent_text}
use Rattle.listed.specs.declared.Files.{Files}
use Rattle.listed.specs.declared.Told.{Told}

-- the text of thirteen `twice`
unfoldable pub long_text : List ℕ
long_text = replicate 196596 0

-- the answer in the cells and the text that the program `phrase` lends, or with the longer text
unfoldable pub expanded_in : Bool → List ℕ → List ℕ → Answer
expanded_in true table formula = (expand table formula lent_cells long_text).answer
expanded_in false table formula = (expand table formula lent_cells lent_text).answer

-- the answer for line i's formula under a table
unfoldable pub answer_at : ℕ → List ℕ → Answer
answer_at i table = expanded_in (line_at i).long table (formula_bytes (line_at i).formula)

-- whether it is not the answer listed
abbrev pub differs_at : ℕ → List ℕ → Bool
differs_at i table = differs (line_at i).expected (answer_at i table)

-- what is written of line i
abbrev pub told_at : ℕ → List ℕ → List ℕ
told_at i table = label_at i ++ saying (line_at i).expected (answer_at i table)

-- the bytes of the file of a table
unfoldable pub bytes_of : Files → Table → List ℕ
bytes_of f House = f.house.now
bytes_of f Twice = f.twice.now
bytes_of f SixteenLevels = f.sixteen.now
bytes_of f SeventeenLevels = f.seventeen.now

-- those of the file of line i's table
abbrev pub table_at : Files → ℕ → List ℕ
table_at f i = bytes_of f (line_at i).table

-- what is written of the lines before line i
unfoldable pub told_to : Files → ℕ → List ℕ
told_to f zero = []
told_to f (suc i) = told_to f i ++ told_at i (table_at f i)

-- how many of them differ
unfoldable pub differ_to : Files → ℕ → ℕ
differ_to f zero = 0
differ_to f (suc i) = differ_to f i + one_if (differs_at i (table_at f i))

-- all that is written
abbrev pub listed_output : Files → List ℕ
listed_output f = told_to f 9 ++ total 9 (differ_to f 9)

-- line i is told behind what a room held already, and counted if it differs
pub record Tells (i : ℕ) (table : List ℕ) (told : Told) (out : List ℕ) (r : Told) (out' : List ℕ) : Type 0 where
  pub lays : Lays out told.size (told_at i table) r.size out'
  pub counts : r.differ ≡ told.differ + one_if (differs_at i table)
