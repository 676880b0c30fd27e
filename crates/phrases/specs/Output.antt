-- What the program `phrase` writes, from the bytes of a table and of a formula. Document 01: "Program `phrase` reads `phrases.tab` (empty if it can't be
-- opened) and standard input, with 4,096 rows of cells and 65,536 bytes for text."
use Rattle.std.specs.Prelude.{ℕ, ◌*◌, List, [], ◌++◌, take, replicate, Ok, Err}
use Rattle.answers.specs.Refusals.{Answer}
use Rattle.terms.specs.Cells.{columns}
use Rattle.meaning.specs.Expand.{Expanded, expand}
use Rattle.reports.specs.Lines.{newline, answer_line}

-- the cells that are lent: 4,096 rows
unfoldable pub lent_cells : List ℕ
lent_cells = replicate (4096 * columns) 0

-- the bytes that are lent for text
unfoldable pub lent_text : List ℕ
lent_text = replicate 65536 0

-- the text of an acceptance, on a line of its own; a refusal has none
unfoldable pub text_line : Answer → List ℕ → List ℕ
text_line (Ok made) text = take made.length text ++ newline
text_line (Err r) text = []

-- the lines that tell of an expansion, by its answer and the text at exit
abbrev pub told_lines : Answer → List ℕ → List ℕ
told_lines answer text = answer_line answer ++ text_line answer text

abbrev pub told : Expanded → List ℕ
told x = told_lines x.answer x.text

-- all that is written
unfoldable pub phrase_output : List ℕ → List ℕ → List ℕ
phrase_output table formula = told (expand table formula lent_cells lent_text)
