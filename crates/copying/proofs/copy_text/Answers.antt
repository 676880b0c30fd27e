-- `copy_text`: a row is evaluated, any other number has a value.
use Rattle.copying.proofs.CopyLaws as laws
use Rattle.copying.proofs.copy_text.Goals as goal

pub returns-then-more-eq0 : goal.returns-then-more-eq0
returns-then-more-eq0 c = search laws.text_full

pub returns-then-below : goal.returns-then-below
returns-then-below c = search laws.text_row
