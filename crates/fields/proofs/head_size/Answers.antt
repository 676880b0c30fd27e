-- `head_size`: by its two tests.
use mathlib.Core.Path.{sym}
use Rattle.fields.proofs.LawsTemplates as laws
use Rattle.fields.proofs.head_size.Goals as goal

pub returns-then-b : goal.returns-then-b
returns-then-b c = sym (laws.head_name _ c.if-b.true)

pub returns-else-b : goal.returns-else-b
returns-else-b c = laws.head_other _ c.if-b.false c.from.ensures
