-- `argument_count`: by its test.
use mathlib.Core.Path.{sym}
use Rattle.fields.proofs.LawsTemplates as laws
use Rattle.fields.proofs.argument_count.Goals as goal

pub returns-then-b : goal.returns-then-b
returns-then-b c = search laws.arguments_constructor

pub returns-else-b : goal.returns-else-b
returns-else-b c = sym (laws.arguments_other _ c.if-b.false)
