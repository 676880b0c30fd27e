-- `with_callee`: by the test.
use mathlib.Core.Path.{◌∙◌}
use Rattle.firsts.proofs.ClosureLaws as laws
use Rattle.firsts.proofs.sets.with_callee.Goals as goal

pub returns-then-called : goal.returns-then-called
returns-then-called c = c.join.ensures ∙ laws.joined_by _ _ c.has-called.ensures c.if-called.true

pub returns-else-called : goal.returns-else-called
returns-else-called c = laws.joined_by _ _ c.has-called.ensures c.if-called.false
