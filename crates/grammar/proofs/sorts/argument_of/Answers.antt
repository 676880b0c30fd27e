-- `argument_of`: the table of the argument asked for.
use mathlib.Core.Path.{◌∙◌}
use native.Mathlib.Omega.{arith}
use Rattle.grammar.proofs.SortLaws as laws
use Rattle.grammar.proofs.sorts.argument_of.Goals as goal

pub returns-in-0 : goal.returns-in-0
returns-in-0 c = cc (laws.argument_is _ c.in-0.is (c.by_code.ensures ∙ laws.firsts _))

pub returns-in-1 : goal.returns-in-1
returns-in-1 c = cc (laws.argument_is _ c.in-1.is (c.by_code-in-1.ensures ∙ laws.seconds _))

pub returns-in-2 : goal.returns-in-2
returns-in-2 c = cc (laws.argument_is _ c.in-2.is (c.by_code-in-2.ensures ∙ laws.thirds _))

pub returns-in_default : goal.returns-in_default
returns-in_default c = laws.arguments_end _ _ (omega arith)
