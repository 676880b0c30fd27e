-- `meets_ide`: no token of a formula, an outside name, or a variable.
use Rattle.steps.proofs.TokenLaws as laws
use Rattle.steps.proofs.taking.meets_ide.Goals as goal

pub returns-then-kind-le-NO_KIND : goal.returns-then-kind-le-NO_KIND
returns-then-kind-le-NO_KIND c = search laws.meets_not

pub returns-then-kind-eq-OUTSIDE_KIND : goal.returns-then-kind-eq-OUTSIDE_KIND
returns-then-kind-eq-OUTSIDE_KIND c = search laws.meets_outside

pub returns : goal.returns
returns c = search laws.meets_variable
