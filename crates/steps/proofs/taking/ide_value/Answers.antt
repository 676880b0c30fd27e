-- `ide_value`: an outside name that is no label, or the number as it is.
use Rattle.steps.proofs.TokenLaws as laws
use Rattle.steps.proofs.taking.ide_value.Goals as goal

pub returns-then-kind-ne-OUTSIDE_KIND : goal.returns-then-kind-ne-OUTSIDE_KIND
returns-then-kind-ne-OUTSIDE_KIND c = search laws.value_variable

pub returns-then-sort : goal.returns-then-sort
returns-then-sort c = search laws.value_label

pub returns-else-sort : goal.returns-else-sort
returns-else-sort c = search laws.value_outside
