-- `count`: by the tag.
use Rattle.sorts.proofs.StepLaws as laws
use Rattle.sorts.proofs.count.Goals as goal

pub returns-in-1 : goal.returns-in-1
returns-in-1 c = laws.count_keyword _ _ _ c.in-1.is

pub returns-in-2 : goal.returns-in-2
returns-in-2 c = laws.count_outside _ _ _ c.in-2.is

pub returns-in-4 : goal.returns-in-4
returns-in-4 c = laws.count_head _ _ _ c.in-4.is

pub returns-in_default : goal.returns-in_default
returns-in_default c = search laws.count_other
