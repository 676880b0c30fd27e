-- `first_step`: what the items give is joined to the sets of the nonterminal.
use Rattle.firsts.proofs.StepLaws as laws
use Rattle.firsts.proofs.sets.first_step.Goals as goal

pub returns : goal.returns
returns c = search laws.step_is
