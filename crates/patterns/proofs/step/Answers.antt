-- `step`: what the items give is joined to the set of the nonterminal.
use Rattle.patterns.proofs.PatternLaws as laws
use Rattle.patterns.proofs.step.Goals as goal

pub returns : goal.returns
returns c = search laws.step_is
