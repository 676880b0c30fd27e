-- `because`: by the size of the template.
use Rattle.reader.proofs.JudgeLaws as laws
use Rattle.reader.proofs.judging.because.Goals as goal

pub returns-then-small : goal.returns-then-small
returns-then-small c = search laws.because_binder

pub returns-else-small : goal.returns-else-small
returns-else-small c = search laws.because_large
