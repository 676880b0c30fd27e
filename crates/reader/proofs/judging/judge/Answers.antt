-- `judge`: test by test.
use Rattle.reader.proofs.JudgeLaws as laws
use Rattle.reader.proofs.judging.judge.Goals as goal

pub returns-then-not-small : goal.returns-then-not-small
returns-then-not-small c = search laws.judged_large

pub returns-then-s-gt1 : goal.returns-then-s-gt1
returns-then-s-gt1 c = search laws.judged_fresh

pub returns-then-others-ne0 : goal.returns-then-others-ne0
returns-then-others-ne0 c = search laws.judged_unknown

pub returns-then-fits : goal.returns-then-fits
returns-then-fits c = search laws.judged_read

pub returns-else-fits : goal.returns-else-fits
returns-else-fits c = search laws.judged_sort
