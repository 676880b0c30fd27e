-- `text_head`: 9 before 11.
use Rattle.elaborator.proofs.HeadTests as laws
use Rattle.elaborator.proofs.heads.text_head.Goals as goal

pub returns-then-h-eq0 : goal.returns-then-h-eq0
returns-then-h-eq0 c = search laws.head_undefined

pub returns-then-not-named : goal.returns-then-not-named
returns-then-not-named c = search laws.head_unnamed

pub returns-then-signature-gt1 : goal.returns-then-signature-gt1
returns-then-signature-gt1 c = search laws.head_parameters

pub returns : goal.returns
returns c = search laws.head_sorted
