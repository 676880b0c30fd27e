-- `answered`: the text fits or not.
use Rattle.std.specs.Prelude.{Err}
use mathlib.Core.Path.{ap, ◌∙◌}
use Rattle.emitter.proofs.EmitterLaws as laws
use Rattle.emitter.proofs.answered.Goals as goal

pub returns-then-room-needed : goal.returns-then-room-needed
returns-then-room-needed c = ap Err c.refuse.ensures ∙ laws.answer_long _ _ _ _ c.if-room-needed.true

pub returns : goal.returns
returns c = laws.answer_whole _ _ _ _ c.if-room-needed.false
