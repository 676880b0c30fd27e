-- `spelling`: a length, and the bytes behind it.
use mathlib.Core.Path.{◌∙◌}
use Rattle.writer.proofs.WriteLaws.{spelled}
use Rattle.writer.proofs.pool.spelling.Goals as goal

pub returns : goal.returns
returns c = spelled _ _ (c.from.ensures ∙ c.byte.ensures) c.part.ensures
