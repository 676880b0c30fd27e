-- `verdict_of`: by what the test found.
use mathlib.Core.Path.{refl}
use Rattle.bodies.proofs.faults.verdict_of.Goals as goal

pub returns-in-Err : goal.returns-in-Err
returns-in-Err c = rw (c.in-Err.is, c.refused.ensures, c.from.ensures) refl
