-- `equal`: the comparison says it.
use mathlib.Core.Path.{ap}
use Rattle.spellings.proofs.equal.Goals as goal

pub returns : goal.returns
returns c = ap (λ x. x.equal) c.compare.ensures
