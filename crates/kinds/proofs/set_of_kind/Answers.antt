-- `set_of_kind`: what is no kind has no set.
use mathlib.Core.Path.{sym}
use Rattle.kinds.proofs.KindsLaws.{only_none}
use Rattle.kinds.proofs.set_of_kind.Goals as goal

pub returns-else-kind-lt-NO_KIND : goal.returns-else-kind-lt-NO_KIND
returns-else-kind-lt-NO_KIND c = sym (only_none c.args.kind c.if-kind-lt-NO_KIND.false)
