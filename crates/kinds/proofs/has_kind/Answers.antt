-- `has_kind`: what is no kind is in no set.
use mathlib.Core.Path.{sym, ◌∙◌}
use borrow.Author.Tests.{le-ltb}
use Rattle.kinds.proofs.KindsLaws.{has_above}
use Rattle.kinds.proofs.has_kind.Goals as goal

pub returns-else-kind-lt-NO_KIND : goal.returns-else-kind-lt-NO_KIND
returns-else-kind-lt-NO_KIND c =
    le-ltb c.args.kind 64 c.if-kind-lt-NO_KIND.false
    ∙ sym (has_above 64 c.args.set c.args.kind c.ranges.set.fits c.if-kind-lt-NO_KIND.false)
