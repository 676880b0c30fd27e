-- `part_of`: what stands behind the count, or nothing.
use Rattle.cases.proofs.CaseLaws.{part_is}
use Rattle.cases.proofs.case.part_of.Goals as goal

pub returns : goal.returns
returns c = part_is _ _ _ c.ranges.to.fits c.saturating_add-at.ensures c.saturating_sub.ensures c.part.ensures
