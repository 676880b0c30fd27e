-- `lay_saying`: by whether it differs.
use Rattle.spellings.specs.Bytes.{bytes}
use Rattle.rooms.proofs.LayingLaws.{lays_then}
use Rattle.boundaries.proofs.LineLaws.{says_difference, says_listed}
use Rattle.boundaries.proofs.lay_saying.Goals as goal

pub returns-then-differs : goal.returns-then-differs
returns-then-differs c =
    says_difference _ _ c.differs.ensures c.if-differs.true c.numbered.ensures c.numbered-then-differs.ensures
    c.lay_difference.ensures

pub returns : goal.returns
unfolding bytes
returns c =
    says_listed _ _ c.differs.ensures c.if-differs.false (lays_then c.lay-n.ensures c.lay.ensures)
