-- `lay_broken`: three parts, one behind the other.
use Rattle.spellings.specs.Bytes.{bytes}
use Rattle.reports.specs.Lines.{broken}
use Rattle.rooms.proofs.LayingLaws.{lays_then}
use Rattle.reports.proofs.lines.lay_broken.Goals as goal

pub returns : goal.returns
unfolding bytes broken
returns c =
    lays_then (lays_then c.lay-a.ensures c.lay_number-b.ensures.lays) c.lay.ensures
