-- `lay_difference`: five parts, one behind the other.
use Rattle.spellings.specs.Bytes.{bytes}
use Rattle.reports.specs.Lines.{difference}
use Rattle.rooms.proofs.LayingLaws.{lays_then}
use Rattle.reports.proofs.lay_difference.Goals as goal

pub returns : goal.returns
unfolding bytes difference
returns c =
    lays_then (lays_then (lays_then (lays_then c.lay-a.ensures c.lay_numbers-b.ensures.lays) c.lay-c.ensures)
    c.lay_numbers-d.ensures.lays) c.lay.ensures
