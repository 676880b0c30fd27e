-- `lay_total`: five parts, one behind the other.
use Rattle.spellings.specs.Bytes.{bytes}
use Rattle.reports.specs.Lines.{total}
use Rattle.rooms.proofs.LayingLaws.{lays_then}
use Rattle.reports.proofs.lay_total.Goals as goal

pub returns : goal.returns
unfolding bytes total
returns c =
    lays_then (lays_then (lays_then (lays_then c.lay_number-a.ensures.lays c.lay-b.ensures) c.lay_number-c.ensures.lays)
    c.lay-d.ensures) c.lay.ensures
