-- `lay_between`: three parts, one behind the other.
use Rattle.rooms.proofs.LayingLaws.{lays_then}
use Rattle.boundaries.proofs.lay_between.Goals as goal

pub returns : goal.returns
returns c =
    lays_then (lays_then c.lay_times-n.ensures c.lay-m.ensures) c.lay_times.ensures
