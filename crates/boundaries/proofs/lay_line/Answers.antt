-- `lay_line`: the label, then what is said.
use Rattle.rooms.proofs.LayingLaws.{lays_then}
use Rattle.boundaries.proofs.lay_line.Goals as goal

pub returns : goal.returns
returns c = lays_then (rw c.label_at.ensures at c.lay-n.ensures) c.lay_saying.ensures
