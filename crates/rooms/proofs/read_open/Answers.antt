-- `read_open`: what was taken from the file is the front of what it had.
use Rattle.rooms.proofs.ReadingLaws.{taken_first}
use Rattle.rooms.proofs.read_open.Goals as goal

pub returns : goal.returns
returns g c = record { in_bounds = c.read_full.ensures.in_bounds; bytes = taken_first _ _ _ c.read_full.ensures.bytes }
