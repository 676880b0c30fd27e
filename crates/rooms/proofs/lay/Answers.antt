-- `lay`: what has room is copied into the rest of the room.
use native.Mathlib.Omega.{arith}
use Rattle.rooms.proofs.LayingLaws.{copied}
use Rattle.rooms.proofs.lay.Goals as goal

pub returns : goal.returns
returns c = copied _ _ _ c.min-from.ensures c.min.ensures (omega arith) c.copy_from_slice.ensures.after
