-- `has_room`: the tests as they stand.
use mathlib.Core.Path.{refl}
use Rattle.decoding.specs.Layout.{has_room}
use Rattle.fields.proofs.has_room.Goals as goal

pub returns : goal.returns
unfolding has_room
returns c = refl
