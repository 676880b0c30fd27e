-- `lay`: three numbers are written.
use mathlib.Core.Path.{◌≡◌, refl}
use mathlib.Core.Bool.{Bool, true, false}
use mir.Val.{bool_byte}
use native.Mathlib.Omega.{arith}
use lib.ListN.{length-set}
use Rattle.productions.specs.Room.{flag_number}
use Rattle.productions.proofs.RoomWriting.{laid_plain}
use Rattle.productions.proofs.room.lay.Goals as goal

-- a flag as a number
flag_is : (nullable : Bool) → bool_byte nullable ≡ flag_number nullable
flag_is true = refl
flag_is false = refl

pub bounds-room-j-2 : goal.bounds-room-j-2
bounds-room-j-2 c = simp length-set (omega arith)

pub bounds-room-own-2 : goal.bounds-room-own-2
bounds-room-own-2 c = simp length-set (omega arith)

pub returns : goal.returns
returns c = rw (c.from.ensures, flag_is c.args.nullable, c.places_from.ensures) (laid_plain _ _ _ _ _ _)
