-- `begin`: the numbers before the next nonterminal's are written.
use mathlib.Core.Path.{◌∙◌, sym}
use native.Mathlib.Omega.{arith}
use lib.ListN.{length-set}
use Rattle.productions.proofs.RoomWriting as laws
use Rattle.productions.proofs.room.begin.Goals as goal

pub loop-n-init : goal.loop-n-init
loop-n-init c = laws.beginning_start _ _ c.args.room.now c.requires

pub bounds-room-n-in-loop-n : goal.bounds-room-n-in-loop-n
bounds-room-n-in-loop-n c = simp length-set (omega arith)

pub loop-n-preserved : goal.loop-n-preserved
loop-n-preserved c = search laws.beginning_next

pub shape_of-room : goal.shape_of-room
shape_of-room c = c.loop-n.invariant.size ∙ sym c.requires.size

pub returns : goal.returns
returns c = search laws.beginning_end
