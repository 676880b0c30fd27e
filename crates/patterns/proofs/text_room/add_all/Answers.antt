-- `add_all`: the links that are past have what reads a variable first.
use mathlib.Core.Path.{◌∙◌, sym}
use Rattle.patterns.proofs.TextRoomLaws as laws
use Rattle.patterns.proofs.text_room.add_all.Goals as goal

pub loop-j-init : goal.loop-j-init
loop-j-init c = search laws.adding_start

pub add_patterns-requires : goal.add_patterns-requires
add_patterns-requires c = search laws.adding_here

pub loop-j-preserved : goal.loop-j-preserved
loop-j-preserved c = search laws.adding_next

pub shape_of-room : goal.shape_of-room
shape_of-room c = c.loop-j.invariant.done.size ∙ sym c.requires.size

pub returns : goal.returns
returns c = search laws.adding_end
