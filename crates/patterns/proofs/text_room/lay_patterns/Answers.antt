-- `lay_patterns`: the links get what reads a variable first, by the sets of the grammar that the room has.
use Rattle.patterns.proofs.TextRoomLaws as laws
use Rattle.patterns.proofs.text_room.lay_patterns.Goals as goal

pub slice_bounds-add_all-end-2 : goal.slice_bounds-add_all-end-2
slice_bounds-add_all-end-2 c = search laws.sets_size

pub add_all-requires : goal.add_all-requires
add_all-requires c = search laws.may_add

pub returns : goal.returns
returns c = search laws.text_room
