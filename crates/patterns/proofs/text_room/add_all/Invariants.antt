-- `add_all`: the links that are past have what reads a variable first.
use Rattle.patterns.specs.TextRoom.{pattern_at}
use Rattle.patterns.proofs.TextRoomLaws as laws
use Rattle.patterns.proofs.text_room.add_all.Given as goal

abbrev pub invariant-loop-j : goal.invariant-loop-j
invariant-loop-j l = laws.Adding (pattern_at l.table l.starts l.nulls l.sets) l.m l.initial.room l.j l.room
