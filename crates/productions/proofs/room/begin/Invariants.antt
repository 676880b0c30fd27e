-- `begin`: the numbers before the next nonterminal's are written.
use Rattle.productions.proofs.RoomWriting as laws
use Rattle.productions.proofs.room.begin.Given as goal

abbrev pub invariant-loop-n : goal.invariant-loop-n
invariant-loop-n l = laws.Beginning l.kinds l.sets l.initial.room l.n l.room
