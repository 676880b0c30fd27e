-- `null_set`: the nonterminals of the nullable productions so far.
use Rattle.patterns.proofs.TextRoomLaws as laws
use Rattle.patterns.proofs.text_room.null_set.Given as goal

abbrev pub invariant-loop-j : goal.invariant-loop-j
invariant-loop-j l = laws.Nulling l.owners l.m l.room l.j l.set
