-- `copy_into`: the bytes before the next one are copied.
use Rattle.spellings.proofs.Writes as writes
use Rattle.spellings.proofs.copy_into.Given as goal

abbrev pub invariant-loop-i : goal.invariant-loop-i
invariant-loop-i l = writes.Copying l.initial.out l.s l.i l.out
