-- `value`: the bytes passed are worth n, which is not too large.
use Rattle.spellings.proofs.Loops as loops
use Rattle.spellings.proofs.value.Given as goal

abbrev pub invariant-loop-d : goal.invariant-loop-d
invariant-loop-d l = loops.Valued l.digits l.d-index l.n
