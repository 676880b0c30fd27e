-- `decimal_size`: the digits dropped so far are counted.
use Rattle.spellings.proofs.Writes as writes
use Rattle.spellings.proofs.decimal_size.Given as goal

abbrev pub invariant-loop-rest : goal.invariant-loop-rest
invariant-loop-rest l = writes.Sizing l.n l.size l.rest

abbrev pub decreases-loop-rest : goal.decreases-loop-rest
decreases-loop-rest l = l.rest
