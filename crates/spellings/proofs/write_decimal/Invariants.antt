-- `write_decimal`: the digits are written from the last to the first.
use Rattle.spellings.proofs.Writes as writes
use Rattle.spellings.proofs.write_decimal.Given as goal

abbrev pub invariant-loop-at : goal.invariant-loop-at
invariant-loop-at l = writes.Writing l.initial.out l.n l.at l.rest l.out
