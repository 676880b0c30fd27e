-- `number`: mark by mark from the left.
use Rattle.resolver.proofs.CountLaws as laws
use Rattle.resolver.proofs.numbering.number.Given as goal

abbrev pub invariant-loop-p : goal.invariant-loop-p
invariant-loop-p l = laws.Counting l.initial.marks l.marks l.p l.count
