-- `compare_tail`: the bytes passed agree.
use Rattle.spellings.proofs.Comparing as laws
use Rattle.spellings.proofs.compare_tail.Given as goal

abbrev pub invariant-loop-i : goal.invariant-loop-i
invariant-loop-i l = laws.Tailing l.a l.b l.i
