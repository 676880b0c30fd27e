-- `take_callee`: the nonterminals below n are done.
use Rattle.firsts.proofs.ClosureLaws as laws
use Rattle.firsts.proofs.sets.take_callee.Given as goal

abbrev pub invariant-loop-n : goal.invariant-loop-n
invariant-loop-n l = laws.Taking l.many l.k l.n l.initial.calls l.initial.kinds l.calls l.kinds
