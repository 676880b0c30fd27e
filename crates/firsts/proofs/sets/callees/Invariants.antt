-- `callees`: those of the nonterminals below n are joined.
use Rattle.firsts.proofs.ClosureLaws as laws
use Rattle.firsts.proofs.sets.callees.Given as goal

abbrev pub invariant-loop-set : goal.invariant-loop-set
invariant-loop-set l = laws.Uniting l.calls l.many l.all l.set-index
