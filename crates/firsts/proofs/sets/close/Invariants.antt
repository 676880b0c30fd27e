-- `close`: the sets are closed over the callees below k.
use Rattle.firsts.specs.SetCalls.{ClosedBoth}
use Rattle.firsts.proofs.sets.close.Given as goal

abbrev pub invariant-loop-k : goal.invariant-loop-k
invariant-loop-k l = ClosedBoth l.k l.initial.calls l.initial.kinds l.calls l.kinds
