-- `bound`: those of the first productions lie below it.
use Rattle.clashes.proofs.CheckLaws as laws
use Rattle.clashes.proofs.prepared.bound.Given as goal

abbrev pub invariant-loop-owner : goal.invariant-loop-owner
invariant-loop-owner l = laws.Bounding l.m l.owners l.many l.owner-index
