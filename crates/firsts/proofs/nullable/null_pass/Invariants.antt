-- `null_pass`: j of the k steps are done.
use Rattle.firsts.proofs.NeedsLaws as laws
use Rattle.firsts.proofs.nullable.null_pass.Given as goal

abbrev pub invariant-loop-j : goal.invariant-loop-j
invariant-loop-j l = laws.Passing l.whose l.needs l.down l.nulls l.k l.j l.set
