-- `first_round`: the productions that are left lead to the same sets.
use Rattle.firsts.proofs.StepLaws as laws
use Rattle.firsts.proofs.sets.first_round.Given as goal

abbrev pub invariant-loop-j : goal.invariant-loop-j
invariant-loop-j l = laws.Joining l.nulls l.table l.owners l.starts l.m l.initial.kinds l.initial.calls l.j l.kinds l.calls
