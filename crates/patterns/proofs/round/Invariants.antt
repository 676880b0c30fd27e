-- `round`: the productions that are left lead to the same sets.
use Rattle.patterns.proofs.PatternLaws as laws
use Rattle.patterns.proofs.round.Given as goal

abbrev pub invariant-loop-j : goal.invariant-loop-j
invariant-loop-j l = laws.Joining l.nulls l.table l.owners l.starts l.m l.initial.sets l.j l.sets l.grew
