-- `fill`: the entries behind the next one are laid.
use Rattle.clashes.proofs.FillLaws as laws
use Rattle.clashes.proofs.prepared.fill.Given as goal

abbrev pub invariant-loop-j : goal.invariant-loop-j
invariant-loop-j l = laws.Opening l.table l.m l.owners l.starts l.kinds l.nulls l.sets l.initial.room l.j l.room l.places
