-- `enter_sorts`: each sort is stored in its place, behind their number.
use Rattle.lexicon.proofs.SortLaws as laws
use Rattle.lexicon.proofs.variables.enter_sorts.Given as goal

abbrev pub invariant-loop-i : goal.invariant-loop-i
invariant-loop-i l = laws.SortsEntering l.sorts l.initial.room l.room l.i
