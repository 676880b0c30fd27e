-- `without`: the entries that are kept move down, those of the nonterminal are dropped.
use Rattle.productions.proofs.IndexLaws as laws
use Rattle.productions.proofs.index.without.Given as goal

abbrev pub invariant-loop-i : goal.invariant-loop-i
invariant-loop-i l = laws.Dropping l.n l.k l.initial.owners l.initial.starts l.i l.w l.owners l.starts
