-- `second`: the bytes left give what all give.
use Rattle.lexicon.proofs.PathLaws as laws
use Rattle.lexicon.proofs.trees.second.Given as goal

abbrev pub invariant-loop-b : goal.invariant-loop-b
invariant-loop-b l = laws.Mixing l.s l.h l.b-index
