-- `mark_symbols`: the symbols are marked by the keywords passed, the last first.
use Rattle.lexicon.proofs.LexiconLaws as laws
use Rattle.lexicon.proofs.mark_symbols.Given as goal

abbrev pub invariant-loop-k : goal.invariant-loop-k
invariant-loop-k l = laws.Marking l.table l.initial.room l.count l.room l.k
