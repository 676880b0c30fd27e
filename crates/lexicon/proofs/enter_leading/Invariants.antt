-- `enter_leading`: the fields entered and those left are those asked for.
use Rattle.lexicon.proofs.LexiconLaws as laws
use Rattle.lexicon.proofs.enter_leading.Given as goal

abbrev pub invariant-loop-e : goal.invariant-loop-e
invariant-loop-e l =
    laws.Entering l.every l.kinds l.table l.initial.room l.start l.tag l.most l.first l.room l.tree l.at l.e
