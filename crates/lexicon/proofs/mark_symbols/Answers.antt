-- `mark_symbols`: the symbols are marked by the keywords passed, the last first.
use mathlib.Core.Path.{refl}
use Rattle.lexicon.proofs.LexiconLaws as laws
use Rattle.lexicon.proofs.mark_symbols.Goals as goal

pub loop-k-init : goal.loop-k-init
loop-k-init c =
    let asked = c.requires in
    laws.marking_start _ _ _ asked.0 asked.1 asked.2

pub loop-k-preserved : goal.loop-k-preserved
loop-k-preserved c =
    laws.marking_next c.loop-k.invariant c.loop-k-test.true refl refl c.part.ensures
    c.mark.ensures
