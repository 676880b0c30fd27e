-- `fill`: the outside names, then word by word.
use mathlib.Core.Path.{refl}
use Rattle.writer.proofs.PoolLaws as laws
use Rattle.writer.proofs.pool.fill.Goals as goal

pub loop-i-preserved : goal.loop-i-preserved
loop-i-preserved c =
    laws.storing_next c.loop-i.invariant c.loop-i-test.true
    (laws.word_is c.args.formula.now c.args.words.now c.loop-i.i refl refl c.part.ensures) c.store.ensures

pub returns : goal.returns
returns c = search laws.storing_end
