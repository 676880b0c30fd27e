-- `fill`: the outside names, then word by word.
use Rattle.writer.proofs.PoolLaws as laws
use Rattle.writer.proofs.pool.fill.Given as goal

abbrev pub invariant-loop-i : goal.invariant-loop-i
invariant-loop-i l = laws.Storing l.formula l.words l.initial.pool l.pool l.count l.i
