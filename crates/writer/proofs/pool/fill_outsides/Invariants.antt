-- `fill_outsides`: the names before the present field are stored, and the others stand from it on.
use Rattle.writer.proofs.PoolLaws as laws
use Rattle.writer.proofs.pool.fill_outsides.Given as goal

abbrev pub invariant-loop-i : goal.invariant-loop-i
invariant-loop-i l = laws.Filling l.table l.initial.pool l.pool l.at l.i
