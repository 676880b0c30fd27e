-- `is_among`: the spellings that are left give what all of them give.
use Rattle.layout.proofs.IndexLaws as laws
use Rattle.layout.proofs.index.is_among.Given as goal

abbrev pub invariant-loop-p : goal.invariant-loop-p
invariant-loop-p l = laws.Walking l.table l.room l.v l.p

abbrev pub decreases-loop-p : goal.decreases-loop-p
decreases-loop-p l = l.p
