-- `numbers_sum`: the sum so far and that of what is left are the whole sum.
use Rattle.measuring.proofs.OwnLaws as laws
use Rattle.measuring.proofs.by_rows.numbers_sum.Given as goal

abbrev pub invariant-loop-number : goal.invariant-loop-number
invariant-loop-number l = laws.Summing l.shown l.number-index l.sum
