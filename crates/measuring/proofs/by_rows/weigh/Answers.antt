-- `weigh`: the own bytes of a row fit 32 bits.
use Rattle.measuring.proofs.OwnLaws as laws
use Rattle.measuring.proofs.by_rows.weigh.Goals as goal

pub overflow_cast-weights : goal.overflow_cast-weights
overflow_cast-weights c = search laws.own_narrow
