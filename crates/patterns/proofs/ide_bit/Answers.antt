-- `ide_bit`: a sort that the layout passes, or none.
use Rattle.patterns.proofs.PatternLaws as laws
use Rattle.patterns.proofs.ide_bit.Goals as goal

pub returns-then-known : goal.returns-then-known
returns-then-known c = search laws.bit_known

pub returns-else-known : goal.returns-else-known
returns-else-known c = search laws.bit_unknown
