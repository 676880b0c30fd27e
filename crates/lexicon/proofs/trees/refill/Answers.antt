-- `refill`: bits are left, a byte is, or nothing.
use Rattle.lexicon.proofs.PathLaws as laws
use Rattle.lexicon.proofs.trees.refill.Goals as goal

pub returns-then-next-s : goal.returns-then-next-s
returns-then-next-s c = search laws.refilled_none

pub returns : goal.returns
returns c = search laws.refilled_byte
