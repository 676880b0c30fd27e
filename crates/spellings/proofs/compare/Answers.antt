-- `compare`: many bytes, runs of different lengths, or a tail alone.
use Rattle.spellings.proofs.Comparing as laws
use Rattle.spellings.proofs.compare.Goals as goal

pub returns-then-a-b : goal.returns-then-a-b
returns-then-a-b c = search laws.lengths_differ

pub compare_tail-requires : goal.compare_tail-requires
compare_tail-requires c = search laws.tail_alone
