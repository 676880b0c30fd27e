-- `read_under`: the kinds that are reached, then the reading.
use Rattle.elaborator.proofs.UnderLaws as laws
use Rattle.elaborator.proofs.reading.read_under.Goals as goal

pub kinds_from-kinds-requires : goal.kinds_from-kinds-requires
kinds_from-kinds-requires c = search laws.under_indexable

pub read_text-requires : goal.read_text-requires
read_text-requires c = search laws.under_readable

pub returns : goal.returns
returns c = search laws.under_reads
