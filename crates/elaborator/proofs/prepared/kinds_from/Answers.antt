-- `kinds_from`: by the index of the table.
use Rattle.elaborator.proofs.PreparedLaws as laws
use Rattle.elaborator.proofs.prepared.kinds_from.Goals as goal

pub build_index-m-requires : goal.build_index-m-requires
build_index-m-requires c = search laws.index_fits

pub reached_from-requires : goal.reached_from-requires
reached_from-requires c = search laws.index_whole

pub returns : goal.returns
returns c = search laws.kinds_in_lem
