-- `prepare`: the index, the check of first sets, then what reads a variable first.
use Rattle.elaborator.proofs.PreparedLaws as laws
use Rattle.elaborator.proofs.prepared.prepare.Goals as goal

pub build_index-m-requires : goal.build_index-m-requires
build_index-m-requires c = search laws.index_fits

pub check_firsts-judged-requires : goal.check_firsts-judged-requires
check_firsts-judged-requires c = search laws.index_whole

pub lay_patterns-requires : goal.lay_patterns-requires
lay_patterns-requires c = search laws.room_and_index

pub returns : goal.returns
returns c = search laws.prepared_text
