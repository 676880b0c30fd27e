-- `prepare_once`: a room that is prepared is kept.
use Rattle.elaborator.proofs.PreparedLaws as laws
use Rattle.elaborator.proofs.prepared.prepare_once.Goals as goal

pub returns-then-prepared-block : goal.returns-then-prepared-block
returns-then-prepared-block c = search laws.once_kept

pub slice_bounds-prepare-end : goal.slice_bounds-prepare-end
slice_bounds-prepare-end c = search laws.once_size

pub prepare-requires : goal.prepare-requires
prepare-requires c = search laws.once_indexable

pub returns : goal.returns
returns c = c.prepare.ensures
