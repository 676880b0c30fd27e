-- `reached_from`: from what is noted of each nonterminal.
use Rattle.clashes.proofs.CheckLaws.{reading_size, calling_size}
use Rattle.elaborator.proofs.PreparedLaws as laws
use Rattle.elaborator.proofs.prepared.reached_from.Goals as goal

pub slice_bounds-reached_kinds-end : goal.slice_bounds-reached_kinds-end
slice_bounds-reached_kinds-end c = search reading_size

pub slice_bounds-reached_kinds-end-2 : goal.slice_bounds-reached_kinds-end-2
slice_bounds-reached_kinds-end-2 c = search calling_size

pub returns : goal.returns
returns c = search laws.kinds_reached_lem
