-- `prepare`: the room is filled from the first sets, and the left calls decide.
use Rattle.clashes.proofs.CheckLaws as laws
use Rattle.clashes.proofs.prepared.prepare.Goals as goal

pub slice_bounds-reached_kinds-end : goal.slice_bounds-reached_kinds-end
slice_bounds-reached_kinds-end c = search laws.reading_size

pub slice_bounds-reached_kinds-end-2 : goal.slice_bounds-reached_kinds-end-2
slice_bounds-reached_kinds-end-2 c = search laws.calling_size

pub slice_bounds-fill-end : goal.slice_bounds-fill-end
slice_bounds-fill-end c = search laws.kinds_size

pub fill-places-requires : goal.fill-places-requires
fill-places-requires c =
    record { index = c.requires.index; lent = record { size = c.fill-arg-1.given.0.1; many = laws.kinds_many c.sets_of.ensures } }

pub slice_bounds-left_recursive-end : goal.slice_bounds-left_recursive-end
slice_bounds-left_recursive-end c = search laws.calls_size

pub returns : goal.returns
returns c =
    laws.prepared _ _ _ _ c.nullables-nulls.ensures c.root_of.ensures c.reached_kinds-kinds.ensures
    c.sets_of.ensures c.fill-places.ensures c.left_recursive-recursive.ensures
