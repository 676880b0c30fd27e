-- `check_sorts`: the room of the sorts is filled from the pattern sets, and both rooms decide.
use Rattle.patterns.proofs.TextRoomLaws.{sets_size}
use Rattle.clashes.proofs.CheckLaws as laws
use Rattle.clashes.proofs.sorts.check_sorts.Goals as goal

pub slice_bounds-fill_sorts-end : goal.slice_bounds-fill_sorts-end
slice_bounds-fill_sorts-end c = search sets_size

pub fill_sorts-requires : goal.fill_sorts-requires
fill_sorts-requires c =
    laws.sorts_lent c.requires.index c.args.nulls c.pattern_sets.ensures

pub check_both-requires : goal.check_both-requires
check_both-requires c =
    record {
      kinds_below = c.requires.kinds_below;
      sorts_below = laws.sorts_below c.requires.index _ _ _ c.fill_sorts.ensures;
    }

pub returns : goal.returns
returns c =
    laws.sorts_checked _ _ _ _ _ _ _ c.pattern_sets.ensures c.fill_sorts.ensures c.check_both.ensures
