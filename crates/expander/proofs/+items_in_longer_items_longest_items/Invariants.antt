-- `items_in`, `longer_items` and `longest_items`: where a room is too short the calls go on in a longer one, until they end. The longer the room, the
-- less is left of the longest.
use Prim.Native.Nat.{◌+◌, ◌-◌, ◌*◌}
use lib.ListN.{length}
use Rattle.frames.specs.Frames.{all_frames}
use Rattle.expander.proofs.+items_in_longer_items_longest_items.Given as goal

abbrev pub decreases-items_in : goal.decreases-items_in
decreases-items_in l = 3 * (all_frames - length l.frames.now) + 2

abbrev pub decreases-longer_items : goal.decreases-longer_items
decreases-longer_items l = 3 * (all_frames - length l.short.now) + 1

abbrev pub decreases-longest_items : goal.decreases-longest_items
decreases-longest_items l = 3 * (all_frames - length l.short.now)
