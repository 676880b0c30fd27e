-- `lay_times`: one part more at each turn.
use native.Mathlib.Nat.{le_antisymm}
use native.Mathlib.Numerals.{add-one}
use Rattle.rooms.proofs.LayingLaws.{lays_then, lays_none}
use Rattle.boundaries.specs.Lines.{times}
use Rattle.boundaries.proofs.lay_times.Goals as goal

pub loop-init : goal.loop-init
unfolding times
loop-init c = lays_none c.lay-end.ensures

pub loop-preserved : goal.loop-preserved
unfolding times
loop-preserved c = rw (add-one, times) (lays_then c.loop.invariant c.lay-end-in-loop.ensures)

pub returns : goal.returns
returns c =
    lays_then c.lay-end.ensures (rw (le_antisymm c.loop.auto.counter-end c.loop-test.false) at c.loop.invariant)
