-- `store_flat`: the values so far and the templates left give what the constructor gives.
use Prim.Native.Nat.{◌<◌}
use native.Mathlib.Omega.{arith}
use Rattle.templates.proofs.FlatLaws as laws
use Rattle.templates.proofs.store_flat.Goals as goal

pub loop-i-init : goal.loop-i-init
loop-i-init c = search laws.reading_start

pub head_at-requires : goal.head_at-requires
head_at-requires c = search laws.reading_ahead

pub offset_bounds-args-i : goal.offset_bounds-args-i
offset_bounds-args-i c =
    let placed : c.loop-i.i < 3 = laws.reading_place c.loop-i.invariant c.arity_of-n.ensures c.loop-i-test.true in
    omega (arith, placed)

pub bounds-args-i : goal.bounds-args-i
bounds-args-i c =
    let placed : c.loop-i.i < 3 = laws.reading_place c.loop-i.invariant c.arity_of-n.ensures c.loop-i-test.true in
    omega (arith, placed)

pub loop-i-preserved : goal.loop-i-preserved
loop-i-preserved c = search laws.reading_next

pub returns : goal.returns
returns c = search laws.reading_end
