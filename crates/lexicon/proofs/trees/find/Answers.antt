-- `find`: the branches taken lead to the spelling, if it is there.
use mathlib.Core.Path.{refl}
use native.Mathlib.Omega.{arith}
use Rattle.lexicon.proofs.TreeLaws as laws
use Rattle.lexicon.proofs.trees.find.Goals as goal

pub is_spelled-here-requires : goal.is_spelled-here-requires
is_spelled-here-requires c = laws.place_inside c.loop-p.invariant.standing c.loop-p-test.true

pub returns-then-here : goal.returns-then-here
returns-then-here c =
    let inv = c.loop-p.invariant in
    laws.standing_found inv.standing c.loop-p-test.true _ c.is_spelled-here.ensures c.if-here.true

pub bounds-links-slot-in-loop-p : goal.bounds-links-slot-in-loop-p
bounds-links-slot-in-loop-p c =
    omega (arith, laws.branch_inside c.loop-p.invariant.standing c.loop-p-test.true)

pub loop-p-smaller : goal.loop-p-smaller
loop-p-smaller c =
    let standing = c.loop-p.invariant.standing in
    let more = c.loop-p-test.true in
    omega (arith, laws.standing_behind standing more c.refill-ahead.result.turns, laws.branch_inside standing more)

pub loop-p-preserved : goal.loop-p-preserved
loop-p-preserved c =
    laws.searching_next c.loop-p.invariant c.loop-p-test.true c.is_spelled-here.ensures
    c.if-here.false
    c.refill-ahead.ensures
    refl
    refl
    refl

pub returns : goal.returns
returns c = laws.searching_end c.loop-p.invariant c.loop-p-test.false
