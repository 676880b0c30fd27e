-- `seek`: the branches taken lead to the spelling, if it is there, as long as the bits of the hash last.
use mathlib.Core.Path.{refl}
use native.Mathlib.Omega.{arith}
use Rattle.lexicon.proofs.TreeLaws as laws
use borrow.Author.Rules.{rules}
use Rattle.lexicon.proofs.trees.seek.Goals as goal

pub loop-p-init : goal.loop-p-init
loop-p-init c =
    laws.seeking_start c.requires.planted c.requires.hash_value refl refl (search rules) refl

pub is_spelled-here-requires : goal.is_spelled-here-requires
is_spelled-here-requires c = laws.place_inside c.loop-p.invariant.standing c.loop-p-test.true

pub returns-then-here : goal.returns-then-here
returns-then-here c =
    let inv = c.loop-p.invariant in
    laws.standing_found inv.standing c.loop-p-test.true _ c.is_spelled-here.ensures c.if-here.true

pub bounds-links-slot-in-loop-p : goal.bounds-links-slot-in-loop-p
bounds-links-slot-in-loop-p c =
    omega (arith, laws.branch_inside c.loop-p.invariant.standing c.loop-p-test.true)

pub loop-p-smaller : goal.loop-p-smaller
loop-p-smaller c =
    let standing = c.loop-p.invariant.standing in
    let more = c.loop-p-test.true in
    omega (arith, laws.standing_behind standing more c.loop-p.turns, laws.branch_inside standing more)

pub loop-p-preserved : goal.loop-p-preserved
loop-p-preserved c =
    let inv = c.loop-p.invariant in
    laws.seeking_next inv c.loop-p-test.true c.is_spelled-here.ensures
    c.if-here.false refl refl refl

pub returns : goal.returns
returns c = laws.seeking_end c.loop-p.invariant c.loop-p-test.false c.if-turns-eq0.false
