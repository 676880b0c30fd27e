-- `tell`: each turn tells one line at least, and what is written for it.
use native.Mathlib.Omega.{arith}
use borrow.Author.Rules.{rules}
use Rattle.formulas.proofs.TellingLaws.{told_start, told_next, told_all}
use Rattle.formulas.proofs.tell.Goals as goal

pub loop-from-init : goal.loop-from-init
loop-from-init g c = (search rules, told_start _ _ _)

pub loop-from-smaller : goal.loop-from-smaller
loop-from-smaller g c =
    let told = c.lay_lines-laid.ensures in
    omega (arith, told.forward c.loop-from-test.true, told.goes_on)

pub loop-from-preserved : goal.loop-from-preserved
loop-from-preserved g c =
    let laid = c.lay_lines-laid.ensures in
    (omega (arith, laid.goes_on), told_next _ _ _ _ _ _ _ _ c.loop-from.invariant.1 c.in_ok-write.ensures laid.gives)

pub returns : goal.returns
returns g c = told_all _ _ _ _ _ c.loop-from.invariant.1 c.loop-from-test.false
