-- `expand_all`: what is left of the formulas gives with what is laid what all give.
use native.Mathlib.Omega.{arith}
use Rattle.vegzump.proofs.EachLoop as loop
use Rattle.vegzump.proofs.each.expand_all.Goals as goal

pub loop-i-init : goal.loop-i-init
loop-i-init c = loop.expanding_start _ _ _ _ _ _ _

pub overflow_add-at : goal.overflow_add-at
overflow_add-at c =
    let begun = c.loop-i.invariant in
    let fits = loop.written_fits _ _ _ _ _ _ begun c.loop-i-test.true c.formula_in-formula.ensures c.expand_checked-answer.ensures
    c.written-at.ensures in
    omega (arith, fits, begun.as_long, c.well_formed)

pub loop-i-preserved : goal.loop-i-preserved
loop-i-preserved c =
    loop.expanding_next _ _ _ _ _ _ c.loop-i.invariant c.loop-i-test.true c.formula_in-formula.ensures
    c.expand_checked-answer.ensures c.written-at.ensures c.store.ensures (omega arith) (omega arith)

pub returns : goal.returns
returns c = loop.expanding_end _ _ _ _ _ _ c.min-count.ensures c.loop-i.invariant c.loop-i-test.false
