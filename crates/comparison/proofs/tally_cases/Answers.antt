-- `tally_cases`: what is left gives what the whole file gives.
use mathlib.Core.Path.{sym, ap, ◌∙◌}
use native.Mathlib.Omega.{arith}
use Rattle.std.specs.Prelude.{Ok}
use Rattle.std.proofs.lemmas.Result.{err_from_is_err_and}
use Rattle.cases.proofs.CaseLaws.{next_within}
use Rattle.cases.proofs.TallyLaws.{tallying_start, tallying_next, tallying_end, tallying_broken}
use Rattle.comparison.proofs.ComparingLaws.{whole_or, fault_or, counted, uncounted}
use Rattle.comparison.proofs.tally_cases.Goals.{then-compares, else-compares}
use Rattle.comparison.proofs.tally_cases.Goals as goal

pub loop-case-init : goal.loop-case-init
loop-case-init g c = tallying_start _ _

pub returns-in_err-case : goal.returns-in_err-case
returns-in_err-case g c =
    let p = err_from_is_err_and c.from_residual.result c.from_residual.ensures.1 in
    let (fault, broken, index) = fault_or c.next_case.result _ c.or.ensures c.in_err-case.was in
    rw (p.1, p.2, index) (tallying_broken c.loop-case.invariant c.next_case.ensures broken)

pub loop-case-smaller : goal.loop-case-smaller
loop-case-smaller g c =
    let next = whole_or c.next_case.result _ c.or.ensures c.in_ok-case.was in
    let inside = next_within _ _ {case = c.in-Some.case} (sym c.next_case.ensures ∙ next ∙ ap Ok c.in-Some.is) in
    omega (arith, inside.begins, inside.ends)

pub loop-case-preserved : goal.loop-case-preserved
loop-case-preserved g c =
    let next = whole_or c.next_case.result _ c.or.ensures c.in_ok-case.was in
    tallying_next c.loop-case.invariant c.next_case.ensures (next ∙ ap Ok c.in-Some.is)
    (elim c.if-compares.branch [
      | then-compares w ↦ counted c.from.ensures _ w.if-compares.true w.from-is w.differs.ensures
      | else-compares w ↦ uncounted c.from.ensures _ w.from-is w.if-compares.false
    ])

pub returns : goal.returns
returns g c =
    let next = whole_or c.next_case.result _ c.or.ensures c.in_ok-case.was in
    tallying_end c.loop-case.invariant c.next_case.ensures (next ∙ ap Ok c.in_default.is)
