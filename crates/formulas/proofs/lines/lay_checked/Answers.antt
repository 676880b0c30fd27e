-- `lay_checked`: the lines told and those that are left are the lines of the input.
use native.Mathlib.Omega.{arith}
use borrow.Author.Rules.{rules}
use Rattle.formulas.proofs.LineLaws as laws
use Rattle.formulas.proofs.lines.lay_checked.Goals as goal

pub loop-at-init : goal.loop-at-init
loop-at-init c = laws.telling_start _ _ _ _ (search rules)

pub returns-then-out-n-lt-LONGEST : goal.returns-then-out-n-lt-LONGEST
returns-then-out-n-lt-LONGEST c = laws.telling_full _ _ _ _ c.loop-at.invariant (search rules) (search rules)

pub loop-at-preserved : goal.loop-at-preserved
loop-at-preserved c =
    laws.telling_next _ _ _ _ c.loop-at.invariant c.loop-at-test.true (omega (arith, c.if-out-n-lt-LONGEST.false)) c.line_end-end.ensures.0
    c.lay_line-n.ensures.lays (omega (arith, c.lay_line-n.ensures.line_len_bound, c.if-out-n-lt-LONGEST.false)) c.next_line-at.ensures

pub returns : goal.returns
returns c = laws.telling_end _ _ _ _ c.loop-at.invariant c.loop-at-test.false
