-- `lay_run`: the lines that are told are those before the next.
use native.Mathlib.Omega.{arith}
use Rattle.listed.proofs.LentLaws as laws
use Rattle.listed.proofs.lay_run.Goals as goal

pub loop-i-init : goal.loop-i-init
loop-i-init c = laws.telling_start

pub loop-i-preserved : goal.loop-i-preserved
loop-i-preserved c =
    laws.telling_next c.loop-i.invariant (omega (arith, c.loop-i-test.true)) (rw (← c.line_at.ensures, ← c.bytes_of.ensures) c.lay_answered-told.ensures)

pub returns : goal.returns
returns c =
    laws.telling_end c.loop-i.invariant c.loop-i-test.false c.lay_total.ensures
