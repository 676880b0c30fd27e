-- `line_at`: by the number.
use Prim.Native.Nat.{◌≤◌}
use native.Mathlib.Omega.{arith}
use Rattle.boundaries.specs.Lines.{line_at}
use Rattle.boundaries.proofs.LineLaws.{line_last}
use Rattle.boundaries.proofs.line_at.Goals as goal

pub returns-in-0 : goal.returns-in-0
unfolding line_at
returns-in-0 c = rw c.in-0.is (cc (c.short.ensures, c.accepted.ensures))

pub returns-in-1 : goal.returns-in-1
unfolding line_at
returns-in-1 c = rw c.in-1.is (cc (c.short-in-1.ensures, c.refused.ensures))

pub returns-in-2 : goal.returns-in-2
unfolding line_at
returns-in-2 c = rw c.in-2.is (cc (c.short-in-2.ensures, c.accepted-in-2.ensures))

pub returns-in-3 : goal.returns-in-3
unfolding line_at
returns-in-3 c = rw c.in-3.is (cc (c.short-in-3.ensures, c.refused-in-3.ensures))

pub returns-in-4 : goal.returns-in-4
unfolding line_at
returns-in-4 c = rw c.in-4.is (cc (c.short-in-4.ensures, c.refused-in-4.ensures))

pub returns-in-5 : goal.returns-in-5
unfolding line_at
returns-in-5 c = rw c.in-5.is (cc c.accepted-in-5.ensures)

pub returns-in-6 : goal.returns-in-6
unfolding line_at
returns-in-6 c = rw c.in-6.is (cc (c.short-in-6.ensures, c.refused-in-6.ensures))

pub returns-in-7 : goal.returns-in-7
unfolding line_at
returns-in-7 c = rw c.in-7.is (cc (c.short-in-7.ensures, c.accepted-in-7.ensures))

pub returns-in_default : goal.returns-in_default
returns-in_default c = cc (c.short-in_default.ensures, c.refused-in_default.ensures, line_last (let far : 8 ≤ c.args.i = omega arith in far))
