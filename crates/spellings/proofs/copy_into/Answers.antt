-- `copy_into`: the bytes that fit are copied from the first to the last, and else none.
use mathlib.Core.Path.{refl, sym}
use native.Mathlib.Omega.{arith}
use Rattle.spellings.proofs.BuffersLaws.{written_not}
use Rattle.spellings.proofs.Writes as writes
use Rattle.spellings.proofs.copy_into.Goals as goal

pub loop-i-init : goal.loop-i-init
loop-i-init c = writes.copying_start _ _

pub loop-i-preserved : goal.loop-i-preserved
loop-i-preserved c = writes.copying_next c.loop-i.invariant c.loop-i-test.true (omega (arith, c.if-size-out.true, c.loop-i-test.true))

pub returns-after-loop-i : goal.returns-after-loop-i
returns-after-loop-i c = (refl, writes.copying_end c.loop-i.invariant c.loop-i-test.false c.if-size-out.true)

pub returns-else-size-out : goal.returns-else-size-out
returns-else-size-out c = (refl, sym (written_not c.args.s.now c.args.out.now c.if-size-out.false))
