-- `number`: mark by mark from the left.
use Prim.Native.Nat.{◌<◌}
use native.Mathlib.Omega.{arith}
use lib.ListN.{length}
use Rattle.resolver.proofs.CountLaws as laws
use Rattle.resolver.proofs.numbering.number.Goals as goal
use Rattle.resolver.proofs.numbering.number.Goals.{then-m-2, else-m-2}

pub loop-p-init : goal.loop-p-init
loop-p-init c = laws.counting_start _

pub returns-then-m : goal.returns-then-m
returns-then-m c =
    let below : c.loop-p.p < length c.loop-p.marks = omega (arith, c.loop-p.invariant.long) in
    laws.counting_loose c.loop-p.invariant below c.if-m.true

pub loop-p-preserved : goal.loop-p-preserved
loop-p-preserved c =
    let counting = c.loop-p.invariant in
    let below : c.loop-p.p < length c.loop-p.marks = omega (arith, c.loop-p.invariant.long) in
    elim c.if-m-2.branch [
      | then-m-2 w ↦ rw w.count-is (laws.counting_new counting below c.if-m.false c.number_of.ensures w.if-m-2.true)
      | else-m-2 w ↦ rw w.count-is (laws.counting_old counting below c.if-m.false c.number_of.ensures w.if-m-2.false)
    ]

pub returns : goal.returns
returns c = laws.counting_done c.loop-p.invariant (omega (arith, c.loop-p.invariant.long))
