-- `reached_kinds`: what is reached and done by now.
use Prim.Native.Nat.{◌<◌}
use native.Mathlib.Omega.{arith}
use borrow.Author.Rules.{rules}
use Rattle.reach.proofs.WorkLaws as laws
use Rattle.reach.proofs.reached_kinds.Goals as goal

pub loop-done-init : goal.loop-done-init
loop-done-init c =
    let small = laws.small_sets c.args.calls.now (λ n. omega (arith, c.type_inv.calls n)) in
    (laws.work_start small c.only-reached.ensures (search rules), small)

pub overflow_cast-n : goal.overflow_cast-n
overflow_cast-n c =
    let below : c.lowest-n.result < 64 = laws.next_below c.loop-done.invariant.1 c.loop-done.invariant.0 c.loop-done-test.true c.lowest-n.ensures in
    omega (arith, below)

pub loop-done-smaller : goal.loop-done-smaller
loop-done-smaller c =
    let i = c.loop-done.invariant in
    laws.work_less i.1 i.0 c.loop-done-test.true c.lowest-n.ensures c.only.ensures c.join-done.ensures
    c.set_at.ensures c.join-found.ensures c.set_at-in-loop-done.ensures c.join-reached.ensures

pub loop-done-preserved : goal.loop-done-preserved
loop-done-preserved c =
    let i = c.loop-done.invariant in (
      laws.work_next i.1 i.0 c.loop-done-test.true c.lowest-n.ensures c.only.ensures c.join-done.ensures
          c.set_at.ensures c.join-found.ensures c.set_at-in-loop-done.ensures c.join-reached.ensures (search rules) (search rules),
      i.1,
    )

pub returns : goal.returns
returns c = laws.work_end c.loop-done.invariant.1 c.loop-done.invariant.0 c.loop-done-test.false
