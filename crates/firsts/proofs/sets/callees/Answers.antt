-- `callees`: those of the first nonterminals are joined.
use Prim.Native.Nat.{◌<◌}
use mathlib.Core.Path.{◌∙◌, ap}
use native.Mathlib.Omega.{arith}
use lib.Bits.{bit_or}
use lib.ListN.{length-take}
use lib.Seq.{get_or-take}
use Rattle.firsts.proofs.ClosureLaws as laws
use Rattle.firsts.proofs.sets.callees.Goals as goal

pub loop-set-init : goal.loop-set-init
loop-set-init c = laws.uniting_start

pub loop-set-preserved : goal.loop-set-preserved
loop-set-preserved c =
    let below : c.loop-set.set-index < c.args.many = omega (arith, c.loop-set-test.true, length-take c.args.many c.args.calls.now) in
    laws.uniting_next c.loop-set.invariant below (c.join-all.ensures ∙ ap (bit_or c.loop-set.all) (get_or-take c.args.many c.args.calls.now _ 0 below))

pub returns : goal.returns
returns c = laws.uniting_end c.loop-set.invariant (omega (arith, c.loop-set-test.false, length-take c.args.many c.args.calls.now, c.requires))
