-- `close`: the sets are closed over the callees below k.
use native.Mathlib.Omega.{arith}
use Rattle.firsts.proofs.ClosureLaws as laws
use Rattle.firsts.proofs.sets.close.Goals as goal
use Rattle.firsts.proofs.sets.close.Goals.{then-taken, else-taken}

pub callees-called-requires : goal.callees-called-requires
callees-called-requires c =
    let pre = c.requires in
    omega (arith, pre.lent.calls_many, pre.calls_below.small)

pub loop-k-init : goal.loop-k-init
loop-k-init c = laws.both_start _ _

pub take_callee-requires : goal.take_callee-requires
take_callee-requires c = search laws.both_lent

pub loop-k-preserved : goal.loop-k-preserved
loop-k-preserved c =
    elim c.if-taken.branch [
      | then-taken w ↦ rw (w.calls-is, w.kinds-is) (search laws.both_next)
      | else-taken w ↦ rw (w.calls-is, w.kinds-is) (search laws.both_skip)
    ]

pub shape_of-calls : goal.shape_of-calls
shape_of-calls c = c.loop-k.invariant.calls_closed.as_many

pub shape_of-kinds : goal.shape_of-kinds
shape_of-kinds c = c.loop-k.invariant.kinds_closed.as_many

pub returns : goal.returns
returns c = search laws.both_end
