-- `take_callee`: the nonterminals below n are done.
use Rattle.firsts.proofs.ClosureLaws as laws
use Rattle.firsts.proofs.sets.take_callee.Goals as goal

pub loop-n-init : goal.loop-n-init
loop-n-init c = search laws.taking_start

pub loop-n-preserved : goal.loop-n-preserved
loop-n-preserved c =
    laws.taking_next c.loop-n.invariant c.loop-n-test.true c.set_at-more_calls.ensures c.set_at-more_kinds.ensures
    c.with_callee.ensures c.with_callee-in-loop-n.ensures

pub shape_of-calls : goal.shape_of-calls
shape_of-calls c = c.loop-n.invariant.taken.calls_joined.as_many

pub shape_of-kinds : goal.shape_of-kinds
shape_of-kinds c = c.loop-n.invariant.taken.kinds_joined.as_many

pub returns : goal.returns
returns c = search laws.taking_end
