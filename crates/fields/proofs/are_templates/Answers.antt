-- `are_templates`: what is left makes up for the templates due.
use Prim.Native.Nat.{◌+◌, ◌-◌, ◌<◌, ◌≤◌}
use native.Mathlib.Omega.{arith}
use lib.ListN.{length}
use Rattle.fields.proofs.LawsTemplates as laws
use Rattle.fields.proofs.are_templates.Goals as goal
use Rattle.fields.proofs.are_templates.Goals.{Else-size-v}

-- a whole template's first bytes stand here
room : (point : Else-size-v) → (0 < point.head_size-size.result) × (point.head_size-size.result ≤ length point.args.v.now - point.loop-i.i)
room point = laws.due_room point.loop-i.invariant point.loop-i-test.true point.head_size-size.ensures point.if-size-v.false

pub loop-i-init : goal.loop-i-init
loop-i-init c = laws.due_start _ _ _ _ c.from-due.ensures

pub overflow_sub-v : goal.overflow_sub-v
overflow_sub-v c = omega arith

pub returns-then-size-v : goal.returns-then-size-v
returns-then-size-v c = search laws.due_stop

pub overflow_add-due : goal.overflow_add-due
overflow_add-due c =
    let k = room (goal.at.overflow_add-due c).Else-size-v in
    let a = c.args in
    let n : laws.Due a.v.now a.from a.single (c.saturating_sub.result + c.argument_count.result) (c.loop-i.i + c.head_size-size.result)
    = search laws.due_next in
    omega (arith, n.small)

pub overflow_add-i : goal.overflow_add-i
overflow_add-i c = let k = room (goal.at.overflow_add-i c).Else-size-v in omega arith

pub loop-i-smaller : goal.loop-i-smaller
loop-i-smaller c = let k = room (goal.at.loop-i-smaller c).Else-size-v in omega arith

pub loop-i-preserved : goal.loop-i-preserved
loop-i-preserved c = search laws.due_next

pub returns : goal.returns
returns c = search laws.due_end
