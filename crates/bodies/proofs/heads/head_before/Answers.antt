-- `head_before`: by where the newest head stands, and by its mode.
use mathlib.Core.Bool.{true, false}
use native.Mathlib.Omega.{arith}
use Rattle.bodies.proofs.HeadLaws as laws
use Rattle.bodies.proofs.heads.head_before.Goals as goal

pub overflow_add-h : goal.overflow_add-h
overflow_add-h c = omega (arith, c.type_inv.heads c.args.n, c.head_of-h.ensures)

pub returns-then-h-block : goal.returns-then-h-block
returns-then-h-block c =
    laws.before_kept _ _ _ _ c.head_of-h.ensures c.byte-mode.ensures true c.if-h-block.true

pub returns-else-h-block : goal.returns-else-h-block
returns-else-h-block c =
    laws.before_kept _ _ _ _ c.head_of-h.ensures c.byte-mode.ensures false c.if-h-block.false
