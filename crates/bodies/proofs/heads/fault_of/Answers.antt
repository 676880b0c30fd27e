-- `fault_of`: by the mode, one test for each.
use mathlib.Core.Bool.{true, false}
use borrow.Author.Tests.{eq-eqb, ne_eqb}
use Rattle.bodies.proofs.HeadLaws as laws
use Rattle.bodies.proofs.heads.fault_of.Goals as goal

pub returns-then-h-block : goal.returns-then-h-block
returns-then-h-block c =
    laws.fault_earlier _ _ _ _ c.byte-n.ensures c.byte-mode.ensures c.head_of-h.ensures
    c.if-mode.true c.signature_at.ensures c.signature_at-then-mode.ensures c.equal-alike.ensures true c.if-h-block.true

pub returns-else-h-block : goal.returns-else-h-block
returns-else-h-block c =
    laws.fault_earlier _ _ _ _ c.byte-n.ensures c.byte-mode.ensures c.head_of-h.ensures
    c.if-mode.true c.signature_at.ensures c.signature_at-then-mode.ensures c.equal-alike.ensures false c.if-h-block.false

pub returns-then-h-eq0 : goal.returns-then-h-eq0
returns-then-h-eq0 c =
    laws.fault_new _ _ _ _ c.byte-n.ensures c.byte-mode.ensures c.head_of-h.ensures c.if-mode.false true (eq-eqb _ 0 c.if-h-eq0.true)

pub returns-else-h-eq0 : goal.returns-else-h-eq0
returns-else-h-eq0 c =
    laws.fault_new _ _ _ _ c.byte-n.ensures c.byte-mode.ensures c.head_of-h.ensures c.if-mode.false false (ne_eqb _ 0 c.if-h-eq0.false)
