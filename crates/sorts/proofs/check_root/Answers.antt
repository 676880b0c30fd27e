-- `check_root`: 9 before 11.
use mathlib.Core.Bool.{true, false}
use Rattle.sorts.proofs.StepLaws as laws
use Rattle.sorts.proofs.check_root.Goals as goal

pub returns-then-h-eq0 : goal.returns-then-h-eq0
returns-then-h-eq0 c = search laws.root_undefined

pub returns-then-signature-byte : goal.returns-then-signature-byte
returns-then-signature-byte c =
    laws.root_tested _ _ _ c.head_of-h.ensures c.if-h-eq0.false c.signature_at-signature.ensures c.byte.ensures true c.if-signature-byte.true

pub returns-else-signature-byte : goal.returns-else-signature-byte
returns-else-signature-byte c =
    laws.root_tested _ _ _ c.head_of-h.ensures c.if-h-eq0.false c.signature_at-signature.ensures c.byte.ensures false c.if-signature-byte.false
