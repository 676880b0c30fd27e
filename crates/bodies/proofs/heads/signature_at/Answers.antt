-- `signature_at`: two bytes after the head's first two, up to the length that it states.
use Rattle.bodies.proofs.HeadLaws as laws
use Rattle.bodies.proofs.heads.signature_at.Goals as goal

pub returns-then-table-at : goal.returns-then-table-at
returns-then-table-at c = cc (laws.signature_past _ _ c.if-table-at.true)

pub returns-then-size-lt-BEFORE_SIGNATURE : goal.returns-then-size-lt-BEFORE_SIGNATURE
returns-then-size-lt-BEFORE_SIGNATURE c =
    cc (laws.signature_none _ _ c.byte.ensures c.byte-2.ensures c.if-size-lt-BEFORE_SIGNATURE.true)

pub returns-then-size-lt-LONGEST_HEAD : goal.returns-then-size-lt-LONGEST_HEAD
returns-then-size-lt-LONGEST_HEAD c =
    cc (laws.signature_some _ _ c.byte.ensures c.byte-2.ensures c.if-size-lt-LONGEST_HEAD.true)

pub returns : goal.returns
returns c = cc (laws.signature_most _ _ c.byte.ensures c.byte-2.ensures c.if-size-lt-LONGEST_HEAD.false)
