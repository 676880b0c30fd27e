-- `define`: a head goes among the others unless it is refused.
use Rattle.std.proofs.lemmas.Result.{err_from_is_err_and}
use Rattle.bodies.proofs.HeadLaws as laws
use Rattle.bodies.proofs.heads.define.Goals as goal

pub returns-then-tag-ne-HEAD_TAG : goal.returns-then-tag-ne-HEAD_TAG
returns-then-tag-ne-HEAD_TAG c = laws.head_none _ _ _ _ _ c.if-tag-ne-HEAD_TAG.true

pub returns-in_err-fault_of : goal.returns-in_err-fault_of
returns-in_err-fault_of c =
    let p = err_from_is_err_and c.from_residual.result c.from_residual.ensures.1 in
    rw (p.1, p.2) (laws.head_refused _ _ _ _ _ c.if-tag-ne-HEAD_TAG.false c.fault_of.ensures c.in_err-fault_of.was)

pub returns-then-n-heads : goal.returns-then-n-heads
returns-then-n-heads c =
    laws.head_put _ _ _ _ _ c.if-tag-ne-HEAD_TAG.false c.fault_of.ensures c.in_ok-fault_of.was c.byte-n.ensures

pub returns-else-n-heads : goal.returns-else-n-heads
returns-else-n-heads c =
    laws.head_left _ _ _ _ _ c.if-tag-ne-HEAD_TAG.false c.fault_of.ensures c.in_ok-fault_of.was c.byte-n.ensures c.if-n-heads.false
