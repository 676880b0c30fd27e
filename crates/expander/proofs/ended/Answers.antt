-- `ended`: a token is left over, or none.
use Rattle.std.proofs.lemmas.Result.{err_from_is_err_and}
use Rattle.expander.proofs.CallLaws as laws
use Rattle.expander.proofs.ended.Goals as goal

pub returns-then-at-n : goal.returns-then-at-n
returns-then-at-n c =
    λ I cells e. laws.ended_left I cells _ e _ c.in_ok-v.was c.if-at-n.true c.refuse.ensures

pub returns-in_err-v : goal.returns-in_err-v
returns-in_err-v c =
    let p = err_from_is_err_and c.from_residual.result c.from_residual.ensures.1 in
    rw (p.1, p.2) (λ I cells e. laws.ended_halted I cells _ e _ c.in_err-v.was)

pub returns : goal.returns
returns c = λ I cells e. laws.ended_done I cells _ e _ c.in_ok-v.was c.if-at-n.false
