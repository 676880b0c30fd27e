-- `open_params`: the parameters from the last to the first.
use native.Mathlib.Omega.{arith}
use Rattle.bodies.proofs.BodyLaws as laws
use Rattle.bodies.proofs.items.open_params.Goals as goal

pub loop-j-init : goal.loop-j-init
loop-j-init c = laws.loading_start

pub bounds-signature-j : goal.bounds-signature-j
bounds-signature-j c = omega arith

pub bounds-stack-top : goal.bounds-stack-top
bounds-stack-top c = omega arith

pub overflow_add-top : goal.overflow_add-top
overflow_add-top c = omega arith

pub loop-j-preserved : goal.loop-j-preserved
loop-j-preserved c = search laws.loading_next

pub returns : goal.returns
returns c = search laws.loading_end
