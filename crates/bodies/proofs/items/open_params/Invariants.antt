-- `open_params`: the parameters from the last to the first.
use Rattle.bodies.proofs.BodyLaws as laws
use Rattle.bodies.proofs.items.open_params.Given as goal

abbrev pub invariant-loop-j : goal.invariant-loop-j
invariant-loop-j l = laws.Loading l.signature l.initial.stack l.stack l.top l.j
