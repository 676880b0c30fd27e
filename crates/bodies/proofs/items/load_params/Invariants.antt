-- `load_params`: what is copied is the front of the parameters.
use Prim.Native.Nat.{◌-◌}
use Rattle.bodies.proofs.BodyLaws as laws
use Rattle.bodies.proofs.items.load_params.Given as goal

abbrev pub invariant-loop-i : goal.invariant-loop-i
invariant-loop-i l = laws.Copying l.signature l.initial.sorts l.sorts (l.i - 1) l.i
