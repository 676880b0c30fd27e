-- `reached_kinds`: what is reached and done by now.
use Prim.Native.Nat.{◌-◌}
use Rattle.kinds.specs.Kinds.{has_kind}
use Rattle.firsts.proofs.Rounds.{count}
use Rattle.reach.proofs.ReachLaws.{Small}
use Rattle.reach.proofs.WorkLaws as laws
use Rattle.reach.proofs.reached_kinds.Given as goal

abbrev pub invariant-loop-done : goal.invariant-loop-done
invariant-loop-done l = laws.Working l.kinds l.calls l.start l.reached l.done l.found × Small l.calls

abbrev pub decreases-loop-done : goal.decreases-loop-done
decreases-loop-done l = 64 - count 64 (has_kind l.done)
