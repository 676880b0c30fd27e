-- `nullables`: what was found is nullable, and a pass that changes nothing has found all.
use Prim.Native.Nat.{◌-◌}
use Rattle.kinds.specs.Kinds.{has_kind}
use Rattle.productions.specs.Index.{productions_by}
use Rattle.firsts.proofs.Rounds.{count}
use Rattle.firsts.proofs.NeedsLaws as laws
use Rattle.firsts.proofs.nullable.nullables.Given as goal

abbrev pub invariant-loop-set : goal.invariant-loop-set
invariant-loop-set l = laws.Found (productions_by l.m l.table l.owners l.starts) l.set

abbrev pub decreases-loop-set : goal.decreases-loop-set
decreases-loop-set l = 64 - count 64 (has_kind l.set)
