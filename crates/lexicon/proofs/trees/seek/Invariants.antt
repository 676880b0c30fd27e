-- `seek`: the branches taken lead to the spelling, if it is there, as long as the bits of the hash last.
use Prim.Native.Nat.{◌-◌}
use lib.ListN.{length}
use Rattle.lexicon.proofs.TreeLaws as laws
use Rattle.lexicon.proofs.trees.seek.Given as goal

abbrev pub invariant-loop-p : goal.invariant-loop-p
invariant-loop-p l = laws.Seeking l.text l.places l.links l.mask l.count l.s l.slot l.turns l.p

abbrev pub decreases-loop-p : goal.decreases-loop-p
decreases-loop-p l = length l.links - l.slot
