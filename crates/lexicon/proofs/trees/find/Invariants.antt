-- `find`: the branches taken lead to the spelling, if it is there.
use Prim.Native.Nat.{◌-◌}
use lib.ListN.{length}
use Rattle.lexicon.proofs.TreeLaws as laws
use Rattle.lexicon.proofs.trees.find.Given as goal

abbrev pub invariant-loop-p : goal.invariant-loop-p
invariant-loop-p l = laws.Searching l.text l.places l.links l.mask l.count l.s l.slot l.turns l.next l.p

abbrev pub decreases-loop-p : goal.decreases-loop-p
decreases-loop-p l = length l.links - l.slot
