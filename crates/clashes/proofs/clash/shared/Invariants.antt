-- `shared`: what is seen and what is found of the places that are past.
use Prim.Native.Nat.{◌-◌}
use Rattle.productions.specs.Room.{first_place_in}
use Rattle.clashes.proofs.PairsLaws as laws
use Rattle.clashes.proofs.clash.shared.Given as goal

abbrev pub invariant-loop-i : goal.invariant-loop-i
invariant-loop-i l = laws.Sharing l.room (first_place_in l.room l.n) l.seen l.found l.i

abbrev pub decreases-loop-i : goal.decreases-loop-i
decreases-loop-i l = 256 - l.i
