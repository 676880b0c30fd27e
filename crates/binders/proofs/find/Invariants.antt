-- `find`: every first row of the name is older than where the links have led.
use Prim.Native.Nat.{◌/◌}
use mathlib.Core.Path.{◌≡◌}
use lib.ListN.{length}
use Rattle.binders.proofs.LinkLaws as laws
use Rattle.binders.proofs.find.Given as goal

abbrev pub invariant-loop-p : goal.invariant-loop-p
invariant-loop-p l = laws.Chasing l.n l.cells (length l.links / 2) l.x l.p × (l.half ≡ length l.links / 2)

abbrev pub decreases-loop-p : goal.decreases-loop-p
decreases-loop-p l = l.p
