-- `compare_eights`: the eights passed agree.
use Prim.Native.Nat.{◌-◌}
use lib.ListN.{length}
use Rattle.spellings.proofs.Comparing as laws
use Rattle.spellings.proofs.compare_eights.Given as goal

abbrev pub invariant-loop-i : goal.invariant-loop-i
invariant-loop-i l = laws.Passing l.a l.b l.i

abbrev pub decreases-loop-i : goal.decreases-loop-i
decreases-loop-i l = length l.a - l.i
