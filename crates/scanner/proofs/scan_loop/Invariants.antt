-- `scan_loop`: what is left of the formula gives what the whole gives.
use Prim.Native.Nat.{◌-◌}
use lib.ListN.{length}
use Rattle.scanner.proofs.ScanningLaws as laws
use Rattle.scanner.proofs.scan_loop.Given as goal

abbrev pub invariant-loop-at : goal.invariant-loop-at
invariant-loop-at l =
    laws.Scanning l.table l.room l.tree l.formula l.initial.tokens l.initial.words l.initial.links l.tokens l.words l.links l.mask l.at l.n l.count

abbrev pub decreases-loop-at : goal.decreases-loop-at
decreases-loop-at l =
    length l.formula - l.at
