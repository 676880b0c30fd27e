-- `tell`: what the lines before an offset give is written, and each turn tells one line at least.
use Prim.Native.Nat.{◌-◌, ◌≤◌}
use lib.ListN.{length}
use Rattle.formulas.proofs.TellingLaws.{Told}
use Rattle.formulas.proofs.tell.Given as goal

abbrev pub invariant-loop-from : goal.invariant-loop-from
invariant-loop-from g l =
    (l.from ≤ length l.input) × Told (g.W.Write.contents l.initial.to) (g.W.Write.contents l.to) l.table l.input l.from

abbrev pub decreases-loop-from : goal.decreases-loop-from
decreases-loop-from g l = length l.input - l.from
