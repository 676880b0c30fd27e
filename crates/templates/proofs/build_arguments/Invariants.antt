-- `build_arguments`: the templates ahead, one by one.
use Prim.Native.Nat.{◌-◌}
use mathlib.Core.Path.{◌≡◌}
use lib.ListN.{length}
use Rattle.templates.proofs.ArgumentLaws as laws
use Rattle.templates.proofs.VariableLaws.{KeptFrom}
use Rattle.templates.proofs.build_arguments.Given as goal

abbrev pub invariant-loop-at : goal.invariant-loop-at
invariant-loop-at l =
    laws.Listing l.v l.start l.env l.m l.initial.cells l.out l.cells l.at l.n l.count
    × (length l.stack ≡ length l.initial.stack)
    × KeptFrom l.initial.out l.out l.n

abbrev pub decreases-loop-at : goal.decreases-loop-at
decreases-loop-at l = length l.v - l.at
