-- `build_nested`: a loop over the constructors that are open. What is left of them gives what the template gives. The measure is the number of
-- bytes left, and under it the place of the innermost constructor's arguments.
use Prim.Native.Nat.{◌+◌, ◌-◌, ◌*◌}
use lib.ListN.{length}
use Rattle.grammar.specs.Limits.{most}
use Rattle.templates.proofs.BuildLaws as laws
use Rattle.templates.proofs.build_nested.Given as goal

abbrev pub invariant-loop-top : goal.invariant-loop-top
invariant-loop-top l =
    laws.Looping
    (record { v = l.v; from = l.from; env = l.env; m = l.m; cells = l.initial.cells; size = length l.initial.stack })
    (record { cells = l.cells; stack = l.stack; at = l.at; made = l.count; pos = l.pos; top = l.top })
    l.n

abbrev pub decreases-loop-top : goal.decreases-loop-top
decreases-loop-top l =
    (most.bytes + 2) * (length l.v - l.at) + l.pos
