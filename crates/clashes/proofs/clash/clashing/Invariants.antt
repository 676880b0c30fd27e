-- `clashing`: no lower nonterminal has a clash, and the pairs that are left decide.
use Prim.Native.Nat.{◌-◌}
use Rattle.productions.specs.Room.{first_place_in}
use Rattle.clashes.specs.CheckFirsts.{any_pair}
use Rattle.clashes.specs.Pairs.{linked, clash_in}
use Rattle.clashes.proofs.PairsLaws as laws
use Rattle.clashes.proofs.clash.clashing.Given as goal

abbrev pub invariant-loop-j : goal.invariant-loop-j
invariant-loop-j l = laws.Column l.room (first_place_in l.room l.n) l.seen l.i l.j

abbrev pub decreases-loop-j : goal.decreases-loop-j
decreases-loop-j l = 256 - l.j

abbrev pub invariant-loop-i : goal.invariant-loop-i
invariant-loop-i l = laws.Row l.room (first_place_in l.room l.n) l.seen l.i

abbrev pub decreases-loop-i : goal.decreases-loop-i
decreases-loop-i l = 256 - l.i

abbrev pub invariant-search : goal.invariant-search
invariant-search l = laws.Lowest l.many (λ k. any_pair (clash_in l.room) (linked l.room (first_place_in l.room k))) l.n

abbrev pub decreases-search : goal.decreases-search
decreases-search l = l.many - l.n
