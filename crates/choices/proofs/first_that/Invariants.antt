-- `first_that`: no place of the nonterminal before j passes; for any test, so also for one that none passes.
use Prim.Native.Nat.{ℕ, ◌-◌}
use mathlib.Core.Bool.{Bool, false}
use mathlib.Core.List.{List}
use Rattle.grammar.specs.Table.{Item}
use Rattle.productions.specs.Room.{Entry}
use Rattle.choices.specs.Held.{HeldFor}
use Rattle.choices.specs.Chosen.{entries_for, Tests}
use Rattle.choices.proofs.ChoiceLaws as laws
use Rattle.choices.proofs.first_that.Given as goal

abbrev pub invariant-loop-j : goal.invariant-loop-j
invariant-loop-j g l =
    ((P : List Item → ℕ) (bs : List ℕ) → HeldFor P bs l.room → laws.Walking (entries_for P bs) l.n (λ entry. false) l.j)
    × ((P : List Item → ℕ) (bs : List ℕ) → HeldFor P bs l.room → (passes : Entry → Bool) → Tests (goal.F-post g l.test) (entries_for P bs) passes
    → laws.Walking (entries_for P bs) l.n passes l.j)

abbrev pub decreases-loop-j : goal.decreases-loop-j
decreases-loop-j g l = 256 - l.j
