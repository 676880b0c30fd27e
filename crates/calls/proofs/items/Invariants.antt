-- `items`: a loop over the turns. What is left of the calls that are open gives what the whole gives. The measure is the number of calls
-- left, under it the calls that wait, and under them the bytes left.
use Prim.Native.Nat.{ℕ}
use mathlib.Core.List.{List}
use Rattle.expansion.specs.Run.{Result}
use Rattle.grammar.specs.Table.{Item}
use Rattle.choices.specs.Chosen.{RemembersFor}
use Rattle.steps.specs.Source.{Source, source, source_of}
use Rattle.turns.specs.Lent.{Ready}
use Rattle.calls.specs.Lent.{reading}
use Rattle.turns.specs.Turns.{left}
use Rattle.turns.proofs.TurnLaws as laws
use Rattle.calls.proofs.items.Given as goal

-- a source for which the loop may begin at a place
pub record MayTurn (S : Source) (room memory tokens : List ℕ) (place : laws.Place) : Type 0 where
  pub ready : Ready S room
  pub remembers : RemembersFor S.patterns S.bytes memory
  pub result : Result ℕ
  pub stood : laws.Stood (reading S tokens place.cells) S result place

-- for every such source of what is lent
abbrev pub invariant-loop-cells : goal.invariant-loop-cells
invariant-loop-cells l =
    (patterns : List Item → ℕ)
    → MayTurn (source_of l.table l.texts patterns) l.room l.initial.memory l.tokens
    (record { cells = l.initial.cells; stack = l.initial.stack; frames = l.initial.frames; vars = l.initial.vars; cursor = l.initial.c })
    → laws.Turning (reading (source_of l.table l.texts patterns) l.tokens l.initial.cells) (source_of l.table l.texts patterns)
    (record { cells = l.initial.cells; stack = l.initial.stack; frames = l.initial.frames; vars = l.initial.vars; cursor = l.initial.c })
    (record { cells = l.cells; stack = l.stack; frames = l.frames; vars = l.vars; cursor = l.c })
    l.memory

abbrev pub decreases-loop-cells : goal.decreases-loop-cells
decreases-loop-cells l =
    left (source l.table) l.c
