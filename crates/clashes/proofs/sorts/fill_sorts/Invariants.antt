-- `fill_sorts`: the entries behind the next one are laid.
use mathlib.Core.List.{map}
use Rattle.productions.specs.Index.{places_in}
use Rattle.productions.proofs.RoomWriting.{Filling}
use Rattle.clashes.specs.CheckCalls.{sorts_at}
use Rattle.clashes.proofs.sorts.fill_sorts.Given as goal

abbrev pub invariant-loop-j : goal.invariant-loop-j
invariant-loop-j l = Filling 0 l.sets (map (sorts_at l.table l.nulls l.sets) (places_in l.m l.owners l.starts)) l.initial.room l.j l.room
