-- `lay_times`: one part more at each turn.
use Rattle.rooms.specs.Laying.{Lays}
use Rattle.boundaries.specs.Lines.{times}
use Rattle.boundaries.proofs.lay_times.Given as goal

abbrev pub invariant-loop : goal.invariant-loop
invariant-loop l = Lays l.initial.room l.initial.end (times l.counter l.part) l.end l.room
