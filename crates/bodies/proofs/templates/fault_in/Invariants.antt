-- `fault_in`: the bytes left and the places open give what all of them give.
use Rattle.bodies.proofs.TemplateLoops as laws
use Rattle.bodies.proofs.templates.fault_in.Given as goal

abbrev pub invariant-loop-b : goal.invariant-loop-b
invariant-loop-b l = laws.Testing l.v l.sorts l.outsides l.initial.stack l.start l.stack l.filling l.name l.b-index
