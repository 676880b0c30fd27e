-- `open_places`: the arguments from the last to the first.
use Rattle.bodies.proofs.TemplateLoops as laws
use Rattle.bodies.proofs.templates.open_places.Given as goal

abbrev pub invariant-loop-k : goal.invariant-loop-k
invariant-loop-k l = laws.Opening l.initial.stack l.start l.b l.stack l.top l.k
