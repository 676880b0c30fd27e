-- `open_places`: the arguments from the last to the first.
use native.Mathlib.Omega.{arith}
use Rattle.bodies.proofs.TemplateLoops as laws
use Rattle.bodies.proofs.templates.open_places.Goals as goal

pub returns-then-b-lt-TERM_VAR : goal.returns-then-b-lt-TERM_VAR
returns-then-b-lt-TERM_VAR c = laws.opening_none c.if-b-lt-TERM_VAR.true

pub loop-k-init : goal.loop-k-init
loop-k-init c = laws.opening_start c.arity_of-k.ensures

pub bounds-stack-top : goal.bounds-stack-top
bounds-stack-top c = search laws.opening_room

pub overflow_add-top : goal.overflow_add-top
overflow_add-top c =
    omega (arith, laws.opening_room c.requires c.loop-k.invariant c.loop-k-test.true)

pub loop-k-preserved : goal.loop-k-preserved
loop-k-preserved c = search laws.opening_next

pub returns : goal.returns
returns c = search laws.opening_end
