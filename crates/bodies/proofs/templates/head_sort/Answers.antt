-- `head_sort`: test by test.
use Rattle.bodies.proofs.TemplateLoops as laws
use Rattle.bodies.proofs.templates.head_sort.Goals as goal

pub returns-then-b-lt-VARIABLES : goal.returns-then-b-lt-VARIABLES
returns-then-b-lt-VARIABLES c = search laws.variable_sort

pub returns-then-b-eq-NAME_AS_VAR : goal.returns-then-b-eq-NAME_AS_VAR
returns-then-b-eq-NAME_AS_VAR c = laws.name_sort _ c.if-b-eq-NAME_AS_VAR.true

pub returns-then-b-eq-NAME_AS_LABEL : goal.returns-then-b-eq-NAME_AS_LABEL
returns-then-b-eq-NAME_AS_LABEL c = laws.label_sort _ c.if-b-eq-NAME_AS_LABEL.true

pub returns : goal.returns
returns c = search laws.constructor_sort
