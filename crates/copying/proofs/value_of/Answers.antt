-- `value_of`: a variable has the value at its place; any other number goes by its sort.
use Rattle.copying.proofs.CopyLaws as laws
use Rattle.copying.proofs.value_of.Goals as goal

pub returns-then-x-eq-VARIABLE_CLASS : goal.returns-then-x-eq-VARIABLE_CLASS
returns-then-x-eq-VARIABLE_CLASS c = search (laws.value_variable, c.requires c.if-x-eq-VARIABLE_CLASS.true)

pub returns-then-sort-var : goal.returns-then-sort-var
returns-then-sort-var c = search laws.value_name

pub returns-then-sort : goal.returns-then-sort
returns-then-sort c = search laws.value_unit

pub returns : goal.returns
returns c = search laws.value_plain
