-- `name_length`: a new name, a fresh name without a number, or a name as written.
use Rattle.measuring.proofs.LengthLaws as laws
use Rattle.measuring.proofs.name_length.Goals as goal

pub overflow_add-result : goal.overflow_add-result
overflow_add-result c = search laws.new_small

pub returns-then-shown-gt0 : goal.returns-then-shown-gt0
returns-then-shown-gt0 c = search laws.new_length

pub returns-then-x-eq-FRESH_CLASS : goal.returns-then-x-eq-FRESH_CLASS
returns-then-x-eq-FRESH_CLASS c = search laws.fresh_length

pub returns : goal.returns
returns c = search laws.plain_length
