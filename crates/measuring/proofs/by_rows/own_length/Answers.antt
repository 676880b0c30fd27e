-- `own_length`: the code of a row decides.
use Rattle.measuring.proofs.OwnLaws as laws
use Rattle.measuring.proofs.by_rows.own_length.Goals as goal

pub overflow_add-result : goal.overflow_add-result
overflow_add-result c = search laws.var_own_small

pub overflow_add-result-in-33 : goal.overflow_add-result-in-33
overflow_add-result-in-33 c = search laws.fun_own_small

pub overflow_add-result-in-36 : goal.overflow_add-result-in-36
overflow_add-result-in-36 c = search laws.dot_own_small

pub overflow_add-result-in-38 : goal.overflow_add-result-in-38
overflow_add-result-in-38 c = search laws.cons_own_small

pub overflow_add-result-in_default : goal.overflow_add-result-in_default
overflow_add-result-in_default c = search laws.num_own_small

pub returns-in-32 : goal.returns-in-32
returns-in-32 c = search laws.var_own

pub returns-in-33 : goal.returns-in-33
returns-in-33 c = search laws.fun_own

pub returns-in-34 : goal.returns-in-34
returns-in-34 c = search laws.app_own

pub returns-in-35 : goal.returns-in-35
returns-in-35 c = search laws.rcd_own

pub returns-in-36 : goal.returns-in-36
returns-in-36 c = search laws.dot_own

pub returns-in-37 : goal.returns-in-37
returns-in-37 c = search laws.nil_own

pub returns-in-38 : goal.returns-in-38
returns-in-38 c = search laws.cons_own

pub returns-in_default : goal.returns-in_default
returns-in_default c = search laws.num_own
