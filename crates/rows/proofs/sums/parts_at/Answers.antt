-- `parts_at`: the code of a row decides which parts it has.
use Rattle.rows.proofs.SumLaws as laws
use Rattle.rows.proofs.sums.parts_at.Goals as goal

pub returns-in-33 : goal.returns-in-33
returns-in-33 c = search laws.fun_parts

pub returns-in-34 : goal.returns-in-34
returns-in-34 c = search laws.app_parts

pub returns-in-35 : goal.returns-in-35
returns-in-35 c = search laws.rcd_parts

pub returns-in-36 : goal.returns-in-36
returns-in-36 c = search laws.dot_parts

pub returns-in-38 : goal.returns-in-38
returns-in-38 c = search laws.cons-parts

pub returns-in_default : goal.returns-in_default
returns-in_default c = search laws.no_parts
