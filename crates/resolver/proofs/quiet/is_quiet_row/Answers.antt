-- `is_quiet_row`: the code decides, and a variable's class.
use Rattle.resolver.proofs.QuietLaws as laws
use Rattle.resolver.proofs.quiet.is_quiet_row.Goals as goal

pub returns-in-33 : goal.returns-in-33
returns-in-33 c = laws.binder_row _ _ c.in-33.is

pub returns-in-32 : goal.returns-in-32
returns-in-32 c = laws.variable_row _ _ c.in-32.is

pub returns-in_default : goal.returns-in_default
returns-in_default c = laws.other_row _ _ c.in_default.in_default-own.rest.0.1 c.in_default.in_default-own.rest.1
