-- `is_known`: by the tag.
use Rattle.fields.proofs.Laws as laws
use Rattle.fields.proofs.is_known.Goals as goal

pub returns-in-1 : goal.returns-in-1
returns-in-1 c = laws.known_keyword _ c.in-1.is

pub returns-in-2 : goal.returns-in-2
returns-in-2 c = laws.known_outside _ c.in-2.is

pub returns-in-3 : goal.returns-in-3
returns-in-3 c = laws.known_block _ c.in-3.is

pub returns-in-4 : goal.returns-in-4
returns-in-4 c = cc (laws.known_head _ c.in-4.is)

pub returns-in-5 : goal.returns-in-5
returns-in-5 c = laws.known_alternative _ c.in-5.is

pub returns-in-6 : goal.returns-in-6
returns-in-6 c = cc (laws.known_item _ c.in-6.is)

pub returns-in-7 : goal.returns-in-7
returns-in-7 c = laws.known_result _ c.in-7.is

pub returns-in-8 : goal.returns-in-8
returns-in-8 c = cc (laws.known_root _ c.in-8.is)

pub returns-in_default : goal.returns-in_default
returns-in_default c = laws.known_none _ c.in_default.in_default-own.rest
