-- `head_at`: by the first byte.
use native.Mathlib.Omega.{arith}
use Rattle.templates.proofs.BuildLaws as laws
use Rattle.templates.proofs.head_at.Goals as goal

pub overflow_add-result : goal.overflow_add-result
overflow_add-result c =
    omega (arith, (laws.variable_head c.requires c.byte-b.ensures c.if-b-lt-VARIABLES.true c.pick.ensures).1.inside, c.well_formed)

pub returns-then-b-lt-VARIABLES : goal.returns-then-b-lt-VARIABLES
returns-then-b-lt-VARIABLES c =
    let all =
    laws.variable_head c.requires c.byte-b.ensures c.if-b-lt-VARIABLES.true c.pick.ensures
    in
    record { by_index = all.0; heads = all.1 }

pub returns-then-b-lt-TERM_VAR : goal.returns-then-b-lt-TERM_VAR
returns-then-b-lt-TERM_VAR c =
    let all =
    laws.name_head c.requires c.byte-b.ensures c.if-b-lt-VARIABLES.false c.if-b-lt-TERM_VAR.true c.byte-n.ensures
    c.name_value.ensures
    in
    record { by_index = all.0; heads = all.1 }

pub returns : goal.returns
returns c = search laws.node_head
