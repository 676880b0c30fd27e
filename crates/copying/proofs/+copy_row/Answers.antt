-- `copy_row`: a loop over the arguments of a row. What is left of them gives what the row gives; a part stands before its row.
use native.Mathlib.Omega.{arith}
use borrow.Author.Rules.{rules}
use Rattle.copying.proofs.CopyLaws as laws
use Rattle.copying.proofs.+copy_row.Goals as goal

pub loop-i-init : goal.loop-i-init
loop-i-init t c = search laws.copying_start

pub column-x-requires : goal.column-x-requires
column-x-requires t c = omega (arith, laws.argument_place c.loop-i.invariant c.loop-i-test.true)

pub returns-then-more-eq0 : goal.returns-then-more-eq0
returns-then-more-eq0 t c =
    let found : laws.Found c.args.text.now.now c.args.row c.column-code.result c.arity_of-n.result c.loop-i.i
    c.argument_of-sort.result.0 c.column-x.result c.is_row.result
    = record { less = c.loop-i-test.true; number_is = c.column-x.ensures; sort_is = c.argument_of-sort.ensures; told = c.is_row.ensures } in
    laws.copying_stops c.loop-i.invariant found c.if-not-is_row.false c.copy_row-more.ensures c.if-more-eq0.true

pub offset_bounds-args-i : goal.offset_bounds-args-i
offset_bounds-args-i t c = omega (arith, laws.argument_place c.loop-i.invariant c.loop-i-test.true)

pub bounds-args-i : goal.bounds-args-i
bounds-args-i t c = laws.argument_place c.loop-i.invariant c.loop-i-test.true

pub loop-i-preserved : goal.loop-i-preserved
loop-i-preserved t c =
    let found : laws.Found c.args.text.now.now c.args.row c.column-code.result c.arity_of-n.result c.loop-i.i
    c.argument_of-sort.result.0 c.column-x.result c.is_row.result
    = record { less = c.loop-i-test.true; number_is = c.column-x.ensures; sort_is = c.argument_of-sort.ensures; told = c.is_row.ensures } in
    laws.copying_row c.loop-i.invariant found c.if-not-is_row.false c.copy_row-more.ensures c.if-more-eq0.false
    (search rules)

pub value_of-requires : goal.value_of-requires
value_of-requires t c =
    let found : laws.Found c.args.text.now.now c.args.row c.column-code.result c.arity_of-n.result c.loop-i.i
    c.argument_of-sort.result.0 c.column-x.result c.is_row.result
    = record { less = c.loop-i-test.true; number_is = c.column-x.ensures; sort_is = c.argument_of-sort.ensures; told = c.is_row.ensures } in
    laws.argument_small c.loop-i.invariant found c.requires

pub offset_bounds-args-i-in-loop-i : goal.offset_bounds-args-i-in-loop-i
offset_bounds-args-i-in-loop-i t c = omega (arith, laws.argument_place c.loop-i.invariant c.loop-i-test.true)

pub bounds-args-i-in-loop-i : goal.bounds-args-i-in-loop-i
bounds-args-i-in-loop-i t c = laws.argument_place c.loop-i.invariant c.loop-i-test.true

pub loop-i-preserved-then-not-is_row : goal.loop-i-preserved-then-not-is_row
loop-i-preserved-then-not-is_row t c =
    let found : laws.Found c.args.text.now.now c.args.row c.column-code.result c.arity_of-n.result c.loop-i.i
    c.argument_of-sort.result.0 c.column-x.result c.is_row.result
    = record { less = c.loop-i-test.true; number_is = c.column-x.ensures; sort_is = c.argument_of-sort.ensures; told = c.is_row.ensures } in
    laws.copying_value c.loop-i.invariant found c.if-not-is_row.true c.value_of.ensures

pub returns-then-rows_of-count : goal.returns-then-rows_of-count
returns-then-rows_of-count t c = search laws.copying_full

pub returns : goal.returns
returns t c = search laws.copying_made
