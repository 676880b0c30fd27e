-- `build_nested`: a loop over the constructors that are open. What is left of them gives what the template gives. The measure is the number of
-- bytes left, and under it the place of the innermost constructor's arguments.
use mathlib.Core.Path.{refl}
use native.Mathlib.Omega.{arith}
use Rattle.templates.proofs.BuildLaws as laws
use Rattle.templates.proofs.build_nested.Goals as goal

pub loop-top-init : goal.loop-top-init
loop-top-init c = search laws.building_start

pub overflow_sub-top : goal.overflow_sub-top
overflow_sub-top c = omega (arith, laws.building_pos c.loop-top.invariant.building)

pub head_at-head-requires : goal.head_at-head-requires
head_at-head-requires c = laws.building_ahead c.loop-top.invariant c.if-top-pos.true

pub loop-top-preserved-in-Leaf : goal.loop-top-preserved-in-Leaf
loop-top-preserved-in-Leaf c = search (laws.building_leaf, c.loop-top.invariant)

pub opening-requires-in-Node : goal.opening-requires-in-Node
opening-requires-in-Node c =
    let building = c.loop-top.invariant.building in
    omega (arith, laws.building_pos building, building.past, building.inside, c.requires.fits.small)

pub loop-top-preserved-in-Node : goal.loop-top-preserved-in-Node
loop-top-preserved-in-Node c = search (laws.building_node, c.loop-top.invariant)

pub returns-then-m-count : goal.returns-then-m-count
returns-then-m-count c =
    record { evaluates = laws.building_full c.loop-top.invariant c.if-top-pos.false c.if-m-count.true; behind = tt }

pub store_cell-around-requires : goal.store_cell-around-requires
store_cell-around-requires c =
    let building = c.loop-top.invariant.building in
    record {
      few = omega (arith, c.requires.fits.rows_fit.few);
      row_inside = omega (arith, c.requires.fits.rows_fit.rows_long, building.as_long);
      behind = (laws.building_pos building).0;
      inside = laws.building_fits c.loop-top.invariant c.if-top-pos.false;
    }

pub returns-then-around-eq0 : goal.returns-then-around-eq0
returns-then-around-eq0 c =
    laws.closing_made
    (laws.closing_of c.loop-top.invariant c.if-top-pos.false c.if-m-count.false c.store_cell-around.ensures.stored
    c.store_cell-around.auto.cells c.store_cell-around.ensures.around_is)
    c.if-around-eq0.true

pub overflow_sub-stack : goal.overflow_sub-stack
overflow_sub-stack c = omega (arith, laws.building_pos c.loop-top.invariant.building)

pub offset_bounds-stack-pos-else-top-pos : goal.offset_bounds-stack-pos-else-top-pos
offset_bounds-stack-pos-else-top-pos c =
    let building = c.loop-top.invariant.building in
    let closing =
    laws.closing_of c.loop-top.invariant c.if-top-pos.false c.if-m-count.false c.store_cell-around.ensures.stored
    c.store_cell-around.auto.cells c.store_cell-around.ensures.around_is
    in
    omega (arith, (laws.closing_next closing c.if-around-eq0.false).0, laws.building_pos building, building.past, building.inside, c.requires.fits.small)

pub bounds-stack-pos-else-top-pos : goal.bounds-stack-pos-else-top-pos
bounds-stack-pos-else-top-pos c =
    let closing =
    laws.closing_of c.loop-top.invariant c.if-top-pos.false c.if-m-count.false c.store_cell-around.ensures.stored
    c.store_cell-around.auto.cells c.store_cell-around.ensures.around_is
    in
    let next = (laws.closing_next closing c.if-around-eq0.false).1 in
    omega (arith, laws.building_pos next, next.stack_long)

pub loop-top-smaller : goal.loop-top-smaller
loop-top-smaller c =
    let closing =
    laws.closing_of c.loop-top.invariant c.if-top-pos.false c.if-m-count.false c.store_cell-around.ensures.stored
    c.store_cell-around.auto.cells c.store_cell-around.ensures.around_is
    in
    omega (arith, (laws.closing_next closing c.if-around-eq0.false).0)

pub loop-top-preserved : goal.loop-top-preserved
loop-top-preserved c =
    let closing =
    laws.closing_of c.loop-top.invariant c.if-top-pos.false c.if-m-count.false c.store_cell-around.ensures.stored
    c.store_cell-around.auto.cells c.store_cell-around.ensures.around_is
    in
    laws.looping_read {building = (laws.closing_next closing c.if-around-eq0.false).1}
    (record { number = refl; code_is = c.code_of.ensures })
    c.arity_of-n-else-top-pos.ensures
