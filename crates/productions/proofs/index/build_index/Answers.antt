-- `build_index`: the fields that are left give what all of them give.
use native.Mathlib.Omega.{arith}
use Rattle.grammar.proofs.LookupLaws.{field_lies}
use Rattle.productions.proofs.IndexLaws as laws
use Rattle.productions.proofs.index.build_index.Goals as goal

pub loop-at-init : goal.loop-at-init
loop-at-init c = search laws.building_start

pub slice_bounds-byte-count : goal.slice_bounds-byte-count
slice_bounds-byte-count c = omega (arith, field_lies _ _ c.field_at-field.ensures)

pub slice_bounds-byte-start : goal.slice_bounds-byte-start
slice_bounds-byte-start c = omega (arith, field_lies _ _ c.field_at-field.ensures)

pub slice_bounds-byte-end : goal.slice_bounds-byte-end
slice_bounds-byte-end c = omega (arith, field_lies _ _ c.field_at-field.ensures)

pub slice_bounds-redefine-count : goal.slice_bounds-redefine-count
slice_bounds-redefine-count c = omega (arith, field_lies _ _ c.field_at-field.ensures)

pub slice_bounds-redefine-start : goal.slice_bounds-redefine-start
slice_bounds-redefine-start c = omega (arith, field_lies _ _ c.field_at-field.ensures)

pub slice_bounds-redefine-end : goal.slice_bounds-redefine-end
slice_bounds-redefine-end c = omega (arith, field_lies _ _ c.field_at-field.ensures)

pub redefine-k-requires : goal.redefine-k-requires
redefine-k-requires c =
    omega (arith, laws.building_few c.loop-at.invariant)

pub overflow_cast-to : goal.overflow_cast-to
overflow_cast-to c = omega (arith, field_lies _ _ c.field_at-field.ensures, c.loop-at.invariant.short)

pub push-requires : goal.push-requires
push-requires c =
    omega (arith, laws.building_room c.loop-at.invariant c.field_at-field.ensures c.if-tag-eq-ALTERNATIVE_TAG.true)

pub overflow_add-k : goal.overflow_add-k
overflow_add-k c = omega (arith, laws.building_few c.loop-at.invariant)

pub loop-at-smaller-then-tag-eq-HEAD_TAG : goal.loop-at-smaller-then-tag-eq-HEAD_TAG
loop-at-smaller-then-tag-eq-HEAD_TAG c =
    omega (arith, (field_lies _ _ c.field_at-field.ensures).further c.loop-at-test.true, (field_lies _ _ c.field_at-field.ensures).inside)

pub loop-at-smaller-then-tag-eq-ALTERNATIVE_TAG : goal.loop-at-smaller-then-tag-eq-ALTERNATIVE_TAG
loop-at-smaller-then-tag-eq-ALTERNATIVE_TAG c =
    omega (arith, (field_lies _ _ c.field_at-field.ensures).further c.loop-at-test.true, (field_lies _ _ c.field_at-field.ensures).inside)

pub loop-at-smaller : goal.loop-at-smaller
loop-at-smaller c =
    omega (arith, (field_lies _ _ c.field_at-field.ensures).further c.loop-at-test.true, (field_lies _ _ c.field_at-field.ensures).inside)

pub loop-at-preserved : goal.loop-at-preserved
loop-at-preserved c = search laws.building_other

pub returns : goal.returns
returns c = search laws.building_end

pub loop-at-preserved-then-tag-eq-HEAD_TAG : goal.loop-at-preserved-then-tag-eq-HEAD_TAG
loop-at-preserved-then-tag-eq-HEAD_TAG c = search (laws.building_head, c.redefine-k.auto.owners, c.redefine-k.auto.starts)

pub loop-at-preserved-then-tag-eq-ALTERNATIVE_TAG : goal.loop-at-preserved-then-tag-eq-ALTERNATIVE_TAG
loop-at-preserved-then-tag-eq-ALTERNATIVE_TAG c = search (laws.building_alternative, c.push.auto.owners, c.push.auto.starts)
