-- `fill_outsides`: the names before the present field are stored, and the others stand from it on.
use mathlib.Core.Path.{sym, ◌∙◌}
use native.Mathlib.Omega.{arith}
use Rattle.grammar.specs.declared.Front.TheVariants.{Nothing, Short, Field}
use Rattle.grammar.proofs.LookupLaws.{front_inside}
use Rattle.writer.proofs.PoolLaws as laws
use Rattle.writer.proofs.pool.fill_outsides.Goals as goal

pub loop-i-init : goal.loop-i-init
loop-i-init c = laws.filling_start _ _ _ c.after_leading-at.ensures

pub returns-in-Nothing : goal.returns-in-Nothing
returns-in-Nothing c = laws.filling_out c.loop-i.invariant Nothing (sym c.in-Nothing.is ∙ c.front_at-front.ensures) tt

pub returns-in-Short : goal.returns-in-Short
returns-in-Short c = laws.filling_out c.loop-i.invariant Short (sym c.in-Short.is ∙ c.front_at-front.ensures) tt

pub returns-then-t-ne-OUTSIDE_TAG : goal.returns-then-t-ne-OUTSIDE_TAG
returns-then-t-ne-OUTSIDE_TAG c =
    laws.filling_out c.loop-i.invariant (Field _ _) (sym c.in-Field.is ∙ c.front_at-front.ensures) c.if-t-ne-OUTSIDE_TAG.true

pub overflow_add-from : goal.overflow_add-from
overflow_add-from c = omega (arith, front_inside _ c.loop-i.at (sym c.in-Field.is ∙ c.front_at-front.ensures))

pub store-requires-clause-s_len_bound : goal.store-requires-clause-s_len_bound
store-requires-clause-s_len_bound c = (
  laws.value_short c.loop-i.invariant c.loop-i-test.true (sym c.in-Field.is ∙ c.front_at-front.ensures)
      c.if-t-ne-OUTSIDE_TAG.false c.requires.by_index c.part.ensures,
  omega (arith, c.loop-i-test.true, c.loop-i.invariant.long, c.requires.spelling_room_in_bounds),
)

pub overflow_add-at : goal.overflow_add-at
overflow_add-at c = omega (arith, front_inside _ c.loop-i.at (sym c.in-Field.is ∙ c.front_at-front.ensures))

pub loop-i-preserved : goal.loop-i-preserved
loop-i-preserved c =
    laws.filling_next c.loop-i.invariant c.loop-i-test.true (sym c.in-Field.is ∙ c.front_at-front.ensures)
    c.if-t-ne-OUTSIDE_TAG.false c.part.ensures c.store.ensures

pub returns : goal.returns
returns c = search laws.filling_end
