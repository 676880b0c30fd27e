-- `enter_leading`: the fields entered and those left are those asked for.
use Prim.Native.Nat.{◌+◌, ◌-◌}
use mathlib.Core.Path.{◌≡◌, sym, ◌∙◌}
use mathlib.Core.Logic.{inl, inr}
use native.Mathlib.Omega.{arith}
use Rattle.grammar.specs.declared.Front.TheVariants.{Nothing, Short, Field}
use Rattle.keywords.proofs.KeptLaws.{kept_less}
use Rattle.lexicon.proofs.LexiconLaws as laws
use Rattle.lexicon.proofs.enter_leading.Goals as goal

pub returns-in-Nothing : goal.returns-in-Nothing
returns-in-Nothing c =
    elim c.in-Nothing.is [
      | inl e ↦ laws.entering_stop c.loop-e.invariant Nothing (sym e ∙ c.front_at-front.ensures) tt
      | inr e ↦ laws.entering_stop c.loop-e.invariant Short (sym e ∙ c.front_at-front.ensures) tt
    ]

pub returns-then-t-tag : goal.returns-then-t-tag
returns-then-t-tag c =
    laws.entering_stop c.loop-e.invariant (Field _ _) (sym c.in-Field.is ∙ c.front_at-front.ensures)
    c.if-t-tag.true

pub overflow_add-at : goal.overflow_add-at
overflow_add-at c =
    omega (arith, laws.field_fits c.loop-e.invariant (sym c.in-Field.is ∙ c.front_at-front.ensures))

pub enter-requires : goal.enter-requires
enter-requires c =
    let inv = c.loop-e.invariant in
    let args = c.args in (
      laws.entering_one inv c.loop-e-test.true,
      omega (
        arith,
        laws.field_fits inv (sym c.in-Field.is ∙ c.front_at-front.ensures),
        kept_less args.every args.kinds (c.loop-e.e - args.first) c.in-Field.size c.kept_size-kept.ensures,
      ),
    )

pub overflow_add-at-in-Field : goal.overflow_add-at-in-Field
overflow_add-at-in-Field c =
    omega (arith, laws.field_fits c.loop-e.invariant (sym c.in-Field.is ∙ c.front_at-front.ensures))

pub overflow_add-at-in-Field-2 : goal.overflow_add-at-in-Field-2
overflow_add-at-in-Field-2 c =
    omega (arith, laws.field_fits c.loop-e.invariant (sym c.in-Field.is ∙ c.front_at-front.ensures))

pub loop-e-preserved : goal.loop-e-preserved
loop-e-preserved c =
    laws.entering_next c.loop-e.invariant c.loop-e-test.true
    (sym c.in-Field.is ∙ c.front_at-front.ensures)
    c.if-t-tag.false
    c.kept_size-kept.ensures
    c.enter.ensures.room_after
    c.enter.ensures.spelled

pub returns : goal.returns
returns c =
    let end : c.args.first + c.args.most ≡ c.loop-e.e = omega (arith, c.loop-e.invariant.upto) in
    rw end (laws.entering_end c.loop-e.invariant c.loop-e-test.false)
