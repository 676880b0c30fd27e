-- `variable_mark`: the class of the name decides.
use mathlib.Core.Path.{refl, sym, ◌∙◌}
use Rattle.scopes.proofs.NameLaws.{class_word, class_outside, loose_mark, bound_mark}
use Rattle.scopes.proofs.marks.variable_mark.Goals as goal

pub returns-then-inner-eq0 : goal.returns-then-inner-eq0
returns-then-inner-eq0 c =
    (loose_mark _ c.in-2.is (sym c.binder_of-inner.ensures.0 ∙ c.if-inner-eq0.true), c.binder_of-inner.ensures.1)

pub returns-in-1 : goal.returns-in-1
returns-in-1 c =
    (c.binder_of.ensures.0 ∙ sym (class_word _ _ _ _ c.in-1.is), c.binder_of.ensures.1)

pub returns-else-inner-eq0 : goal.returns-else-inner-eq0
returns-else-inner-eq0 c =
    let is = c.binder_of-inner.ensures.0 in
    (is ∙ bound_mark _ c.in-2.is (λ z. c.if-inner-eq0.false (is ∙ z)), c.binder_of-inner.ensures.1)

pub returns-in_default : goal.returns-in_default
returns-in_default c = (sym (class_outside _ _ _ _ c.in_default.in_default-own.rest.0.1 c.in_default.in_default-own.rest.1), refl)
