-- `held_by`: an outside name holds itself, any other name nothing.
use mathlib.Core.Path.{sym, ◌∙◌}
use Rattle.scopes.proofs.NameLaws.{class_word, class_fresh, class_outside}
use Rattle.scopes.proofs.marks.held_by.Goals as goal

pub returns-in-1 : goal.returns-in-1
returns-in-1 c = sym (class_word _ _ _ _ c.in-1.is)

pub returns-in-2 : goal.returns-in-2
returns-in-2 c = sym (class_fresh _ _ _ _ c.in-2.is)

pub returns-in_default : goal.returns-in_default
returns-in_default c =
    c.set_of_kind.ensures ∙ sym (class_outside _ _ _ _ c.in_default.in_default-own.rest.0.1 c.in_default.in_default-own.rest.1)
