-- `binder_mark`: a name of the formula is renamed if it is an outside name that the body holds, any other always.
use mathlib.Core.Path.{sym, ◌∙◌}
use mathlib.Core.Bool.{true, false}
use Rattle.scopes.specs.Marks.{binder_mark}
use Rattle.scopes.proofs.NameLaws.{near_mark, far_mark, other_mark}
use Rattle.scopes.proofs.marks.binder_mark.Goals as goal
use Rattle.scopes.proofs.marks.binder_mark.Goals.{else-n-lt-OUTSIDES-via-then-n-lt-OUTSIDES+else-has, else-n-lt-OUTSIDES-via-else-n-lt-OUTSIDES}

pub returns-then-class-ne-WORD_CLASS : goal.returns-then-class-ne-WORD_CLASS
returns-then-class-ne-WORD_CLASS c = other_mark _ _ c.if-class-ne-WORD_CLASS.true

pub returns-then-has : goal.returns-then-has
unfolding binder_mark
returns-then-has c =
    near_mark _ _ c.if-class-ne-WORD_CLASS.false c.if-n-lt-OUTSIDES.true true (sym c.if-has.true ∙ c.has.ensures)

pub returns-else-n-lt-OUTSIDES : goal.returns-else-n-lt-OUTSIDES
unfolding binder_mark
returns-else-n-lt-OUTSIDES c =
    elim c.else-n-lt-OUTSIDES.branch [
      | else-n-lt-OUTSIDES-via-then-n-lt-OUTSIDES+else-has w ↦
          near_mark _ _ c.if-class-ne-WORD_CLASS.false w.if-n-lt-OUTSIDES.true false (sym w.if-has.false ∙ w.has.ensures)
      | else-n-lt-OUTSIDES-via-else-n-lt-OUTSIDES w ↦ far_mark _ _ c.if-class-ne-WORD_CLASS.false w.if-n-lt-OUTSIDES.false
    ]
