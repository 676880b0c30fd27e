-- `is_spelled`: by the tag.
use mathlib.Core.Path.{sym, ◌∙◌}
use mathlib.Core.Bool.{◌&&◌, not}
use Rattle.layout.proofs.IndexLaws.{repeated_among}
use Rattle.fields.proofs.Laws as laws
use Rattle.layout.proofs.is_spelled.Goals as goal

pub returns-in-1 : goal.returns-in-1
returns-in-1 c =
    λ before k o. (λ i. c.is_keyword_spelling.ensures i && not ((c.is_among.ensures _ k ∙ repeated_among 1 _ before) i))
    ∙ sym (laws.spelled_keyword _ _ before c.in-1.is)

pub returns-in-2 : goal.returns-in-2
returns-in-2 c =
    λ before k o. (λ i. c.is_word.ensures i && not ((c.is_among-in-2.ensures _ o ∙ repeated_among 2 _ before) i))
    ∙ sym (laws.spelled_outside _ _ before c.in-2.is)

pub returns-in_default : goal.returns-in_default
returns-in_default c = search laws.spelled_other
