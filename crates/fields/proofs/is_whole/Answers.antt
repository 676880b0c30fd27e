-- `is_whole`: by the tag.
use mathlib.Core.Path.{sym, ◌∙◌}
use mathlib.Core.Bool.{◌||◌, not}
use lib.Dec.{eqb}
use Rattle.fields.proofs.Laws as laws
use Rattle.fields.proofs.is_whole.Goals as goal

pub returns-then-tag-eq-ITEM_TAG : goal.returns-then-tag-eq-ITEM_TAG
returns-then-tag-eq-ITEM_TAG c =
    let p = c in
    (λ i. not (eqb (p.byte.ensures i) 4) || c.are_templates.ensures i) ∙ sym (laws.whole_item _ _ p.if-tag-eq-ITEM_TAG.true)

pub returns-then-tag-eq-RESULT_TAG : goal.returns-then-tag-eq-RESULT_TAG
returns-then-tag-eq-RESULT_TAG c = search laws.whole_result

pub returns : goal.returns
returns c = search laws.whole_other
