-- `is_head`: the length and the first two bytes, then the sorts.
use Rattle.std.proofs.Common.{rules, tests}
use Rattle.std.proofs.lemmas.Iterator.{YieldsList-from_slice}
use Rattle.std.proofs.lemmas.Iterator.Search.{all_from_yields_List}
use mathlib.Core.Path.{◌∙◌}
use mathlib.Core.Bool.{true, false}
use Rattle.grammar.specs.SortTests.{is_sort}
use Rattle.fields.proofs.Laws as laws
use Rattle.fields.proofs.is_head.Goals as goal

pub returns-then-sized : goal.returns-then-sized
returns-then-sized c =
    let sorts = all_from_yields_List is_sort _ _ c.all.result c.all.ensures.ran (YieldsList-from_slice _ c.iter.ensures.rest)
    (λ x b q k. search (rules, tests)) in
    laws.head_sorts c.args.v.now sorts ∙ laws.head_by _ c.byte.ensures c.byte-2.ensures true c.if-sized.true

pub returns-else-sized : goal.returns-else-sized
returns-else-sized c = c.if-sized.false ∙ laws.head_by _ c.byte.ensures c.byte-2.ensures false c.if-sized.false
