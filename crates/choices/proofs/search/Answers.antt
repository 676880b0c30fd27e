-- `search`: where the first set of the nonterminal has the kind, a production that opens by it, else the nullable place.
use mathlib.Core.Path.{sym}
use native.Mathlib.Omega.{arith}
use Rattle.choices.proofs.ChoiceLaws as laws
use Rattle.choices.proofs.search.Goals as goal

pub returns-then-opens : goal.returns-then-opens
returns-then-opens c =
    λ P bs h.
    let pre = c.requires in
    let tested = sym (rw c.first_set.ensures at c.has_kind-opens.ensures) in
    let opened_is = c.opened.ensures P bs h in
    laws.place_opened h pre.1 pre.2 opened_is (rw opened_is (laws.opens_some h pre.1 _ tested c.if-opens.true))

pub returns-else-opens : goal.returns-else-opens
returns-else-opens c =
    λ P bs h.
    let pre = c.requires in
    let tested = sym (rw c.first_set.ensures at c.has_kind-opens.ensures) in
    laws.place_nullable h pre.1 pre.2 (laws.opens_none h pre.1 _ tested c.if-opens.false) (omega arith) c.nullable_place.ensures
