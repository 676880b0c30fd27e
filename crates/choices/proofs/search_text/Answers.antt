-- `search_text`: an outside name as a word; a variable by an ide, then by a place, then the nullable place.
use Rattle.choices.proofs.ChoiceLaws as laws
use Rattle.choices.proofs.search_text.Goals as goal

pub returns-then-kind-eq-OUTSIDE_KIND : goal.returns-then-kind-eq-OUTSIDE_KIND
returns-then-kind-eq-OUTSIDE_KIND c = λ P bs h. laws.place_outside h _ c.if-kind-eq-OUTSIDE_KIND.true (c.search.ensures P bs h)

pub returns-then-by_ide-lt-NO_PLACE : goal.returns-then-by_ide-lt-NO_PLACE
returns-then-by_ide-lt-NO_PLACE c =
    λ P bs h.
    laws.place_ide h c.requires.1 c.requires.2 c.if-kind-eq-OUTSIDE_KIND.false (c.opened_by-by_ide.ensures P bs h) c.if-by_ide-lt-NO_PLACE.true

pub returns-then-by_place-lt-NO_PLACE : goal.returns-then-by_place-lt-NO_PLACE
returns-then-by_place-lt-NO_PLACE c =
    λ P bs h.
    laws.place_place h c.requires.1 c.requires.2 c.if-kind-eq-OUTSIDE_KIND.false (c.opened_by-by_ide.ensures P bs h)
    c.if-by_ide-lt-NO_PLACE.false (c.opened_by-by_place.ensures P bs h) c.if-by_place-lt-NO_PLACE.true

pub returns : goal.returns
returns c =
    λ P bs h.
    laws.place_left h c.requires.1 c.requires.2 c.if-kind-eq-OUTSIDE_KIND.false (c.opened_by-by_ide.ensures P bs h)
    c.if-by_ide-lt-NO_PLACE.false (c.opened_by-by_place.ensures P bs h) c.if-by_place-lt-NO_PLACE.false c.nullable_place.ensures
