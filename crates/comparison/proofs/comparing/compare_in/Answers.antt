-- `compare_in`: first the answer, then the cells and the text.
use Rattle.comparison.proofs.ComparingLaws.{judged_other, judged_same, judged_rooms}
use Rattle.comparison.proofs.comparing.compare_in.Goals as goal

pub returns-then-not-same : goal.returns-then-not-same
returns-then-not-same c =
    judged_other _ _ c.expand_case.ensures c.numbered-found.ensures c.same.ensures c.if-not-same.true

pub returns-then-left_as_expected : goal.returns-then-left_as_expected
returns-then-left_as_expected c =
    judged_same _ _ c.expand_case.ensures c.numbered-found.ensures c.same.ensures c.if-not-same.false
    c.left_as_expected.ensures c.if-left_as_expected.true

pub returns : goal.returns
returns c =
    judged_rooms _ _ c.expand_case.ensures c.numbered-found.ensures c.same.ensures c.if-not-same.false
    c.left_as_expected.ensures c.if-left_as_expected.false
