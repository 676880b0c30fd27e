-- `same_text`: the text begins with the one expected, and the rest is as it was.
use mathlib.Core.Path.{sym, ap, ◌∙◌}
use borrow.Author.Rules.{rules}
use borrow.Author.Tests.{tests}
use lib.Dec.{eqb}
use Rattle.std.specs.Cmp.Lexicographic.{same_text, other_text}
use Rattle.std.specs.List.{list_all}
use Rattle.std.proofs.lemmas.Iterator.{YieldsList-from_slice}
use Rattle.std.proofs.lemmas.Iterator.Search.{all_from_yields_List}
use Rattle.cases.specs.Cases.{untouched_byte}
use Rattle.cases.proofs.CaseLaws.{left_front, left_other}
use Rattle.cases.proofs.contents.same_text.Goals as goal

pub returns-in_default : goal.returns-in_default
returns-in_default c = left_other _ _ _ (other_text _ _ (sym c.in_default.ensures.cases))

pub returns : goal.returns
returns c =
    let (front, rest, long) = c.in-Some.ensures.cases in
    let all =
    all_from_yields_List (λ b. eqb b untouched_byte) _ _ c.all.result c.all.ensures.ran (YieldsList-from_slice c.in-Some.rest.now cc)
    (λ x b q k. search (rules, tests))
    in
    left_front _ _ _ (same_text _ _ (sym front)) (all ∙ ap (list_all (λ b. eqb b untouched_byte)) rest)
