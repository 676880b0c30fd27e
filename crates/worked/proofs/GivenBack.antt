-- The example of document 02, C-13: the term rule is updated so that functions can't be written, and `fun` is then an ingredient.
use mathlib.Core.Path.{◌≡◌, refl}
use mathlib.Core.List.{List, [], ◌∷◌, map}
use Rattle.answers.specs.Refusals.{refusal}
use Rattle.worked.specs.House.{house, house_without_functions}
use Rattle.worked.specs.Computing.{computing}
use Rattle.worked.proofs.Listed.{Case, case, seen, expected}

-- Formulas under the house table and under the updated one.
pub cases : List Case
cases =
    case house "fun" (refusal 17 1 4 1) ""
    ∷ case house_without_functions "fun" (refusal 0 1 1 14) "mkTermVar(fun)"
    ∷ case house_without_functions "fun.fun" (refusal 0 2 2 29) "mkTermDot(mkTermVar(fun) fun)"
    ∷ case house_without_functions "fun(p)p" (refusal 18 4 0 0) ""
    ∷ []

-- Each has this answer and this text.
pub given_back : map seen cases ≡ map expected cases
unfolding seen expected cases computing
given_back = refl
