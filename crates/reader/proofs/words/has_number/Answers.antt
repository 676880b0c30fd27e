-- `has_number`: a number among the kinds of the tokens.
use Prim.Native.Nat.{◌*◌}
use mathlib.Core.Path.{refl, ◌∙◌}
use native.Mathlib.Nat.{sub-zero}
use lib.Dec.{eqb}
use lib.ListN.{get_or}
use Rattle.std.proofs.Common.{rules, tests}
use Rattle.std.proofs.lemmas.Iterator.{YieldsList-from_range}
use Rattle.std.proofs.lemmas.Iterator.Search.{any_from_yields_List}
use Rattle.kinds.specs.Kinds.{number_kind}
use Rattle.steps.specs.Steps.{token_count}
use Rattle.reader.proofs.WordLaws as laws
use Rattle.reader.proofs.words.has_number.Goals as goal

pub returns : goal.returns
returns c =
    let tokens = c.args.tokens.now in
    let count = token_count tokens in
    any_from_yields_List (λ i. eqb (get_or tokens (i * 4) 0) number_kind) _ _ _ c.any.ensures.ran (YieldsList-from_range 0 count count refl (sub-zero count))
    (λ x b q k. search (rules, tests))
    ∙ laws.any_number tokens count 0
