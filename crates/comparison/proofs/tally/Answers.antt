-- `tally`: a file that is not whole is so whether cases are compared or not.
use mathlib.Core.Path.{sym, ◌∙◌}
use Rattle.std.proofs.lemmas.Result.{err_from_is_err_and}
use Rattle.cases.proofs.TallyLaws.{broken_either}
use Rattle.comparison.proofs.tally.Goals as goal

pub returns-in_err-tally_cases : goal.returns-in_err-tally_cases
returns-in_err-tally_cases g c =
    let p = err_from_is_err_and c.from_residual.result c.from_residual.ensures.1 in
    rw (p.1, p.2) (broken_either _ _ _ _ (sym c.in_err-tally_cases.was ∙ c.tally_cases.ensures))
