-- `number_step`: the digits at the front.
use mathlib.Core.Path.{sym, ◌∙◌}
use native.Mathlib.Omega.{arith}
use Rattle.scanner.proofs.MadeLaws as laws
use Rattle.scanner.proofs.number_step.Goals as goal

pub slice_bounds-value-end : goal.slice_bounds-value-end
slice_bounds-value-end c = search laws.digits_counted

pub overflow_cast-result-in-Some : goal.overflow_cast-result-in-Some
overflow_cast-result-in-Some c =
    omega (arith, laws.number_small c.args.formula.now c.args.at c.digit_run-n.ensures)

pub returns-in-Some : goal.returns-in-Some
returns-in-Some c =
    λ lex.
    laws.number_at c.args.formula.now c.args.at c.digit_run-n.ensures c.requires.2 lex
    (sym c.in-Some.is ∙ c.value-number.ensures)

pub returns-in-None : goal.returns-in-None
returns-in-None c =
    λ lex.
    laws.large_at c.args.formula.now c.args.at c.digit_run-n.ensures c.requires.2 lex
    (sym c.in-None.is ∙ c.value-number.ensures)
