-- `variable_at`: the digits behind `$`, and whether they are worth less than the count.
use mathlib.Core.Path.{sym, ◌∙◌}
use native.Mathlib.Omega.{arith}
use Rattle.scanner.proofs.MadeLaws.{digits_counted}
use Rattle.scanner.proofs.DollarLaws as laws
use Rattle.scanner.proofs.dollars.variable_at.Goals as goal

pub returns-then-count-eq0 : goal.returns-then-count-eq0
returns-then-count-eq0 c = search laws.none_is

pub returns-then-not-dollar : goal.returns-then-not-dollar
returns-then-not-dollar c = laws.plain_is _ _ (sym c.if-not-dollar.true ∙ c.is_dollar-dollar.ensures)

pub slice_bounds-value-end : goal.slice_bounds-value-end
slice_bounds-value-end c = search digits_counted

pub overflow_add-result : goal.overflow_add-result
overflow_add-result c =
    omega (arith, laws.digits_few c.args.text.now c.args.at c.digit_run-n.ensures c.requires.0)

pub returns-then-v-count : goal.returns-then-v-count
returns-then-v-count c =
    laws.named_is c.args.text.now c.args.at c.digit_run-n.ensures c.args.count
    (sym c.if-not-dollar.false ∙ c.is_dollar-dollar.ensures)
    c.in_ok-v.ensures
    (omega arith)

pub returns : goal.returns
returns c =
    laws.over_is c.args.text.now c.args.at c.digit_run-n.ensures c.args.count
    c.in_ok-v.ensures
    (omega arith)

pub returns-in_err-v : goal.returns-in_err-v
returns-in_err-v c =
    rw c.from_residual.ensures
    (laws.large_is c.args.text.now c.args.at c.digit_run-n.ensures c.args.count c.in_err-v.ensures c.requires.1)
