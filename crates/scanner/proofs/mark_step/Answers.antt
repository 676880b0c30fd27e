-- `mark_step`: by the class of the byte.
use mathlib.Core.Path.{sym, ◌∙◌}
use native.Mathlib.Omega.{arith}
use Rattle.scanner.proofs.MadeLaws as laws
use Rattle.scanner.proofs.DollarLaws.{other_symbol}
use Rattle.scanner.proofs.mark_step.Goals as goal

pub returns-then-is_separator : goal.returns-then-is_separator
returns-then-is_separator c =
    laws.separator_at c.args.formula.now c.args.at (sym c.is_separator.ensures ∙ c.if-is_separator.true)

pub number_step-requires : goal.number_step-requires
number_step-requires c = (omega arith, omega arith, sym c.is_digit.ensures ∙ c.if-is_digit.true)

pub returns-then-is_digit : goal.returns-then-is_digit
returns-then-is_digit c = c.number_step.ensures _

pub dollar_step-requires : goal.dollar_step-requires
dollar_step-requires c = record { lexical_in = (c.requires.lexical_in.0, c.if-b-eq-DOLLAR.true); at_in_bounds = (omega arith, omega arith) }

pub symbol_step-requires : goal.symbol_step-requires
symbol_step-requires c =
    (c.requires.lexical_in.0, other_symbol _ (omega arith) (omega arith) (sym c.is_symbol.ensures ∙ c.if-is_symbol.true) c.if-b-eq-DOLLAR.false)

pub returns : goal.returns
returns c =
    laws.bad_at c.args.formula.now c.args.at (sym c.is_separator.ensures ∙ c.if-is_separator.false)
    c.requires.lexical_in.1
    (sym c.is_digit.ensures ∙ c.if-is_digit.false)
    (sym c.is_symbol.ensures ∙ c.if-is_symbol.false)
