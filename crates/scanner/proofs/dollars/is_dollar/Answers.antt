-- `is_dollar`: the byte, and the one behind it.
use mathlib.Core.Path.{◌∙◌}
use Rattle.scanner.proofs.DollarLaws as laws
use Rattle.scanner.proofs.dollars.is_dollar.Goals as goal

pub returns-then-text-at-ne-DOLLAR : goal.returns-then-text-at-ne-DOLLAR
returns-then-text-at-ne-DOLLAR c = search laws.other_byte

pub returns-then-next-text : goal.returns-then-next-text
returns-then-next-text c = search laws.last_byte

pub returns : goal.returns
returns c = c.is_digit.ensures ∙ search laws.next_byte
