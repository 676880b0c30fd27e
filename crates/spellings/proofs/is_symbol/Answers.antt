-- `is_symbol`: the test of its class, over the tests for letters and digits.
use Rattle.spellings.proofs.is_symbol.Goals as goal

pub returns : goal.returns
returns c =
    cc (c.is_letter.ensures, c.is_digit.ensures)
