-- What the code finds where `$` may stand. Nobody needs these definitions to believe `scan`: its contract does not cite them.
use Rattle.std.specs.Prelude.{ℕ, ◌+◌, Bool, true, false, not, ◌||◌, List, length, Option, Some, None}
use Rattle.spellings.specs.Bytes.{value_of}
use Rattle.tokens.specs.Variables.{dollar_digits, is_dollar, is_variable}

-- the variable at the front, by its number, with the bytes of its token
abbrev pub variable_of : ℕ → List ℕ → Option (ℕ × ℕ)
variable_of count rest =
    elim (is_variable count rest) [ true ↦ Some (value_of (dollar_digits rest), length (dollar_digits rest) + 1) | false ↦ None ]

-- what stands at the front is one of `count` variables, or no `$` before a digit
abbrev pub is_named : ℕ → List ℕ → Bool
is_named count rest = not (is_dollar rest) || is_variable count rest
