-- `$` variables. Document 02, C-14: "text in which `$` directly before digits is that variable". A formula has none, so that each of its `$` is a symbol.
use Rattle.std.specs.Prelude.{ℕ, ◌+◌, ◌*◌, ◌<◌, ◌≡◌, Bool, true, not, ◌&&◌, ◌||◌, List, [], ◌∷◌}
use lib.{Dec.eqb, Dec.ltb, ListN.length, ListN.get_or, ListN.drop}
use Rattle.spellings.specs.Bytes.{is_digit, longest_run, value_of}
use Rattle.kinds.specs.TextKinds.{variable_kind}
use Rattle.terms.specs.Cells.{name_base}
use Rattle.tokens.specs.declared.Token.{Token}
use Rattle.tokens.specs.Tokens.{token}

-- the byte `$`
abbrev pub dollar : ℕ
dollar = 36

-- the digits directly behind the first byte, the longest run
abbrev pub dollar_digits : List ℕ → List ℕ
dollar_digits rest = longest_run is_digit (drop 1 rest)

-- `$` directly before a digit stands at the front
unfoldable pub is_dollar : List ℕ → Bool
is_dollar rest = eqb (get_or rest 0 0) dollar && is_digit (get_or rest 1 0)

-- and names one of `count` variables, numbered from 0; zeros in front of its number do not matter
unfoldable pub is_variable : ℕ → List ℕ → Bool
is_variable count rest = is_dollar rest && ltb (value_of (dollar_digits rest)) count

-- every `$` directly before a digit, wherever it stands, names one of `count` variables: none is part of a word or of a number
unfoldable pub dollars_below : ℕ → List ℕ → Bool
dollars_below count [] = true
dollars_below count (b ∷ bs) = (not (is_dollar (b ∷ bs)) || is_variable count (b ∷ bs)) && dollars_below count bs

-- the value of variable n: names of a class of their own
abbrev pub variable_name : ℕ → ℕ
variable_name n = 4 * name_base + n

-- the token of `$` and the digits s at the offset `at`, by the sorts of the variables
abbrev pub variable_token : List ℕ → ℕ → List ℕ → Token
variable_token sorts at s = token (variable_kind (get_or sorts (value_of s) 0)) at (1 + length s) (variable_name (value_of s))

-- ------------------------------------------------------------------ by rules

-- at the front stand `$` and the digits s, the longest run
pub record DollarFront (rest s : List ℕ) : Type 0 where
  pub begins : get_or rest 0 0 ≡ dollar
  pub digit : is_digit (get_or rest 1 0) ≡ true
  pub whole : s ≡ longest_run is_digit (drop 1 rest)

-- and name one of `count` variables
pub record VariableFront (count : ℕ) (rest s : List ℕ) : Type 0 where
  pub front : DollarFront rest s
  pub below : value_of s < count
