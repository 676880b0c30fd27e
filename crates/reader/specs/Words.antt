-- What the code gives that prepares the tokens of a text and its cells for a run. These definitions mirror code: nobody needs them to believe `expand`.
use Rattle.std.specs.Prelude.{ℕ, ◌≡◌, List, map, length, replicate}
use Rattle.steps.specs.Steps.{tokens_lent, LentTokens}
use Rattle.texts.specs.Reading.{as_outside}

-- each word of the tokens has the kind of an outside name
pub record MadeOutside (tokens tokens' : List ℕ) : Type 0 where
  pub outside : tokens_lent tokens' ≡ map as_outside (tokens_lent tokens)
  -- they fit if those did
  pub fit : LentTokens tokens → LentTokens tokens'

-- as many numbers, all zero
abbrev pub zeroed : List ℕ → List ℕ
zeroed cells = replicate (length cells) 0
