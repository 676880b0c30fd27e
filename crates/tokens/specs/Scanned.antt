-- What a scan answers.
use Rattle.std.specs.Prelude.{ℕ, Result}
use Rattle.answers.specs.declared.Refusal.{Refusal}

-- how many tokens there are, and how many words that are neither keywords nor outside names; or a refusal
abbrev pub Scanned : Type 0
Scanned = Result (ℕ × ℕ) Refusal
