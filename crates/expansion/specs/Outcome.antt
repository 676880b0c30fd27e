-- What a call answers.
use Rattle.std.specs.Prelude.{ℕ, Result}
use Rattle.answers.specs.declared.Refusal.{Refusal}
use Rattle.expansion.specs.declared.State.{State}

-- a value and where the expansion then stands, or a refusal
abbrev pub Outcome : Type 0
Outcome = Result (ℕ × State) Refusal
