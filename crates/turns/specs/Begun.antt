-- How a call begins.
use Rattle.std.specs.Prelude.{Result}
use Rattle.answers.specs.declared.Refusal.{Refusal}
use Rattle.expansion.specs.declared.State.{State}
use Rattle.steps.specs.declared.Activation.{Activation}

-- a production is entered, or the call refuses
abbrev pub Begun : Type 0
Begun = Result (Activation × State) Refusal
