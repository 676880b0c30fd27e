-- Refusals by document 01's numbers, and what the number and values of an answer and of a verdict are.
-- Document 01, "Causes, by number".
use Rattle.std.specs.Prelude.{ℕ, Result, Ok, Err}
use Rattle.answers.specs.declared.Refusal.{Refusal}
use Rattle.answers.specs.declared.Accepted.{Accepted}

-- what a check answers, and what an expansion does
abbrev pub Verdict : Type 0
Verdict = Result (Unit {0}) Refusal

abbrev pub Answer : Type 0
Answer = Result Accepted Refusal

-- an acceptance, by its three counts
abbrev pub accepted : ℕ → ℕ → ℕ → Answer
accepted cells constructors size = Ok (record { cells = cells; constructors = constructors; length = size })

-- refusal `number` with the values a, b and c
abbrev pub refusal : ℕ → ℕ → ℕ → ℕ → Refusal
refusal number a b c = record { number = number; a = a; b = b; c = c }

-- an answer as document 01's number and three values: acceptance is 0, with cells, constructors and text length
abbrev pub numbered : Answer → Refusal
numbered (Ok made) = refusal 0 made.cells made.constructors made.length
numbered (Err r) = r

-- the verdict of a table's check so: a table that passes is 0
abbrev pub numbered_verdict : Verdict → Refusal
numbered_verdict (Ok tt) = refusal 0 0 0 0
numbered_verdict (Err r) = r
