-- A computation that moves the state of an expansion and makes cells, or halts with a refusal; cells made stay.
use Rattle.std.specs.Prelude.{ℕ, List}
use Rattle.answers.specs.declared.Refusal.{Refusal}
use Rattle.expansion.specs.declared.State.{State}

infixl 15 ◌>>=◌
-- a value with the state and the cells after it, or a refusal with the cells then made
pub data Result (A : Type 0) : Type 0 where
  done : A → State → List ℕ → Result A
  halt : Refusal → List ℕ → Result A

abbrev pub Run : Type 0 → Type 0
Run A = State → List ℕ → Result A

abbrev pub return : {A : Type 0} → A → Run A
return a s cells = done a s cells

abbrev pub after : {A B : Type 0} → Result A → (A → Run B) → Result B
after (done a s cells) k = k a s cells
after (halt r cells) k = halt r cells

abbrev pub ◌>>=◌ : {A B : Type 0} → Run A → (A → Run B) → Run B
◌>>=◌ m k s cells = after (m s cells) k
