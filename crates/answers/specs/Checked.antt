-- What a check gives: a value, or the first refusal. Checks are done in order: `do` goes on only after what passed.
use Rattle.std.specs.Prelude.{ℕ, Bool, true, false, Ok, Err}
use Rattle.answers.specs.declared.Refusal.{Refusal}
use Rattle.answers.specs.Refusals.{Verdict, refusal}

infixl 15 ◌>>=◌ ◌>>◌
pub data Checked (A : Type 0) : Type 0 where
  ok : A → Checked A
  bad : Refusal → Checked A

abbrev pub ◌>>=◌ : {A B : Type 0} → Checked A → (A → Checked B) → Checked B
◌>>=◌ (ok a) k = k a
◌>>=◌ (bad r) k = bad r

abbrev pub ◌>>◌ : {A B : Type 0} → Checked A → Checked B → Checked B
◌>>◌ (ok a) k = k
◌>>◌ (bad r) k = bad r

-- the test, or refusal n at a place
abbrev pub need : Bool → ℕ → ℕ → Checked (Unit {0})
need true n at = ok tt
need false n at = bad (refusal n at 0 0)

-- the answer of a check whose value is not asked for
abbrev pub verdict : {A : Type 0} → Checked A → Verdict
verdict (ok a) = Ok tt
verdict (bad r) = Err r
