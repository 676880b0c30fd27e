-- What refusals 12 and 13 say of a normalized grammar, by the rules. Document 01, "Causes, by number" and the order of the checks under it.
use Rattle.std.specs.Prelude.{ℕ, ◌≡◌, ◌⊎◌, List}
use Rattle.answers.specs.declared.Refusal.{Refusal}
use Rattle.answers.specs.Refusals.{refusal}
use Rattle.answers.specs.Checked.{Checked, ok, bad}
use Rattle.productions.specs.Normal.{Production}
use Rattle.clashes.specs.Clashes.{Clashes, Never, Lowest, LeftRecursive}
use Rattle.clashes.specs.Named.{Names}

-- 12: the lowest nonterminal that reaches itself
pub record Says12 (g : List Production) (r : Refusal) : Type 0 where
  pub nonterminal : ℕ
  pub answer : r ≡ refusal 12 nonterminal 0 0
  pub lowest : Lowest (LeftRecursive g) nonterminal

-- 13: nothing for 12, the lowest nonterminal of which two productions clash, and what any two of it share
pub record Says13 (g : List Production) (r : Refusal) : Type 0 where
  pub nonterminal : ℕ
  pub kind : ℕ
  pub answer : r ≡ refusal 13 nonterminal kind 0
  pub earlier : Never (LeftRecursive g)
  pub lowest : Lowest (Clashes g) nonterminal
  pub shared : Names g nonterminal kind

-- what a result of the check says of the grammar
abbrev pub Says : List Production → Checked (Unit {0}) → Type 0
Says g (ok u) = Never (LeftRecursive g) × Never (Clashes g)
Says g (bad r) = Says12 g r ⊎ Says13 g r
