-- What is proved of refusals 12 and 13, for every list of productions g. Document 01, "Phrase table" and "Causes, by number". The check is that
-- of specs/CheckFirsts; what it says is given by the rules of specs/Clashes and specs/FirstRefusals.
use Prim.Native.Nat.{ℕ}
use mathlib.Core.Path.{◌≡◌}
use mathlib.Core.Logic.{◌↔◌}
use mathlib.Core.List.{List}
use Rattle.answers.specs.Refusals.{refusal}
use Rattle.answers.specs.Checked.{Checked, ok, bad}
use Rattle.productions.specs.Normal.{Production}
use Rattle.firsts.specs.Patterns.{ReadsPlace}
use Rattle.firsts.specs.Rules.{Of, NullItems, First, Reads}
use Rattle.clashes.specs.CheckFirsts.{check_firsts}
use Rattle.clashes.specs.FirstRefusals.{Says}
use Rattle.clashes.specs.Named.{Names}
use Rattle.clashes.specs.Clashes.{Clashes, Never, Lowest, LeftRecursive}
use Rattle.clashes.proofs.Refusals.{check_exactly, given_12, given_13, some_12, some_13}
use Rattle.clashes.proofs.OneChoice.{one_opened, one_placed, one_nullable}

module _ (g : List Production) where
  -- 1. The check passes exactly if no nonterminal reaches itself by left calls and no two productions of one nonterminal, at different
  -- places of g, share a kind or the sort of a pattern place, or are both nullable.
  pub passes_exactly : (check_firsts g ≡ ok tt) ↔ (Never (LeftRecursive g) × Never (Clashes g))
  passes_exactly = check_exactly g (ok tt)

  -- 2. Refusal 12 is given exactly if some nonterminal reaches itself.
  pub left_recursion_exactly : ((nonterminal : ℕ) × (check_firsts g ≡ bad (refusal 12 nonterminal 0 0))) ↔ ((nonterminal : ℕ) × LeftRecursive g nonterminal)
  left_recursion_exactly = some_12 g

  -- 3. Its nonterminal is the lowest that does.
  pub left_recursion_lowest : (nonterminal : ℕ) → (check_firsts g ≡ bad (refusal 12 nonterminal 0 0)) ↔ Lowest (LeftRecursive g) nonterminal
  left_recursion_lowest = given_12 g

  -- 4. Refusal 13 is given exactly if none reaches itself and two productions of some nonterminal clash.
  pub clash_exactly : ((nonterminal : ℕ) × (kind : ℕ) × (check_firsts g ≡ bad (refusal 13 nonterminal kind 0)))
      ↔ (Never (LeftRecursive g) × ((nonterminal : ℕ) × Clashes g nonterminal))
  clash_exactly = some_13 g

  -- 5. Its nonterminal is the lowest such one, and its kind the lowest that any two productions of that one share; else 65 plus the lowest sort of a pattern
  -- place that they share; 64 if they share neither.
  pub clash_lowest : (nonterminal kind : ℕ)
      → (check_firsts g ≡ bad (refusal 13 nonterminal kind 0))
      ↔ (Never (LeftRecursive g) × Lowest (Clashes g) nonterminal × Names g nonterminal kind)
  clash_lowest = given_13 g

  -- 6. Nothing else is given: the result is the one that says what holds of g, a pass, a 12 or a 13.
  pub result_exactly : (checked : Checked (Unit {0})) → (check_firsts g ≡ checked) ↔ Says g checked
  result_exactly = check_exactly g

  -- 7. In a grammar that passes, one kind opens at most one production of a nonterminal, at most one opens with a pattern place of one sort, and at most one
  -- is nullable.
  pub one_production : check_firsts g ≡ ok tt → (nonterminal : ℕ) (p other : Production) → Of g nonterminal p → Of g nonterminal other
      → ((kind : ℕ) → First g Reads p.items kind → First g Reads other.items kind → p ≡ other)
      × ((sort : ℕ) → First g ReadsPlace p.items sort → First g ReadsPlace other.items sort → p ≡ other)
      × (NullItems g p.items → NullItems g other.items → p ≡ other)
  one_production e nonterminal p other o k =
      let none : Never (Clashes g) = (passes_exactly.0 e).1 in (λ b. one_opened g none o k, λ s. one_placed g none o k, one_nullable g none o k)
