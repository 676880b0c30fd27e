-- What a call takes, whatever the next token is, is a production of its nonterminal.
use Prim.Native.Nat.{ℕ, ◌<◌}
use mathlib.Core.Path.{◌≡◌, refl, ◌∙◌}
use mathlib.Core.Bool.{Bool}
use mathlib.Core.Logic.{◌⊎◌, inl, inr}
use mathlib.Core.List.{List, map}
use Rattle.grammar.specs.Table.{Item}
use Rattle.productions.specs.Normal.{Production}
use Rattle.firsts.specs.Rules.{Of}
use Rattle.expansion.specs.TextTokens.{is_opened, is_placed}
use Rattle.expansion.specs.Expansion.{Rule, ready_for, Choice, unfit, chosen, first_rule, choice}
use Rattle.expansion.proofs.Choosing.{Found, Missing, first_rule_lem, rule}

-- the rule of a production of a nonterminal, or none
pub data Chosen (g : List Production) (n : ℕ) (given_choice : Choice) : Type 0 where
  of_production : (p : Production) → Of g n p → given_choice ≡ chosen (rule g p) → Chosen g n given_choice
  none_chosen : given_choice ≡ unfit → Chosen g n given_choice

-- by three searches: what opens with the token, what has a place for it, what is nullable
pub choice_of : (patterns : List Item → ℕ) (g : List Production) (n : ℕ) → n < 64 → (kind : ℕ) → Chosen g n (choice (ready_for patterns g) n kind)
unfolding ready_for
choice_of patterns g n l kind =
    go (first_rule_lem (rule g) (λ p. refl) opens n (first_rule places n (map (rule g) g) last) g) (first_rule_lem (rule g) (λ p. refl) places n last g)
    (first_rule_lem (rule g) (λ p. refl) (λ r. r.nullable) n unfit g)
  where
    opens : Rule → Bool
    opens r = is_opened kind r.first (patterns r.items)

    places : Rule → Bool
    places r = is_placed kind (patterns r.items)

    last : Choice
    last = first_rule (λ r. r.nullable) n (map (rule g) g) unfit

    go : Found (rule g) (λ p. refl) opens n (first_rule places n (map (rule g) g) last) g ⊎ Missing (rule g) (λ p. refl) opens n
        (first_rule places n (map (rule g) g) last) g
        → Found (rule g) (λ p. refl) places n last g ⊎ Missing (rule g) (λ p. refl) places n last g
        → Found (rule g) (λ p. refl) (λ r. r.nullable) n unfit g ⊎ Missing (rule g) (λ p. refl) (λ r. r.nullable) n unfit g
        → Chosen g n (choice (ready_for patterns g) n kind)
    go (inl f) k z = of_production f.production (record { member = f.member; owned = f.of; small = l }) f.answer
    go (inr m) (inl f) z = of_production f.production (record { member = f.member; owned = f.of; small = l }) (m.answer ∙ f.answer)
    go (inr m) (inr k) (inl f) = of_production f.production (record { member = f.member; owned = f.of; small = l }) (m.answer ∙ k.answer ∙ f.answer)
    go (inr m) (inr k) (inr z) = none_chosen (m.answer ∙ k.answer ∙ z.answer)
