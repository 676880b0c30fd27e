-- A derivation of Figure 3 by other rules for terminals that read the same: it costs as much.
use Prim.Native.Nat.{ℕ, ◌+◌, max}
use mathlib.Core.Path.{◌≡◌, refl, ap₂}
use mathlib.Core.List.{List, [], ◌∷◌, ◌++◌}
use native.Mathlib.Omega.{arith}
use Rattle.grammar.specs.Table.{Template, Templates, Item}
use Rattle.tokens.specs.declared.Token.{Token}
use Rattle.productions.specs.Normal.{Production}
use Rattle.expansion.specs.Figure3.{◌⊢⟨◌∣◌⟩◌⇒⟨◌∣◌⟩◌, by_end, by_terminal, by_call}
use Rattle.expansion.specs.Costs.{rows_of, rows_of_all, open_in, calls_in, rows_in, Affords}

module _ {A : Type 0} {reads : List Token → ℕ → Item → List Token → ℕ → A → Type 0} {taken : ℕ → List Token → Production → Type 0}
    {gives : List A → Template → A → Type 0} {give_all : List A → Templates → List A → Type 0} where
  -- a derivation by other terminals that costs as much
  pub record SameCosts (reads' : List Token → ℕ → Item → List Token → ℕ → A → Type 0) {M M' : List A} {s s' : List Token} {i i' : ℕ} {ps : List Item}
      (d : ◌⊢⟨◌∣◌⟩◌⇒⟨◌∣◌⟩◌ A reads taken gives give_all M s i ps s' i' M') : Type 0 where
    -- the derivation
    pub rule : ◌⊢⟨◌∣◌⟩◌⇒⟨◌∣◌⟩◌ A reads' taken gives give_all M s i ps s' i' M'
    -- as many calls are open
    pub same_open : open_in rule ≡ open_in d
    -- as many are begun
    pub same_calls : calls_in rule ≡ calls_in d
    -- as many rows are made
    pub same_rows : rows_in rule ≡ rows_in d

  module _ {reads' : List Token → ℕ → Item → List Token → ℕ → A → Type 0} where
    -- Nothing is read,
    pub same_end : {M : List A} {s : List Token} {i : ℕ} → SameCosts reads' (by_end {M = M} {s = s} {i = i})
    unfolding open_in calls_in rows_in
    same_end = record { rule = by_end; same_open = refl; same_calls = refl; same_rows = refl }

    -- a terminal is read by its own rule,
    pub same_terminal : {M M' : List A} {s s₁ s' : List Token} {i i₁ i' : ℕ} {p : Item} {ps : List Item} {v : A} {r : reads s i p s₁ i₁ v}
        {d : ◌⊢⟨◌∣◌⟩◌⇒⟨◌∣◌⟩◌ A reads taken gives give_all (M ++ (v ∷ [])) s₁ i₁ ps s' i' M'} → reads' s i p s₁ i₁ v → SameCosts reads' d
        → SameCosts reads' {M = M} (by_terminal r d)
    unfolding open_in calls_in rows_in
    same_terminal r w = record { rule = by_terminal r w.rule; same_open = w.same_open; same_calls = w.same_calls; same_rows = w.same_rows }

    -- and so are calls.
    pub same_call : {M M₁ M' vs : List A} {s s₁ s' : List Token} {i i₁ i' n : ℕ} {ts : Templates} {ps : List Item} {v : A} {p : Production}
        {a : give_all M ts vs} {t : taken n s p} {d : ◌⊢⟨◌∣◌⟩◌⇒⟨◌∣◌⟩◌ A reads taken gives give_all vs s i p.items s₁ i₁ M₁} {b : gives M₁ p.result v}
        {d' : ◌⊢⟨◌∣◌⟩◌⇒⟨◌∣◌⟩◌ A reads taken gives give_all (M ++ (v ∷ [])) s₁ i₁ ps s' i' M'} → SameCosts reads' d → SameCosts reads' d'
        → SameCosts reads' {M = M} (by_call a t d b d')
    unfolding open_in calls_in rows_in
    same_call {ts = ts} {p = p} {a = a} {t = t} {b = b} w w' =
        record {
          rule = by_call a t w.rule b w'.rule;
          same_open = ap₂ (λ m n. max (m + 1) n) w.same_open w'.same_open;
          same_calls = ap₂ (λ m n. m + 1 + n) w.same_calls w'.same_calls;
          same_rows = ap₂ (λ m n. rows_of_all ts + m + rows_of p.result + n) w.same_rows w'.same_rows;
        }

    -- What the one affords, the other does.
    pub same_affords : {rows : ℕ} {M M' : List A} {s s' : List Token} {i i' : ℕ} {ps : List Item}
        {d : ◌⊢⟨◌∣◌⟩◌⇒⟨◌∣◌⟩◌ A reads taken gives give_all M s i ps s' i' M'} (w : SameCosts reads' d) → Affords rows 0 0 0 d → Affords rows 0 0 0 w.rule
    same_affords w a =
        record {
          few_open = omega (arith, w.same_open, a.few_open);
          few_calls = omega (arith, w.same_calls, a.few_calls);
          few_rows = omega (arith, w.same_rows, a.few_rows);
        }
