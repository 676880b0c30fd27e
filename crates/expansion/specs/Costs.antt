-- What a derivation of Figure 3 costs an expansion: how many calls are open at once, how many there are in all, and how many cells are
-- made. Document 01, "Formula" ("Each constructor of a template makes one cell") and causes 19, 20 and 21.
use Rattle.std.specs.Prelude.{ℕ, ◌+◌, ◌≤◌, max, List}
use Rattle.grammar.specs.Table.{Template, Templates, variable, outside_var, outside_label, make, unit, none, more, Item}
use Rattle.tokens.specs.declared.Token.{Token}
use Rattle.productions.specs.Normal.{Production}
use Rattle.expansion.specs.Limits.{most_calls, most_open}
use Rattle.expansion.specs.Figure3.{◌⊢⟨◌∣◌⟩◌⇒⟨◌∣◌⟩◌, by_end, by_terminal, by_call}

-- the cells of a template
unfoldable mutual
  pub rows_of : Template → ℕ
  rows_of (variable i) = 0
  rows_of (outside_var n) = 0
  rows_of (outside_label n) = 0
  rows_of (make c ts) = rows_of_all ts + 1
  rows_of unit = 0

  pub rows_of_all : Templates → ℕ
  rows_of_all none = 0
  rows_of_all (more t ts) = rows_of t + rows_of_all ts

module _ {A : Type 0} {reads : List Token → ℕ → Item → List Token → ℕ → A → Type 0} {taken : ℕ → List Token → Production → Type 0}
    {gives : List A → Template → A → Type 0} {give_all : List A → Templates → List A → Type 0} where
  -- the calls open at once
  unfoldable pub open_in : {M M' : List A} {s s' : List Token} {i i' : ℕ} {ps : List Item} → ◌⊢⟨◌∣◌⟩◌⇒⟨◌∣◌⟩◌ A reads taken gives give_all M s i ps s' i' M' → ℕ
  open_in by_end = 0
  open_in (by_terminal e d) = open_in d
  open_in (by_call vs t d v d') = max (open_in d + 1) (open_in d')

  -- the calls in all
  unfoldable pub calls_in : {M M' : List A} {s s' : List Token} {i i' : ℕ} {ps : List Item} → ◌⊢⟨◌∣◌⟩◌⇒⟨◌∣◌⟩◌ A reads taken gives give_all M s i ps s' i' M' → ℕ
  calls_in by_end = 0
  calls_in (by_terminal e d) = calls_in d
  calls_in (by_call vs t d v d') = calls_in d + 1 + calls_in d'

  -- the cells made: those of a call's arguments, of its alternative's items and of its result
  unfoldable pub rows_in : {M M' : List A} {s s' : List Token} {i i' : ℕ} {ps : List Item} → ◌⊢⟨◌∣◌⟩◌⇒⟨◌∣◌⟩◌ A reads taken gives give_all M s i ps s' i' M' → ℕ
  rows_in by_end = 0
  rows_in (by_terminal e d) = rows_in d
  rows_in (by_call {ts = ts} {p = p} vs t d v d') = rows_of_all ts + rows_in d + rows_of p.result + rows_in d'

  -- a derivation within the limits, where o calls are open, c are begun and m cells are made
  pub record Affords (rows o c m : ℕ) {M M' : List A} {s s' : List Token} {i i' : ℕ} {ps : List Item}
      (d : ◌⊢⟨◌∣◌⟩◌⇒⟨◌∣◌⟩◌ A reads taken gives give_all M s i ps s' i' M') : Type 0 where
    pub few_open : o + open_in d ≤ most_open
    pub few_calls : c + calls_in d ≤ most_calls
    pub few_rows : m + rows_in d ≤ rows
