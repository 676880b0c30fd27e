-- In a grammar without clashes, two productions of one nonterminal that are opened by one kind are the same, and so are two with one pattern place and
-- two that are nullable.
use Prim.Native.Nat.{ℕ}
use mathlib.Core.Path.{◌≡◌, refl}
use mathlib.Core.Logic.{◌⊎◌, inl, inr}
use mathlib.Core.List.{List, ◌∷◌}
use Rattle.productions.specs.Normal.{Production}
use Rattle.decoding.specs.Within.{Among, among_first, among_later}
use Rattle.firsts.specs.Patterns.{ReadsPlace}
use Rattle.firsts.specs.Rules.{Of, NullItems, First, Reads}
use Rattle.clashes.specs.Clashes.{Before, before_first, before_later, Two, Clashes, Never}

-- two members of a list are one, or one stands before the other
apart : {g : List Production} {p other : Production} → Among g p → Among g other → (p ≡ other) ⊎ (Before g p other ⊎ Before g other p)
apart among_first among_first = inl refl
apart among_first (among_later m) = inr (inl (before_first m))
apart (among_later m) among_first = inr (inr (before_first m))
apart (among_later m) (among_later k) = later (apart m k)
  where
    later : {g : List Production} {p other one : Production} → (p ≡ other) ⊎ (Before g p other ⊎ Before g other p)
        → (p ≡ other) ⊎ (Before (one ∷ g) p other ⊎ Before (one ∷ g) other p)
    later (inl e) = inl e
    later (inr (inl b)) = inr (inl (before_later b))
    later (inr (inr b)) = inr (inr (before_later b))

two : {g : List Production} {nonterminal : ℕ} {p other : Production} → Of g nonterminal p → Of g nonterminal other → Before g p other
    → Two g nonterminal p other
two o k b = record { apart = b; first_owned = o.owned; second_owned = k.owned; small = o.small }

-- what two productions of a nonterminal that differ never have both, only one has
one_of : {g : List Production} {nonterminal : ℕ} {p other : Production} (P : Production → Type 0)
    → ((one another : Production) → Two g nonterminal one another → P one → P another → ⊥)
    → Of g nonterminal p → Of g nonterminal other → P p → P other → p ≡ other
one_of {g} {nonterminal} {p} {other} P never o k x y = by (apart o.member k.member)
  where
    by : (p ≡ other) ⊎ (Before g p other ⊎ Before g other p) → p ≡ other
    by (inl e) = e
    by (inr (inl b)) = absurd (never p other (two o k b) x y)
    by (inr (inr b)) = absurd (never other p (two k o b) y x)

module _ (g : List Production) (none : Never (Clashes g)) {nonterminal : ℕ} {p other : Production} (owned : Of g nonterminal p)
    (other_owned : Of g nonterminal other) where
  -- one kind opens one production
  pub one_opened : {kind : ℕ} → First g Reads p.items kind → First g Reads other.items kind → p ≡ other
  one_opened {kind} =
      one_of (λ r. First g Reads r.items kind)
      (λ r s w x y. none nonterminal (inl (kind, record { one = r; other = s; two = w; one_first = x; other_first = y }))) owned other_owned

  -- one production opens with a place of one sort
  pub one_placed : {sort : ℕ} → First g ReadsPlace p.items sort → First g ReadsPlace other.items sort → p ≡ other
  one_placed {sort} =
      one_of (λ r. First g ReadsPlace r.items sort)
      (λ r s w x y. none nonterminal (inr (inl (sort, record { one = r; other = s; two = w; one_first = x; other_first = y })))) owned other_owned

  -- one production is nullable
  pub one_nullable : NullItems g p.items → NullItems g other.items → p ≡ other
  one_nullable =
      one_of (λ r. NullItems g r.items)
      (λ r s w x y. none nonterminal (inr (inr (record { one = r; other = s; two = w; one_null = x; other_null = y })))) owned other_owned
