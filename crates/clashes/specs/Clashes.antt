-- Left recursion, and two productions of one nonterminal that clash. Document 01, "Left recursion" and "Openings".
use Rattle.std.specs.Prelude.{ℕ, ◌<◌, ◌≡◌, ◌⊎◌, List, ◌∷◌}
use Rattle.grammar.specs.Table.{Item}
use Rattle.productions.specs.Normal.{Production}
use Rattle.decoding.specs.Within.{Among}
use Rattle.firsts.specs.Rules.{IsNonterminal, NullItems, First, Reads, LeftReaches}
use Rattle.firsts.specs.Patterns.{ReadsPlace}

-- p stands before q in g: they are two productions, even if they read alike
pub data Before : List Production → Production → Production → Type 0 where
  before_first : {p q : Production} {g : List Production} → Among g q → Before (p ∷ g) p q
  before_later : {p q r : Production} {g : List Production} → Before g p q → Before (r ∷ g) p q

-- two productions of the nonterminal n
pub record Two (g : List Production) (n : ℕ) (p q : Production) : Type 0 where
  pub apart : Before g p q
  pub first_owned : p.nonterminal ≡ n
  pub second_owned : q.nonterminal ≡ n
  pub small : IsNonterminal n

-- two productions of n share b, where `own` says what an item gives by itself
pub record SharesBy (own : Item → ℕ → Type 0) (g : List Production) (n b : ℕ) : Type 0 where
  pub one : Production
  pub other : Production
  pub two : Two g n one other
  pub one_first : First g own one.items b
  pub other_first : First g own other.items b

-- a kind, and the sort of a pattern place (document 02, C-14)
abbrev pub Shares : List Production → ℕ → ℕ → Type 0
Shares g n b = SharesBy Reads g n b

abbrev pub SharesPlace : List Production → ℕ → ℕ → Type 0
SharesPlace g n b = SharesBy ReadsPlace g n b

-- two productions of n are both nullable
pub record BothNullable (g : List Production) (n : ℕ) : Type 0 where
  pub one : Production
  pub other : Production
  pub two : Two g n one other
  pub one_null : NullItems g one.items
  pub other_null : NullItems g other.items

abbrev pub Clashes : List Production → ℕ → Type 0
Clashes g n = ((b : ℕ) × Shares g n b) ⊎ (((b : ℕ) × SharesPlace g n b) ⊎ BothNullable g n)

abbrev pub Never : (ℕ → Type 0) → Type 0
Never P = (n : ℕ) → ¬ P n

-- n is the lowest number that P holds of
pub record Lowest (P : ℕ → Type 0) (n : ℕ) : Type 0 where
  pub holds : P n
  pub none_below : (m : ℕ) → m < n → ¬ P m

abbrev pub LeftRecursive : List Production → ℕ → Type 0
LeftRecursive g n = LeftReaches g n n
