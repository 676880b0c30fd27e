-- Nullable, Opens and LeftReaches as least relations over a normalized grammar. Document 01, "Openings of a nonterminal" and
-- "Left recursion": one constructor a rule.
use Rattle.std.specs.Prelude.{ℕ, ◌<◌, ◌≡◌, List, [], ◌∷◌}
use Rattle.kinds.specs.Kinds.{no_kind}
use Rattle.grammar.specs.Limits.{most}
use Rattle.grammar.specs.Table.{Templates, Terminal, kind_of, Item, terminal, local, call}
use Rattle.decoding.specs.Within.{Among}
use Rattle.productions.specs.Normal.{Production}

-- Document 01, "Phrase table": nonterminals are numbered from 0; a word, a number and 62 keywords have kinds
abbrev pub IsNonterminal : ℕ → Type 0
IsNonterminal n = n < most.nonterminals

abbrev pub IsKind : ℕ → Type 0
IsKind k = k < no_kind

-- p is a production of the nonterminal n
pub record Of (g : List Production) (n : ℕ) (p : Production) : Type 0 where
  pub member : Among g p
  pub owned : p.nonterminal ≡ n
  pub small : IsNonterminal n

-- items that may all read nothing: a local is nullable, and so is a call of a nonterminal some alternative of which is
pub data NullItems (g : List Production) : List Item → Type 0 where
  null_none : NullItems g []
  null_local : {is : List Item} → NullItems g is → NullItems g (local ∷ is)
  null_call : {n : ℕ} {ts : Templates} {is : List Item} {p : Production} → Of g n p → NullItems g p.items → NullItems g is → NullItems g (call n ts ∷ is)

-- some alternative has only nullable items
pub record Nullable (g : List Production) (n : ℕ) : Type 0 where
  pub production : Production
  pub of : Of g n production
  pub items : NullItems g production.items

-- what the items give up to the first that is not nullable, where `own` says what an item gives by itself
pub data First (g : List Production) (own : Item → ℕ → Type 0) : List Item → ℕ → Type 0 where
  first_own : {i : Item} {is : List Item} {b : ℕ} → own i b → First g own (i ∷ is) b
  first_call : {n b : ℕ} {ts : Templates} {is : List Item} {p : Production} → Of g n p → First g own p.items b → First g own (call n ts ∷ is) b
  first_past : {i : Item} {is : List Item} {b : ℕ} → NullItems g (i ∷ []) → First g own is b → First g own (i ∷ is) b

-- an alternative of n gives it
pub record FirstOf (g : List Production) (own : Item → ℕ → Type 0) (n b : ℕ) : Type 0 where
  pub production : Production
  pub of : Of g n production
  pub first : First g own production.items b

-- the kind that an item reads
pub data Reads : Item → ℕ → Type 0 where
  reads : {t : Terminal} → IsKind (kind_of t) → Reads (terminal t) (kind_of t)

-- the nonterminal that an item calls
pub data Calls : Item → ℕ → Type 0 where
  calls : {n : ℕ} {ts : Templates} → IsNonterminal n → Calls (call n ts) n

-- kind b opens n: b is in the first set of n
abbrev pub Opens : List Production → ℕ → ℕ → Type 0
Opens g n b = FirstOf g Reads n b

-- n reaches m by calls preceded only by nullable items
abbrev pub LeftReaches : List Production → ℕ → ℕ → Type 0
LeftReaches g n m = FirstOf g Calls n m
