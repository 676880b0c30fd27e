-- Parsing: the rules of 001, Figure 3, as document 01 changes them, one constructor a rule and one premise a line.
--
-- The paper has one judgement g; M ⊢ ⟨s, i⟩ p ⇒ ⟨s', i'⟩ t over all productions p. A table cannot write all of them: it has no `unit`, no
-- p1 p2 that binds nothing (each item is numbered, so bound), no choice but between the alternatives of a nonterminal, and no argument of a
-- constructor or a call that reads a token or calls. So p is a template (`Gives`: it reads nothing and makes no fresh name), a terminal
-- (⟨s, i⟩ p ⇒ ⟨s', i'⟩ v), or items in sequence, calls among them (M ⊢ ⟨s, i⟩ x1 = p1 .. xk = pk ⇒ ⟨s', i'⟩ M').
--
-- Document 01 changes: of two alternatives only the one taken derives (`Taken`); a number is read; an outside name may be a Label; a Binder
-- may stand where Var is asked; global(x) gives an outside name, told apart from a formula's x_Var. K(g), as document 02, C-13, has it, is the keywords
-- that occur in alternatives that the root reaches by calls (`lexicon_of_table`, checker/specs/Keywords).
-- `wrong`, the paper's result for an unbound variable or an undefined nonterminal, is no value here: nothing is derived in its place. That
-- a well sorted production never meets it is a theorem (`never_wrong`, `call_never_wrong`, `productions_sorted` on the page of the demands).
use Rattle.std.specs.Prelude.{ℕ, suc, ◌+◌, ◌≡◌, List, [], ◌∷◌, ◌++◌}
use Rattle.kinds.specs.Kinds.{word_kind, number_kind, keyword_kind}
use Rattle.grammar.specs.Sorts as Sorts
use Rattle.grammar.specs.Table.{Template, Templates, none, more, keyword, ide, Item, terminal, local, call}
use Rattle.grammar.specs.Table as Table
use Rattle.tokens.specs.declared.Token.{Token}
use Rattle.productions.specs.Normal.{Production}
use Rattle.firsts.specs.Rules.{Of, NullItems, First, Reads}
use Rattle.terms.specs.Term.{Name, word, fresh, outside, Term, Fields, variable, function, apply, rcd, dot, nil, cons}
use Rattle.terms.specs.Term as Terms

-- ------------------------------------------------------------------ terms b and environments M

-- unit, identifiers x_Var, x_Binder and x_Label, constructed terms of the sorts Term and Fields; 01's numbers
pub data Value : Type 0 where
  unit : Value
  var : Name → Value
  binder : Name → Value
  label : List ℕ → Value
  num : ℕ → Value
  term : Term Name → Value
  fields : Fields Name → Value

-- c(b1, .., bk) is the term v; a Var place takes a Binder too
pub data Constructs : ℕ → List Value → Value → Type 0 where
  makes_var : {x : Name} → Constructs 0x20 (var x ∷ []) (term (variable x))
  makes_var_of_binder : {x : Name} → Constructs 0x20 (binder x ∷ []) (term (variable x))
  makes_fun : {x : Name} {t : Term Name} → Constructs 0x21 (binder x ∷ term t ∷ []) (term (function x t))
  makes_app : {t u : Term Name} → Constructs 0x22 (term t ∷ term u ∷ []) (term (apply t u))
  makes_rcd : {f : Fields Name} → Constructs 0x23 (fields f ∷ []) (term (rcd f))
  makes_dot : {t : Term Name} {l : List ℕ} → Constructs 0x24 (term t ∷ label l ∷ []) (term (dot t l))
  makes_nil : Constructs 0x25 [] (fields nil)
  makes_cons : {l : List ℕ} {t : Term Name} {f : Fields Name}
      → Constructs 0x26 (label l ∷ term t ∷ fields f ∷ []) (fields (cons l t f))
  makes_num : {n : ℕ} → Constructs 0x27 (num n ∷ []) (term (Terms.number n))

-- M, x = t, M' has x = t: variables are numbered, so that none is shadowed
pub data Bound : List Value → ℕ → Value → Type 0 where
  bound_first : {v : Value} {M : List Value} → Bound (v ∷ M) 0 v
  bound_later : {u v : Value} {M : List Value} {i : ℕ} → Bound M i v → Bound (u ∷ M) (suc i) v

-- ------------------------------------------------------------------ templates: x, global(x), 01's Label, c(p1, .., pk), 02's Unit of a text

-- `spell` gives the spelling of an outside name or of a word token by its number
mutual
  pub data Gives (spell : ℕ → List ℕ) (M : List Value) : Template → Value → Type 0 where
    by_variable : {i : ℕ} {v : Value}
        → Bound M i v
        → Gives spell M (Table.variable i) v
    by_global : {n : ℕ} → Gives spell M (Table.outside_var n) (var (outside (spell n)))
    by_label : {n : ℕ} → Gives spell M (Table.outside_label n) (label (spell n))
    by_constructor : {c : ℕ} {ts : Templates} {vs : List Value} {v : Value}
        → GiveAll spell M ts vs
        → Constructs c vs v
        → Gives spell M (Table.make c ts) v
    by_unit : Gives spell M Table.unit unit

  pub data GiveAll (spell : ℕ → List ℕ) (M : List Value) : Templates → List Value → Type 0 where
    give_none : GiveAll spell M none []
    give_more : {t : Template} {ts : Templates} {v : Value} {vs : List Value}
        → Gives spell M t v
        → GiveAll spell M ts vs
        → GiveAll spell M (more t ts) (v ∷ vs)

-- ------------------------------------------------------------------ the alternative that is taken

-- the next token of s is of kind k
pub data Next : List Token → ℕ → Type 0 where
  next : {t : Token} {s : List Token} → Next (t ∷ s) t.kind

-- p's first set holds the next token
pub record Opened (g : List Production) (s : List Token) (p : Production) : Type 0 where
  pub kind : ℕ
  pub token : Next s kind
  pub first : First g Reads p.items kind

-- 01, "Choice": the alternative of n whose first set holds the next token; else the nullable one
pub data Taken (g : List Production) (n : ℕ) (s : List Token) : Production → Type 0 where
  taken_opened : {p : Production}
      → Of g n p
      → Opened g s p
      → Taken g n s p
  taken_nullable : {p : Production}
      → Of g n p
      → ((q : Production) → Of g n q → Opened g s q → ⊥)
      → NullItems g p.items
      → Taken g n s p

-- ------------------------------------------------------------------ terminals and sequences

-- x_B: what a word gives where it is read at sort B ∈ {Var, Binder, Label}
pub data WordAs : ℕ → List ℕ → Value → Type 0 where
  as_var : {x : List ℕ} → WordAs Sorts.var x (var (word x))
  as_binder : {x : List ℕ} → WordAs Sorts.binder x (binder (word x))
  as_label : {x : List ℕ} → WordAs Sorts.label x (label x)

module _ (g : List Production) (spell : ℕ → List ℕ) where
  infix 10 ⟨◌∣◌⟩◌⇒⟨◌∣◌⟩◌
  -- terminals: "x", ide(B), 01's number, local; x ∉ K(g) is `t.kind ≡ word_kind`, as the scan reads what is spelled as a keyword
  pub data ⟨◌∣◌⟩◌⇒⟨◌∣◌⟩◌ : List Token → ℕ → Item → List Token → ℕ → Value → Type 0 where
    by_keyword : {t : Token} {s : List Token} {i k : ℕ}
        → t.kind ≡ keyword_kind k
        → ⟨ t ∷ s ∣ i ⟩ terminal (keyword k) ⇒⟨ s ∣ i ⟩ unit
    by_ide : {t : Token} {s : List Token} {i B : ℕ} {v : Value}
        → t.kind ≡ word_kind
        → WordAs B (spell t.value) v
        → ⟨ t ∷ s ∣ i ⟩ terminal (ide B) ⇒⟨ s ∣ i ⟩ v
    by_number : {t : Token} {s : List Token} {i : ℕ}
        → t.kind ≡ number_kind
        → ⟨ t ∷ s ∣ i ⟩ terminal Table.number ⇒⟨ s ∣ i ⟩ num t.value
    by_local : {s : List Token} {i : ℕ} → ⟨ s ∣ i ⟩ local ⇒⟨ s ∣ i + 1 ⟩ binder (fresh i)

-- x1 = p1 .. xk = pk, from the variables M and the configuration ⟨s, i⟩ to M' and ⟨s', i'⟩; arguments come before their call, whose
-- alternative begins with them as its only variables: (x : S) == p ∈ g is `Of g n p` inside `Taken`. A are the values; what a terminal reads, which
-- alternative is taken and what templates give are parameters.
module _ (A : Type 0) (reads : List Token → ℕ → Item → List Token → ℕ → A → Type 0) (taken : ℕ → List Token → Production → Type 0)
    (gives : List A → Template → A → Type 0) (give_all : List A → Templates → List A → Type 0) where
  infix 10 ◌⊢⟨◌∣◌⟩◌⇒⟨◌∣◌⟩◌
  pub data ◌⊢⟨◌∣◌⟩◌⇒⟨◌∣◌⟩◌ : List A → List Token → ℕ → List Item → List Token → ℕ → List A → Type 0 where
    by_end : {M : List A} {s : List Token} {i : ℕ} → M ⊢⟨ s ∣ i ⟩ [] ⇒⟨ s ∣ i ⟩ M
    by_terminal : {M M' : List A} {s s₁ s' : List Token} {i i₁ i' : ℕ} {p : Item} {ps : List Item} {v : A}
        → reads s i p s₁ i₁ v
        → (M ++ (v ∷ [])) ⊢⟨ s₁ ∣ i₁ ⟩ ps ⇒⟨ s' ∣ i' ⟩ M'
        → M ⊢⟨ s ∣ i ⟩ (p ∷ ps) ⇒⟨ s' ∣ i' ⟩ M'
    by_call : {M M₁ M' vs : List A} {s s₁ s' : List Token} {i i₁ i' n : ℕ} {ts : Templates} {ps : List Item} {v : A} {p : Production}
        → give_all M ts vs
        → taken n s p
        → vs ⊢⟨ s ∣ i ⟩ p.items ⇒⟨ s₁ ∣ i₁ ⟩ M₁
        → gives M₁ p.result v
        → (M ++ (v ∷ [])) ⊢⟨ s₁ ∣ i₁ ⟩ ps ⇒⟨ s' ∣ i' ⟩ M'
        → M ⊢⟨ s ∣ i ⟩ (call n ts ∷ ps) ⇒⟨ s' ∣ i' ⟩ M'

-- the same judgements by names: an item reads, items derive
abbrev pub ReadsAs : List Production → (ℕ → List ℕ) → List Token → ℕ → Item → List Token → ℕ → Value → Type 0
ReadsAs g spell s i p s' i' v = ⟨◌∣◌⟩◌⇒⟨◌∣◌⟩◌ g spell s i p s' i' v

abbrev pub Derives : List Production → (ℕ → List ℕ) → List Value → List Token → ℕ → List Item → List Token → ℕ → List Value → Type 0
Derives g spell M s i ps s' i' M' = ◌⊢⟨◌∣◌⟩◌⇒⟨◌∣◌⟩◌ Value (ReadsAs g spell) (Taken g) (Gives spell) (GiveAll spell) M s i ps s' i' M'

-- a whole formula: one call, of the root, with fresh names from 1, reads all tokens and gives a term (001, Corollary 1)
pub record Parses (g : List Production) (spell : ℕ → List ℕ) (root : ℕ) (tokens : List Token) (t : Term Name) : Type 0 where
  pub counter : ℕ
  pub derived : Derives g spell [] tokens 1 (call root none ∷ []) [] counter (term t ∷ [])
