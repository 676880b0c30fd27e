-- What the items and templates of a derivation gave, and the sort of each place of a term. Document 01, "Whose name is whose": a Var place
-- holds the name that an ide item of sort 1 or 2, a local or a template's 10 gave; a Binder place the name that an ide item of sort 2 or a
-- local gave; a Label place the label that an ide item of sort 3 or a template's 11 gave; a Num place a number item's value. A Term or
-- Fields place holds a constructor of that sort by the types of terms.
use Rattle.std.specs.Prelude.{ℕ, ◌<◌, ◌≡◌, List, [], ◌∷◌, ◌++◌}
use Rattle.kinds.specs.Kinds.{word_kind, number_kind}
use Rattle.grammar.specs.Sorts as Sorts
use Rattle.grammar.specs.Table.{Template, Templates, none, more, Item}
use Rattle.grammar.specs.Table as Table
use Rattle.decoding.specs.Within.{Among}
use Rattle.tokens.specs.declared.Token.{Token}
use Rattle.productions.specs.Normal.{Production}
use Rattle.terms.specs.Term.{Name, word, fresh, outside, Term, Fields, variable, function, apply, rcd, dot, number, nil, cons}
use Rattle.expansion.specs.Figure3.{Value, ReadsAs, by_keyword, by_ide, by_number, by_local, Derives, by_end, by_terminal, by_call}

-- ------------------------------------------------------------------ what a derivation gave

-- an ide item of a sort met a token, a local gave a fresh name, a number item met a token, a template has 10 or 11 and a name number
pub data Given : Type 0 where
  word_at : ℕ → Token → Given
  fresh_name : ℕ → Given
  number_at : Token → Given
  outside_name : ℕ → Given
  outside_label : ℕ → Given

-- a word or a number is a token of the formula, of its kind; an outside name is one of the table's, of which there are so many; a fresh name is any
-- number here: that no two locals give the same is Figure 3's `by_local`, which counts on
pub data Supplied (tokens : List Token) (outsides : ℕ) : Given → Type 0 where
  supplied_word : {B : ℕ} {t : Token} → Among tokens t → t.kind ≡ word_kind → Supplied tokens outsides (word_at B t)
  supplied_fresh : {i : ℕ} → Supplied tokens outsides (fresh_name i)
  supplied_number : {t : Token} → Among tokens t → t.kind ≡ number_kind → Supplied tokens outsides (number_at t)
  supplied_outside : {n : ℕ} → n < outsides → Supplied tokens outsides (outside_name n)
  supplied_label : {n : ℕ} → n < outsides → Supplied tokens outsides (outside_label n)

-- by a template
unfoldable mutual
  pub named_in : Template → List Given
  named_in (Table.variable i) = []
  named_in (Table.outside_var n) = outside_name n ∷ []
  named_in (Table.outside_label n) = outside_label n ∷ []
  named_in (Table.make c ts) = named_in_all ts
  named_in Table.unit = []

  pub named_in_all : Templates → List Given
  named_in_all none = []
  named_in_all (more t ts) = named_in t ++ named_in_all ts

module _ {g : List Production} {spell : ℕ → List ℕ} where
  -- by a terminal
  unfoldable pub given_at : {s s' : List Token} {i i' : ℕ} {p : Item} {v : Value} → ReadsAs g spell s i p s' i' v → List Given
  given_at (by_keyword e) = []
  given_at (by_ide {t = t} {B = B} e w) = word_at B t ∷ []
  given_at (by_number {t = t} e) = number_at t ∷ []
  given_at (by_local {i = i}) = fresh_name i ∷ []

  -- by a sequence of items
  unfoldable pub given_in : {M M' : List Value} {s s' : List Token} {i i' : ℕ} {ps : List Item} → Derives g spell M s i ps s' i' M' → List Given
  given_in by_end = []
  given_in (by_terminal e d) = given_at e ++ given_in d
  given_in (by_call {ts = ts} {p = p} vs t d v d') = named_in_all ts ++ (given_in d ++ (named_in p.result ++ given_in d'))

-- ------------------------------------------------------------------ places

-- where G was given, the name at a Var place, the name at a Binder place, the label at a Label place, the number at a Num place
pub data VarPlace (G : List Given) (spell : ℕ → List ℕ) : Name → Type 0 where
  var_var : {t : Token} → Among G (word_at Sorts.var t) → VarPlace G spell (word (spell t.value))
  var_binder : {t : Token} → Among G (word_at Sorts.binder t) → VarPlace G spell (word (spell t.value))
  var_local : {i : ℕ} → Among G (fresh_name i) → VarPlace G spell (fresh i)
  var_outside : {n : ℕ} → Among G (outside_name n) → VarPlace G spell (outside (spell n))

pub data BinderPlace (G : List Given) (spell : ℕ → List ℕ) : Name → Type 0 where
  binder_binder : {t : Token} → Among G (word_at Sorts.binder t) → BinderPlace G spell (word (spell t.value))
  binder_local : {i : ℕ} → Among G (fresh_name i) → BinderPlace G spell (fresh i)

pub data LabelPlace (G : List Given) (spell : ℕ → List ℕ) : List ℕ → Type 0 where
  label_label : {t : Token} → Among G (word_at Sorts.label t) → LabelPlace G spell (spell t.value)
  label_outside : {n : ℕ} → Among G (outside_label n) → LabelPlace G spell (spell n)

pub data NumPlace (G : List Given) : ℕ → Type 0 where
  num_number : {t : Token} → Among G (number_at t) → NumPlace G t.value

-- A term each place of which holds what its sort asks for. It is by name: what stands at a place was given by some item or template of the derivation.
-- Which one gave it here is said by Figure 3, which derives the term.
mutual
  pub data Placed (G : List Given) (spell : ℕ → List ℕ) : Term Name → Type 0 where
    placed_variable : {x : Name} → VarPlace G spell x → Placed G spell (variable x)
    placed_function : {x : Name} {t : Term Name} → BinderPlace G spell x → Placed G spell t → Placed G spell (function x t)
    placed_apply : {t u : Term Name} → Placed G spell t → Placed G spell u → Placed G spell (apply t u)
    placed_rcd : {f : Fields Name} → PlacedFields G spell f → Placed G spell (rcd f)
    placed_dot : {t : Term Name} {l : List ℕ} → Placed G spell t → LabelPlace G spell l → Placed G spell (dot t l)
    placed_number : {n : ℕ} → NumPlace G n → Placed G spell (number n)

  pub data PlacedFields (G : List Given) (spell : ℕ → List ℕ) : Fields Name → Type 0 where
    placed_nil : PlacedFields G spell nil
    placed_cons : {l : List ℕ} {t : Term Name} {f : Fields Name} → LabelPlace G spell l → Placed G spell t → PlacedFields G spell f
        → PlacedFields G spell (cons l t f)
