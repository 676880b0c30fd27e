-- A text's template has the sort of its nonterminal, under the sorts of the alternative's variables: 001's Theorem 1 for texts ("This result is
-- generalized in the full paper to parsers derived from incremental pattern-based grammar definitions").
use Prim.Native.Nat.{ℕ, ◌<◌}
use mathlib.Core.Path.{◌≡◌, sym, subst}
use mathlib.Core.List.{List, [], ◌∷◌, ◌++◌}
use lib.ListN.{get_or}
use Rattle.kinds.specs.Kinds.{word_kind}
use Rattle.kinds.specs.TextKinds.{variable_kind}
use Rattle.grammar.specs.Limits.{most}
use Rattle.grammar.specs.Sorts.{Signature}
use Rattle.grammar.specs.Table.{Template, Templates, variable, outside_var, outside_label, make, none, more, Item, call}
use Rattle.grammar.specs.Table as Table
use Rattle.tokens.specs.declared.Token.{Token}
use Rattle.tokens.specs.Variables.{variable_name}
use Rattle.productions.specs.Normal.{Production}
use Rattle.firsts.specs.Rules.{Of}
use Rattle.judgements.specs.Scopes.{Scope}
use Rattle.judgements.specs.Judgements.{Has, has_first, has_later, Newest, Fits, fits_equal, fits_binder, Sorted, Fill, fill_none, fill_more, ItemSorted}
use Rattle.judgements.specs.Judgements.{Body, by_result, by_binding}
use Rattle.judgements.specs.Judgements as Judgements
use Rattle.judgements.proofs.TemplateSorts.{fits_rule}
use Rattle.expansion.specs.Figure3.{by_end, by_terminal, by_call}
use Rattle.texts.specs.Substitution.{substitute, substitute_all, template_list}
use Rattle.texts.specs.ReadingRules.{TextReads, by_keyword, by_variable, by_place, by_global, by_label, TextDerives}
use Rattle.texts.proofs.TextChoice.{taken_of}

fits_trans : {A B C : ℕ} → Fits A B → Fits B C → Fits A C
fits_trans fits_equal g = g
fits_trans fits_binder fits_equal = fits_binder

-- ------------------------------------------------------------------ templates at places of a sort

-- a template of a sort that fits where B is asked
abbrev pub SortedAt : ℕ → List ℕ → Template → ℕ → Type 0
SortedAt N L t B = (A : ℕ) × Sorted N L t A × Fits A B

-- templates for variables of these sorts
pub data Filled (N : ℕ) (L : List ℕ) : List Template → List ℕ → Type 0 where
  filled_none : Filled N L [] []
  filled_more : {t : Template} {B : ℕ} {M : List Template} {G : List ℕ} → SortedAt N L t B → Filled N L M G → Filled N L (t ∷ M) (B ∷ G)

filled_and : {N : ℕ} {L : List ℕ} {t : Template} {B : ℕ} {M : List Template} {G : List ℕ} → Filled N L M G → SortedAt N L t B
    → Filled N L (M ++ (t ∷ [])) (G ++ (B ∷ []))
filled_and filled_none s = filled_more s filled_none
filled_and (filled_more h hs) s = filled_more h (filled_and hs s)

filled_at : {N : ℕ} {L : List ℕ} {M : List Template} {G : List ℕ} {i B : ℕ} → Filled N L M G → Has G i B → SortedAt N L (get_or M i Table.unit) B
filled_at (filled_more h hs) has_first = h
filled_at (filled_more h hs) (has_later k) = filled_at hs k
filled_at filled_none x = elim x [ ]

fits_at : {N : ℕ} {L : List ℕ} {t : Template} {A B : ℕ} → SortedAt N L t A → Fits A B → SortedAt N L t B
fits_at (C, h, f) g = (C, h, fits_trans f g)

at_its : {N : ℕ} {L : List ℕ} {t : Template} {A : ℕ} → Sorted N L t A → SortedAt N L t A
at_its {A = A} h = (A, h, fits_equal)

-- templates of sorts that fit their places fill them
fill_of : {N : ℕ} {L : List ℕ} (ts : Templates) {Bs : List ℕ} → Filled N L (template_list ts) Bs → Fill N L ts Bs
unfolding template_list
fill_of none filled_none = fill_none
fill_of (more t ts) (filled_more (A, h, f) hs) = fill_more h f (fill_of ts hs)

-- ------------------------------------------------------------------ templates put in for variables

module _ {N : ℕ} {L : List ℕ} {M : List Template} {G : List ℕ} (filled : Filled N L M G) where
  mutual
    unfolding substitute template_list

    -- Templates of their sorts put in for its variables, a template keeps its sort.
    pub substitute_sorted : (t : Template) {A : ℕ} → Sorted N G t A → SortedAt N L (substitute M t) A
    substitute_sorted (variable i) (Judgements.by_variable h) = filled_at filled h
    substitute_sorted (outside_var n) (Judgements.by_global l) = at_its (Judgements.by_global l)
    substitute_sorted (outside_label n) (Judgements.by_label l) = at_its (Judgements.by_label l)
    substitute_sorted (make c ts) (Judgements.by_constructor low high fs) =
        at_its (Judgements.by_constructor low high (fill_of (substitute_all M ts) (substitute_all_sorted ts fs)))
    substitute_sorted Table.unit Judgements.by_unit = at_its Judgements.by_unit

    -- So do templates at their places.
    pub substitute_all_sorted : (ts : Templates) {Bs : List ℕ} → Fill N G ts Bs → Filled N L (template_list (substitute_all M ts)) Bs
    substitute_all_sorted none fill_none = filled_none
    substitute_all_sorted (more t ts) (fill_more h f fs) = filled_more (fits_at (substitute_sorted t h) f) (substitute_all_sorted ts fs)

-- ------------------------------------------------------------------ tokens and productions

-- a text's token: a variable has the sort that its kind says, and a word below 64 is one of N outside names
pub record Named (N : ℕ) (L : List ℕ) (t : Token) : Type 0 where
  -- a variable has its sort
  pub variable_named : (A n : ℕ) → t.kind ≡ variable_kind A → t.value ≡ variable_name n → Has L n A
  -- a word is an outside name
  pub outside_named : t.kind ≡ word_kind → t.value < most.outsides → t.value < N

pub data AllNamed (N : ℕ) (L : List ℕ) : List Token → Type 0 where
  named_none : AllNamed N L []
  named_more : {t : Token} {s : List Token} → Named N L t → AllNamed N L s → AllNamed N L (t ∷ s)

-- all productions of a grammar are sorted by the newest signatures of their nonterminals
pub record AllSorted (G : Scope) (g : List Production) : Type 0 where
  -- each production is
  pub production_sorted : (n : ℕ) (S : Signature) (p : Production) → Newest G.env n S → Of g n p → Body G S.params p.items p.result S.result

-- ------------------------------------------------------------------ items

-- where items end: the tokens left are a text's, and the result is sorted under values of its variables
record Ended (N : ℕ) (L : List ℕ) (s : List Token) (M : List Template) (t : Template) (B : ℕ) : Type 0 where
  -- the tokens left
  left : AllNamed N L s
  -- the sorts of the variables
  sorts : List ℕ
  -- the values have these sorts
  filled : Filled N L M sorts
  -- the sort of the result
  sort : ℕ
  -- it has this sort
  sorted : Sorted N sorts t sort
  -- which fits
  fits : Fits sort B

module _ {G : Scope} {g : List Production} (all : AllSorted G g) (L : List ℕ) where
  -- a terminal's value has the sort of its item
  terminal_sorted : {s s₁ : List Token} {i i₁ : ℕ} {p : Item} {v : Template} {A : ℕ} {Γ : List ℕ} → TextReads s i p s₁ i₁ v → ItemSorted G Γ p A
      → AllNamed G.outsides L s → SortedAt G.outsides L v A × AllNamed G.outsides L s₁
  terminal_sorted (by_keyword e) (Judgements.by_keyword l) (named_more h hs) = (at_its Judgements.by_unit, hs)
  terminal_sorted (by_variable {B = B} A n e f fit) (Judgements.by_ide l u) (named_more h hs) =
      ((A, Judgements.by_variable (h.variable_named A n e f), fits_rule A B fit), hs)
  terminal_sorted (by_place {B = B} n e f) (Judgements.by_place l) (named_more h hs) = (at_its (Judgements.by_variable (h.variable_named B n e f)), hs)
  terminal_sorted (by_global e l) (Judgements.by_ide m u) (named_more h hs) = (at_its (Judgements.by_global (h.outside_named e l)), hs)
  terminal_sorted (by_label e l) (Judgements.by_ide m u) (named_more h hs) = (at_its (Judgements.by_label (h.outside_named e l)), hs)

  -- what an alternative gives where its items have ended
  result_sorted : {s : List Token} {M : List Template} {t v : Template} {B : ℕ} → Ended G.outsides L s M t B → v ≡ substitute M t
      → SortedAt G.outsides L v B
  result_sorted {t = t} {B = B} e f =
      subst (λ u. SortedAt G.outsides L u B) (sym f) (fits_at (substitute_sorted e.filled t e.sorted) e.fits)

  items_sorted : {M M' : List Template} {s s' : List Token} {i i' : ℕ} {ps : List Item} {Γ : List ℕ} {t : Template} {B : ℕ}
      → TextDerives g M s i ps s' i' M' → Body G Γ ps t B → Filled G.outsides L M Γ → AllNamed G.outsides L s
      → Ended G.outsides L s' M' t B
  items_sorted {Γ = Γ} by_end (by_result {A = A} h f) filled named =
      record { left = named; sorts = Γ; filled = filled; sort = A; sorted = h; fits = f }
  items_sorted (by_terminal e d) (by_binding h b) filled named =
      let v = terminal_sorted e h named in
      items_sorted d b (filled_and filled v.0) v.1
  items_sorted {M = M} (by_call {ts = ts} {p = p} vs t d v d') (by_binding (Judgements.by_call {S = S} newest fill) b) filled named =
      let arguments = substitute_all_sorted filled ts fill in
      let e =
      items_sorted d (all.production_sorted _ S p newest (taken_of t)) (subst (λ xs. Filled G.outsides L xs S.params) (sym vs) arguments) named in
      items_sorted d' b (filled_and filled (result_sorted e v)) e.left

  -- The template of a text has a sort that fits the declared sort of the nonterminal that it is read from.
  pub text_sorted : {n : ℕ} {S : Signature} {tokens : List Token} {t : Template} → Newest G.env n S → S.params ≡ [] → AllNamed G.outsides L tokens
      → TextDerives g [] tokens 1 (call n none ∷ []) [] 1 (t ∷ []) → SortedAt G.outsides L t S.result
  unfolding substitute
  text_sorted {n} {S} {t = t} newest e named d =
      let whole =
      items_sorted d
      (by_binding {t = variable 0} (Judgements.by_call newest (subst (Fill G.outsides [] none) (sym e) fill_none))
      (by_result (Judgements.by_variable has_first) fits_equal))
      filled_none named in
      fits_at (substitute_sorted whole.filled (variable 0) whole.sorted) whole.fits
