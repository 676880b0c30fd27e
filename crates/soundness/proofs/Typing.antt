-- 001's Theorem 1: what a production of a well sorted grammar derives has the sort of its place.
use Prim.Native.Nat.{ℕ, zero, suc, ◌+◌, ◌-◌, ◌≤◌, ◌<◌}
use mathlib.Core.Path.{◌≡◌, refl, sym, ap, subst, ◌∙◌}
use mathlib.Core.List.{List, [], ◌∷◌, ◌++◌}
use native.Mathlib.Omega.{arith}
use Rattle.grammar.specs.Sorts.{Signature, constructor_signatures, constructor}
use Rattle.grammar.specs.Table.{Template, Templates, none, more, kind_of, Item, terminal}
use Rattle.grammar.specs.Table as Table
use Rattle.decoding.specs.Within.{Among}
use Rattle.judgements.specs.CheckSorts.{signature_of}
use Rattle.judgements.specs.Scopes.{Scope}
use Rattle.judgements.specs.Judgements.{Has, has_first, has_later, Newest, Fits, fits_equal, fits_binder, Sorted, Fill, fill_none, fill_more, ItemSorted, Body}
use Rattle.judgements.specs.Judgements.{by_result, by_binding}
use Rattle.judgements.specs.Judgements as Judgements
use Rattle.judgements.proofs.Environments.{newest_signature}
use Rattle.elaboration.proofs.Normalizing.{Fit}
use Rattle.tokens.specs.declared.Token.{Token}
use Rattle.productions.specs.Normal.{Production}
use Rattle.firsts.specs.Rules.{Of}
use Rattle.expansion.specs.Figure3.{Value, Constructs, Bound, bound_first, bound_later, Gives, by_variable, by_global, by_label, by_constructor, by_unit}
use Rattle.expansion.specs.Figure3.{GiveAll, give_none, give_more, Taken, taken_opened, taken_nullable, as_var, as_binder, as_label, ReadsAs, by_keyword}
use Rattle.expansion.specs.Figure3.{by_ide, by_number, by_local, Derives, by_end, by_terminal, by_call}
use Rattle.expansion.specs.Figure3 as Figure3
use Rattle.expansion.specs.ValueSorts.{Typed, typed_unit, typed_var, typed_binder, typed_binder_as_var, typed_label, typed_term, typed_fields, typed_num}
use Rattle.expansion.specs.ValueSorts.{Matches, matches-none, matches_more}

-- ------------------------------------------------------------------ values of a sort

-- what may stand at a place may stand where the place's sort may
typed_at : {value : Value} {A B : ℕ} → Typed value A → Fits A B → Typed value B
typed_at h fits_equal = h
typed_at typed_binder fits_binder = typed_binder_as_var

-- one value more, of its sort
pub matches_and : {M : List Value} {L : List ℕ} {value : Value} {B : ℕ} → Matches M L → Typed value B → Matches (M ++ (value ∷ [])) (L ++ (B ∷ []))
matches_and matches-none k = matches_more k matches-none
matches_and (matches_more h hs) k = matches_more h (matches_and hs k)

bound_exists : {M : List Value} {L : List ℕ} {index B : ℕ} → Matches M L → Has L index B → (value : Value) × Bound M index value × Typed value B
bound_exists (matches_more {v = v} h hs) has_first = (v, bound_first, h)
bound_exists (matches_more h hs) (has_later k) = let b = bound_exists hs k in (b.0, bound_later b.1, b.2)
bound_exists matches-none x = elim x [ ]

bound_typed : {M : List Value} {L : List ℕ} {index B : ℕ} {value : Value} → Matches M L → Has L index B → Bound M index value → Typed value B
bound_typed (matches_more h hs) has_first bound_first = h
bound_typed (matches_more h hs) (has_later k) (bound_later b) = bound_typed hs k b
bound_typed matches-none x _ = elim x [ ]

-- ------------------------------------------------------------------ constructors

constructs_typed : {code : ℕ} {vs : List Value} {value : Value} → Constructs code vs value → Typed value (constructor code).result
unfolding constructor constructor_signatures
constructs_typed Figure3.makes_var = typed_term
constructs_typed Figure3.makes_var_of_binder = typed_term
constructs_typed Figure3.makes_fun = typed_term
constructs_typed Figure3.makes_app = typed_term
constructs_typed Figure3.makes_rcd = typed_term
constructs_typed Figure3.makes_dot = typed_term
constructs_typed Figure3.makes_nil = typed_fields
constructs_typed Figure3.makes_cons = typed_fields
constructs_typed Figure3.makes_num = typed_term

-- a constructor over arguments of its sorts constructs a value
constructs_by : (place : ℕ) → place < 8 → {vs : List Value} → Matches vs (constructor (0x20 + place)).params
    → (value : Value) × Constructs (0x20 + place) vs value
unfolding constructor constructor_signatures
constructs_by zero l (matches_more typed_var matches-none) = (_, Figure3.makes_var)
constructs_by zero l (matches_more typed_binder_as_var matches-none) = (_, Figure3.makes_var_of_binder)
constructs_by (suc zero) l (matches_more typed_binder (matches_more typed_term matches-none)) = (_, Figure3.makes_fun)
constructs_by (suc (suc zero)) l (matches_more typed_term (matches_more typed_term matches-none)) = (_, Figure3.makes_app)
constructs_by (suc (suc (suc zero))) l (matches_more typed_fields matches-none) = (_, Figure3.makes_rcd)
constructs_by (suc (suc (suc (suc zero)))) l (matches_more typed_term (matches_more typed_label matches-none)) = (_, Figure3.makes_dot)
constructs_by (suc (suc (suc (suc (suc zero))))) l matches-none = (_, Figure3.makes_nil)
constructs_by (suc (suc (suc (suc (suc (suc zero)))))) l (matches_more typed_label (matches_more typed_term (matches_more typed_fields matches-none))) =
    (_, Figure3.makes_cons)
constructs_by (suc (suc (suc (suc (suc (suc (suc zero))))))) l (matches_more typed_num matches-none) = (_, Figure3.makes_num)
constructs_by (suc (suc (suc (suc (suc (suc (suc (suc place)))))))) l h = absurd (omega arith)

constructs_exists : (code : ℕ) → 0x20 ≤ code → code ≤ 0x27 → {vs : List Value} → Matches vs (constructor code).params
    → (value : Value) × Constructs code vs value
constructs_exists code l h {vs} m =
    let e : 0x20 + (code - 0x20) ≡ code = omega arith in
    let r = constructs_by (code - 0x20) (omega arith) (rw (← e) at m) in
    (r.0, subst (λ x. Constructs x vs r.0) e r.1)

-- ------------------------------------------------------------------ templates

module _ (spell : ℕ → List ℕ) {outsides : ℕ} {M : List Value} {L : List ℕ} (matches : Matches M L) where
  -- a sorted template gives a value
  mutual
    -- a sorted template gives a value of its sort
    pub gives_exists : {A : ℕ} (template : Template) → Sorted outsides L template A → (value : Value) × Gives spell M template value × Typed value A
    gives_exists (Table.variable i) (Judgements.by_variable h) = let b = bound_exists matches h in (b.0, by_variable b.1, b.2)
    gives_exists (Table.outside_var n) (Judgements.by_global h) = (_, by_global, typed_var)
    gives_exists (Table.outside_label n) (Judgements.by_label h) = (_, by_label, typed_label)
    gives_exists Table.unit Judgements.by_unit = (_, by_unit, typed_unit)
    gives_exists (Table.make c ts) (Judgements.by_constructor l h f) =
        let r = give_all_exist ts f in
        let k = constructs_exists c l h r.2 in
        (k.0, by_constructor r.1 k.1, constructs_typed k.1)

    -- so do templates that fill places
    pub give_all_exist : {Bs : List ℕ} (ts : Templates) → Fill outsides L ts Bs → (vs : List Value) × GiveAll spell M ts vs × Matches vs Bs
    give_all_exist none fill_none = ([], give_none, matches-none)
    give_all_exist (more t ts) (fill_more s f ss) =
        let g = gives_exists t s in
        let gs = give_all_exist ts ss in
        (g.0 ∷ gs.0, give_more g.1 gs.1, matches_more (typed_at g.2 f) gs.2)

  -- what a sorted template gives has its sort
  mutual
    gives_typed : {A : ℕ} (template : Template) {value : Value} → Sorted outsides L template A → Gives spell M template value → Typed value A
    gives_typed (Table.variable i) (Judgements.by_variable h) (by_variable b) = bound_typed matches h b
    gives_typed (Table.outside_var n) (Judgements.by_global h) by_global = typed_var
    gives_typed (Table.outside_label n) (Judgements.by_label h) by_label = typed_label
    gives_typed Table.unit Judgements.by_unit by_unit = typed_unit
    gives_typed (Table.make c ts) (Judgements.by_constructor l h f) (by_constructor g k) = constructs_typed k

    give_all_typed : {Bs : List ℕ} (ts : Templates) {vs : List Value} → Fill outsides L ts Bs → GiveAll spell M ts vs → Matches vs Bs
    give_all_typed none fill_none give_none = matches-none
    give_all_typed (more t ts) (fill_more s f ss) (give_more g gs) = matches_more (typed_at (gives_typed t s g) f) (give_all_typed ts ss gs)

-- ------------------------------------------------------------------ productions

-- a grammar all of whose productions fit one scope
pub record FitAll (g : List Production) : Type 0 where
  -- one scope for all
  pub scope : Scope
  -- 62 keywords at most
  pub keyword_count : scope.keywords ≤ 62
  -- 64 outside names at most
  pub outside_count : scope.outsides ≤ 64
  -- each production fits it
  pub each : (p : Production) → Among g p → Fit scope p

-- a sorted terminal reads a kind, or is a pattern place
pub sorted_kind : {g : List Production} (fit_all : FitAll g) {L : List ℕ} {t : Table.Terminal} {A : ℕ} {R : Type 0}
    → ItemSorted fit_all.scope L (terminal t) A → (kind_of t < 64 → R) → ((B : ℕ) → t ≡ Table.place B → R) → R
sorted_kind fit_all (Judgements.by_keyword l) by_kind by_place = by_kind (omega (arith, l, fit_all.keyword_count))
sorted_kind fit_all (Judgements.by_ide l u) by_kind by_place = by_kind (omega arith)
sorted_kind fit_all Judgements.by_number by_kind by_place = by_kind (omega arith)
sorted_kind fit_all (Judgements.by_place {B = B} l) by_kind by_place = by_place B refl

-- what a terminal gives has its sort
terminal_typed : {g : List Production} {spell : ℕ → List ℕ} {scope : Scope} {L : List ℕ} {s s' : List Token} {i i' : ℕ} {p : Item} {value : Value} {A : ℕ}
    → ReadsAs g spell s i p s' i' value → ItemSorted scope L p A → Typed value A
terminal_typed (by_keyword e) (Judgements.by_keyword l) = typed_unit
terminal_typed (by_ide e as_var) (Judgements.by_ide l u) = typed_var
terminal_typed (by_ide e as_binder) (Judgements.by_ide l u) = typed_binder
terminal_typed (by_ide e as_label) (Judgements.by_ide l u) = typed_label
terminal_typed (by_number e) Judgements.by_number = typed_num
terminal_typed by_local Judgements.by_local = typed_binder

-- the template of an alternative is sorted under its variables
pub result_sorted : {scope : Scope} {L : List ℕ} {is : List Item} {result : Template} {B : ℕ} → Body scope L is result B
    → (L' : List ℕ) × (A : ℕ) × Sorted scope.outsides L' result A
result_sorted (by_result {L = L} {A = A} w f) = (L, A, w)
result_sorted (by_binding i b) = result_sorted b

-- a production that the tokens take is of its nonterminal
pub taken_of : {g : List Production} {nonterminal : ℕ} {s : List Token} {p : Production} → Taken g nonterminal s p → Of g nonterminal p
taken_of (taken_opened o k) = o
taken_of (taken_nullable o k z) = o

module _ {g : List Production} (fit_all : FitAll g) where
  -- a production of `nonterminal` has the signature of `nonterminal`
  pub body_of : {nonterminal : ℕ} {S : Signature} {p : Production} → Of g nonterminal p → Newest fit_all.scope.env nonterminal S
      → Body fit_all.scope S.params p.items p.result S.result
  body_of {nonterminal} {S} {p} o w =
      let q = fit_all.each p o.member in
      let e : q.signature ≡ S = sym (newest_signature q.newest) ∙ ap (signature_of fit_all.scope.env) o.owned ∙ newest_signature w in
      rw (← e) q.body

  -- the variables after the items, and the sort of the result under them
  pub items_typed : {spell : ℕ → List ℕ} {M M' : List Value} {s s' : List Token} {i i' : ℕ} {is : List Item} {L : List ℕ} {result : Template} {B : ℕ}
      {value : Value} → Derives g spell M s i is s' i' M' → Matches M L → Body fit_all.scope L is result B → Gives spell M' result value → Typed value B
  items_typed {result = result} by_end m (by_result w f) k = typed_at (gives_typed _ m result w k) f
  items_typed (by_terminal e d) m (by_binding w b) k = items_typed d (matches_and m (terminal_typed e w)) b k
  items_typed (by_call {ts = ts} gs t d q d') m (by_binding (Judgements.by_call w f) b) k =
      items_typed d' (matches_and m (items_typed d (give_all_typed _ m ts f gs) (body_of (taken_of t) w) q)) b k

  -- behind items that are derived the result gives a value, of the sort of the body
  pub items_give : {spell : ℕ → List ℕ} {M M' : List Value} {s s' : List Token} {i i' : ℕ} {is : List Item} {L : List ℕ} {result : Template} {B : ℕ}
      → Derives g spell M s i is s' i' M' → Matches M L → Body fit_all.scope L is result B → (value : Value) × Gives spell M' result value × Typed value B
  items_give {spell = spell} {result = result} by_end m (by_result w f) =
      let given = gives_exists spell m result w in (given.0, given.1, typed_at given.2 f)
  items_give (by_terminal e d) m (by_binding w b) = items_give d (matches_and m (terminal_typed e w)) b
  items_give (by_call {ts = ts} gs t d q d') m (by_binding (Judgements.by_call w f) b) =
      items_give d' (matches_and m (items_typed d (give_all_typed _ m ts f gs) (body_of (taken_of t) w) q)) b
