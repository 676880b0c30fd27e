-- Figure 3 derives at most one value: with 01's choice, no formula has two readings.
use Prim.Native.Nat.{ℕ}
use mathlib.Core.Path.{◌≡◌, refl, sym, subst₂, subst₃}
use mathlib.Core.Bool.{Bool, true, false, true≢false}
use mathlib.Core.List.{List, [], ◌∷◌, ◌++◌}
use Rattle.answers.specs.Checked.{ok}
use Rattle.grammar.specs.Table.{Template, Templates, none, more, Item}
use Rattle.grammar.specs.Table as Table
use Rattle.tokens.specs.declared.Token.{Token}
use Rattle.productions.specs.Normal.{Production}
use Rattle.clashes.specs.CheckFirsts.{check_firsts}
use Rattle.terms.specs.Term.{Name, Term}
use Rattle.expansion.specs.Figure3.{Value, term, Constructs, Bound, bound_first, bound_later, Gives, by_variable, by_global, by_label, by_constructor}
use Rattle.expansion.specs.Figure3.{by_unit, GiveAll, give_none, give_more, WordAs, as_var, as_binder, as_label, ReadsAs, by_keyword, by_ide, by_number}
use Rattle.expansion.specs.Figure3.{by_local, Derives, by_end, by_terminal, by_call, Parses}
use Rattle.expansion.specs.Figure3 as Figure3
use Rattle.expansion.proofs.Choosing.{taken_one}

-- ------------------------------------------------------------------ templates

bound_one : {M : List Value} {index : ℕ} {value other : Value} → Bound M index value → Bound M index other → value ≡ other
bound_one bound_first bound_first = refl
bound_one (bound_later b) (bound_later c) = bound_one b c

constructs_one : {code : ℕ} {vs : List Value} {value other : Value} → Constructs code vs value → Constructs code vs other → value ≡ other
constructs_one Figure3.makes_var Figure3.makes_var = refl
constructs_one Figure3.makes_var_of_binder Figure3.makes_var_of_binder = refl
constructs_one Figure3.makes_fun Figure3.makes_fun = refl
constructs_one Figure3.makes_app Figure3.makes_app = refl
constructs_one Figure3.makes_rcd Figure3.makes_rcd = refl
constructs_one Figure3.makes_dot Figure3.makes_dot = refl
constructs_one Figure3.makes_nil Figure3.makes_nil = refl
constructs_one Figure3.makes_cons Figure3.makes_cons = refl
constructs_one Figure3.makes_num Figure3.makes_num = refl

module _ {spell : ℕ → List ℕ} {M : List Value} where
  mutual
    gives_one : (template : Template) {value other : Value} → Gives spell M template value → Gives spell M template other → value ≡ other
    gives_one (Table.variable i) (by_variable b) (by_variable c) = bound_one b c
    gives_one (Table.outside_var n) by_global by_global = refl
    gives_one (Table.outside_label n) by_label by_label = refl
    gives_one Table.unit by_unit by_unit = refl
    gives_one (Table.make c ts) {other = other} (by_constructor gs k) (by_constructor hs l) = constructs_one k (rw (← (all_one ts gs hs)) at l)

    all_one : (ts : Templates) {vs ws : List Value} → GiveAll spell M ts vs → GiveAll spell M ts ws → vs ≡ ws
    all_one none give_none give_none = refl
    all_one (more t ts) (give_more {v = v} g gs) (give_more {vs = ws} h hs) = cc (all_one ts gs hs, gives_one t g h)

-- ------------------------------------------------------------------ terminals

-- a terminal is no call, and reads one value
abbrev is_terminal : Item → Bool
is_terminal (Table.terminal t) = true
is_terminal Table.local = true
is_terminal (Table.call n ts) = false

terminal_item : {g : List Production} {spell : ℕ → List ℕ} {s s' : List Token} {i i' : ℕ} {p : Item} {value : Value} → ReadsAs g spell s i p s' i' value → true
    ≡ is_terminal p
terminal_item (by_keyword e) = refl
terminal_item (by_ide e w) = refl
terminal_item (by_number e) = refl
terminal_item by_local = refl

word_one : {B : ℕ} {x : List ℕ} {value other : Value} → WordAs B x value → WordAs B x other → value ≡ other
word_one as_var as_var = refl
word_one as_binder as_binder = refl
word_one as_label as_label = refl

terminal_one : {g : List Production} {spell : ℕ → List ℕ} {s s₁ s₂ : List Token} {i i₁ i₂ : ℕ} {p : Item} {value other : Value}
    → ReadsAs g spell s i p s₁ i₁ value → ReadsAs g spell s i p s₂ i₂ other
    → (value ≡ other) × (s₁ ≡ s₂) × (i₁ ≡ i₂)
terminal_one (by_keyword e) (by_keyword f) = (refl, refl, refl)
terminal_one (by_ide e a) (by_ide f b) = (word_one a b, refl, refl)
terminal_one (by_number e) (by_number f) = (refl, refl, refl)
terminal_one by_local by_local = (refl, refl, refl)

-- ------------------------------------------------------------------ items

module _ {g : List Production} (passed : check_firsts g ≡ ok tt) {spell : ℕ → List ℕ} where
  derives_one : {M M₁ M₂ : List Value} {s s₁ s₂ : List Token} {i i₁ i₂ : ℕ} {is : List Item} → Derives g spell M s i is s₁ i₁ M₁
      → Derives g spell M s i is s₂ i₂ M₂
      → (M₁ ≡ M₂) × (s₁ ≡ s₂) × (i₁ ≡ i₂)
  derives_one by_end by_end = (refl, refl, refl)
  derives_one {M} (by_terminal {s₁ = t} {i₁ = j} {ps = ps} {v = v} e d) (by_terminal {M' = M₂} {s₁ = t'} {s' = s₂} {i₁ = j'} {i' = i₂} {v = v'} f h) =
      let q = terminal_one e f in
      derives_one d (subst₃ (λ w u k. Derives g spell (M ++ (w ∷ [])) u k ps s₂ i₂ M₂) (sym q.0) (sym q.1) (sym q.2) h)
  derives_one (by_terminal e d) (by_call gs t d₁ q r) = absurd (true≢false (terminal_item e))
  derives_one (by_call gs t d₁ q r) (by_terminal e d) = absurd (true≢false (terminal_item e))
  derives_one {M} {s = s} {i = i}
      (by_call {ts = ts} {ps = is} {p = p} gs t d q r)
      (by_call {M₁ = M₁} {M' = M₂} {s₁ = s₁} {s' = s₂} {i₁ = i₁} {i' = i₂} {v = w} gs' t' d' q' r') =
      let a = derives_one d (subst₂ (λ vs x. Derives g spell vs s i x.items s₁ i₁ M₁) (sym (all_one ts gs gs')) (sym (taken_one g passed t t')) d') in
      let b = gives_one p.result q (subst₂ (λ m x. Gives spell m x.result w) (sym a.0) (sym (taken_one g passed t t')) q') in
      derives_one r (subst₃ (λ v t j. Derives g spell (M ++ (v ∷ [])) t j is s₂ i₂ M₂) (sym b) (sym a.1) (sym a.2) r')

  -- tokens have one parse at most
  pub parses_one : {root : ℕ} {tokens : List Token} {t other : Term Name} → Parses g spell root tokens t → Parses g spell root tokens other → t ≡ other
  parses_one {t = t} {other} P Q =
      let e : ◌≡◌ {A = List Value} (term t ∷ []) (term other ∷ []) = (derives_one P.derived Q.derived).0 in
      cc
