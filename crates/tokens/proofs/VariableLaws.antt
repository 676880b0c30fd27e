-- Laws of `$` variables: the tests and the rules of specs/Variables tell the same, and where there are no variables there is none.
use Prim.Native.Nat.{ℕ, zero, suc, ◌<◌, ◌≤◌}
use mathlib.Core.Path.{◌≡◌, refl}
use mathlib.Core.Logic.{◌↔◌}
use mathlib.Core.Bool.{Bool, true, false, not, ◌||◌}
use mathlib.Core.List.{List, [], ◌∷◌}
use native.Mathlib.Omega.{arith}
use lib.Dec.{eqb, ltb}
use lib.ListN.{get_or, drop}
use borrow.Author.Tests.{eq-eqb, eqb-true, lt-ltb, le-ltb, ltb-true}
use Rattle.spellings.specs.Bytes.{is_digit, value_of}
use Rattle.spellings.proofs.BytesLaws.{by_test}
use Rattle.tokens.specs.Variables.{dollar, dollar_digits, is_dollar, is_variable, dollars_below, DollarFront, VariableFront}
use Rattle.tokens.proofs.WordLaws.{both}

-- Where there are no variables, nothing is one: the scan of a formula goes by document 01 alone.
pub no_variables : (rest : List ℕ) → is_variable 0 rest ≡ false
unfolding is_variable
no_variables rest =
    let over : ltb (value_of (dollar_digits rest)) 0 ≡ false = le-ltb (value_of (dollar_digits rest)) 0 (omega arith) in
    by_test (is_dollar rest) (λ e. rw (e, over, is_variable) refl) (λ e. rw (e, is_variable) refl)

module _ {rest : List ℕ} where
  -- the test finds `$` and the digits behind it
  pub dollar_front : is_dollar rest ≡ true → DollarFront rest (dollar_digits rest)
  unfolding is_dollar
  dollar_front e =
      let p = both (eqb (get_or rest 0 0) dollar) (is_digit (get_or rest 1 0)) e in
      record { begins = eqb-true (get_or rest 0 0) dollar p.0; digit = p.1; whole = refl }

  -- where they stand, the test finds them
  pub front_dollar : {digits : List ℕ} → DollarFront rest digits → is_dollar rest ≡ true
  unfolding is_dollar
  front_dollar f = rw (eq-eqb (get_or rest 0 0) dollar f.begins, f.digit, is_dollar) refl

  module _ {count : ℕ} where
    -- the test finds a variable
    pub variable_front : is_variable count rest ≡ true → VariableFront count rest (dollar_digits rest)
    unfolding is_variable
    variable_front e =
        let p = both (is_dollar rest) (ltb (value_of (dollar_digits rest)) count) e in
        record { front = dollar_front p.0; below = ltb-true (value_of (dollar_digits rest)) count p.1 }

    -- where one stands, the test finds it
    pub front_variable : {digits : List ℕ} → VariableFront count rest digits → is_variable count rest ≡ true
    unfolding is_variable
    front_variable f =
        let l : value_of (dollar_digits rest) < count = rw (← f.front.whole) f.below in
        rw (front_dollar f.front, lt-ltb (value_of (dollar_digits rest)) count l, is_variable) refl

    -- where the test finds none, none stands
    pub none_stands : is_variable count rest ≡ false → (digits : List ℕ) → VariableFront count rest digits → ⊥
    none_stands e digits f = let z : ◌≡◌ {A = ℕ} 0 1 = cc (e, front_variable f) in omega arith

    -- where none stands, the test finds none
    pub none_found : ((digits : List ℕ) → VariableFront count rest digits → ⊥) → is_variable count rest ≡ false
    none_found none = by_test (is_variable count rest) (λ e. absurd (none (dollar_digits rest) (variable_front e))) (λ e. e)

-- digits worth `count` or more name none
pub none_above : (count : ℕ) (rest : List ℕ) → count ≤ value_of (dollar_digits rest) → is_variable count rest ≡ false
none_above count rest over = none_found (λ digits f. omega (arith, rw f.front.whole at f.below))

-- ------------------------------------------------------------------ every `$` of a text

implied : (first second : Bool) → (not first || second) ≡ true → first ≡ true → second ≡ true
implied true second e h = e
implied false second e h = let z : ◌≡◌ {A = ℕ} 0 1 = cc in absurd (omega arith)

implies : (first second : Bool) → (first ≡ true → second ≡ true) → (not first || second) ≡ true
implies true second h = h refl
implies false second h = refl

module _ (count : ℕ) where
  below : (text : List ℕ) → dollars_below count text ≡ true → (at : ℕ) (digits : List ℕ) → DollarFront (drop at text) digits → value_of digits < count
  unfolding dollars_below
  below [] e zero digits f = absurd (omega (arith, f.begins))
  below [] e (suc at) digits f = absurd (omega (arith, f.begins))
  below (b ∷ bs) e zero digits f =
      let p = both (not (is_dollar (b ∷ bs)) || is_variable count (b ∷ bs)) (dollars_below count bs) e in
      let v = variable_front (implied (is_dollar (b ∷ bs)) (is_variable count (b ∷ bs)) p.0 (front_dollar f)) in
      rw f.whole v.below
  below (b ∷ bs) e (suc at) digits f =
      below bs (both (not (is_dollar (b ∷ bs)) || is_variable count (b ∷ bs)) (dollars_below count bs) e).1 at digits f

  all-below : (text : List ℕ) → ((at : ℕ) (digits : List ℕ) → DollarFront (drop at text) digits → value_of digits < count) → dollars_below count text ≡ true
  unfolding dollars_below
  all-below [] h = refl
  all-below (b ∷ bs) h =
      let here : is_dollar (b ∷ bs) ≡ true → is_variable count (b ∷ bs) ≡ true
      = λ e. let f = dollar_front e in front_variable (record { front = f; below = h 0 (dollar_digits (b ∷ bs)) f }) in
      rw (implies (is_dollar (b ∷ bs)) (is_variable count (b ∷ bs)) here, all-below bs (λ at digits f. h (suc at) digits f)) refl

  -- A text passes exactly if the digits behind each `$`, wherever it stands, name one of `count` variables.
  pub dollars_exactly : (text : List ℕ)
      → (dollars_below count text ≡ true) ↔ ((at : ℕ) (digits : List ℕ) → DollarFront (drop at text) digits → value_of digits < count)
  dollars_exactly text = (below text, all-below text)
