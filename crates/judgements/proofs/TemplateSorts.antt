-- The tests of templates are the judgements E; L ⊢ p : B: closed and sorted exactly if a derivation gives the sort.
use Prim.Native.Nat.{ℕ, zero, suc, ◌<◌}
use mathlib.Core.Path.{◌≡◌, refl, sym, subst, subst₂}
use mathlib.Core.Bool.{Bool, true, false, ◌&&◌, ◌||◌, true≢false, and-eq-true_iff}
use mathlib.Core.List.{List, [], ◌∷◌}
use native.Mathlib.Omega.{arith}
use lib.Dec.{eqb}
use lib.ListN.{length, get_or}
use borrow.Author.Tests.{eqb-true, eq-eqb, ltb-true, lt-ltb}
use Rattle.grammar.specs.Sorts.{unit, var, binder, constructor}
use Rattle.grammar.specs.SortTests.{fits}
use Rattle.grammar.specs.Table.{Template, Templates, variable, outside_var, outside_label, make, none, more}
use Rattle.grammar.specs.Table as Table
use Rattle.decoding.specs.Within.{TemplateWithin, make_within, TemplatesWithin, more_within}
use Rattle.judgements.specs.CheckSorts.{is_closed, are_closed, sort_of, is_sorted, fill}
use Rattle.judgements.specs.Scopes.{Scope}
use Rattle.judgements.specs.Judgements.{Has, has_first, has_later, Fits, fits_equal, fits_binder, Sorted, by_variable, by_global, by_label}
use Rattle.judgements.specs.Judgements.{by_constructor, by_unit, Fill, fill_none, fill_more}

-- ------------------------------------------------------------------ tests

-- both tests of a pair, and the pair from both
pub both : (one other : Bool) → (one && other) ≡ true → (one ≡ true) × (other ≡ true)
both one other h = (and-eq-true_iff one other).0 h

-- both tests hold
pub pair : (one other : Bool) → one ≡ true → other ≡ true → (one && other) ≡ true
pair one other h k = (and-eq-true_iff one other).1 (h, k)

-- one of two tests holds
pub either : {A : Type 0} (one other : Bool) → (one || other) ≡ true → (one ≡ true → A) → (other ≡ true → A) → A
either true other h f g = f refl
either false other h f g = g h

first : (one other : Bool) → one ≡ true → (one || other) ≡ true
first one other h = cc

-- ------------------------------------------------------------------ sorts that fit, sorts of variables

-- a sort that fits by its code fits by the rules
pub fits_rule : (A B : ℕ) → fits A B ≡ true → Fits A B
unfolding fits
fits_rule A B h =
    either (eqb A B) (eqb A binder && eqb B var) h (λ e. subst (Fits A) (eqb-true A B e) fits_equal)
    (λ e.
    let k = both (eqb A binder) (eqb B var) e in
    subst₂ Fits (sym (eqb-true A binder k.0)) (sym (eqb-true B var k.1)) fits_binder)

-- and the other way round
pub rule_fits : {A B : ℕ} → Fits A B → fits A B ≡ true
unfolding fits
rule_fits (fits_equal {B = B}) = first (eqb B B) (eqb B binder && eqb B var) (eq-eqb B B refl)
rule_fits fits_binder = refl

has_at : (L : List ℕ) (index : ℕ) → index < length L → Has L index (get_or L index unit)
has_at [] index h = absurd (omega arith)
has_at (B ∷ L) zero h = has_first
has_at (B ∷ L) (suc index) h = has_later (has_at L index (omega arith))

has_below : {L : List ℕ} {index B : ℕ} → Has L index B → index < length L
has_below has_first = omega arith
has_below (has_later h) = omega (arith, has_below h)

has_sort : {L : List ℕ} {index B : ℕ} → Has L index B → get_or L index unit ≡ B
has_sort has_first = refl
has_sort (has_later h) = has_sort h

-- ------------------------------------------------------------------ templates

module _ (scope : Scope) (L : List ℕ) where
  mutual
    unfolding is_closed are_closed is_sorted fill

    -- a template that is closed and sorted has its sort by the rules
    pub sorted_rule :
        (template : Template) → TemplateWithin template → is_closed template scope (length L) ≡ true → is_sorted template L ≡ true
        → Sorted scope.outsides L template (sort_of template L)
    sorted_rule (variable i) w c s = by_variable (has_at L i (ltb-true i (length L) c))
    sorted_rule (outside_var x) w c s = by_global (ltb-true x scope.outsides c)
    sorted_rule (outside_label x) w c s = by_label (ltb-true x scope.outsides c)
    sorted_rule (make k ts) (make_within l h e ws) c s = by_constructor l h (fill_rule ts (constructor k).params ws c s)
    sorted_rule Table.unit w c s = by_unit

    -- templates that fill places fill them by the rules
    pub fill_rule :
        (ts : Templates) (Bs : List ℕ) → TemplatesWithin ts → are_closed ts scope (length L) ≡ true → fill ts L Bs ≡ true → Fill scope.outsides L ts Bs
    fill_rule none [] ws c s = fill_none
    fill_rule none (B ∷ Bs) ws c s = absurd (true≢false (sym s))
    fill_rule (more t ts) [] ws c s = absurd (true≢false (sym s))
    fill_rule (more t ts) (B ∷ Bs) (more_within w ws) c s =
        let k = both (is_closed t scope (length L)) (are_closed ts scope (length L)) c in
        let u = both (is_sorted t L && fits (sort_of t L) B) (fill ts L Bs) s in
        let v = both (is_sorted t L) (fits (sort_of t L) B) u.0 in
        fill_more (sorted_rule t w k.0 v.0) (fits_rule (sort_of t L) B v.1) (fill_rule ts Bs ws k.1 u.1)

  mutual
    unfolding is_closed are_closed is_sorted fill

    -- a template with a sort by the rules is closed and sorted
    pub rule_sorted :
        (template : Template) {A : ℕ} → Sorted scope.outsides L template A
        → (is_closed template scope (length L) ≡ true) × (is_sorted template L ≡ true) × (sort_of template L ≡ A)
    rule_sorted (variable i) (by_variable h) = (lt-ltb i (length L) (has_below h), refl, has_sort h)
    rule_sorted (outside_var x) (by_global h) = (lt-ltb x scope.outsides h, refl, refl)
    rule_sorted (outside_label x) (by_label h) = (lt-ltb x scope.outsides h, refl, refl)
    rule_sorted (make c ts) (by_constructor l u h) = let f = rule_fill ts h in (f.0, f.1, refl)
    rule_sorted Table.unit by_unit = (refl, refl, refl)

    -- templates that fill places by the rules fill them
    pub rule_fill :
        (ts : Templates) {Bs : List ℕ} → Fill scope.outsides L ts Bs
        → (are_closed ts scope (length L) ≡ true) × (fill ts L Bs ≡ true)
    rule_fill none fill_none = (refl, refl)
    rule_fill (more t ts) (fill_more {A = A} {B = B} {Bs = Bs} h f k) =
        let u = rule_sorted t h in
        let v = rule_fill ts k in (
          pair (is_closed t scope (length L)) (are_closed ts scope (length L)) u.0 v.0,
          pair (is_sorted t L && fits (sort_of t L) B) (fill ts L Bs)
              (pair (is_sorted t L) (fits (sort_of t L) B) u.1 (cc (u.2, rule_fits f))) v.1,
        )
