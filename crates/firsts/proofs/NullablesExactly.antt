-- A bit of the computed nullables is set exactly if the nonterminal is nullable by the rules.
use Prim.Native.Nat.{ℕ}
use mathlib.Core.Path.{◌≡◌, refl, sym, ap, ap₂, ◌∙◌, fun_ext}
use mathlib.Core.Bool.{Bool, true, false, ◌&&◌, false≢true, and-eq-true_iff, and-true, or-false}
use mathlib.Core.Logic.{◌↔◌}
use mathlib.Core.List.{List, [], ◌∷◌}
use Rattle.kinds.specs.Kinds.{has_kind, only}
use Rattle.kinds.proofs.KindsLaws.{has_none, has_join, has_only}
use Rattle.grammar.specs.Table.{Item, terminal, local, call}
use Rattle.productions.specs.Normal.{Production}
use Rattle.firsts.specs.FirstSets.{over_all, is_nullable, all_nullable, null_step, nullables}
use Rattle.firsts.specs.Rules.{Of, NullItems, null_none, null_local, null_call, Nullable}
use Rattle.firsts.proofs.Rounds.{Numbers, same_at, Within, Each, admit, least, least_within, least_closed, least_settled, least_seen, over_seen}
use Rattle.firsts.proofs.EqualSets.{same_set}

-- ------------------------------------------------------------------ the test of items, with the nullables as a set

abbrev passed : Numbers → Item → Bool
passed s (terminal t) = false
passed s local = true
passed s (call n ts) = s n

all_in : Numbers → List Item → Bool
all_in s [] = true
all_in s (i ∷ is) = passed s i && all_in s is

passed_seen : (nulls : ℕ) (item : Item) → is_nullable nulls item ≡ passed (has_kind nulls) item
passed_seen nulls (terminal t) = refl
passed_seen nulls local = refl
passed_seen nulls (call n ts) = refl

all_seen : (nulls : ℕ) (is : List Item) → all_nullable nulls is ≡ all_in (has_kind nulls) is
unfolding all_nullable all_in
all_seen nulls [] = refl
all_seen nulls (i ∷ is) = ap₂ ◌&&◌ (passed_seen nulls i) (all_seen nulls is)

passed_more : (numbers others : Numbers) → Within numbers others → (item : Item) → passed numbers item ≡ true → passed others item ≡ true
passed_more numbers others h (terminal t) e = e
passed_more numbers others h local e = e
passed_more numbers others h (call n ts) e = h n e

all_more : (numbers others : Numbers) → Within numbers others → (is : List Item) → all_in numbers is ≡ true → all_in others is ≡ true
unfolding all_in
all_more numbers others h [] e = e
all_more numbers others h (i ∷ is) e =
    let b = (and-eq-true_iff _ _).0 e in
    (and-eq-true_iff _ _).1 (passed_more numbers others h i b.0, all_more numbers others h is b.1)

-- ------------------------------------------------------------------ the computed nullables are the least set

step_seen : (p : Production) (nulls : ℕ) → Unit {0} → has_kind (null_step p nulls) ≡ admit all_in p (has_kind nulls)
unfolding null_step
step_seen p nulls u = fun_ext (λ n. by n (all_nullable nulls p.items) refl)
  where
    by : (nonterminal : ℕ) (test : Bool) → all_nullable nulls p.items ≡ test
        → has_kind (null_step p nulls) nonterminal ≡ admit all_in p (has_kind nulls) nonterminal
    by nonterminal true e =
        rw (← all_seen nulls p.items, e, null_step) (rw (has_only p.nonterminal nonterminal) at (has_join nulls (only p.nonterminal) nonterminal))
    by nonterminal false e = rw (← all_seen nulls p.items, e, null_step) (sym (or-false (has_kind nulls nonterminal)))

nullables_seen : (g : List Production) → has_kind (nullables g) ≡ least all_in g
unfolding nullables
nullables_seen g = least_seen (λ x. Unit {0}) has_kind all_in null_step (λ p x u. tt) step_seen g 0 tt (fun_ext has_none)

-- one more round changes nothing
pub nullables_settled : (g : List Production) → over_all null_step g (nullables g) ≡ nullables g
nullables_settled g =
    same_set (over_all null_step g (nullables g)) (nullables g)
    (same_at
    (over_seen (λ x. Unit {0}) has_kind all_in null_step (λ p x u. tt) step_seen g (nullables g) tt
    ∙ ap (over_all (admit all_in) g) (nullables_seen g) ∙ least_settled all_in all_more g ∙ sym (nullables_seen g)))

-- ------------------------------------------------------------------ the rules

module _ (g : List Production) where
  null_sound : (numbers : Numbers) → Each (Nullable g) numbers → (is : List Item) → all_in numbers is ≡ true → NullItems g is
  unfolding all_in
  null_sound numbers hs [] e = null_none
  null_sound numbers hs (terminal t ∷ is) e = absurd (false≢true e)
  null_sound numbers hs (local ∷ is) e = null_local (null_sound numbers hs is e)
  null_sound numbers hs (call n ts ∷ is) e =
      let b = (and-eq-true_iff _ _).0 e in
      let h : Nullable g n = hs n b.0 in
      null_call h.of h.items (null_sound numbers hs is b.1)

  null_complete : {is : List Item} → NullItems g is → all_in (least all_in g) is ≡ true
  unfolding all_in
  null_complete null_none = refl
  null_complete (null_local h) = null_complete h
  null_complete (null_call o h t) = (and-eq-true_iff _ _).1 (least_closed all_in all_more g o (null_complete h), null_complete t)

  -- bit `nonterminal` is there exactly if `nonterminal` is nullable by the rules
  pub nullable_exactly : (nonterminal : ℕ) → (has_kind (nullables g) nonterminal ≡ true) ↔ Nullable g nonterminal
  nullable_exactly nonterminal = (
    λ e. least_within all_in g (Nullable g) keeps nonterminal (rw (nullables_seen g) at e),
    λ h. rw (nullables_seen g) (least_closed all_in all_more g h.of (null_complete h.items)),
  )
    where
      keeps : (numbers : Numbers) → Each (Nullable g) numbers → (nonterminal : ℕ) (p : Production) → Of g nonterminal p → all_in numbers p.items ≡ true
          → Nullable g nonterminal
      keeps numbers hs nonterminal p o e = record { production = p; of = o; items = null_sound numbers hs p.items e }

  -- items are found nullable exactly if they are
  pub null_items_exactly : (is : List Item) → (all_nullable (nullables g) is ≡ true) ↔ NullItems g is
  null_items_exactly is = (
    λ e. null_sound (has_kind (nullables g)) (λ n. (nullable_exactly n).0) is (sym (all_seen (nullables g) is) ∙ e),
    λ h. all_seen (nullables g) is ∙ rw (nullables_seen g) (null_complete h),
  )

  -- and so it is with one item
  pub null_item_exactly : (item : Item) → (is_nullable (nullables g) item ≡ true) ↔ NullItems g (item ∷ [])
  unfolding all_nullable
  null_item_exactly item =
      (λ e. (null_items_exactly (item ∷ [])).0 (and-true _ ∙ e), λ h. sym (and-true _) ∙ (null_items_exactly (item ∷ [])).1 h)
