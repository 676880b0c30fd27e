-- The tests of one part are its rules: it passes by a judgement, or it fails by its first test.
use Prim.Native.Nat.{ℕ}
use mathlib.Core.Path.{◌≡◌, refl, sym, ap, ap₂, ◌∙◌, subst}
use mathlib.Core.Logic.{◌⊎◌, inl, inr}
use mathlib.Core.Bool.{Bool, true, false, ◌&&◌, ◌||◌, true≢false, and-false}
use mathlib.Core.List.{List, [], ◌∷◌, ◌++◌}
use native.Mathlib.Omega.{arith}
use lib.Dec.{eqb, ltb}
use lib.ListN.{length}
use borrow.Author.Tests.{eqb-true, ltb-true, ltb-false, le-ltb, lt-ltb}
use Rattle.answers.specs.declared.Refusal.{Refusal}
use Rattle.answers.specs.Refusals.{refusal}
use Rattle.answers.specs.Checked.{Checked, ok, bad, need}
use Rattle.spellings.proofs.BytesLaws.{by_test}
use Rattle.grammar.specs.Sorts.{Signature, gives, unit, term}
use Rattle.grammar.specs.SortTests.{fits}
use Rattle.grammar.specs.Table.{Template, Templates, variable, outside_var, outside_label, make, none, more, keyword, ide, number, Item, terminal, local, call}
use Rattle.grammar.specs.Table as Table
use Rattle.grammar.specs.Table.{Mode, add, extend, update}
use Rattle.grammar.specs.Written.{WrittenResult, template, WrittenDefinition}
use Rattle.decoding.specs.Within.{keyword_within, ide_within, number_within, ItemWithin, terminal_within, local_within, call_within}
use Rattle.decoding.specs.Within.{ResultWithin, template_within}
use Rattle.judgements.specs.Scopes.{Env, Scope}
use Rattle.judgements.specs.CheckSorts.{is_defined, signature_of, same_signature, is_as_before, is_unused, consistent, is_closed, are_closed, sort_of, is_sorted, fill}
use Rattle.judgements.specs.CheckSorts.{check_item}
use Rattle.judgements.specs.Judgements.{Newest, Undeclared, Fits, Sorted, ItemSorted, by_keyword, by_ide, by_number, by_place, by_local, by_call}
use Rattle.judgements.proofs.Environments.{defined_here, defined_later, defined_newest, newest_defined, newest_signature, undefined_absent}
use Rattle.judgements.proofs.Environments.{absent_undefined, same_signature_lem, signature_same}
use Rattle.judgements.proofs.TemplateSorts.{both, pair, fits_rule, rule_fits, sorted_rule, rule_sorted, fill_rule, rule_fill}
use Rattle.texts.specs.Reading.{TextRead}
use Rattle.elaboration.specs.Contexts.{Before}
use Rattle.elaboration.specs.CheckSequence.{check_result, check_root}
use Rattle.elaboration.specs.Elaboration.{by_text, ResultSorted, by_template}
use Rattle.causes.specs.Missorted.{Undefined, no_variable, no_name, no_label, in_argument, SomeUndefined, this_one, a_later_one}
use Rattle.causes.specs.Missorted.{UndefinedItem, no_keyword, no_nonterminal, in_arguments, Part, head, item, result, root, Fails}
use Rattle.causes.specs.Missorted as rules

-- ------------------------------------------------------------------ templates

and_false_parts : {R : Type 0} (one other : Bool) → (one && other) ≡ false → (one ≡ false → R) → (other ≡ false → R) → R
and_false_parts true other h f g = g h
and_false_parts false other h f g = f refl

module _ (G : Scope) (n : ℕ) where
  mutual
    unfolding is_closed are_closed

    open_rule : (t : Template) → is_closed t G n ≡ false → Undefined G.outsides n t
    open_rule (variable i) h = no_variable (ltb-false i n h)
    open_rule (outside_var x) h = no_name (ltb-false x G.outsides h)
    open_rule (outside_label x) h = no_label (ltb-false x G.outsides h)
    open_rule (make c ts) h = in_argument (opens_rule ts h)
    open_rule Table.unit h = absurd (true≢false h)

    opens_rule : (ts : Templates) → are_closed ts G n ≡ false → SomeUndefined G.outsides n ts
    opens_rule none h = absurd (true≢false h)
    opens_rule (more t ts) h =
        and_false_parts (is_closed t G n) (are_closed ts G n) h (λ e. this_one (open_rule t e)) (λ e. a_later_one (opens_rule ts e))

  mutual
    unfolding is_closed are_closed

    rule_open : (t : Template) → Undefined G.outsides n t → is_closed t G n ≡ false
    rule_open (variable i) (no_variable h) = le-ltb i n h
    rule_open (outside_var x) (no_name h) = le-ltb x G.outsides h
    rule_open (outside_label x) (no_label h) = le-ltb x G.outsides h
    rule_open (make c ts) (in_argument h) = rule_opens ts h
    rule_open Table.unit x = elim x [ ]

    rule_opens : (ts : Templates) → SomeUndefined G.outsides n ts → are_closed ts G n ≡ false
    rule_opens (more t ts) (this_one h) = rw (rule_open t h) refl
    rule_opens (more t ts) (a_later_one h) = rw (rule_opens ts h) (and-false (is_closed t G n))
    rule_opens none x = elim x [ ]

-- ------------------------------------------------------------------ items

-- a part passes with a value and what a judgement says of it, or it fails
pub data Outcome {A : Type 0} (at : ℕ) (p : Part) (R : A → Type 0) (checked : Checked A) : Type 0 where
  passing : (a : A) → R a → checked ≡ ok a → Outcome at p R checked
  failing : {r : Refusal} → Fails at p r → checked ≡ bad r → Outcome at p R checked

-- both ways of it
pub outcome : {A C : Type 0} {at : ℕ} {p : Part} {R : A → Type 0} {checked : Checked A} → Outcome at p R checked
    → ((a : A) → R a → checked ≡ ok a → C) → ((r : Refusal) → Fails at p r → checked ≡ bad r → C) → C
outcome (passing a r e) f g = f a r e
outcome (failing {r} h e) f g = g r h e

module _ (G : Scope) (L : List ℕ) (at : ℕ) where
  closed_call : (n : ℕ) (ts : Templates) → is_defined G.env n ≡ true → are_closed ts G (length L) ≡ true → ¬ UndefinedItem G (length L) (call n ts)
  closed_call n ts d c (no_nonterminal u) = true≢false (sym d ∙ absent_undefined u)
  closed_call n ts d c (in_arguments s) = true≢false (sym c ∙ rule_opens G (length L) ts s)

  unfilled : (n : ℕ) (ts : Templates) → fill ts L (signature_of G.env n).params ≡ false → (A : ℕ) → ¬ ItemSorted G L (call n ts) A
  unfilled n ts e A (by_call {S = S} d h) = true≢false (sym (rule_fill G L ts h).1 ∙ rw (newest_signature d) at e)

  -- an item passes by a judgement, or fails
  pub item_view : (i : Item) → ItemWithin i → Outcome at (item G L i) (ItemSorted G L i) (check_item G L at i)
  item_view _ (terminal_within (keyword_within {k} l)) =
      by_test (ltb k G.keywords) (λ e. passing unit (by_keyword (ltb-true k G.keywords e)) (rw e refl))
      (λ e. failing (rules.undefined_item (no_keyword (ltb-false k G.keywords e))) (rw e refl))
  item_view _ (terminal_within (ide_within {s} l u)) = passing s (by_ide l u) refl
  item_view _ (terminal_within number_within) = passing _ by_number refl
  item_view _ local_within = passing _ by_local refl
  item_view _ (call_within {n} {ts} l ws) =
      by_test (is_defined G.env n)
      (λ d. by_test (are_closed ts G (length L))
      (λ c. by_test (fill ts L (signature_of G.env n).params)
      (λ f. passing (signature_of G.env n).result (by_call (defined_newest G.env n d) (fill_rule G L ts _ ws c f)) (rw (d, c, f) refl))
      (λ f. failing (rules.unsorted_item (closed_call n ts d c) (unfilled n ts f)) (rw (d, c, f) refl)))
      (λ c. failing (rules.undefined_item (in_arguments (opens_rule G (length L) ts c))) (rw (d, c) refl)))
      (λ d. failing (rules.undefined_item (no_nonterminal (undefined_absent G.env n d))) (rw d refl))

  -- an item with a sort passes
  pub item_passes : {i : Item} {A : ℕ} → ItemSorted G L i A → check_item G L at i ≡ ok A
  item_passes (by_keyword {k} h) = rw (lt-ltb k G.keywords h) refl
  item_passes (by_ide l u) = refl
  item_passes by_number = refl
  item_passes (by_place l) = refl
  item_passes by_local = refl
  item_passes (by_call {n} {S} {ts} d h) =
      let (closed, filled) = rule_fill G L ts h in rw (newest_defined d, newest_signature d, closed, filled) refl

  -- an item with a sort is defined
  sorted_defined : {i : Item} {A : ℕ} → ItemSorted G L i A → ¬ UndefinedItem G (length L) i
  sorted_defined (by_keyword h) (no_keyword l) = omega arith
  sorted_defined (by_call {n = n} d h) (no_nonterminal u) = true≢false (sym (newest_defined d) ∙ absent_undefined u)
  sorted_defined (by_call {n = n} {ts = ts} d h) (in_arguments s) = true≢false (sym (rule_fill G L ts h).0 ∙ rule_opens G (length L) ts s)
  sorted_defined (by_ide _ _) x = elim x [ ]
  sorted_defined by_number x = elim x [ ]
  sorted_defined (by_place _) x = elim x [ ]
  sorted_defined by_local x = elim x [ ]

  -- an item that fails is refused
  pub item_fails : {i : Item} {r : Refusal} → ItemWithin i → Fails at (item G L i) r → check_item G L at i ≡ bad r
  item_fails {i} w h = by (item_view i w) h
    where
      by : {r : Refusal} → Outcome at (item G L i) (ItemSorted G L i) (check_item G L at i) → Fails at (item G L i) r → check_item G L at i ≡ bad r
      by (passing A s e) (rules.undefined_item u) = absurd (sorted_defined s u)
      by (passing A s e) (rules.unsorted_item d u) = absurd (u A s)
      by (failing (rules.undefined_item v) e) (rules.undefined_item u) = e
      by (failing (rules.unsorted_item d v) e) (rules.undefined_item u) = absurd (d u)
      by (failing (rules.undefined_item v) e) (rules.unsorted_item d u) = absurd (d v)
      by (failing (rules.unsorted_item d' v) e) (rules.unsorted_item d u) = e

  -- ------------------------------------------------------------------ results

  closed_result : (t : Template) → is_closed t G (length L) ≡ true → ¬ Undefined G.outsides (length L) t
  closed_result t c u = true≢false (sym c ∙ rule_open G (length L) t u)

  unfit : (B : ℕ) (t : Template) → (is_sorted t L && fits (sort_of t L) B) ≡ false → (A : ℕ) → Sorted G.outsides L t A → ¬ Fits A B
  unfit B t e A s f =
      let (c, k, is) = rule_sorted G L t s in
      true≢false (sym (pair (is_sorted t L) (fits (sort_of t L) B) k (cc (is, rule_fits f))) ∙ e)

  -- a result passes by a judgement, or fails
  pub result_view : (P : Before) (B used : ℕ) {r : WrittenResult} → ResultWithin r
      → Outcome at (result G P L B used r) (ResultSorted G P L B used r) (check_result G P L B used at r)
  result_view P B used (template_within {t} w) =
      by_test (is_closed t G (length L))
      (λ c. by_test (is_sorted t L && fits (sort_of t L) B)
      (λ s.
      let (k, f) = both (is_sorted t L) (fits (sort_of t L) B) s in
      passing (record { template = t; used = used }) (by_template (sorted_rule G L t w c k) (fits_rule (sort_of t L) B f)) (rw (c, s) refl))
      (λ s. failing (rules.unsorted_result (closed_result t c) (unfit B t s)) (rw (c, s) refl)))
      (λ c. failing (rules.undefined_result (open_rule G (length L) t c)) (rw c refl))

  -- a result with a sort that fits passes
  pub result_passes : {P : Before} {B used : ℕ} {r : WrittenResult} {made : TextRead} → ResultWithin r → ResultSorted G P L B used r made
      → check_result G P L B used at r ≡ ok made
  result_passes w (by_template {t = t} s f) =
      let (closed, sorted, is) = rule_sorted G L t s in rw (closed, sorted, is, rule_fits f) refl
  result_passes w (by_text _ _ _ _ _ r _) = elim w [ ]

  -- a result that fails is refused
  pub result_fails : {P : Before} {B used : ℕ} {result : WrittenResult} {r : Refusal} → ResultWithin result → Fails at (rules.result G P L B used result) r
      → check_result G P L B used at result ≡ bad r
  result_fails {P} {B} {used} (template_within {t} w) h = by (result_view P B used (template_within w)) h
    where
      by : {r : Refusal} → Outcome at (result G P L B used (template t)) (ResultSorted G P L B used (template t)) (check_result G P L B used at (template t))
          → Fails at (result G P L B used (template t)) r → check_result G P L B used at (template t) ≡ bad r
      by (passing u (by_template s f) e) (rules.undefined_result v) = absurd (closed_result t (rule_sorted G L t s).0 v)
      by (passing u (by_template {A = A} s f) e) (rules.unsorted_result d v) = absurd (v A s f)
      by (failing (rules.undefined_result v) e) (rules.undefined_result u) = e
      by (failing (rules.unsorted_result d v) e) (rules.undefined_result u) = absurd (d u)
      by (failing (rules.undefined_result v) e) (rules.unsorted_result d u) = absurd (d v)
      by (failing (rules.unsorted_result d' v) e) (rules.unsorted_result d u) = e

-- ------------------------------------------------------------------ the root

-- the root is defined, without parameters, of sort Term
abbrev pub RootSorted : Env → ℕ → Unit {0} → Type 0
RootSorted E n u = Newest E n (gives [] term)

-- a signature without parameters that gives a Term
plain : (S : Signature) → (eqb (length S.params) 0 && eqb S.result term) ≡ true → S ≡ gives [] term
plain S h =
    let (p, r) = both (eqb (length S.params) 0) (eqb S.result term) h in
    ap₂ gives (empty S.params (eqb-true _ 0 p)) (eqb-true S.result term r)
  where
    empty : (L : List ℕ) → length L ≡ 0 → L ≡ []
    empty [] h = refl
    empty (x ∷ L) h = absurd (omega arith)

module _ (E : Env) (at : ℕ) where
  -- a root passes by a judgement, or fails
  pub root_view : (n : ℕ) → Outcome at (root E n) (RootSorted E n) (check_root E at n)
  unfolding check_root
  root_view n =
      let S : Signature = signature_of E n in
      let suits : Bool = eqb (length S.params) 0 && eqb S.result term in
      by_test (is_defined E n)
      (λ d. by_test suits
      (λ s. passing tt (subst (Newest E n) (plain S s) (defined_newest E n d)) (rw (d, s) refl))
      (λ s. failing (rules.unfit_root (defined_newest E n d) (λ e. true≢false (sym (rw e refl) ∙ s))) (rw (d, s) refl)))
      (λ d. failing (rules.undefined_root (undefined_absent E n d)) (rw d refl))

  -- a root that fails is refused
  pub root_fails : {n : ℕ} {r : Refusal} → Fails at (root E n) r → check_root E at n ≡ bad r
  root_fails {n} h = by (root_view n) h
    where
      by : {r : Refusal} → Outcome at (root E n) (RootSorted E n) (check_root E at n) → Fails at (root E n) r → check_root E at n ≡ bad r
      by (passing u d e) (rules.undefined_root v) = absurd (true≢false (sym (newest_defined d) ∙ absent_undefined v))
      by (passing u d e) (rules.unfit_root f v) = absurd (v (sym (newest_signature f) ∙ newest_signature d))
      by (failing (rules.undefined_root v) e) (rules.undefined_root u) = e
      by (failing (rules.unfit_root f v) e) (rules.undefined_root u) = absurd (true≢false (sym (newest_defined f) ∙ absent_undefined u))
      by (failing (rules.undefined_root v) e) (rules.unfit_root f u) = absurd (true≢false (sym (newest_defined f) ∙ absent_undefined v))
      by (failing (rules.unfit_root f' v) e) (rules.unfit_root f u) = e

-- ------------------------------------------------------------------ heads

-- a number is looked up in two environments one after the other
defined_append : (own E : Env) (n : ℕ) → is_defined (own ++ E) n ≡ (is_defined own n || is_defined E n)
unfolding is_defined
defined_append [] E n = refl
defined_append (e ∷ own) E n =
    by_test (eqb e.nonterminal n) (λ q. rw (defined_here e (own ++ E) n q, defined_here e own n q) refl)
    (λ q. rw (defined_later e (own ++ E) n q, defined_later e own n q) (defined_append own E n))

module _ (E own : Env) (d : WrittenDefinition) (at : ℕ) where
  abbrev n : ℕ
  n = d.nonterminal

  -- neither this block nor an earlier one has the number, or an earlier one has it with this signature and this block does not
  abbrev pub Consistent : Unit {0} → Type 0
  Consistent u = ((d.mode ≡ add) × Undeclared own n × Undeclared E n) ⊎ (¬ (d.mode ≡ add) × Undeclared own n × Newest E n d.signature)

  add_view : d.mode ≡ add → Outcome at (head E own d) Consistent (need (is_unused E own d) 7 at)
  add_view m =
      by_test (is_defined own n)
      (λ o. failing (rules.in_use m (defined_newest (own ++ E) n (rw (defined_append own E n, o) refl))) (rw o refl))
      (λ o. by_test (is_defined E n)
      (λ e. failing (rules.in_use m (defined_newest (own ++ E) n (rw (defined_append own E n, o, e) refl))) (rw (o, e) refl))
      (λ e. passing tt (inl (m, undefined_absent own n o, undefined_absent E n e)) (rw (o, e) refl)))

  again_view : ¬ (d.mode ≡ add) → Outcome at (head E own d) Consistent (need (is_as_before E own d) 8 at)
  again_view m =
      by_test (is_defined own n)
      (λ o. failing (rules.again m (defined_newest own n o)) (rw o refl))
      (λ o. by_test (is_defined E n)
      (λ e. by_test (same_signature (signature_of E n) d.signature)
      (λ s. passing tt (inr (m, undefined_absent own n o, subst (Newest E n) (same_signature_lem _ _ s) (defined_newest E n e))) (rw (o, e, s) refl))
      (λ s. failing (rules.other_signature m (defined_newest E n e) (λ q. true≢false (sym (signature_same _ _ q) ∙ s))) (rw (o, e, s) refl)))
      (λ e. failing (rules.no_earlier m (undefined_absent E n e)) (rw (o, e) refl)))

  -- a head is consistent, or fails
  pub head_view : Outcome at (head E own d) Consistent (consistent d.mode E own d at)
  head_view = by d.mode refl
    where
      by : (mode : Mode) → d.mode ≡ mode → Outcome at (head E own d) Consistent (consistent mode E own d at)
      by add e = add_view e
      by extend e = again_view (λ q. let z : ◌≡◌ {A = ℕ} 0 1 = cc in omega arith)
      by update e = again_view (λ q. let z : ◌≡◌ {A = ℕ} 0 1 = cc in omega arith)

  -- a number that is declared is not absent
  declared : {F : Env} {S : Signature} → Newest F n S → ¬ Undeclared F n
  declared f u = true≢false (sym (newest_defined f) ∙ absent_undefined u)

  undeclared_append : Undeclared own n → Undeclared E n → Undeclared (own ++ E) n
  undeclared_append o e = undefined_absent (own ++ E) n (rw (defined_append own E n, absent_undefined o, absent_undefined e) refl)

  -- a head that fails is not consistent
  pub inconsistent : {r : Refusal} → Fails at (head E own d) r → ¬ Consistent tt
  inconsistent (rules.in_use m f) (inl (a, o, e)) = declared f (undeclared_append o e)
  inconsistent (rules.in_use m f) (inr (a, o, e)) = a m
  inconsistent (rules.again m f) (inl (a, o, e)) = m a
  inconsistent (rules.again m f) (inr (a, o, e)) = declared f o
  inconsistent (rules.no_earlier m u) (inl (a, o, e)) = m a
  inconsistent (rules.no_earlier m u) (inr (a, o, e)) = declared e u
  inconsistent (rules.other_signature m f q) (inl (a, o, e)) = m a
  inconsistent (rules.other_signature m f q) (inr (a, o, e)) = q (sym (newest_signature f) ∙ newest_signature e)

  -- by its mode it is refused with 7, or with 8
  by_mode : {r : Refusal} → Fails at (head E own d) r → ((d.mode ≡ add) × (r ≡ refusal 7 at 0 0)) ⊎ (¬ (d.mode ≡ add) × (r ≡ refusal 8 at 0 0))
  by_mode (rules.in_use m f) = inl (m, refl)
  by_mode (rules.again m f) = inr (m, refl)
  by_mode (rules.no_earlier m u) = inr (m, refl)
  by_mode (rules.other_signature m f q) = inr (m, refl)

  one_refusal : {r r' : Refusal} → Fails at (head E own d) r → Fails at (head E own d) r' → r ≡ r'
  one_refusal {r} {r'} f g = by (by_mode f) (by_mode g)
    where
      by : ((d.mode ≡ add) × (r ≡ refusal 7 at 0 0)) ⊎ (¬ (d.mode ≡ add) × (r ≡ refusal 8 at 0 0))
          → ((d.mode ≡ add) × (r' ≡ refusal 7 at 0 0)) ⊎ (¬ (d.mode ≡ add) × (r' ≡ refusal 8 at 0 0)) → r ≡ r'
      by (inl (m, e)) (inl (m', e')) = cc
      by (inl (m, e)) (inr (m', e')) = absurd (m' m)
      by (inr (m, e)) (inl (m', e')) = absurd (m m')
      by (inr (m, e)) (inr (m', e')) = cc

  -- a head that fails is refused
  pub head_fails : {r : Refusal} → Fails at (head E own d) r → consistent d.mode E own d at ≡ bad r
  head_fails {r} h = by head_view
    where
      by : Outcome at (head E own d) Consistent (consistent d.mode E own d at) → consistent d.mode E own d at ≡ bad r
      by (passing u c e) = absurd (inconsistent h c)
      by (failing f e) = e ∙ ap bad (one_refusal f h)
