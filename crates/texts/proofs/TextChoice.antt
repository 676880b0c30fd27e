-- The rule that the run of a text chooses is of the production that the rules take; and in a grammar that passes, the production that the rules take is the one
-- chosen.
use Prim.Native.Nat.{ℕ, zero, suc, ◌-◌, ◌≤◌, ◌<◌}
use mathlib.Core.Path.{◌≡◌, refl, sym, ap, subst, ◌∙◌}
use mathlib.Core.Logic.{◌⊎◌, inl, inr, ⊎_elim}
use mathlib.Core.Bool.{Bool, true, false, ◌||◌, true≢false, and-eq-true_iff}
use mathlib.Core.List.{List, [], ◌∷◌, map}
use native.Mathlib.Omega.{arith}
use lib.Dec.{eqb}
use lib.ListN.{get_or, drop}
use borrow.Author.Tests.{eqb-true, ltb-true, ltb-false}
use Rattle.spellings.proofs.BytesLaws.{by_test}
use Rattle.answers.specs.Checked.{ok}
use Rattle.kinds.specs.Kinds.{word_kind, no_kind, has_kind}
use Rattle.kinds.specs.TextKinds.{variable_kind, outside_kind, sort_of_kind}
use Rattle.grammar.specs.Sorts.{var, binder, label}
use Rattle.grammar.specs.SortTests.{fits}
use Rattle.grammar.specs.Table.{ide, Item}
use Rattle.tokens.specs.declared.Token.{Token}
use Rattle.tokens.specs.Tokens.{end_token}
use Rattle.productions.specs.Normal.{Production}
use Rattle.decoding.specs.Within.{Among}
use Rattle.firsts.specs.Rules.{Of, First, Reads, reads}
use Rattle.firsts.specs.Patterns.{patterns_in, ReadsAt, reads_at, ReadsPlace, opens_ide_of, opens_ide, opens_place}
use Rattle.firsts.proofs.FirstsTheorems.{production_opens_exactly, production_nullable_exactly}
use Rattle.firsts.proofs.FirstSetsExactly.{first_holds, first_as, ides_exactly, places_exactly}
use Rattle.firsts.proofs.Rounds.{or_left, or_right, or_split}
use Rattle.clashes.specs.CheckFirsts.{check_firsts}
use Rattle.clashes.proofs.ClashTheorems.{one_production}
use Rattle.expansion.specs.Figure3.{Next, next}
use Rattle.expansion.specs.TextTokens.{is_text_kind, is_opened, is_placed}
use Rattle.expansion.specs.Expansion.{Rule, ready_for, Choice, unfit, chosen, first_rule, choice}
use Rattle.expansion.proofs.AsBefore.{opened_as_before, opened_variable, placed_variable, placed_never}
use Rattle.expansion.proofs.Choosing.{next_kind, kind_next, Found, Missing, first_rule_lem, rule}
use Rattle.texts.specs.Reading.{ready_text, as_outside}
use Rattle.texts.specs.ReadingRules.{TextOpened, opened_kind, opened_ide, TextPlaced, TextTaken, taken_opened, taken_place, taken_nullable}

-- ------------------------------------------------------------------ the kind of the next token

next_is : {s : List Token} {kind : ℕ} → Next s kind → next_kind s ≡ kind
next_is next = refl

is_next : (s : List Token) {kind : ℕ} → next_kind s ≡ kind → (kind ≡ no_kind → ⊥) → Next s kind
is_next [] e l = absurd (l (sym e))
is_next (t ∷ s) e l = subst (Next (t ∷ s)) e next

-- ------------------------------------------------------------------ what stands first

kind_small : {kind : ℕ} (item : Item) → Reads item kind → kind < 64
kind_small _ (reads l) = l

ide_sort : {B : ℕ} (item : Item) → ReadsAt item B → (var ≤ B) × (B ≤ label)
ide_sort _ (reads_at l h) = (l, h)

ide_as_word : {B : ℕ} (item : Item) → ReadsAt item B → Reads item word_kind
ide_as_word _ (reads_at {s = s} l h) = reads {t = ide s} (omega arith)

-- ------------------------------------------------------------------ the choice

-- A production that is taken is one of its nonterminal.
pub taken_of : {g : List Production} {nonterminal : ℕ} {s : List Token} {p : Production} → TextTaken g nonterminal s p → Of g nonterminal p
taken_of (taken_opened o h) = o
taken_of (taken_place o h z) = o
taken_of (taken_nullable o h i z) = o

module _ (g : List Production) where
  -- what a choice answers: the rule of the production taken, or that none is
  pub data TextPicks (nonterminal : ℕ) (s : List Token) (given_choice : Choice) : Type 0 where
    picks : (p : Production) → TextTaken g nonterminal s p → given_choice ≡ chosen (rule g p) → TextPicks nonterminal s given_choice
    picks_none : ((p : Production) → TextTaken g nonterminal s p → ⊥) → given_choice ≡ unfit → TextPicks nonterminal s given_choice

  -- three searches, one behind the other, where tests tell what is opened and what has a place
  module _ (s : List Token) (opens places : Rule → Bool) (opened_passes : (p : Production) → TextOpened g s p → opens (rule g p) ≡ true)
      (passes_opened : (p : Production) → opens (rule g p) ≡ true → TextOpened g s p)
      (placed_passes : (p : Production) → TextPlaced g s p → places (rule g p) ≡ true)
      (passes_placed : (p : Production) → places (rule g p) ≡ true → TextPlaced g s p) (nonterminal : ℕ) (small : nonterminal < 64) where
    abbrev third : Choice
    third = first_rule (λ r. r.nullable) nonterminal (map (rule g) g) unfit

    abbrev second : Choice
    second = first_rule places nonterminal (map (rule g) g) third

    -- what a search answers
    abbrev Searched : (Rule → Bool) → Choice → Type 0
    Searched test other = Found (rule g) (λ p. refl) test nonterminal other g ⊎ Missing (rule g) (λ p. refl) test nonterminal other g

    of_it : {p : Production} → Among g p → p.nonterminal ≡ nonterminal → Of g nonterminal p
    of_it m o = record { member = m; owned = o; small = small }

    none_opened : Missing (rule g) (λ p. refl) opens nonterminal second g → (q : Production) → Of g nonterminal q → TextOpened g s q → ⊥
    none_opened m q o h = m.none_passed q o.member o.owned (opened_passes q h)

    none_placed : Missing (rule g) (λ p. refl) places nonterminal third g → (q : Production) → Of g nonterminal q → TextPlaced g s q → ⊥
    none_placed m q o h = m.none_passed q o.member o.owned (placed_passes q h)

    none_taken : Missing (rule g) (λ p. refl) opens nonterminal second g → Missing (rule g) (λ p. refl) places nonterminal third g
        → Missing (rule g) (λ p. refl) (λ r. r.nullable) nonterminal unfit g → (p : Production) → TextTaken g nonterminal s p → ⊥
    none_taken m j k p (taken_opened o h) = none_opened m p o h
    none_taken m j k p (taken_place o i h) = none_placed j p o h
    none_taken m j k p (taken_nullable o i h z) = k.none_passed p o.member o.owned ((production_nullable_exactly g p).1 z)

    searches_pick : TextPicks nonterminal s (first_rule opens nonterminal (map (rule g) g) second)
    searches_pick =
        go (first_rule_lem (rule g) (λ p. refl) opens nonterminal second g) (first_rule_lem (rule g) (λ p. refl) places nonterminal third g)
        (first_rule_lem (rule g) (λ p. refl) (λ r. r.nullable) nonterminal unfit g)
      where
        go : Searched opens second → Searched places third → Searched (λ r. r.nullable) unfit
            → TextPicks nonterminal s (first_rule opens nonterminal (map (rule g) g) second)
        go (inl f) j k = picks f.production (taken_opened (of_it f.member f.of) (passes_opened f.production f.passed)) f.answer
        go (inr m) (inl f) k =
            picks f.production (taken_place (of_it f.member f.of) (none_opened m) (passes_placed f.production f.passed))
            (m.answer ∙ f.answer)
        go (inr m) (inr j) (inl f) =
            picks f.production
            (taken_nullable (of_it f.member f.of) (none_opened m) (none_placed j) ((production_nullable_exactly g f.production).0 f.passed))
            (m.answer ∙ j.answer ∙ f.answer)
        go (inr m) (inr j) (inr k) = picks_none (none_taken m j k) (m.answer ∙ j.answer ∙ k.answer)

  -- ---------------------------------------------------------------- what is opened

  opens_one : (patterns A B : ℕ) → var ≤ B → B ≤ label → opens_ide_of patterns A B ≡ true → opens_ide patterns A ≡ true
  unfolding opens_ide
  opens_one patterns A zero l h e = absurd (omega arith)
  opens_one patterns A (suc zero) l h e = or_left _ (or_left _ e)
  opens_one patterns A (suc (suc zero)) l h e = or_left _ (or_right (opens_ide_of patterns A var) e)
  opens_one patterns A (suc (suc (suc zero))) l h e = or_right (opens_ide_of patterns A var || opens_ide_of patterns A binder) e
  opens_one patterns A (suc (suc (suc (suc B)))) l h e = absurd (omega arith)

  ide_opened : (s : List Token) (A : ℕ) → next_kind s ≡ variable_kind A → (p : Production) → opens_ide (patterns_in g p.items) A ≡ true → TextOpened g s p
  unfolding opens_ide
  ide_opened s A e p h =
      ⊎_elim (λ k. ⊎_elim (at var (omega arith)) (at binder (omega arith)) (or_split (opens_ide_of (patterns_in g p.items) A var) k)) (at label (omega arith))
      (or_split (opens_ide_of (patterns_in g p.items) A var || opens_ide_of (patterns_in g p.items) A binder) h)
    where
      at : (B : ℕ) → B ≤ label → opens_ide_of (patterns_in g p.items) A B ≡ true → TextOpened g s p
      at B l f =
          let k = (and-eq-true_iff (has_kind (patterns_in g p.items) B) (fits A B)).0 f in
          opened_ide A (is_next s e (λ q. omega arith)) ((ides_exactly g p.items B l).0 k.0) k.1

  opened_passes : (s : List Token) → next_kind s < outside_kind → (p : Production) → TextOpened g s p
      → is_opened (next_kind s) (rule g p).first (patterns_in g p.items) ≡ true
  opened_passes s small p (opened_kind {k = k} t f) =
      let l = first_holds kind_small f in
      opened_as_before (next_kind s) (rule g p).first (patterns_in g p.items) (omega (arith, next_is t))
      ∙ (production_opens_exactly g p (next_kind s)).1 (subst (First g Reads p.items) (sym (next_is t)) f)
  opened_passes s small p (opened_ide A {B = B} t f w) =
      let e = next_is t in
      let q : next_kind s - 65 ≡ A = omega arith in
      let k = first_holds ide_sort f in
      opened_variable (next_kind s) (omega arith) (λ z. omega arith) (rule g p).first (patterns_in g p.items)
      ∙ ap (opens_ide (patterns_in g p.items)) q
      ∙ opens_one (patterns_in g p.items) A B k.0 k.1 ((and-eq-true_iff _ _).1 ((ides_exactly g p.items B k.1).1 f, w))

  passes_opened : (s : List Token) → next_kind s < outside_kind → (p : Production)
      → is_opened (next_kind s) (rule g p).first (patterns_in g p.items) ≡ true → TextOpened g s p
  passes_opened s small p h =
      by_test (is_text_kind (next_kind s))
      (λ e.
      let l = ltb-true no_kind (next_kind s) e in
      ide_opened s (sort_of_kind (next_kind s)) (omega arith) p
      (sym (opened_variable (next_kind s) (omega arith) (λ z. omega arith) (rule g p).first (patterns_in g p.items)) ∙ h))
      (λ e.
      let l = ltb-false no_kind (next_kind s) e in
      let f : First g Reads p.items (next_kind s) =
      (production_opens_exactly g p (next_kind s)).0 (sym (opened_as_before (next_kind s) (rule g p).first (patterns_in g p.items) l) ∙ h) in
      let k = first_holds kind_small f in
      opened_kind (is_next s refl (λ z. omega arith)) f)

  -- ---------------------------------------------------------------- what has a place

  placed_passes : (s : List Token) → next_kind s < outside_kind → (p : Production) → TextPlaced g s p → is_placed (next_kind s) (patterns_in g p.items) ≡ true
  unfolding opens_place
  placed_passes s small p h =
      let e = next_is h.token in
      let q : next_kind s - 65 ≡ h.sort = omega arith in
      placed_variable (next_kind s) (omega arith) (λ z. omega arith) (patterns_in g p.items)
      ∙ ap (opens_place (patterns_in g p.items)) q ∙ (places_exactly g p.items h.sort).1 h.first

  passes_placed : (s : List Token) → next_kind s < outside_kind → (p : Production) → is_placed (next_kind s) (patterns_in g p.items) ≡ true → TextPlaced g s p
  unfolding opens_place
  passes_placed s small p h =
      by_test (is_text_kind (next_kind s))
      (λ e.
      let l = ltb-true no_kind (next_kind s) e in
      record {
        sort = sort_of_kind (next_kind s);
        token = is_next s (omega arith) (λ q. omega arith);
        first =
            (places_exactly g p.items (sort_of_kind (next_kind s))).0
            (sym (placed_variable (next_kind s) (omega arith) (λ z. omega arith) (patterns_in g p.items)) ∙ h);
      })
      (λ e. absurd (true≢false (sym h ∙ placed_never (next_kind s) (patterns_in g p.items) (ltb-false no_kind (next_kind s) e))))

  -- The choice by the next kind picks the production that the tokens take.
  pub choice_picks : (nonterminal : ℕ) → nonterminal < 64 → (s : List Token) → next_kind s < outside_kind
      → TextPicks nonterminal s (choice (ready_text g) nonterminal (next_kind s))
  unfolding ready_for
  choice_picks nonterminal l s small =
      searches_pick s (λ r. is_opened (next_kind s) r.first (patterns_in g r.items)) (λ r. is_placed (next_kind s) (patterns_in g r.items))
      (opened_passes s small) (passes_opened s small) (placed_passes s small) (passes_placed s small) nonterminal l

  -- an outside name is chosen for as a word is
  outside_choice : (nonterminal : ℕ) (t : Token) → choice (ready_text g) nonterminal (as_outside t).kind ≡ choice (ready_text g) nonterminal t.kind
  unfolding is_opened is_placed
  outside_choice nonterminal t =
      by_test (eqb t.kind word_kind)
      (λ e.
      let q : t.kind ≡ word_kind = eqb-true t.kind word_kind e in
      let a : (as_outside t).kind ≡ outside_kind = rw (e, as_outside) refl in
      ap (choice (ready_text g) nonterminal) a ∙ sym (ap (choice (ready_text g) nonterminal) q))
      (λ e. let a : (as_outside t).kind ≡ t.kind = rw (e, as_outside) refl in ap (choice (ready_text g) nonterminal) a)

  -- And so does the choice of a text's strict run.
  pub strict_picks : (nonterminal : ℕ) → nonterminal < 64 → (tokens : List Token) (at : ℕ) → (get_or tokens at end_token).kind < outside_kind
      → TextPicks nonterminal (drop at tokens) (choice (ready_text g) nonterminal (as_outside (get_or tokens at end_token)).kind)
  strict_picks nonterminal l tokens at small =
      subst (TextPicks nonterminal (drop at tokens))
      (sym (outside_choice nonterminal (get_or tokens at end_token) ∙ ap (choice (ready_text g) nonterminal) (kind_next at tokens)))
      (choice_picks nonterminal l (drop at tokens) (omega (arith, kind_next at tokens)))

  -- ---------------------------------------------------------------- what is chosen is taken

  -- a production that is taken, with the items and the result of a rule
  pub record TakenAs (nonterminal : ℕ) (s : List Token) (r : Rule) : Type 0 where
    -- the production
    pub production : Production
    -- it is taken
    pub taken : TextTaken g nonterminal s production
    -- the rule has its items
    pub same_items : r.items ≡ production.items
    -- and its result
    pub same_result : r.result ≡ production.result

  abbrev is_chosen : Choice → Bool
  is_chosen unfit = false
  is_chosen (chosen r) = true

  -- What a choice that picks a rule takes.
  pub chosen_taken : {nonterminal : ℕ} {s : List Token} (r : Rule) → TextPicks nonterminal s (chosen r) → TakenAs nonterminal s r
  chosen_taken r (picks p t e) = record { production = p; taken = t; same_items = cc e; same_result = cc e }
  chosen_taken r (picks_none none e) = absurd (let y : true ≡ false = ap is_chosen e in true≢false y)

  -- What the strict run of a text chooses is what the rules take of its tokens.
  pub takes : (nonterminal : ℕ) → nonterminal < 64 → (tokens : List Token) (at : ℕ) (r : Rule) → (get_or tokens at end_token).kind < outside_kind
      → choice (ready_text g) nonterminal (as_outside (get_or tokens at end_token)).kind ≡ chosen r → TakenAs nonterminal (drop at tokens) r
  takes nonterminal l tokens at r small e =
      chosen_taken r (subst (TextPicks nonterminal (drop at tokens)) e (strict_picks nonterminal l tokens at small))

  -- ---------------------------------------------------------------- one production is taken at most

  module _ (passed : check_firsts g ≡ ok tt) where
    opened_one : {nonterminal : ℕ} {s : List Token} {p other : Production} → Of g nonterminal p → Of g nonterminal other → TextOpened g s p
        → TextOpened g s other → p ≡ other
    opened_one {nonterminal} {s} {p} {other} o k (opened_kind {k = kind} t f) (opened_kind u h) =
        (one_production g passed nonterminal p other o k).0 kind f (subst (First g Reads other.items) (sym (next_is u) ∙ next_is t) h)
    opened_one o k (opened_kind t f) (opened_ide A u h w) = absurd (omega (arith, next_is t, next_is u, first_holds kind_small f))
    opened_one o k (opened_ide A t f w) (opened_kind u h) = absurd (omega (arith, next_is t, next_is u, first_holds kind_small h))
    opened_one {nonterminal} {s} {p} {other} o k (opened_ide A t f w) (opened_ide A' u h w') =
        (one_production g passed nonterminal p other o k).0 word_kind (first_as ide_as_word f) (first_as ide_as_word h)

    -- The tokens of a text take one production at most.
    pub taken_one : {nonterminal : ℕ} {s : List Token} {p other : Production} → TextTaken g nonterminal s p → TextTaken g nonterminal s other → p ≡ other
    taken_one (taken_opened o h) (taken_opened k i) = opened_one o k h i
    taken_one {p = p} (taken_opened o h) (taken_place k i y) = absurd (i p o h)
    taken_one {p = p} (taken_opened o h) (taken_nullable k i j z) = absurd (i p o h)
    taken_one {other = other} (taken_place o h z) (taken_opened k j) = absurd (h other k j)
    taken_one {nonterminal} {s} {p} {other} (taken_place o h z) (taken_place k i y) =
        let q : y.sort ≡ z.sort = omega (arith, next_is z.token, next_is y.token) in
        (one_production g passed nonterminal p other o k).1 z.sort z.first (subst (First g ReadsPlace other.items) q y.first)
    taken_one {p = p} (taken_place o h z) (taken_nullable k i j y) = absurd (j p o z)
    taken_one {other = other} (taken_nullable o h i z) (taken_opened k j) = absurd (h other k j)
    taken_one {other = other} (taken_nullable o h i z) (taken_place k j y) = absurd (i other k y)
    taken_one {nonterminal} {s} {p} {other} (taken_nullable o h i z) (taken_nullable k j l y) = (one_production g passed nonterminal p other o k).2 z y

    taken_chosen : {nonterminal : ℕ} {s : List Token} {p : Production} {given_choice : Choice} → TextTaken g nonterminal s p
        → TextPicks nonterminal s given_choice → given_choice ≡ chosen (rule g p)
    taken_chosen t (picks q u e) = e ∙ ap (λ r. chosen (rule g r)) (taken_one u t)
    taken_chosen {p = p} t (picks_none f e) = absurd (f p t)

    -- What the rules take of a text's tokens is what its strict run chooses.
    pub chooses : {nonterminal : ℕ} (tokens : List Token) (at : ℕ) {p : Production} → (get_or tokens at end_token).kind < outside_kind
        → TextTaken g nonterminal (drop at tokens) p → choice (ready_text g) nonterminal (as_outside (get_or tokens at end_token)).kind ≡ chosen (rule g p)
    chooses {nonterminal} tokens at small t = taken_chosen t (strict_picks nonterminal (taken_of t).small tokens at small)
