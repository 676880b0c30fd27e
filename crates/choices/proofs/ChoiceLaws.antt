-- Laws of the choice of a production: the walk over a nonterminal's own places gives the rule that `choice` gives.
use Prim.Native.Nat.{ℕ, zero, suc, ◌+◌, ◌-◌, ◌<◌, ◌≤◌}
use mathlib.Core.Path.{◌≡◌, refl, sym, ap, ap₂, ◌∙◌, subst⁻¹, fun_ext}
use mathlib.Core.Bool.{Bool, true, false, ◌&&◌, ◌||◌, false≢true, and-eq-true_iff, and-false}
use mathlib.Core.List.{List, [], ◌∷◌, map}
use native.Mathlib.Nat.{sub_self, sub-zero}
use native.Mathlib.Numerals.{add-one}
use native.Mathlib.Omega.{arith}
use native.Mathlib.Decide.{ℕ_discrete, dec_lt}
use lib.Dec.{eqb, ltb}
use lib.ListN.{length, get_or, set, drop, length-set, length-drop, length-map, drop_of_length-le, replicate, length-replicate, get_or-replicate}
use lib.Seq.{drop-cons, drop-nil, drop-drop, get_or-drop, get_or-set_same, get_or-set_other}
use borrow.Author.Tests.{eq-eqb, ne_eqb, eqb-true, lt-ltb, le-ltb, ltb-true, ltb-false}
use Rattle.spellings.proofs.BytesLaws.{by_test}
use Rattle.kinds.specs.Kinds.{word_kind, no_kind, has_kind}
use Rattle.kinds.specs.TextKinds.{outside_kind}
use Rattle.grammar.specs.SortTests.{fits}
use Rattle.grammar.specs.Lookup.{fields_at}
use Rattle.grammar.specs.Table.{Template, Item}
use Rattle.firsts.specs.Patterns.{opens_ide, opens_place}
use Rattle.grammar.proofs.ReaderLaws.{get_d_past}
use Rattle.decoding.specs.Within.{Each, each_none, each_more, Among, among_first, among_later}
use Rattle.productions.specs.Normal.{Production}
use Rattle.productions.specs.Index.{items_of, Place, places_of, production_at}
use Rattle.productions.specs.Room.{Entry, no_entry, HoldsEntries, place_from, is_of, is_nullable_of, first_in, start_in, first_set_in}
use Rattle.productions.specs.Room.{first_place_in, next_place_in, nullable_place_in, patterns_in}
use Rattle.productions.proofs.RoomLaws.{first_set_in_lem, first_place_in_lem, nullable_place_in_lem, first_in_lem, start_in_lem, next_place_in_lem, patterns_in_lem}
use Rattle.firsts.specs.FirstSets.{opening_of, nullables, first_of}
use Rattle.firsts.specs.Room.{entry_for, productions_in, HoldsFor}
use Rattle.firsts.specs.Rules.{Opens}
use Rattle.firsts.proofs.RoomEntries.{table_entries_lem}
use Rattle.firsts.proofs.StepLaws.{length-sets}
use Rattle.firsts.proofs.FirstsTheorems.{opens_exactly, production_opens_exactly}
use Rattle.expansion.specs.TextTokens.{is_opened, is_placed}
use Rattle.expansion.specs.Expansion.{Rule, Grammar, rule_of, Choice, unfit, chosen, first_rule, choice, ready_by, ready_for}
use Rattle.expansion.proofs.AsBefore.{opened_as_before, placed_never, opened_variable, placed_variable, opened_outside, placed_outside}
use Rattle.choices.proofs.SameSets.{nullables_same, sets_same}
use Rattle.choices.specs.Held.{HeldFor}
use Rattle.choices.specs.Chosen.{first_sets_of, kinds_in, entries_for, of_with, opens, places, holds_kind, opens_by, opens_sort, first_with, or_else, chosen_place}
use Rattle.choices.specs.Chosen.{chosen_start_for, memory_size, slot, RemembersFor}

-- the production at a place, with the result that is given for its offset, and all of a table
abbrev pub production_with : List ℕ → (ℕ → Template) → Place → Production
production_with bs results p = record { nonterminal = p.nonterminal; items = items_of (fields_at bs p.start); result = results p.start }

abbrev pub productions_with : List ℕ → (ℕ → Template) → List Production
productions_with bs results = map (production_with bs results) (places_of bs)

-- ------------------------------------------------------------------ places

abbrev both : (Entry → Bool) → (Entry → Bool) → Entry → Bool
both p q e = p e && q e

module _ (test : Entry → Bool) (entry : Entry) (es : List Entry) (spot : ℕ) where
  place_hit : test entry ≡ true → place_from test (entry ∷ es) spot ≡ spot
  unfolding place_from
  place_hit t = rw (t, place_from) refl

  place_miss : test entry ≡ false → place_from test (entry ∷ es) spot ≡ place_from test es (spot + 1)
  unfolding place_from
  place_miss t = rw (t, place_from) refl

-- where a search for `test` ends among entries that stand from place `from` on, and a search for `test` and `other` from there on
pub record Landed (test other : Entry → Bool) (ds : List Entry) (from reached : ℕ) : Type 0 where
  -- it ends at `from` or later
  pub later : from ≤ reached
  -- it ends at 256 at the latest
  pub small : reached ≤ 256
  -- before 256 it ends at an entry
  pub inside : reached < 256 → reached - from < length ds
  -- that entry passes `test`
  pub holds : reached < 256 → test (get_or ds (reached - from) no_entry) ≡ true
  -- from there on both are found where they are found `from` on
  pub same : place_from (both test other) (drop (reached - from) ds) reached ≡ place_from (both test other) ds from

module _ (test other : Entry → Bool) where
  landed_none : (from : ℕ) → from ≤ 256 → Landed test other [] from 256
  unfolding place_from
  landed_none from h =
      record {
        later = h;
        small = omega arith;
        inside = λ l. absurd (omega arith);
        holds = λ l. absurd (omega arith);
        same = rw (drop-nil {A = Entry} (256 - from)) refl;
      }

  landed_here : (entry : Entry) (ds : List Entry) (from : ℕ) → from ≤ 256 → test entry ≡ true → Landed test other (entry ∷ ds) from from
  landed_here entry ds from h t =
      record {
        later = omega arith;
        small = h;
        inside = λ l. omega arith;
        holds = λ l. rw (sub_self from) t;
        same = rw (sub_self from) refl;
      }

  landed_further : (entry : Entry) (ds : List Entry) (from reached : ℕ) → test entry ≡ false → Landed test other ds (from + 1) reached
      → Landed test other (entry ∷ ds) from reached
  landed_further entry ds from reached t l =
      let z : reached - from ≡ suc (reached - (from + 1)) = omega (arith, l.later) in
      let f : both test other entry ≡ false = rw t refl in
      record {
        later = omega (arith, l.later);
        small = l.small;
        inside = λ s. omega (arith, z, l.inside s);
        holds = λ s. rw z (l.holds s);
        same = rw z (l.same ∙ sym (place_miss (both test other) entry ds from f));
      }

  landed : (ds : List Entry) (from : ℕ) → from + length ds ≤ 256 → Landed test other ds from (place_from test ds from)
  unfolding place_from
  landed [] from h = landed_none from (omega arith)
  landed (e ∷ ds) from h =
      by_test (test e)
      (λ t. subst⁻¹ (Landed test other (e ∷ ds) from) (place_hit test e ds from t) (landed_here e ds from (omega arith) t))
      (λ t. subst⁻¹ (Landed test other (e ∷ ds) from) (place_miss test e ds from t) (landed_further e ds from _ t (landed ds (from + 1) (omega arith))))

-- a search ends among the entries, or at 256
pub place_inside : (test : Entry → Bool) (es : List Entry) → length es ≤ 256 → place_from test es 0 < 256 → place_from test es 0 < length es
place_inside test es few h = omega (arith, (landed test test es 0 (omega arith)).inside h)

-- ------------------------------------------------------------------ the walk over a nonterminal's own places

-- no place before `spot` is taken
pub record Walking (es : List Entry) (nonterminal : ℕ) (test : Entry → Bool) (spot : ℕ) : Type 0 where
  -- before 256 the place is an entry's
  pub inside : spot < 256 → spot < length es
  -- the entry is one of `nonterminal`'s
  pub own : spot < 256 → (get_or es spot no_entry).nonterminal ≡ nonterminal
  -- from there on the search ends where the whole search ends
  pub rest : place_from (of_with nonterminal test) (drop spot es) spot ≡ first_with es nonterminal test

module _ (es : List Entry) (few : length es ≤ 256) (nonterminal : ℕ) (test : Entry → Bool) where
  -- on to the next place of `nonterminal`, `from` on
  onto : (from : ℕ) → from ≤ length es → {next_place : ℕ} → next_place ≡ place_from (is_of nonterminal) (drop from es) from
      → place_from (of_with nonterminal test) (drop from es) from ≡ first_with es nonterminal test
      → (from ≤ next_place) × Walking es nonterminal test next_place
  onto from h {next_place} e r =
      let l : Landed (is_of nonterminal) test (drop from es) from next_place
      = subst⁻¹ (Landed (is_of nonterminal) test (drop from es) from) e
      (landed (is_of nonterminal) test (drop from es) from (omega (arith, length-drop from es))) in
      let z : from + (next_place - from) ≡ next_place = omega (arith, l.later) in (
        l.later,
        record {
          inside = λ s. omega (arith, z, l.inside s, length-drop from es);
          own = λ s. eqb-true _ nonterminal (rw (get_or-drop from es (next_place - from) no_entry, z) at (l.holds s));
          rest = rw (drop-drop (next_place - from) from es, z) at l.same ∙ r;
        },
      )

  -- The walk begins at the nonterminal's first place.
  pub walking_start : {spot : ℕ} → spot ≡ place_from (is_of nonterminal) es 0 → Walking es nonterminal test spot
  walking_start e = (onto 0 (omega arith) e refl).1

  module _ {spot : ℕ} (walking : Walking es nonterminal test spot) (less : spot < 256) where
    here : drop spot es ≡ get_or es spot no_entry ∷ drop (spot + 1) es
    here = drop-cons es spot no_entry (walking.inside less) ∙ rw add-one refl

    owned : eqb (get_or es spot no_entry).nonterminal nonterminal ≡ true
    owned = eq-eqb _ nonterminal (walking.own less)

    -- It ends at a place that passes the test.
    pub walking_found : test (get_or es spot no_entry) ≡ true → spot ≡ first_with es nonterminal test
    walking_found t = sym (rw here (place_hit (of_with nonterminal test) (get_or es spot no_entry) (drop (spot + 1) es) spot (rw (owned, t) refl))) ∙ walking.rest

    -- the next place is a later one
    pub walking_next : test (get_or es spot no_entry) ≡ false → {next_place : ℕ}
        → next_place ≡ place_from (is_of (get_or es spot no_entry).nonterminal) (drop (spot + 1) es) (spot + 1)
        → (spot < next_place) × Walking es nonterminal test next_place
    walking_next t e =
        let q = onto (spot + 1) (omega (arith, walking.inside less)) (rw (walking.own less) at e)
        (sym (rw here (place_miss (of_with nonterminal test) (get_or es spot no_entry) (drop (spot + 1) es) spot (rw (owned, t) refl))) ∙ walking.rest) in
        (omega (arith, q.0), q.1)

  -- Past the last place nothing was found.
  pub walking_end : {spot : ℕ} → Walking es nonterminal test spot → 256 ≤ spot → 256 ≡ first_with es nonterminal test
  unfolding place_from
  walking_end {spot} w h = sym (rw (drop_of_length-le es {i = spot} (omega arith)) refl) ∙ w.rest

-- a place, or another if it is none
module _ {place : ℕ} (other : ℕ) where
  -- A place is taken.
  pub or_first : place < 256 → place ≡ or_else place other
  unfolding or_else
  or_first l = sym (rw (lt-ltb place 256 l, or_else) refl)

  -- Where there is none, the other is.
  pub or_second : 256 ≤ place → other ≡ or_else place other
  unfolding or_else
  or_second l = sym (rw (le-ltb place 256 l, or_else) refl)

-- tests that agree find the same place
same_place : {test second : Entry → Bool} → ((entry : Entry) → test entry ≡ second entry) → (es : List Entry) (nonterminal : ℕ)
    → first_with es nonterminal test ≡ first_with es nonterminal second
same_place agree es nonterminal = ap (λ (t : Entry → Bool). first_with es nonterminal t) (fun_ext agree)

-- what no entry passes is not found
not_found : {test : Entry → Bool} → ((entry : Entry) → test entry ≡ false) → (es : List Entry) (nonterminal spot : ℕ)
    → place_from (of_with nonterminal test) es spot ≡ 256
unfolding place_from
not_found none [] nonterminal spot = refl
not_found {test} none (e ∷ es) nonterminal spot =
    place_miss (of_with nonterminal test) e es spot (rw (none e) (and-false (eqb e.nonterminal nonterminal))) ∙ not_found none es nonterminal (spot + 1)

module _ (es : List Entry) (nonterminal kind : ℕ) where
  abbrev nullable_of : ℕ
  nullable_of = place_from (is_nullable_of nonterminal) es 0

  -- For a kind of a formula: the first place whose first set holds it, else the nullable one.
  pub chosen_formula : kind ≤ no_kind → or_else (first_with es nonterminal (holds_kind kind)) nullable_of ≡ chosen_place es nonterminal kind
  chosen_formula h =
      ap (λ (place : ℕ). or_else place nullable_of) (sym (same_place (λ e. opened_as_before kind e.first e.patterns h) es nonterminal))
      ∙ ap (or_else (first_with es nonterminal (opens kind)))
      (or_second nullable_of (omega (arith, not_found {test = places kind} (λ e. placed_never kind e.patterns h) es nonterminal 0)))

  -- For a variable: the first place by an ide that it fits, else by a place of its sort, else the nullable one.
  pub chosen_variable : no_kind < kind → (kind ≡ outside_kind → ⊥)
      → or_else (first_with es nonterminal (opens_sort false (kind - 65))) (or_else (first_with es nonterminal (opens_sort true (kind - 65))) nullable_of)
      ≡ chosen_place es nonterminal kind
  chosen_variable h n =
      ap₂ (λ (first second : ℕ). or_else first (or_else second nullable_of))
      (sym (same_place (λ e. opened_variable kind h n e.first e.patterns) es nonterminal))
      (sym (same_place (λ e. placed_variable kind h n e.patterns) es nonterminal))

-- An outside name chooses as a word does.
pub chosen_outside_name : (es : List Entry) (nonterminal : ℕ) → chosen_place es nonterminal word_kind ≡ chosen_place es nonterminal outside_kind
chosen_outside_name es nonterminal =
    ap₂ (λ (first second : ℕ). or_else first (or_else second (place_from (is_nullable_of nonterminal) es 0)))
    (sym (same_place (λ e. opened_outside e.first e.patterns) es nonterminal))
    (sym (same_place (λ e. placed_outside e.patterns) es nonterminal))

-- ------------------------------------------------------------------ what opens with a variable

module _ (patterns : ℕ) {sort : ℕ} {test : Bool} where
  -- A Var opens an ide of Var,
  pub opens_var : sort ≡ 1 → test ≡ has_kind patterns 1 → test ≡ opens_ide patterns sort
  unfolding opens_ide fits
  opens_var e f = rw e (f ∙ only_first (has_kind patterns 1) (has_kind patterns 2) (has_kind patterns 3))
    where
      only_first : (first second third : Bool) → first ≡ ((first && true) || (second && false) || (third && false))
      only_first true second third = refl
      only_first false second third = rw (and-false second, and-false third) refl

  -- a Binder one of Var or of Binder,
  pub opens_binder : sort ≡ 2 → test ≡ (has_kind patterns 1 || has_kind patterns 2) → test ≡ opens_ide patterns sort
  unfolding opens_ide fits
  opens_binder e f = rw e (f ∙ first_two (has_kind patterns 1) (has_kind patterns 2) (has_kind patterns 3))
    where
      first_two : (first second third : Bool) → (first || second) ≡ ((first && true) || (second && true) || (third && false))
      first_two true second third = refl
      first_two false true third = refl
      first_two false false third = rw (and-false third) refl

  -- a Label one of Label,
  pub opens_label : sort ≡ 3 → test ≡ has_kind patterns 3 → test ≡ opens_ide patterns sort
  unfolding opens_ide fits
  opens_label e f = rw e (f ∙ only_last (has_kind patterns 1) (has_kind patterns 2) (has_kind patterns 3))
    where
      only_last : (first second third : Bool) → third ≡ ((first && false) || (second && false) || (third && true))
      only_last first second true = rw (and-false first, and-false second) refl
      only_last first second false = rw (and-false first, and-false second) refl

-- and any other none.
pub opens_none_other : (patterns : ℕ) {sort : ℕ} → (sort ≡ 1 → ⊥) → (sort ≡ 2 → ⊥) → (sort ≡ 3 → ⊥) → false ≡ opens_ide patterns sort
unfolding opens_ide fits
opens_none_other patterns {sort} a b c =
    sym
    (rw (
      ne_eqb sort 1 a,
      ne_eqb sort 2 b,
      ne_eqb sort 3 c,
      and-false (has_kind patterns 1),
      and-false (has_kind patterns 2),
      and-false (has_kind patterns 3),
      opens_ide,
    ) refl)

module _ (patterns sort : ℕ) {placed test : Bool} where
  -- By a place a variable opens if its bit is there,
  pub opens_by_place : placed ≡ true → test ≡ has_kind patterns (8 + sort) → test ≡ opens_by placed patterns sort
  unfolding opens_place
  opens_by_place e f = rw e f

  -- by an ide if there is one that it fits.
  pub opens_by_ide : placed ≡ false → test ≡ opens_ide patterns sort → test ≡ opens_by placed patterns sort
  opens_by_ide e f = rw e f

-- ------------------------------------------------------------------ choices that are remembered

-- Nothing is remembered.
pub remembers_none : (patterns : List Item → ℕ) (bs : List ℕ) → RemembersFor patterns bs (replicate memory_size 0)
remembers_none patterns bs =
    record {
      long = length-replicate {A = ℕ} memory_size 0;
      known = λ n kind few fits l. absurd (omega (arith, l, get_or-replicate {A = ℕ} memory_size (slot n kind) 0 0 (omega arith)));
    }

module _ {patterns : List Item → ℕ} {bs memory : List ℕ} (remembers : RemembersFor patterns bs memory) {nonterminal kind : ℕ} (few : nonterminal < 64) (fits : kind < no_kind) where
  -- What is remembered is what is chosen.
  pub remembered : {found_place : ℕ} → found_place ≡ get_or memory (slot nonterminal kind) 0 → 0 < found_place
      → found_place ≡ chosen_place (entries_for patterns bs) nonterminal kind
  remembered e l = e ∙ remembers.known nonterminal kind few fits (omega (arith, e))

  -- One more choice is remembered.
  pub remembers_more : {place : ℕ} → place ≡ chosen_place (entries_for patterns bs) nonterminal kind → RemembersFor patterns bs (set memory (slot nonterminal kind) place)
  remembers_more {place} e =
      record {
        long = length-set memory (slot nonterminal kind) place ∙ remembers.long;
        known = λ n' kind' few' fits'. by n' kind' few' fits' (ℕ_discrete (slot n' kind') (slot nonterminal kind));
      }
    where
      by : (nonterminal' kind' : ℕ) → nonterminal' < 64 → kind' < no_kind → Dec (slot nonterminal' kind' ≡ slot nonterminal kind)
          → 0 < get_or (set memory (slot nonterminal kind) place) (slot nonterminal' kind') 0
          → get_or (set memory (slot nonterminal kind) place) (slot nonterminal' kind') 0 ≡ chosen_place (entries_for patterns bs) nonterminal' kind'
      by nonterminal' kind' few' fits' (yes s) l =
          let en : nonterminal' ≡ nonterminal = omega arith in
          let ek : kind' ≡ kind = omega arith in
          rw (s, get_or-set_same memory (slot nonterminal kind) place 0 (omega (arith, remembers.long)), en, ek) e
      by nonterminal' kind' few' fits' (no f) l =
          let other = get_or-set_other memory (slot nonterminal kind) (slot nonterminal' kind') place 0 f in
          other ∙ remembers.known nonterminal' kind' few' fits' (omega (arith, other))

-- ------------------------------------------------------------------ what a place stands for

abbrev somewhere : Place
somewhere = record { nonterminal = 0; start = 0 }

-- the rule of the production at an index, else what is given
unfoldable choice_at : (Place → Rule) → List Place → ℕ → Choice → Choice
choice_at R [] j other = other
choice_at R (p ∷ ps) zero other = chosen (R p)
choice_at R (p ∷ ps) (suc j) other = choice_at R ps j other

module _ (rule_at : Place → Rule) (other : Choice) where
  choice_inside : (ps : List Place) (spot : ℕ) → spot < length ps → choice_at rule_at ps spot other ≡ chosen (rule_at (get_or ps spot somewhere))
  unfolding choice_at
  choice_inside [] spot h = absurd (omega arith)
  choice_inside (p ∷ ps) zero h = refl
  choice_inside (p ∷ ps) (suc spot) h = choice_inside ps spot (omega arith)

  choice_outside : (ps : List Place) (spot : ℕ) → length ps ≤ spot → choice_at rule_at ps spot other ≡ other
  unfolding choice_at
  choice_outside [] spot h = refl
  choice_outside (p ∷ ps) zero h = absurd (omega arith)
  choice_outside (p ∷ ps) (suc spot) h = choice_outside ps spot (omega arith)

-- a search among rules, and one among the entries of the same productions
module _ (entry_at : Place → Entry) (production_at_lem : Place → Production) (rule_of_lem : Production → Rule) (te : Entry → Bool) (tr : Rule → Bool) (nonterminal : ℕ)
    (agree : (stands_at : Place) → te (entry_at stands_at)
    ≡ (eqb (rule_of_lem (production_at_lem stands_at)).nonterminal nonterminal && tr (rule_of_lem (production_at_lem stands_at)))) (other : Choice) where
  searched : (ps : List Place) (spot : ℕ) → spot + length ps ≤ 256
      → first_rule tr nonterminal (map rule_of_lem (map production_at_lem ps)) other ≡ choice_at (λ p. rule_of_lem (production_at_lem p)) ps
      (place_from te (map entry_at ps) spot - spot) other
  unfolding first_rule choice_at place_from
  searched [] spot h = refl
  searched (p ∷ ps) spot h =
      by_test (te (entry_at p))
      (λ t.
      let u : (eqb (rule_of_lem (production_at_lem p)).nonterminal nonterminal && tr (rule_of_lem (production_at_lem p))) ≡ true = sym (agree p) ∙ t in
      let z : place_from te (map entry_at (p ∷ ps)) spot - spot ≡ 0 = ap (λ k. k - spot) (place_hit te (entry_at p) (map entry_at ps) spot t) ∙ sub_self spot in
      rw (u, z, first_rule) refl)
      (λ t.
      let u : (eqb (rule_of_lem (production_at_lem p)).nonterminal nonterminal && tr (rule_of_lem (production_at_lem p))) ≡ false = sym (agree p) ∙ t in
      let l : spot + 1 ≤ place_from te (map entry_at ps) (spot + 1) = (landed te te (map entry_at ps) (spot + 1) (omega (arith, length-map ps entry_at))).later in
      let z : place_from te (map entry_at (p ∷ ps)) spot - spot ≡ suc (place_from te (map entry_at ps) (spot + 1) - (spot + 1)) =
      ap (λ k. k - spot) (place_miss te (entry_at p) (map entry_at ps) spot t) ∙ omega arith in
      rw (u, z, first_rule) (searched ps (spot + 1) (omega arith)))

each_at : {P : Place → Type 0} {ps : List Place} → Each P ps → (spot : ℕ) → spot < length ps → P (get_or ps spot somewhere)
each_at each_none spot h = absurd (omega arith)
each_at (each_more x xs) zero h = x
each_at (each_more x xs) (suc spot) h = each_at xs spot (omega arith)

each_among : {A : Type 0} {P : A → Type 0} {xs : List A} {item : A} → Each P xs → Among xs item → P item
each_among (each_more x xs) among_first = x
each_among (each_more x xs) (among_later a) = each_among xs a
each_among each_none x = elim x [ ]

module _ {A B : Type 0} (image : A → B) where
  -- a member's image is a member of the images
  mapped_among : {xs : List A} {item : A} → Among xs item → Among (map image xs) (image item)
  mapped_among among_first = among_first
  mapped_among (among_later a) = among_later (mapped_among a)

  -- what is among the images is a member's
  record ImageOf (xs : List A) (other : B) : Type 0 where
    item : A
    member : Among xs item
    equal : image item ≡ other

  among_mapped : (xs : List A) {other : B} → Among (map image xs) other → ImageOf xs other
  among_mapped (x ∷ xs) among_first = record { item = x; member = among_first; equal = refl }
  among_mapped (x ∷ xs) (among_later a) = let r = among_mapped xs a in record { item = r.item; member = among_later r.member; equal = r.equal }
  among_mapped [] x = elim x [ ]

map_at : {A B : Type 0} (image : A → B) (xs : List A) (spot : ℕ) (default : A) (image_default : B) → spot < length xs
    → get_or (map image xs) spot image_default ≡ image (get_or xs spot default)
map_at image [] spot default image_default h = absurd (omega arith)
map_at image (x ∷ xs) zero default image_default h = refl
map_at image (x ∷ xs) (suc spot) default image_default h = map_at image xs spot default image_default (omega arith)

-- ------------------------------------------------------------------ a room that holds a grammar

module _ (room : List ℕ) (nonterminal : ℕ) where
  -- The first set of a nonterminal stands in the room.
  pub kinds_inside : nonterminal < 64 → first_set_in room nonterminal ≡ kinds_in room nonterminal
  unfolding kinds_in
  kinds_inside l = rw (lt-ltb nonterminal 64 l, kinds_in)

  -- What is no nonterminal has the empty first set.
  pub kinds_outside : 64 ≤ nonterminal → 0 ≡ kinds_in room nonterminal
  unfolding kinds_in
  kinds_outside l = rw (le-ltb nonterminal 64 l, kinds_in)

-- A room that is made one for a text is of the same places.
pub held_with : {patterns others : List Item → ℕ} {bs room room' : List ℕ} → HeldFor patterns bs room → HoldsFor others bs room' → HeldFor others bs room'
held_with held grammar = record { grammar = grammar; places = held.places }

module _ {patterns : List Item → ℕ} {bs room : List ℕ} (held : HeldFor patterns bs room) where
  abbrev nulls : ℕ
  nulls = nullables (productions_in bs)

  abbrev E : Place → Entry
  E = entry_for patterns bs nulls (first_sets_of bs)

  abbrev placed : Place → Production
  placed p = production_at bs p.nonterminal p.start

  -- the rule at a place, with the result that is given for its offset
  abbrev R : (ℕ → Template) → Place → Rule
  R results p = rule_of nulls (first_sets_of bs) (production_with bs results p)

  few : length (places_of bs) ≤ 256
  few = held.grammar.few

  -- As many entries as productions.
  pub entries_count : length (entries_for patterns bs) ≡ length (places_of bs)
  unfolding entries_for
  entries_count = length-map (places_of bs) E

  entry_is : (spot : ℕ) → spot < length (places_of bs) → get_or (entries_for patterns bs) spot no_entry ≡ E (get_or (places_of bs) spot somewhere)
  unfolding entries_for
  entry_is spot l = map_at E (places_of bs) spot somewhere no_entry l

  -- They are 256 at most.
  pub entries_few : length (entries_for patterns bs) ≤ 256
  entries_few = omega (arith, entries_count, few)

  -- The room holds the entries of the table's productions.
  pub entries_held : HoldsEntries (first_sets_of bs) (entries_for patterns bs) room
  unfolding entries_for first_sets_of
  entries_held = table_entries_lem held.grammar held.places

  -- What the room has of an entry: its first set, by which a test for a kind goes,
  pub kind_tested : {spot : ℕ} (kind : ℕ) {answer : Bool} → spot < length (entries_for patterns bs) → answer ≡ has_kind (first_in room spot) kind
      → answer ≡ holds_kind kind (get_or (entries_for patterns bs) spot no_entry)
  kind_tested {spot} kind inside e = e ∙ ap (λ (set : ℕ). has_kind set kind) (first_in_lem entries_held spot inside)

  -- and what reads a variable first, by which a test for a sort goes.
  pub sort_tested : {spot : ℕ} (placed : Bool) (sort : ℕ) {answer : Bool} → spot < length (entries_for patterns bs)
      → answer ≡ opens_by placed (patterns_in room spot) sort
      → answer ≡ opens_sort placed sort (get_or (entries_for patterns bs) spot no_entry)
  sort_tested {spot} placed sort inside e = e ∙ ap (λ (set : ℕ). opens_by placed set sort) (patterns_in_lem entries_held spot inside)

  -- the walk over the places of one of the 64 nonterminals
  module _ {nonterminal : ℕ} (small : nonterminal < 64) (test : Entry → Bool) where
    -- The walk begins at the first place that the room has.
    pub walk_start : {spot : ℕ} → spot ≡ first_place_in room nonterminal → Walking (entries_for patterns bs) nonterminal test spot
    walk_start e = walking_start (entries_for patterns bs) entries_few nonterminal test (e ∙ first_place_in_lem entries_held nonterminal small)

    -- That is a place, or the one that is no production's.
    pub first_within : {spot : ℕ} → spot ≡ first_place_in room nonterminal → spot ≤ 256
    first_within e =
        omega (
          arith,
          e ∙ first_place_in_lem entries_held nonterminal small,
          (landed (is_of nonterminal) (is_of nonterminal) (entries_for patterns bs) 0 (omega (arith, entries_few))).small,
        )

    module _ {spot : ℕ} (walking : Walking (entries_for patterns bs) nonterminal test spot) (less : spot < 256) where
      -- It ends at a place that passes the test.
      pub walk_found : test (get_or (entries_for patterns bs) spot no_entry) ≡ true → spot ≡ first_with (entries_for patterns bs) nonterminal test
      walk_found t = walking_found (entries_for patterns bs) entries_few nonterminal test walking less t

      -- Else it goes on at the next place that the room has, a later one.
      pub walk-next : test (get_or (entries_for patterns bs) spot no_entry) ≡ false → {next_place : ℕ} → next_place ≡ next_place_in room spot
          → (spot < next_place) × Walking (entries_for patterns bs) nonterminal test next_place
      walk-next t e =
          walking_next (entries_for patterns bs) entries_few nonterminal test walking less t (e ∙ next_place_in_lem entries_held spot (walking.inside less))

    -- At 256 nothing was found.
    pub walk_end : {spot : ℕ} → Walking (entries_for patterns bs) nonterminal test spot → 256 ≤ spot → 256 ≡ first_with (entries_for patterns bs) nonterminal test
    walk_end w l = walking_end (entries_for patterns bs) entries_few nonterminal test w l

  abbrev null_of : ℕ → ℕ
  null_of nonterminal = place_from (is_nullable_of nonterminal) (entries_for patterns bs) 0

  -- the nullable place of the room is that of the entries
  nullable_here : {nonterminal : ℕ} → nonterminal < 64 → {spot : ℕ} → spot ≡ nullable_place_in room nonterminal
      → spot ≡ place_from (is_nullable_of nonterminal) (entries_for patterns bs) 0
  nullable_here {nonterminal} small e = e ∙ nullable_place_in_lem entries_held nonterminal small

  -- the place that is chosen of one of the 64 nonterminals
  module _ {nonterminal : ℕ} (small : nonterminal < 64) {kind : ℕ} where
    module _ (formula : kind ≤ no_kind) {opened : ℕ} (equal : opened ≡ first_with (entries_for patterns bs) nonterminal (holds_kind kind)) where
      -- By a kind of a formula a place that the walk found is chosen.
      pub place_opened : opened < 256 → opened ≡ chosen_place (entries_for patterns bs) nonterminal kind
      place_opened l = or_first (null_of nonterminal) l ∙ rw equal (chosen_formula (entries_for patterns bs) nonterminal kind formula)

      -- Where it found none, the nullable place of the room is.
      pub place_nullable : 256 ≤ opened → {next_place : ℕ} → next_place ≡ nullable_place_in room nonterminal
          → next_place ≡ chosen_place (entries_for patterns bs) nonterminal kind
      place_nullable l e = nullable_here small e ∙ or_second (null_of nonterminal) l ∙ rw equal (chosen_formula (entries_for patterns bs) nonterminal kind formula)

    module _ (text : no_kind < kind) (variable : kind ≡ outside_kind → ⊥) {by_ide : ℕ}
        (ide_is : by_ide ≡ first_with (entries_for patterns bs) nonterminal (opens_sort false (kind - 65))) where
      chosen_by : {found : ℕ} → found ≡ or_else by_ide (or_else (first_with (entries_for patterns bs) nonterminal (opens_sort true (kind - 65)))
          (place_from (is_nullable_of nonterminal) (entries_for patterns bs) 0)) → found ≡ chosen_place (entries_for patterns bs) nonterminal kind
      chosen_by e = e ∙ rw ide_is (chosen_variable (entries_for patterns bs) nonterminal kind text variable)

      -- By a variable a place is chosen that opens with an ide that it fits;
      pub place_ide : by_ide < 256 → by_ide ≡ chosen_place (entries_for patterns bs) nonterminal kind
      place_ide l = chosen_by (or_first (or_else (first_with (entries_for patterns bs) nonterminal (opens_sort true (kind - 65))) (null_of nonterminal)) l)

      module _ (none : 256 ≤ by_ide) {by_place : ℕ}
          (place_is : by_place ≡ first_with (entries_for patterns bs) nonterminal (opens_sort true (kind - 65))) where
        -- where there is none, one that opens with a place of its sort;
        pub place_place : by_place < 256 → by_place ≡ chosen_place (entries_for patterns bs) nonterminal kind
        place_place l = chosen_by (rw (← place_is) (or_first (null_of nonterminal) l ∙ or_second (or_else by_place (null_of nonterminal)) none))

        -- where there is none of these either, the nullable one.
        pub place_left : 256 ≤ by_place → {found : ℕ} → found ≡ nullable_place_in room nonterminal
            → found ≡ chosen_place (entries_for patterns bs) nonterminal kind
        place_left l e = chosen_by (rw (← place_is) (nullable_here small e ∙ or_second (null_of nonterminal) l ∙ or_second (or_else by_place (null_of nonterminal)) none))

  -- An outside name chooses as a word does.
  pub place_outside : (nonterminal : ℕ) {kind spot : ℕ} → kind ≡ outside_kind → spot ≡ chosen_place (entries_for patterns bs) nonterminal word_kind
      → spot ≡ chosen_place (entries_for patterns bs) nonterminal kind
  place_outside nonterminal e f =
      f ∙ chosen_outside_name (entries_for patterns bs) nonterminal ∙ ap (chosen_place (entries_for patterns bs) nonterminal) (sym e)

  -- where no place passes a test, none is found
  none_passes : (test : Entry → Bool) (ps : List Place) → ((stands_at : Place) → Among ps stands_at → test (E stands_at) ≡ false) → (spot : ℕ)
      → place_from test (map E ps) spot ≡ 256
  unfolding place_from
  none_passes test [] fails spot = refl
  none_passes test (p ∷ ps) fails spot =
      place_miss test (E p) (map E ps) spot (fails p among_first) ∙ none_passes test ps (λ q a. fails q (among_later a)) (spot + 1)

  -- where one passes it, one is found
  one_passes : (test : Entry → Bool) {ps : List Place} {stands_at : Place} → Among ps stands_at → test (E stands_at) ≡ true → (spot : ℕ)
      → spot + length ps ≤ 256 → place_from test (map E ps) spot < 256
  one_passes test {ps = p ∷ ps} among_first t spot h = rw (place_hit test (E p) (map E ps) spot t) (omega arith)
  one_passes test {ps = p ∷ ps} (among_later a) t spot h =
      by_test (test (E p)) (λ e. rw (place_hit test (E p) (map E ps) spot e) (omega arith))
      (λ e. rw (place_miss test (E p) (map E ps) spot e) (one_passes test a t (spot + 1) (omega arith)))
  one_passes test {ps = []} x t spot h = elim x [ ]

  -- the nonterminals are 64
  each_other : (test : Entry → Bool) (nonterminal : ℕ) → 64 ≤ nonterminal → ((entry : Entry) → test entry ≡ true → entry.nonterminal ≡ nonterminal)
      → place_from test (map E (places_of bs)) 0 ≡ 256
  each_other test nonterminal l own =
      none_passes test (places_of bs)
      (λ p a. by_test (test (E p)) (λ t. absurd (omega (arith, own (E p) t, (each_among held.places a).small))) (λ t. t)) 0

  none_of : (nonterminal : ℕ) → 64 ≤ nonterminal → (test : Entry → Bool) → place_from (of_with nonterminal test) (map E (places_of bs)) 0 ≡ 256
  none_of nonterminal l test = each_other (of_with nonterminal test) nonterminal l (λ e t. eqb-true _ nonterminal ((and-eq-true_iff _ _).0 t).0)

  -- What is no nonterminal has no production.
  pub chosen_outside : (nonterminal kind : ℕ) → 64 ≤ nonterminal → 256 ≡ chosen_place (entries_for patterns bs) nonterminal kind
  unfolding entries_for
  chosen_outside nonterminal kind l =
      sym (none_of nonterminal l (λ e. e.nullable))
      ∙ or_second _ (omega (arith, none_of nonterminal l (places kind)))
      ∙ or_second _ (omega (arith, none_of nonterminal l (opens kind)))

  -- ---------------------------------------------------------------- the first set of a nonterminal says whether a place of it opens by a kind

  module _ {nonterminal : ℕ} (small : nonterminal < 64) (kind : ℕ) {test : Bool} (tested : has_kind (first_set_in room nonterminal) kind ≡ test) where
    in_set : has_kind (get_or (first_sets_of bs) nonterminal 0) kind ≡ test
    in_set = rw (sym (first_set_in_lem entries_held nonterminal small)) tested

    -- Where the set has the kind, some production opens by it.
    pub opens_some : test ≡ true → first_with (entries_for patterns bs) nonterminal (holds_kind kind) < 256
    unfolding entries_for first_sets_of production_at
    opens_some t = by ((opens_exactly (productions_in bs) nonterminal kind).0 (in_set ∙ t))
      where
        by : Opens (productions_in bs) nonterminal kind → first_with (map E (places_of bs)) nonterminal (holds_kind kind) < 256
        by o =
            let p = among_mapped placed (places_of bs) o.of.member in
            one_passes (of_with nonterminal (holds_kind kind)) p.member
            ((and-eq-true_iff _ _).1 (
              eq-eqb _ nonterminal (ap (λ x. x.nonterminal) p.equal ∙ o.of.owned),
              ap (λ x. has_kind (first_of nulls (first_sets_of bs) x) kind) p.equal
                  ∙ (production_opens_exactly (productions_in bs) o.production kind).1 o.first,
            ))
            0
            (omega (arith, few))

    -- Where it does not, none does.
    pub opens_none : test ≡ false → 256 ≡ first_with (entries_for patterns bs) nonterminal (holds_kind kind)
    unfolding entries_for first_sets_of production_at
    opens_none t =
        sym
        (none_passes (of_with nonterminal (holds_kind kind)) (places_of bs)
        (λ p a.
        by_test (of_with nonterminal (holds_kind kind) (E p))
        (λ e.
        let q = (and-eq-true_iff _ _).0 e in
        absurd
        (false≢true
        (sym (in_set ∙ t)
        ∙ (opens_exactly (productions_in bs) nonterminal kind).1
        (record {
          production = placed p;
          of = record { member = mapped_among placed a; owned = eqb-true _ nonterminal q.0; small = small };
          first = (production_opens_exactly (productions_in bs) (placed p) kind).0 q.1;
        }))))
        (λ e. e))
        0)

  set_inside : (nonterminal : ℕ) → nonterminal < 64 → first_set_in room nonterminal ≡ get_or (first_sets_of bs) nonterminal 0
  set_inside nonterminal l = first_set_in_lem entries_held nonterminal l

  set_outside : (nonterminal : ℕ) → 64 ≤ nonterminal → 0 ≡ get_or (first_sets_of bs) nonterminal 0
  unfolding first_sets_of
  set_outside nonterminal l = sym (get_d_past (first_sets_of bs) nonterminal 0 (omega (arith, length-sets opening_of nulls (productions_in bs))))

  -- The first set that the room has is that of the table.
  pub kinds_are : (nonterminal : ℕ) → kinds_in room nonterminal ≡ get_or (first_sets_of bs) nonterminal 0
  kinds_are nonterminal = by (dec_lt nonterminal 64)
    where
      by : Dec (nonterminal < 64) → kinds_in room nonterminal ≡ get_or (first_sets_of bs) nonterminal 0
      by (yes l) = sym (kinds_inside room nonterminal l) ∙ set_inside nonterminal l
      by (no n) = sym (kinds_outside room nonterminal (omega arith)) ∙ set_outside nonterminal (omega arith)

  -- The first sets of a table do not look at results.
  pub ready_with : (results : ℕ → Template)
      → ready_for patterns (productions_with bs results) ≡ ready_by patterns (productions_with bs results) nulls (first_sets_of bs)
  unfolding ready_for first_sets_of production_at
  ready_with results =
      rw (nullables_same (production_with bs results) placed (λ p. refl) (λ p. refl) (places_of bs))
      (ap (ready_by patterns (productions_with bs results) nulls)
      (sets_same (production_with bs results) placed (λ p. refl) (λ p. refl) opening_of nulls (places_of bs)))

  -- a place among the entries, and another if it is none
  module _ {spot : ℕ} (inside : spot < 256 → spot < length (places_of bs)) (other : ℕ) where
    or_choice : (rule_at : Place → Rule) (left : Choice)
        → choice_at rule_at (places_of bs) spot (choice_at rule_at (places_of bs) other left) ≡ choice_at rule_at (places_of bs) (or_else spot other) left
    or_choice rule_at left =
        by_test (ltb spot 256)
        (λ t.
        let l = ltb-true _ _ t in
        choice_inside rule_at _ (places_of bs) spot (inside l)
        ∙ rw (← (or_first {place = spot} other l)) (sym (choice_inside rule_at left (places_of bs) spot (inside l))))
        (λ t.
        let l : 256 ≤ spot = ltb-false _ _ t in
        choice_outside rule_at _ (places_of bs) spot (omega (arith, few))
        ∙ ap (λ (j : ℕ). choice_at rule_at (places_of bs) j left) (or_second {place = spot} other l))

    or_inside : (other < 256 → other < length (places_of bs)) → or_else spot other < 256 → or_else spot other < length (places_of bs)
    or_inside too =
        by_test (ltb spot 256) (λ t. rw (← (or_first {place = spot} other (ltb-true _ _ t))) inside)
        (λ t. rw (← (or_second {place = spot} other (ltb-false _ _ t))) too)

  -- the searches of a choice
  module _ (nonterminal kind : ℕ) where
    abbrev opened_at : ℕ
    opened_at = first_with (entries_for patterns bs) nonterminal (opens kind)

    abbrev placed_at : ℕ
    placed_at = first_with (entries_for patterns bs) nonterminal (places kind)

    abbrev nullable_at : ℕ
    nullable_at = place_from (is_nullable_of nonterminal) (entries_for patterns bs) 0

    found_inside : (te : Entry → Bool) → place_from te (entries_for patterns bs) 0 < 256 → place_from te (entries_for patterns bs) 0 < length (places_of bs)
    found_inside te l = omega (arith, place_inside te (entries_for patterns bs) entries_few l, entries_count)

    chosen_small : chosen_place (entries_for patterns bs) nonterminal kind < 256
        → chosen_place (entries_for patterns bs) nonterminal kind < length (places_of bs)
    chosen_small =
        or_inside (found_inside (of_with nonterminal (opens kind))) (or_else placed_at nullable_at)
        (or_inside (found_inside (of_with nonterminal (places kind))) nullable_at (found_inside (is_nullable_of nonterminal)))

    -- whatever the results are
    module _ (results : ℕ → Template) where
      abbrev rule_at : Place → Rule
      rule_at = R results

      -- a search by a test of rules is one by a test of entries
      searched_at : (te : Entry → Bool) (tr : Rule → Bool)
          → ((stands_at : Place) → te (E stands_at) ≡ (eqb (rule_at stands_at).nonterminal nonterminal && tr (rule_at stands_at))) → (other : Choice)
          → first_rule tr nonterminal (map (rule_of nulls (first_sets_of bs)) (productions_with bs results)) other
          ≡ choice_at rule_at (places_of bs) (place_from te (entries_for patterns bs) 0) other
      unfolding entries_for
      searched_at te tr agree other =
          searched E (production_with bs results) (rule_of nulls (first_sets_of bs)) te tr nonterminal agree other (places_of bs) 0 (omega (arith, few))
          ∙ rw (sub-zero (place_from te (map E (places_of bs)) 0)) refl

      choice_is : choice (ready_for patterns (productions_with bs results)) nonterminal kind
          ≡ choice_at rule_at (places_of bs) opened_at (choice_at rule_at (places_of bs) placed_at (choice_at rule_at (places_of bs) nullable_at unfit))
      choice_is =
          ap (λ (g : Grammar). choice g nonterminal kind) (ready_with results)
          ∙ searched_at (of_with nonterminal (opens kind)) (λ r. is_opened kind r.first (patterns r.items)) (λ p. refl) _
          ∙ ap (choice_at rule_at (places_of bs) opened_at)
          (searched_at (of_with nonterminal (places kind)) (λ r. is_placed kind (patterns r.items)) (λ p. refl) _
          ∙ ap (choice_at rule_at (places_of bs) placed_at) (searched_at (is_nullable_of nonterminal) (λ r. r.nullable) (λ p. refl) unfit))

      -- The place that is chosen stands for the rule that is chosen.
      chosen_is : choice (ready_for patterns (productions_with bs results)) nonterminal kind
          ≡ choice_at rule_at (places_of bs) (chosen_place (entries_for patterns bs) nonterminal kind) unfit
      chosen_is =
          choice_is
          ∙ ap (choice_at rule_at (places_of bs) opened_at) (or_choice (found_inside (of_with nonterminal (places kind))) nullable_at rule_at unfit)
          ∙ or_choice (found_inside (of_with nonterminal (opens kind))) (or_else placed_at nullable_at) rule_at unfit

    module _ {spot : ℕ} (equal : spot ≡ chosen_place (entries_for patterns bs) nonterminal kind) where
      -- No place: no rule fits.
      pub chosen_nowhere : (results : ℕ → Template) → 256 ≤ spot → choice (ready_for patterns (productions_with bs results)) nonterminal kind ≡ unfit
      chosen_nowhere results l = chosen_is results ∙ choice_outside (R results) unfit (places_of bs) _ (omega (arith, equal, few))

      module _ (below : spot < 256) where
        at_place : spot < length (places_of bs)
        at_place = omega (arith, equal, chosen_small (rw equal at below))

        abbrev place : Place
        place = get_or (places_of bs) spot somewhere

        -- The room has the offset of the place.
        pub start_is : start_in room spot ≡ place.start
        start_is = start_in_lem entries_held spot (omega (arith, entries_count, at_place)) ∙ ap (λ x. x.start) (entry_is spot at_place)

        -- It is the offset of the production that is chosen.
        pub start_chosen : start_in room spot ≡ chosen_start_for patterns bs nonterminal kind
        unfolding chosen_start_for
        start_chosen = rw (sym equal, chosen_start_for) (start_in_lem entries_held spot (omega (arith, entries_count, at_place)))

        -- A place: the rule whose items and result stand at its offset.
        pub chosen_here : (results : ℕ → Template)
            → choice (ready_for patterns (productions_with bs results)) nonterminal kind ≡ chosen (R results (get_or (places_of bs) spot somewhere))
        chosen_here results =
            chosen_is results ∙ rw (sym equal) (choice_inside (R results) unfit (places_of bs) spot at_place)

        -- What holds at the beginning of each production holds there.
        pub chosen_each : (P : ℕ → Type 0) → Each (λ (p : Place). P p.start) (places_of bs) → P (start_in room spot)
        chosen_each P each = rw start_is (each_at each spot at_place)
