-- What the check of a grammar gives says what refusals 12 and 13 mean, and no other result does.
use Prim.Native.Nat.{ℕ, ◌≤◌, ◌<◌}
use mathlib.Core.Path.{◌≡◌, refl, sym, ap, ◌∙◌}
use mathlib.Core.Bool.{Bool, true, false, true≢false}
use mathlib.Core.Logic.{◌↔◌, inl, inr}
use mathlib.Core.List.{List}
use native.Mathlib.Decide.{dec_lt}
use native.Mathlib.Omega.{arith}
use lib.Count.{count_trailing_zeros}
use lib.Dec.{ltb}
use lib.ListN.{get_or}
use borrow.Author.Tests.{ltb-true, ltb-false}
use Rattle.answers.specs.declared.Refusal.{Refusal}
use Rattle.answers.specs.Refusals.{refusal}
use Rattle.answers.specs.Checked.{Checked, ok, bad}
use Rattle.kinds.specs.Kinds.{has_kind}
use Rattle.kinds.proofs.KindsLaws.{lowest_has, lowest_first}
use Rattle.kinds.specs.TextKinds.{variable_kind}
use Rattle.productions.specs.Normal.{Production}
use Rattle.clashes.specs.CheckFirsts.{shared_by, clash, any_pair, join_pairs, lowest, left_recursive, clashing}
use Rattle.firsts.specs.FirstSets.{call_of, nullables, left_calls}
use Rattle.clashes.specs.CheckFirsts.{lowest_shared, no_left_recursion, no_clash, check_firsts}
use Rattle.firsts.specs.Rules.{Calls}
use Rattle.clashes.specs.Openings.{openings_of}
use Rattle.clashes.specs.FirstRefusals.{Says12, Says13, Says}
use Rattle.clashes.specs.Named.{Names, names_kind, names_place, names_neither}
use Rattle.clashes.specs.Clashes.{Shares, SharesPlace, Clashes, Never, Lowest, LeftRecursive}
use Rattle.firsts.proofs.FirstSetsExactly.{sets_exactly, calls_exactly}
use Rattle.firsts.proofs.EqualSets.{some_kind, kind_positive}
use Rattle.clashes.proofs.Searches.{lowest_passes, lowest_skips}
use Rattle.clashes.proofs.Clashing.{kind_small, sort_small, shared_exactly, places_shared_exactly, clash_exactly, clash_small}

-- ------------------------------------------------------------------ the lowest number that a relation holds of

fails : {test : Bool} {A : Type 0} → (test ≡ true) ↔ A → test ≡ false → ¬ A
fails i e a = true≢false (sym (i.1 a) ∙ e)

module _ (test : ℕ → Bool) (P : ℕ → Type 0) (exactly : (number : ℕ) → number < 64 → (test number ≡ true) ↔ P number)
    (small : (number : ℕ) → P number → number < 64) where
  found_lowest : lowest 64 test 0 < 64 → Lowest P (lowest 64 test 0)
  found_lowest l =
      record {
        holds = (exactly (lowest 64 test 0) l).0 (lowest_passes 64 test 0 (omega arith));
        none_below = λ m h. fails (exactly m (omega arith)) (lowest_skips 64 test 0 m (omega arith) h);
      }

  found_none : 64 ≤ lowest 64 test 0 → Never P
  found_none l m h = let s : m < 64 = small m h in fails (exactly m s) (lowest_skips 64 test 0 m (omega arith) (omega arith)) h

lowest_one : {P : ℕ → Type 0} {other number : ℕ} → Lowest P other → Lowest P number → other ≡ number
lowest_one {P} {other} {number} x y = by (dec_lt other number) (dec_lt number other)
  where
    by : Dec (other < number) → Dec (number < other) → other ≡ number
    by (yes l) d = absurd (y.none_below other l x.holds)
    by (no k) (yes l) = absurd (x.none_below number l y.holds)
    by (no k) (no l) = omega arith

-- what 13 names is one number
names_one : {g : List Production} {nonterminal kind other : ℕ} → Names g nonterminal kind → Names g nonterminal other → kind ≡ other
names_one (names_kind x) (names_kind y) = lowest_one x y
names_one (names_kind x) (names_place n y) = absurd (n _ x.holds)
names_one (names_kind x) (names_neither n m) = absurd (n _ x.holds)
names_one (names_place n x) (names_kind y) = absurd (n _ y.holds)
names_one (names_place n x) (names_place m y) = ap variable_kind (lowest_one x y)
names_one (names_place n x) (names_neither m k) = absurd (k _ x.holds)
names_one (names_neither n m) (names_kind y) = absurd (n _ y.holds)
names_one (names_neither n m) (names_place k y) = absurd (m _ y.holds)
names_one (names_neither n m) (names_neither k l) = refl

-- the lowest number of a set that is not empty, and that one without numbers is empty
module _ (set : ℕ) (P : ℕ → Type 0) (exactly : (kind : ℕ) → (has_kind set kind ≡ true) ↔ P kind) (small : (kind : ℕ) → P kind → kind < 64) where
  set_lowest : 0 < set → Lowest P (count_trailing_zeros 64 set)
  set_lowest h = by (dec_lt (count_trailing_zeros 64 set) 64)
    where
      by : Dec (count_trailing_zeros 64 set < 64) → Lowest P (count_trailing_zeros 64 set)
      by (yes l) =
          record {
            holds = (exactly (count_trailing_zeros 64 set)).0 (lowest_has 64 set l);
            none_below = λ b k. fails (exactly b) (lowest_first 64 set b k);
          }
      by (no l) =
          let k = some_kind set h in
          let b : k.0 < 64 = small k.0 ((exactly k.0).0 k.1) in
          absurd (true≢false (sym k.1 ∙ lowest_first 64 set k.0 (omega arith)))

  set_empty : set ≤ 0 → Never P
  set_empty h kind p = let l = kind_positive set kind ((exactly kind).1 p) in omega arith

-- ------------------------------------------------------------------ what the check gives

module _ (g : List Production) where
  abbrev recursive : ℕ
  recursive = left_recursive (left_calls (nullables g) g)

  abbrev clashes : ℕ
  clashes = clashing (openings_of g) g

  reaches_itself : (nonterminal : ℕ) → nonterminal < 64 → (has_kind (get_or (left_calls (nullables g) g) nonterminal 0) nonterminal ≡ true)
      ↔ LeftRecursive g nonterminal
  reaches_itself nonterminal l = sets_exactly call_of Calls calls_exactly g nonterminal nonterminal

  lowest_recursive : recursive < 64 → Lowest (LeftRecursive g) recursive
  lowest_recursive = found_lowest (λ n. has_kind (get_or (left_calls (nullables g) g) n 0) n) (LeftRecursive g) reaches_itself (λ n h. h.of.small)

  none_recursive : 64 ≤ recursive → Never (LeftRecursive g)
  none_recursive = found_none (λ n. has_kind (get_or (left_calls (nullables g) g) n 0) n) (LeftRecursive g) reaches_itself (λ n h. h.of.small)

  lowest_clash : clashes < 64 → Lowest (Clashes g) clashes
  lowest_clash = found_lowest (λ n. any_pair (clash (openings_of g) n) g) (Clashes g) (clash_exactly g) (λ n h. clash_small g h)

  none_clashing : 64 ≤ clashes → Never (Clashes g)
  none_clashing = found_none (λ n. any_pair (clash (openings_of g) n) g) (Clashes g) (clash_exactly g) (λ n h. clash_small g h)

  abbrev kinds_shared : ℕ → ℕ
  kinds_shared nonterminal = join_pairs (shared_by (openings_of g).kinds nonterminal) g 0

  abbrev sorts_shared : ℕ → ℕ
  sorts_shared nonterminal = join_pairs (shared_by (openings_of g).sorts nonterminal) g 0

  shared_names : (nonterminal : ℕ) → nonterminal < 64 → Names g nonterminal (lowest_shared (openings_of g) g nonterminal)
  shared_names nonterminal l = by (ltb 0 (kinds_shared nonterminal)) (ltb 0 (sorts_shared nonterminal)) refl refl
    where
      some_kinds : ltb 0 (kinds_shared nonterminal) ≡ true → Lowest (Shares g nonterminal) (count_trailing_zeros 64 (kinds_shared nonterminal))
      some_kinds e =
          set_lowest (kinds_shared nonterminal) (Shares g nonterminal) (shared_exactly g nonterminal l) (λ k s. kind_small s.one_first) (ltb-true 0 _ e)

      no_kinds : ltb 0 (kinds_shared nonterminal) ≡ false → Never (Shares g nonterminal)
      no_kinds e =
          set_empty (kinds_shared nonterminal) (Shares g nonterminal) (shared_exactly g nonterminal l) (λ k s. kind_small s.one_first) (ltb-false 0 _ e)

      some_sorts : ltb 0 (sorts_shared nonterminal) ≡ true → Lowest (SharesPlace g nonterminal) (count_trailing_zeros 64 (sorts_shared nonterminal))
      some_sorts e =
          set_lowest (sorts_shared nonterminal) (SharesPlace g nonterminal) (places_shared_exactly g nonterminal l) (λ k s. sort_small s.one_first)
          (ltb-true 0 _ e)

      no_sorts : ltb 0 (sorts_shared nonterminal) ≡ false → Never (SharesPlace g nonterminal)
      no_sorts e =
          set_empty (sorts_shared nonterminal) (SharesPlace g nonterminal) (places_shared_exactly g nonterminal l) (λ k s. sort_small s.one_first)
          (ltb-false 0 _ e)

      by : (one other : Bool) → ltb 0 (kinds_shared nonterminal) ≡ one → ltb 0 (sorts_shared nonterminal) ≡ other
          → Names g nonterminal
          (elim one as (λ x. ℕ) [
            | true ↦ count_trailing_zeros 64 (kinds_shared nonterminal)
            | false ↦ elim other as (λ x. ℕ) [ true ↦ variable_kind (count_trailing_zeros 64 (sorts_shared nonterminal)) | false ↦ 64 ]
          ])
      by true other e f = names_kind (some_kinds e)
      by false true e f = names_place (no_kinds e) (some_sorts f)
      by false false e f = names_neither (no_kinds e) (no_sorts f)

  clash_says : Never (LeftRecursive g) → (test : Bool) → ltb clashes 64 ≡ test → Says g (no_clash (openings_of g) g)
  unfolding no_clash
  clash_says none true e =
      let l : clashes < 64 = ltb-true clashes 64 e in
      rw (e, no_clash)
      (inr (record { nonterminal = clashes; kind = _; answer = refl; earlier = none; lowest = lowest_clash l; shared = shared_names clashes l }))
  clash_says none false e = rw (e, no_clash) (none, none_clashing (ltb-false clashes 64 e))

  -- the result says what it means
  pub check_says : Says g (check_firsts g)
  unfolding check_firsts no_left_recursion
  check_says = by (ltb recursive 64) refl
    where
      by : (test : Bool) → ltb recursive 64 ≡ test → Says g (check_firsts g)
      by true e =
          rw (e, check_firsts, no_left_recursion)
          (inl (record { nonterminal = recursive; answer = refl; lowest = lowest_recursive (ltb-true recursive 64 e) }))
      by false e =
          rw (e, check_firsts, no_left_recursion) (clash_says (none_recursive (ltb-false recursive 64 e)) (ltb clashes 64) refl)

  -- ---------------------------------------------------------------- no other result says what it means

  same_12 : {cause given_refusal : Refusal} → Says12 g cause → Says12 g given_refusal → cause ≡ given_refusal
  same_12 x y = cc (x.answer, y.answer, lowest_one x.lowest y.lowest)

  same_13 : {cause given_refusal : Refusal} → Says13 g cause → Says13 g given_refusal → cause ≡ given_refusal
  same_13 x y =
      let n : x.nonterminal ≡ y.nonterminal = lowest_one x.lowest y.lowest in
      let b : x.kind ≡ y.kind = names_one (rw n at x.shared) y.shared in
      cc (x.answer, y.answer)

  says_one : (checked other : Checked (Unit {0})) → Says g checked → Says g other → checked ≡ other
  says_one (ok u) (ok v) h k = refl
  says_one (ok u) (bad s) h (inl k) = absurd (h.0 _ k.lowest.holds)
  says_one (ok u) (bad s) h (inr k) = absurd (h.1 _ k.lowest.holds)
  says_one (bad r) (ok v) (inl h) k = absurd (k.0 _ h.lowest.holds)
  says_one (bad r) (ok v) (inr h) k = absurd (k.1 _ h.lowest.holds)
  says_one (bad r) (bad s) (inl h) (inl k) = ap bad (same_12 h k)
  says_one (bad r) (bad s) (inl h) (inr k) = absurd (k.earlier _ h.lowest.holds)
  says_one (bad r) (bad s) (inr h) (inl k) = absurd (h.earlier _ k.lowest.holds)
  says_one (bad r) (bad s) (inr h) (inr k) = ap bad (same_13 h k)

  -- a result is given exactly if it says what holds
  pub check_exactly : (checked : Checked (Unit {0})) → (check_firsts g ≡ checked) ↔ Says g checked
  check_exactly checked = (λ e. rw e at check_says, λ h. says_one (check_firsts g) checked check_says h)

  -- ---------------------------------------------------------------- refusal by refusal

  -- 12 names the lowest nonterminal that reaches itself
  pub given_12 : (nonterminal : ℕ) → (check_firsts g ≡ bad (refusal 12 nonterminal 0 0)) ↔ Lowest (LeftRecursive g) nonterminal
  given_12 nonterminal = (
    λ e. by ((check_exactly (bad (refusal 12 nonterminal 0 0))).0 e),
    λ h. (check_exactly (bad (refusal 12 nonterminal 0 0))).1 (inl (record { nonterminal = nonterminal; answer = refl; lowest = h })),
  )
    where
      by : Says g (bad (refusal 12 nonterminal 0 0)) → Lowest (LeftRecursive g) nonterminal
      by (inl h) = rw (ap (λ (r : Refusal). r.a) h.answer) h.lowest
      by (inr h) = absurd (omega (arith, ap (λ (r : Refusal). r.number) h.answer))

  -- 13 names the lowest clash, if none reaches itself
  pub given_13 : (nonterminal kind : ℕ) → (check_firsts g ≡ bad (refusal 13 nonterminal kind 0))
      ↔ (Never (LeftRecursive g) × Lowest (Clashes g) nonterminal × Names g nonterminal kind)
  given_13 nonterminal kind = (
    λ e. by ((check_exactly (bad (refusal 13 nonterminal kind 0))).0 e),
    λ h. (check_exactly (bad (refusal 13 nonterminal kind 0))).1
        (inr (record { nonterminal = nonterminal; kind = kind; answer = refl; earlier = h.0; lowest = h.1; shared = h.2 })),
  )
    where
      by : Says g (bad (refusal 13 nonterminal kind 0)) → Never (LeftRecursive g) × Lowest (Clashes g) nonterminal × Names g nonterminal kind
      by (inl h) = absurd (omega (arith, ap (λ (r : Refusal). r.number) h.answer))
      by (inr h) = (
        h.earlier,
        rw (ap (λ (r : Refusal). r.a) h.answer) h.lowest,
        rw (ap (λ (r : Refusal). r.a) h.answer, ap (λ (r : Refusal). r.b) h.answer) h.shared,
      )

  -- 12 is given exactly if one reaches itself
  pub some_12 : ((nonterminal : ℕ) × (check_firsts g ≡ bad (refusal 12 nonterminal 0 0))) ↔ ((nonterminal : ℕ) × LeftRecursive g nonterminal)
  some_12 = (λ e. (e.0, ((given_12 e.0).0 e.1).holds), λ h. by h (check_firsts g) refl check_says)
    where
      by : (number : ℕ) × LeftRecursive g number → (checked : Checked (Unit {0})) → check_firsts g ≡ checked → Says g checked
          → (number : ℕ) × (check_firsts g ≡ bad (refusal 12 number 0 0))
      by h (ok u) e k = absurd (k.0 _ h.1)
      by h (bad r) e (inl k) = (k.nonterminal, e ∙ ap bad k.answer)
      by h (bad r) e (inr k) = absurd (k.earlier _ h.1)

  -- 13 is given exactly if two clash, and none reaches itself
  pub some_13 : ((nonterminal : ℕ) × (kind : ℕ) × (check_firsts g ≡ bad (refusal 13 nonterminal kind 0)))
      ↔ (Never (LeftRecursive g) × ((nonterminal : ℕ) × Clashes g nonterminal))
  some_13 =
      (λ e. let h = (given_13 e.0 e.1).0 e.2 in (h.0, (e.0, h.1.holds)), λ h. by h (check_firsts g) refl check_says)
    where
      by : Never (LeftRecursive g) × ((number : ℕ) × Clashes g number) → (checked : Checked (Unit {0})) → check_firsts g ≡ checked → Says g checked
          → (number : ℕ) × (kind : ℕ) × (check_firsts g ≡ bad (refusal 13 number kind 0))
      by h (ok u) e k = absurd (k.1 _ h.1.1)
      by h (bad r) e (inl k) = absurd (h.0 _ k.lowest.holds)
      by h (bad r) e (inr k) = (k.nonterminal, k.kind, e ∙ ap bad k.answer)
