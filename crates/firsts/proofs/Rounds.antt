-- Sixty-four rounds over the productions of a grammar settle a set of numbers below 64, and what they settle is the least set that
-- the productions keep. Stated once, for a set as its test: the nullables are such a set, and each bit of all first sets is one.
use Prim.Native.Nat.{ℕ, zero, suc, ◌+◌, ◌≤◌, ◌<◌}
use mathlib.Core.Path.{◌≡◌, refl, sym, ap, ◌∙◌, fun_ext}
use mathlib.Core.Bool.{Bool, true, false, ◌&&◌, ◌||◌, false≢true, and-eq-true_iff}
use mathlib.Core.Logic.{◌⊎◌, inl, inr, ⊎_elim}
use mathlib.Core.List.{List, [], ◌∷◌}
use native.Mathlib.Decide.{dec_lt}
use native.Mathlib.Omega.{arith}
use lib.Dec.{eqb, ltb}
use borrow.Author.Tests.{lt-ltb, le-ltb, eq-eqb, eqb-true, ltb-true}
use Rattle.grammar.specs.Table.{Item}
use Rattle.productions.specs.Normal.{Production}
use Rattle.firsts.specs.FirstSets.{rounds, over_all}
use Rattle.decoding.specs.Within.{Among, among_first, among_later}
use Rattle.firsts.specs.Rules.{Of}

-- ------------------------------------------------------------------ tests

-- one side is enough
pub or_left : {first : Bool} (second : Bool) → first ≡ true → (first || second) ≡ true
or_left second e = rw e refl

-- and so is the other
pub or_right : (first : Bool) {second : Bool} → second ≡ true → (first || second) ≡ true
or_right true e = refl
or_right false e = e

-- one of the two it is
pub or_split : (first : Bool) {second : Bool} → (first || second) ≡ true → (first ≡ true) ⊎ (second ≡ true)
or_split true e = inl refl
or_split false e = inr e

-- ------------------------------------------------------------------ a set of numbers by its test

-- numbers that pass a test
abbrev pub Numbers : Type 0
Numbers = ℕ → Bool

-- equal sets have the same numbers
pub same_at : {numbers others : Numbers} → numbers ≡ others → (number : ℕ) → numbers number ≡ others number
same_at e number = ap (λ (s : Numbers). s number) e

-- none
abbrev pub nothing : Numbers
nothing n = false

-- one set in another
abbrev pub Within : Numbers → Numbers → Type 0
Within s t = (n : ℕ) → s n ≡ true → t n ≡ true

-- P holds of each number in the set
abbrev pub Each : (ℕ → Type 0) → Numbers → Type 0
Each P s = (n : ℕ) → s n ≡ true → P n

abbrev counted : Bool → ℕ → ℕ
counted true c = suc c
counted false c = c

-- how many of the numbers below n are in the set
pub count : ℕ → Numbers → ℕ
count zero s = 0
count (suc n) s = counted (s n) (count n s)

counted_le : (test : Bool) {count_below bound : ℕ} → count_below ≤ bound → counted test count_below ≤ suc bound
counted_le true h = omega arith
counted_le false h = omega arith

-- no more than there are
pub count-le : (bound : ℕ) (numbers : Numbers) → count bound numbers ≤ bound
unfolding count
count-le zero numbers = omega arith
count-le (suc bound) numbers = counted_le (numbers bound) (count-le bound numbers)

-- the same numbers below n
abbrev pub Same : ℕ → Numbers → Numbers → Type 0
Same n s t = (k : ℕ) → k < n → t k ≡ s k

same_next : {bound : ℕ} {numbers others : Numbers} → Same bound numbers others → others bound ≡ numbers bound → Same (suc bound) numbers others
same_next {bound} {numbers} {others} same e k h = by (dec_lt k bound)
  where
    by : Dec (k < bound) → others k ≡ numbers k
    by (yes l) = same k l
    by (no l) = let at : k ≡ bound = omega arith in rw at e

-- a set that grows has the same numbers, or more of them
pub grows : (bound : ℕ) {numbers others : Numbers} → Within numbers others → (Same bound numbers others × (count bound numbers ≡ count bound others))
    ⊎ (count bound numbers < count bound others)
unfolding count
grows zero h = inl ((λ k l. absurd (omega arith)), refl)
grows (suc bound) {numbers} {others} h = by (numbers bound) (others bound) refl refl (h bound) (grows bound h)
  where
    by : (first second : Bool) → numbers bound ≡ first → others bound ≡ second → (numbers bound ≡ true → others bound ≡ true)
        → (Same bound numbers others × (count bound numbers ≡ count bound others)) ⊎ (count bound numbers < count bound others)
        → (Same (suc bound) numbers others × (counted first (count bound numbers) ≡ counted second (count bound others)))
        ⊎ (counted first (count bound numbers) < counted second (count bound others))
    by true true es et i (inl m) = inl (same_next m.0 (et ∙ sym es), ap suc m.1)
    by true true es et i (inr m) = inr (omega arith)
    by false true es et i (inl m) = inr (omega (arith, m.1))
    by false true es et i (inr m) = inr (omega arith)
    by true false es et i m = absurd (false≢true (sym et ∙ i es))
    by false false es et i (inl m) = inl (same_next m.0 (et ∙ sym es), m.1)
    by false false es et i (inr m) = inr m

-- ------------------------------------------------------------------ rounds that settle

-- where a round changes nothing, no further one does
pub rounds_fixed : {A : Type 0} (times : ℕ) (round : A → A) (item : A) → round item ≡ item → rounds times round item ≡ item
unfolding rounds
rounds_fixed zero round item e = refl
rounds_fixed (suc times) round item e = ap (rounds times round) e ∙ rounds_fixed times round item e

-- a round that only adds, and only numbers below 64
module _ (round : Numbers → Numbers) (adds : (numbers : Numbers) → Within numbers (round numbers))
    (high : (numbers : Numbers) (number : ℕ) → 64 ≤ number → round numbers number ≡ numbers number) where
  round_grows : (numbers : Numbers) → (round numbers ≡ numbers) ⊎ (count 64 numbers < count 64 (round numbers))
  round_grows numbers = ⊎_elim (λ m. inl (fun_ext (λ n. by n m.0 (dec_lt n 64)))) (λ l. inr l) (grows 64 (adds numbers))
    where
      by : (number : ℕ) → Same 64 numbers (round numbers) → Dec (number < 64) → round numbers number ≡ numbers number
      by number same (yes l) = same number l
      by number same (no l) = high numbers number (omega arith)

  -- after `times` rounds nothing changes, or `times` numbers have come in
  settling : (times count_so_far : ℕ) (numbers : Numbers) → count_so_far ≤ count 64 numbers → (round (rounds times round numbers) ≡ rounds times round numbers)
      ⊎ (times + count_so_far ≤ count 64 (rounds times round numbers))
  unfolding rounds
  settling zero count_so_far numbers h = inr (omega arith)
  settling (suc times) count_so_far numbers h =
      ⊎_elim (λ e. inl (rw (rounds_fixed (suc times) round numbers e) e))
      (λ l. ⊎_elim (λ e. inl e) (λ m. inr (omega arith)) (settling times (suc count_so_far) (round numbers) (omega arith))) (round_grows numbers)

  -- so 64 rounds settle it
  pub settled : (numbers : Numbers) → round (rounds 64 round numbers) ≡ rounds 64 round numbers
  settled numbers =
      ⊎_elim (λ e. e)
      (λ m. ⊎_elim (λ e. e) (λ l. absurd (omega (arith, count-le 64 (round (rounds 64 round numbers))))) (round_grows (rounds 64 round numbers)))
      (settling 64 0 numbers (omega arith))

-- ------------------------------------------------------------------ the least set that the productions keep

-- the nonterminal of a production comes in if the items pass with what is in
abbrev pub admit : (Numbers → List Item → Bool) → Production → Numbers → Numbers
admit passes p s n = s n || (passes s p.items && (ltb n 64 && eqb n p.nonterminal))

-- from nothing, 64 rounds
pub least : (Numbers → List Item → Bool) → List Production → Numbers
least passes g = rounds 64 (over_all (admit passes) g) nothing

module _ (passes : Numbers → List Item → Bool) (g : List Production) (P : ℕ → Type 0)
    (keeps : (numbers : Numbers) → Each P numbers → (number : ℕ) (p : Production) → Of g number p → passes numbers p.items ≡ true → P number) where
  step_within : (numbers : Numbers) → Each P numbers → (p : Production) → Among g p → Each P (admit passes p numbers)
  step_within numbers hs p member n e = ⊎_elim (hs n) (λ a. came ((and-eq-true_iff _ _).0 a)) (or_split (numbers n) e)
    where
      came : (passes numbers p.items ≡ true) × ((ltb n 64 && eqb n p.nonterminal) ≡ true) → P n
      came a =
          let t = (and-eq-true_iff _ _).0 a.1 in
          keeps numbers hs n p (record { member = member; owned = sym (eqb-true n p.nonterminal t.1); small = ltb-true n 64 t.0 }) a.0

  -- and of each number after a round
  pub over_within : (part : List Production) → ((p : Production) → Among part p → Among g p) → (numbers : Numbers) → Each P numbers
      → Each P (over_all (admit passes) part numbers)
  unfolding over_all
  over_within [] i numbers hs = hs
  over_within (p ∷ part) i numbers hs = over_within part (λ q m. i q (among_later m)) (admit passes p numbers) (step_within numbers hs p (i p among_first))

  rounds_within : (times : ℕ) (numbers : Numbers) → Each P numbers → Each P (rounds times (over_all (admit passes) g) numbers)
  unfolding rounds
  rounds_within zero numbers hs = hs
  rounds_within (suc times) numbers hs = rounds_within times (over_all (admit passes) g numbers) (over_within g (λ q m. m) numbers hs)

  -- what the productions keep holds of each number in it
  pub least_within : Each P (least passes g)
  unfolding least
  least_within = rounds_within 64 nothing (λ n e. absurd (false≢true e))

module _ (passes : Numbers → List Item → Bool)
    (more : (numbers others : Numbers) → Within numbers others → (is : List Item) → passes numbers is ≡ true → passes others is ≡ true) where
  step_adds : (p : Production) (numbers : Numbers) → Within numbers (admit passes p numbers)
  step_adds p numbers n e = or_left _ e

  over_adds : (g : List Production) (numbers : Numbers) → Within numbers (over_all (admit passes) g numbers)
  unfolding over_all
  over_adds [] numbers n e = e
  over_adds (p ∷ g) numbers n e = over_adds g (admit passes p numbers) n (step_adds p numbers n e)

  step-high : (p : Production) (numbers : Numbers) (nonterminal : ℕ) → 64 ≤ nonterminal → admit passes p numbers nonterminal ≡ numbers nonterminal
  step-high p numbers nonterminal h = rw (le-ltb nonterminal 64 h) (by (numbers nonterminal) (passes numbers p.items))
    where
      by : (first second : Bool) → (first || (second && false)) ≡ first
      by true second = refl
      by false true = refl
      by false false = refl

  over_high : (g : List Production) (numbers : Numbers) (nonterminal : ℕ) → 64 ≤ nonterminal
      → over_all (admit passes) g numbers nonterminal ≡ numbers nonterminal
  unfolding over_all
  over_high [] numbers nonterminal h = refl
  over_high (p ∷ g) numbers nonterminal h = over_high g (admit passes p numbers) nonterminal h ∙ step-high p numbers nonterminal h

  -- in a round each production has its turn, with all that was in before
  over_admits : {g : List Production} {p : Production} → Among g p → (numbers : Numbers) → passes numbers p.items ≡ true → p.nonterminal < 64
      → over_all (admit passes) g numbers p.nonterminal ≡ true
  unfolding over_all
  over_admits (among_first {x = p} {xs = g}) numbers e l =
      over_adds g (admit passes p numbers) p.nonterminal
      (or_right (numbers p.nonterminal) (rw (e, lt-ltb p.nonterminal 64 l, eq-eqb p.nonterminal p.nonterminal refl) refl))
  over_admits (among_later {x = p} {y = q} m) numbers e l =
      over_admits m (admit passes q numbers) (more numbers (admit passes q numbers) (step_adds q numbers) p.items e) l

  -- one more round changes nothing
  pub least_settled : (g : List Production) → over_all (admit passes) g (least passes g) ≡ least passes g
  unfolding least
  least_settled g = settled (over_all (admit passes) g) (over_adds g) (over_high g) nothing

  -- a production whose items pass with what is in has its nonterminal in
  pub least_closed : (g : List Production) {nonterminal : ℕ} {p : Production} → Of g nonterminal p → passes (least passes g) p.items ≡ true
      → least passes g nonterminal ≡ true
  least_closed g {nonterminal} {p} o e =
      sym (same_at (least_settled g) nonterminal)
      ∙ (rw (← o.owned) (over_admits o.member (least passes g) e (rw o.owned o.small)))

  -- one round admits what passes where nothing is in
  pub round_admits : {g : List Production} {nonterminal : ℕ} {p : Production} → Of g nonterminal p → passes nothing p.items ≡ true
      → over_all (admit passes) g nothing nonterminal ≡ true
  round_admits o e = rw (← o.owned) (over_admits o.member nothing e (rw o.owned o.small))

  -- and nothing that is not in the least set
  pub round_within : (g : List Production) → Within (over_all (admit passes) g nothing) (least passes g)
  round_within g =
      over_within passes g (λ n. least passes g n ≡ true) (λ s hs n p o e. least_closed g o (more s (least passes g) hs p.items e))
      g (λ q m. m) nothing (λ n e. absurd (false≢true e))

-- ------------------------------------------------------------------ rounds on another state, seen as sets

module _ {A : Type 0} (Good : A → Type 0) (view : A → Numbers) (passes : Numbers → List Item → Bool) (step : Production → A → A)
    (stays : (p : Production) (item : A) → Good item → Good (step p item))
    (seen : (p : Production) (item : A) → Good item → view (step p item) ≡ admit passes p (view item)) where
  over_stays : (g : List Production) (item : A) → Good item → Good (over_all step g item)
  unfolding over_all
  over_stays [] item h = h
  over_stays (p ∷ g) item h = over_stays g (step p item) (stays p item h)

  -- a round on the state is one on the set
  pub over_seen : (g : List Production) (item : A) → Good item → view (over_all step g item) ≡ over_all (admit passes) g (view item)
  unfolding over_all
  over_seen [] item h = refl
  over_seen (p ∷ g) item h = over_seen g (step p item) (stays p item h) ∙ ap (over_all (admit passes) g) (seen p item h)

  rounds_seen : (times : ℕ) (g : List Production) (item : A) → Good item
      → view (rounds times (over_all step g) item) ≡ rounds times (over_all (admit passes) g) (view item)
  unfolding rounds
  rounds_seen zero g item h = refl
  rounds_seen (suc times) g item h =
      rounds_seen times g (over_all step g item) (over_stays g item h) ∙ ap (rounds times (over_all (admit passes) g)) (over_seen g item h)

  -- and so the rounds on the state give the least set
  pub least_seen : (g : List Production) (item : A) → Good item → view item ≡ nothing → view (rounds 64 (over_all step g) item) ≡ least passes g
  unfolding least
  least_seen g item h e = rounds_seen 64 g item h ∙ ap (rounds 64 (over_all (admit passes) g)) e
