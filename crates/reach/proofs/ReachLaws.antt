-- The nonterminals that are reached are the least set that has the start and all that its members call.
use Prim.Native.Nat.{ℕ, zero, suc, ◌+◌, ◌<◌, ◌≤◌}
use mathlib.Core.Path.{◌≡◌, refl, sym, ap, ◌∙◌, fun_ext}
use mathlib.Core.Bool.{Bool, true, false, ◌&&◌, ◌||◌, false≢true, and-eq-true_iff, or-false}
use mathlib.Core.Logic.{⊎_elim}
use mathlib.Core.List.{List, [], ◌∷◌}
use native.Mathlib.Omega.{arith}
use lib.Bits.{bit_or}
use lib.ListN.{get_or}
use Rattle.kinds.specs.Kinds.{has_kind, only}
use Rattle.kinds.proofs.KindsLaws.{has_none, has_join, has_own}
use Rattle.firsts.specs.FirstSets.{rounds}
use Rattle.firsts.specs.Reach.{union_over, reached_by}
use Rattle.firsts.proofs.Rounds.{Numbers, same_at, Within, Each, or_left, or_right, or_split, settled}
use Rattle.firsts.proofs.FirstSetsExactly.{only_has}

-- ------------------------------------------------------------------ some sets together

-- the same of a set by its test
together : Numbers → ℕ → List ℕ → Numbers
together whose n [] b = false
together whose n (s ∷ ss) b = (whose n && has_kind s b) || together whose (suc n) ss b

union_seen : (whose from : ℕ) (sets : List ℕ) → has_kind (union_over whose from sets) ≡ together (has_kind whose) from sets
unfolding union_over together
union_seen whose from sets = fun_ext (λ b. at b from sets)
  where
    chosen : (b set : ℕ) (test : Bool) → has_kind (elim test as (λ t. ℕ) [ true ↦ set | false ↦ 0 ]) b ≡ (test && has_kind set b)
    chosen b set true = refl
    chosen b set false = has_none b

    at : (b from : ℕ) (sets : List ℕ) → has_kind (union_over whose from sets) b ≡ together (has_kind whose) from sets b
    at b from [] = has_none b
    at b from (s ∷ ss) =
        has_join (elim (has_kind whose from) as (λ t. ℕ) [ true ↦ s | false ↦ 0 ]) (union_over whose (suc from) ss) b
        ∙ rw (chosen b s (has_kind whose from), at b (suc from) ss) refl

-- one of the sets, and that it counts
pub record InOne (whose : Numbers) (from : ℕ) (sets : List ℕ) (b : ℕ) : Type 0 where
  -- which one
  pub index : ℕ
  -- it counts
  pub counts : whose (from + index) ≡ true
  -- it has b
  pub has : has_kind (get_or sets index 0) b ≡ true

one_of : (whose : Numbers) (from : ℕ) (sets : List ℕ) (b : ℕ) → together whose from sets b ≡ true → InOne whose from sets b
unfolding together
one_of whose from [] b e = absurd (false≢true e)
one_of whose from (s ∷ ss) b e =
    ⊎_elim
    (λ here. let t = (and-eq-true_iff (whose from) (has_kind s b)).0 here in let z : from + 0 ≡ from = omega arith in
    record { index = 0; counts = rw z t.0; has = t.1 })
    (λ later. let o = one_of whose (suc from) ss b later in let z : from + suc o.index ≡ suc from + o.index = omega arith in
    record { index = suc o.index; counts = rw z o.counts; has = o.has })
    (or_split (whose from && has_kind s b) e)

of_one : (whose : Numbers) (from : ℕ) (sets : List ℕ) (b index : ℕ) → whose (from + index) ≡ true → has_kind (get_or sets index 0) b ≡ true
    → together whose from sets b ≡ true
unfolding together
of_one whose from [] b index c h = absurd (false≢true (sym (has_none b) ∙ h))
of_one whose from (s ∷ ss) b zero c h = let z : from + 0 ≡ from = omega arith in or_left _ ((and-eq-true_iff _ _).1 (rw z at c, h))
of_one whose from (s ∷ ss) b (suc index) c h =
    let z : from + suc index ≡ suc from + index = omega arith in
    or_right (whose from && has_kind s b) (of_one whose (suc from) ss b index (rw z at c) h)

-- What is in some sets together is in one of them.
pub union_one : (whose : ℕ) (sets : List ℕ) (b : ℕ) → has_kind (union_over whose 0 sets) b ≡ true
    → (n : ℕ) × (has_kind whose n ≡ true) × (has_kind (get_or sets n 0) b ≡ true)
union_one whose sets b e =
    let o = one_of (has_kind whose) 0 sets b (sym (same_at (union_seen whose 0 sets) b) ∙ e) in
    let z : 0 + o.index ≡ o.index = omega arith in
    (o.index, rw z at o.counts, o.has)

-- What is in one of them is in all together.
pub one_union : (whose : ℕ) (sets : List ℕ) (b n : ℕ) → has_kind whose n ≡ true → has_kind (get_or sets n 0) b ≡ true → has_kind (union_over whose 0 sets) b ≡ true
one_union whose sets b n c h =
    let z : 0 + n ≡ n = omega arith in
    same_at (union_seen whose 0 sets) b ∙ of_one (has_kind whose) 0 sets b n (rw z c) h

-- ------------------------------------------------------------------ what is reached

-- no set has a number from 64 on
pub record Small (sets : List ℕ) : Type 0 where
  -- of each set
  pub none_above : (n b : ℕ) → 64 ≤ b → has_kind (get_or sets n 0) b ≡ false

module _ {calls : List ℕ} (small : Small calls) (start : ℕ) where
  abbrev round : Numbers → Numbers
  round s b = s b || together s 0 calls b

  round_seen : (set : ℕ) → has_kind (bit_or set (union_over set 0 calls)) ≡ round (has_kind set)
  round_seen set = fun_ext (λ b. has_join set (union_over set 0 calls) b ∙ rw (union_seen set 0 calls) refl)

  rounds_seen : (times set : ℕ)
      → has_kind (rounds times (λ reached. bit_or reached (union_over reached 0 calls)) set) ≡ rounds times round (has_kind set)
  unfolding rounds
  rounds_seen zero set = refl
  rounds_seen (suc times) set = rounds_seen times (bit_or set (union_over set 0 calls)) ∙ ap (rounds times round) (round_seen set)

  reached_seen : has_kind (reached_by calls start) ≡ rounds 64 round (has_kind (only start))
  unfolding reached_by
  reached_seen = rounds_seen 64 (only start)

  round_adds : (s : Numbers) → Within s (round s)
  round_adds s b e = or_left _ e

  round_high : (s : Numbers) (b : ℕ) → 64 ≤ b → round s b ≡ s b
  round_high s b l = by (together s 0 calls b) refl
    where
      by : (test : Bool) → together s 0 calls b ≡ test → (s b || test) ≡ s b
      by true e = let o = one_of s 0 calls b e in absurd (false≢true (sym (small.none_above o.index b l) ∙ o.has))
      by false e = or-false (s b)

  all_settled : round (has_kind (reached_by calls start)) ≡ has_kind (reached_by calls start)
  all_settled = rw reached_seen (settled round round_adds round_high (has_kind (only start)))

  rounds_add : (times : ℕ) (s : Numbers) → Within s (rounds times round s)
  unfolding rounds
  rounds_add zero s b e = e
  rounds_add (suc times) s b e = rounds_add times (round s) b (round_adds s b e)

  -- The start is reached.
  pub start_in_lem : start < 64 → has_kind (reached_by calls start) start ≡ true
  start_in_lem l = same_at reached_seen start ∙ rounds_add 64 (has_kind (only start)) start (has_own start l)

  -- What is called by what is reached is reached.
  pub calls_in : (n m : ℕ) → has_kind (reached_by calls start) n ≡ true → has_kind (get_or calls n 0) m ≡ true → has_kind (reached_by calls start) m ≡ true
  calls_in n m r c =
      let z : 0 + n ≡ n = omega arith in
      sym (same_at all_settled m)
      ∙ or_right (has_kind (reached_by calls start) m) (of_one (has_kind (reached_by calls start)) 0 calls m n (rw z r) c)

  -- Nothing else is: what holds of the start, and of all that such a one calls, holds of each that is reached.
  module _ (P : ℕ → Type 0) (begins : start < 64 → P start) (keeps : (n m : ℕ) → P n → has_kind (get_or calls n 0) m ≡ true → P m) where
    round_each : (s : Numbers) → Each P s → Each P (round s)
    round_each s hs b e =
        ⊎_elim (hs b)
        (λ a.
        let o = one_of s 0 calls b a in
        let z : 0 + o.index ≡ o.index = omega arith in
        keeps o.index b (hs o.index (rw z at o.counts)) o.has)
        (or_split (s b) e)

    rounds_each : (times : ℕ) (s : Numbers) → Each P s → Each P (rounds times round s)
    unfolding rounds
    rounds_each zero s hs = hs
    rounds_each (suc times) s hs = rounds_each times (round s) (round_each s hs)

    -- so of each that is reached
    pub reached_least : (n : ℕ) → has_kind (reached_by calls start) n ≡ true → P n
    reached_least n e =
        rounds_each 64 (has_kind (only start))
        (λ b h. let k = only_has start b h in rw k.0 (begins (omega (arith, k.0, k.1)))) n (sym (same_at reached_seen n) ∙ e)
