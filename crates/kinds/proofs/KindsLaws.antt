-- Which kinds are in a set: of `bit_or`, `bit_and`, the empty set and the set of one kind, and what `ones` and `count_trailing_zeros` say of kinds.
-- Every law is by recursion on a kind or a width: kind 0 is the lowest binary digit, and the other kinds are those of the half.
use Prim.Native.Nat.{ℕ, zero, suc, ◌+◌, ◌/◌, ◌%◌, ◌^◌, ◌<◌, ◌≤◌}
use mathlib.Core.Path.{◌≡◌, refl, sym, ap, ◌∙◌}
use mathlib.Core.Bool.{true, false, ◌&&◌, ◌||◌, false≢true, true≢false, and-false}
use mathlib.Core.Logic.{◌⊎◌, inl, inr, ⊎_elim}
use native.Mathlib.Nat.{div-one, div-div-eq-div-mul, pow-succ', zero-div, mul-div_cancel, mul-mod_left, pow-suc, mod-eq_of_lt, mod-lt, mod-one, div-eq_of_lt}
use native.Mathlib.Decide.{dec_lt, ℕ_discrete}
use native.Mathlib.Omega.{arith}
use lib.Bits.{bit_and, bit_or, and_shr, or_shr, and_mod, or_mod}
use lib.Count.{ones, ones_cat, count_trailing_zeros}
use lib.Dec.{eqb, ltb, eqb-zero-suc, eqb-suc-zero, eqb-suc-suc, lit<}
use lib.Pow.{pow_pos, pow-lt, pow_mono, mod-pow-add}
use borrow.Author.Tests.{lt-ltb, le-ltb, eq-eqb, ne_eqb}
use Rattle.kinds.specs.Kinds.{has_kind, only}
use Rattle.kinds.specs.Counts.{count_below}

-- a number's lowest binary digit
digit : (number : ℕ) → (number % 2 ≡ 0) ⊎ (number % 2 ≡ 1)
digit number = by (number % 2) (omega arith)
  where
    by : (remainder : ℕ) → remainder < 2 → (remainder ≡ 0) ⊎ (remainder ≡ 1)
    by zero h = inl refl
    by (suc zero) h = inr refl
    by (suc (suc remainder)) h = absurd (omega arith)

-- ------------------------------------------------------------------ digit by digit

has_zero : (set : ℕ) → has_kind set 0 ≡ eqb (set % 2) 1
unfolding has_kind
has_zero set = rw (div-one set) refl

has_suc : (set kind : ℕ) → has_kind set (suc kind) ≡ has_kind (set / 2) kind
unfolding has_kind
has_suc set kind = cc (pow-succ' 2 kind, div-div-eq-div-mul set 2 (2 ^ kind))

-- ------------------------------------------------------------------ the empty set, one kind, join and meet

-- the empty set has no kind
pub has_none : (kind : ℕ) → has_kind 0 kind ≡ false
unfolding has_kind
has_none kind = rw (zero-div (2 ^ kind)) refl

-- a kind is in a union if it is in one of the two sets
pub has_join : (set other kind : ℕ) → has_kind (bit_or set other) kind ≡ (has_kind set kind || has_kind other kind)
unfolding has_kind
has_join set other kind =
    cc (
      or_shr set other kind,
      or_mod (set / 2 ^ kind) (other / 2 ^ kind) 1,
      by (set / 2 ^ kind % 2) (other / 2 ^ kind % 2) (digit (set / 2 ^ kind))
          (digit (other / 2 ^ kind)),
    )
  where
    by : (bit second : ℕ) → (bit ≡ 0) ⊎ (bit ≡ 1) → (second ≡ 0) ⊎ (second ≡ 1) → eqb (bit_or bit second) 1 ≡ (eqb bit 1 || eqb second 1)
    by bit second (inl e) (inl f) = rw (e, f) refl
    by bit second (inl e) (inr f) = rw (e, f) refl
    by bit second (inr e) (inl f) = rw (e, f) refl
    by bit second (inr e) (inr f) = rw (e, f) refl

-- a kind is in an intersection if it is in both sets
pub has_meet : (set other kind : ℕ) → has_kind (bit_and set other) kind ≡ (has_kind set kind && has_kind other kind)
unfolding has_kind
has_meet set other kind =
    cc (
      and_shr set other kind,
      and_mod (set / 2 ^ kind) (other / 2 ^ kind) 1,
      by (set / 2 ^ kind % 2) (other / 2 ^ kind % 2) (digit (set / 2 ^ kind))
          (digit (other / 2 ^ kind)),
    )
  where
    by : (bit second : ℕ) → (bit ≡ 0) ⊎ (bit ≡ 1) → (second ≡ 0) ⊎ (second ≡ 1) → eqb (bit_and bit second) 1 ≡ (eqb bit 1 && eqb second 1)
    by bit second (inl e) t = rw e refl
    by bit second (inr e) (inl f) = rw (e, f) refl
    by bit second (inr e) (inr f) = rw (e, f) refl

has_power : (member kind : ℕ) → has_kind (2 ^ member) kind ≡ eqb kind member
has_power zero zero = has_zero 1
has_power zero (suc kind) = has_suc 1 kind ∙ has_none kind ∙ sym (eqb-suc-zero kind)
has_power (suc member) zero =
    cc (has_zero (2 ^ suc member), pow-suc 2 member, mul-mod_left (2 ^ member) 2, eqb-zero-suc member)
has_power (suc member) (suc kind) =
    rw (has_suc (2 ^ suc member) kind, pow-suc 2 member, mul-div_cancel (2 ^ member) (lit< tt), has_power member kind, ← eqb-suc-suc kind member) refl

-- the set of one kind is its power of two
pub only_kind : (kind : ℕ) → kind < 64 → only kind ≡ 2 ^ kind
unfolding only
only_kind kind h = rw (lt-ltb kind 64 h, only) refl

-- what is no kind makes the empty set
pub only_none : (kind : ℕ) → 64 ≤ kind → only kind ≡ 0
unfolding only
only_none kind h = rw (le-ltb kind 64 h, only) refl

-- the set of a kind has that kind and no other
pub has_only : (member kind : ℕ) → has_kind (only member) kind ≡ (ltb kind 64 && eqb kind member)
has_only member kind = by (dec_lt member 64) (ℕ_discrete kind member)
  where
    by : Dec (member < 64) → Dec (kind ≡ member) → has_kind (only member) kind ≡ (ltb kind 64 && eqb kind member)
    by (yes h) (yes e) = rw (only_kind member h, lt-ltb kind 64 (omega arith)) (has_power member kind)
    by (yes h) (no n) = rw (only_kind member h, ne_eqb kind member n) (has_power member kind ∙ ne_eqb kind member n ∙ sym (and-false (ltb kind 64)))
    by (no g) (yes e) = rw (only_none member (omega arith), le-ltb kind 64 (omega arith)) (has_none kind)
    by (no g) (no n) = rw (only_none member (omega arith), ne_eqb kind member n) (has_none kind ∙ sym (and-false (ltb kind 64)))

-- the set of a kind has it
pub has_own : (kind : ℕ) → kind < 64 → has_kind (only kind) kind ≡ true
has_own kind h = has_only kind kind ∙ rw (lt-ltb kind 64 h, eq-eqb kind kind refl) refl

-- ------------------------------------------------------------------ bounds

-- the set of a kind is a 64-bit number
pub only_bound : (kind : ℕ) → only kind < 2 ^ 64
only_bound kind = by (dec_lt kind 64)
  where
    by : Dec (kind < 64) → only kind < 2 ^ 64
    by (yes h) = rw (only_kind kind h) (pow-lt h)
    by (no g) = rw (only_none kind (omega arith)) (lit< tt)

-- a set of kinds below `width` has no other
pub has_above : (width set kind : ℕ) → set < 2 ^ width → width ≤ kind → has_kind set kind ≡ false
unfolding has_kind
has_above width set kind h l = rw (div-eq_of_lt {n = set} {m = 2 ^ kind} (omega (arith, pow_mono l))) refl

-- ------------------------------------------------------------------ the lowest kind

half_bound : (width set : ℕ) → set < 2 ^ suc width → set / 2 < 2 ^ width
half_bound width set h = omega (arith, pow-suc 2 width)

trailing_odd : (width set : ℕ) → set % 2 ≡ 1 → count_trailing_zeros (suc width) set ≡ 0
unfolding count_trailing_zeros
trailing_odd width set e = rw (e, count_trailing_zeros) refl

trailing_even : (width set : ℕ) → set % 2 ≡ 0 → count_trailing_zeros (suc width) set ≡ suc (count_trailing_zeros width (set / 2))
unfolding count_trailing_zeros
trailing_even width set e = rw (e, count_trailing_zeros) refl

-- a set that is not empty has a lowest kind
pub lowest_bound : (width set : ℕ) → set < 2 ^ width → (set ≡ 0 → ⊥) → count_trailing_zeros width set < width
lowest_bound zero set h n = absurd (n (omega arith))
lowest_bound (suc width) set h n =
    ⊎_elim (λ e. rw (trailing_even width set e) (omega (arith, lowest_bound width (set / 2) (half_bound width set h) (λ f. n (omega arith)))))
    (λ e. rw (trailing_odd width set e) (omega arith)) (digit set)

-- it is in the set
pub lowest_has : (width set : ℕ) → count_trailing_zeros width set < width → has_kind set (count_trailing_zeros width set) ≡ true
lowest_has zero set h = absurd (omega arith)
lowest_has (suc width) set h =
    ⊎_elim
    (λ e. rw (trailing_even width set e) (has_suc set (count_trailing_zeros width (set / 2)) ∙ lowest_has width (set / 2) (omega (arith, trailing_even width set e))))
    (λ e. rw (trailing_odd width set e) (has_zero set ∙ eq-eqb (set % 2) 1 e)) (digit set)

-- and no lower kind is
pub lowest_first : (width set kind : ℕ) → kind < count_trailing_zeros width set → has_kind set kind ≡ false
unfolding count_trailing_zeros
lowest_first zero set kind h = absurd (omega arith)
lowest_first (suc width) set zero h =
    ⊎_elim (λ e. has_zero set ∙ ne_eqb (set % 2) 1 (omega arith)) (λ e. absurd (omega (arith, trailing_odd width set e))) (digit set)
lowest_first (suc width) set (suc kind) h =
    ⊎_elim (λ e. has_suc set kind ∙ lowest_first width (set / 2) kind (omega (arith, trailing_even width set e)))
    (λ e. absurd (omega (arith, trailing_odd width set e))) (digit set)

-- ------------------------------------------------------------------ sets with the same kinds

same_digit : (bit other : ℕ) → bit < 2 → other < 2 → eqb bit 1 ≡ eqb other 1 → bit ≡ other
same_digit zero zero h l e = refl
same_digit zero (suc zero) h l e = absurd (false≢true e)
same_digit (suc zero) zero h l e = absurd (true≢false e)
same_digit (suc zero) (suc zero) h l e = refl
same_digit zero (suc (suc other)) h l e = absurd (omega arith)
same_digit (suc zero) (suc (suc other)) h l e = absurd (omega arith)
same_digit (suc (suc bit)) other h l e = absurd (omega arith)

-- two sets of kinds below `width` with the same kinds are one
pub same_kinds : (width set other : ℕ) → set < 2 ^ width → other < 2 ^ width → ((kind : ℕ) → kind < width → has_kind set kind ≡ has_kind other kind) → set ≡ other
same_kinds zero set other ha hb s = omega arith
same_kinds (suc width) set other ha hb s =
    let f : set / 2 ≡ other / 2 = same_kinds width (set / 2) (other / 2) (half_bound width set ha) (half_bound width other hb)
    (λ k l. sym (has_suc set k) ∙ s (suc k) (omega arith) ∙ has_suc other k) in
    let g : set % 2 ≡ other % 2 = same_digit (set % 2) (other % 2) (omega arith) (omega arith) (sym (has_zero set) ∙ s 0 (omega arith) ∙ has_zero other) in
    omega arith

-- ------------------------------------------------------------------ the count of kinds

count_taken : (bound set : ℕ) → has_kind set bound ≡ true → count_below (suc bound) set ≡ suc (count_below bound set)
unfolding count_below
count_taken bound set e = rw (e, count_below) refl

count_left : (bound set : ℕ) → has_kind set bound ≡ false → count_below (suc bound) set ≡ count_below bound set
unfolding count_below
count_left bound set e = rw (e, count_below) refl

-- the digits of `set` below `bound`, the highest apart
ones_below : (bound set : ℕ) → ones (set % 2 ^ suc bound) ≡ ones (set / 2 ^ bound % 2) + ones (set % 2 ^ bound)
ones_below bound set =
    let e : suc bound ≡ 1 + bound = omega arith in
    cc (mod-pow-add set 1 bound, ones_cat bound (set / 2 ^ bound % 2) (set % 2 ^ bound) (mod-lt set (pow_pos bound)))

count_ones : (bound set : ℕ) → count_below bound set ≡ ones (set % 2 ^ bound)
unfolding ones has_kind count_below
count_ones zero set = ap ones (sym (mod-one set))
count_ones (suc bound) set =
    ⊎_elim (λ e. count_left bound set (cc) ∙ omega (arith, count_ones bound set, ones_below bound set, ap ones e))
    (λ e. count_taken bound set (cc) ∙ omega (arith, count_ones bound set, ones_below bound set, ap ones e)) (digit (set / 2 ^ bound))

-- `ones` counts the kinds
pub ones_count : (set : ℕ) → set < 2 ^ 64 → ones set ≡ count_below 64 set
ones_count set h = sym (count_ones 64 set ∙ ap ones (mod-eq_of_lt h))
