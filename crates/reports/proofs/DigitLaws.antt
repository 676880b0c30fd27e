-- The library's decimal digits of a number are those of document 01's lines.
use Rattle.std.proofs.Common.{◌≡◌, ℕ, zero, suc, ◌+◌, ◌/◌, ◌%◌, ◌^◌, ◌<◌, ◌≤◌, false, List, [], ◌∷◌, arith, refl, lt-ltb, eq-eqb, ne_eqb}
use native.Mathlib.Nat.{pow-suc}
use native.Mathlib.Decide.{dec_lt}
use Rattle.std.specs.Fmt.{digit_glyph, digits, digits_onto, decimal}
use Rattle.spellings.specs.Bytes.{digits_then, decimal as Bytes·decimal}
use Rattle.spellings.proofs.DecimalLaws.{digits_one, digits_more}

glyph_is : (digit : ℕ) → digit < 10 → digit_glyph false digit ≡ 48 + digit
glyph_is digit h = rw (lt-ltb digit 10 h) refl

onto_one : (count number : ℕ) (follow : List ℕ) → number < 10 → digits_onto (suc count) 10 false number follow ≡ (48 + number) ∷ follow
onto_one count number follow h =
    let none : number / 10 ≡ 0 = omega arith in
    let same : number % 10 ≡ number = omega arith in
    rw (eq-eqb (number / 10) 0 none, glyph_is (number % 10) (omega arith), same) refl

onto_more : (count number : ℕ) (follow : List ℕ) → 10 ≤ number
    → digits_onto (suc count) 10 false number follow ≡ digits_onto count 10 false (number / 10) ((48 + number % 10) ∷ follow)
onto_more count number follow h = rw (ne_eqb (number / 10) 0 (λ e. omega arith), glyph_is (number % 10) (omega arith)) refl

-- as many digits as a number may have, in front of what follows
digits_same : (count fuel number : ℕ) (follow : List ℕ) → number < fuel → number < 10 ^ suc count
    → digits_onto (suc count) 10 false number follow ≡ digits_then fuel number follow
digits_same count zero number follow f m = absurd (omega arith)
digits_same zero (suc fuel) number follow f m = cc (onto_one zero number follow m, digits_one fuel number follow m)
digits_same (suc count) (suc fuel) number follow f m =
    by (dec_lt number 10) (λ more. digits_same count fuel (number / 10) ((48 + number % 10) ∷ follow) (omega arith) (omega (arith, pow-suc 10 (suc count))))
  where
    by : Dec (number < 10)
        → (10 ≤ number → digits_onto (suc count) 10 false (number / 10) ((48 + number % 10) ∷ follow) ≡ digits_then fuel (number / 10) ((48 + number % 10) ∷ follow))
        → digits_onto (suc (suc count)) 10 false number follow ≡ digits_then (suc fuel) number follow
    by (yes l) ih = cc (onto_one (suc count) number follow l, digits_one fuel number follow l)
    by (no n) ih =
        let more : 10 ≤ number = omega arith in
        cc (onto_more (suc count) number follow more, digits_more fuel number follow more, ih more)

-- the digits of a number of 64 bits
pub digits_decimal : (number : ℕ) → number < 2 ^ 64 → decimal number ≡ Bytes·decimal number
unfolding digits
digits_decimal number small = digits_same 63 (suc number) number [] (omega arith) (omega arith)
