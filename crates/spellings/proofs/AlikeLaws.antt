-- Lists that agree up to a place, and bytes that agree where eight of them are one number.
use Prim.Native.Nat.{ℕ, ◌+◌, ◌*◌, ◌/◌, ◌%◌, ◌<◌, ◌≤◌}
use mathlib.Core.Path.{◌≡◌, sym, ap, ◌∙◌}
use mathlib.Core.Bool.{true, false}
use mathlib.Core.List.{List}
use native.Mathlib.Nat.{add-mul-mod_self_right, add-mul-div_right, mod-eq_of_lt, div-eq_of_lt}
use native.Mathlib.Omega.{arith}
use lib.Dec.{eqb}
use lib.ListN.{length, get_or}
use lib.Seq.{ext_get_or}
use borrow.Author.Tests.{eqb-true, eqb-false}
use Rattle.spellings.specs.Bytes.{same}
use Rattle.spellings.specs.Alike.{Bytes, Alike}
use Rattle.spellings.specs.Eights.{two_at, four_at, eight_at}
use Rattle.spellings.proofs.BytesLaws.{by_test, differ_same, equal_same}

-- ------------------------------------------------------------------ members that agree

-- none is compared yet
pub alike_start : (left right : List ℕ) → Alike left right 0
alike_start left right = record { agree = λ place h. absurd (omega arith) }

module _ {left right : List ℕ} {count : ℕ} (alike : Alike left right count) where
  -- where more agree, so do fewer
  pub alike_front : (fewer : ℕ) → fewer ≤ count → Alike left right fewer
  alike_front fewer h = record { agree = λ place k. alike.agree place (omega arith) }

  -- one more agrees
  pub alike_next : get_or left count 0 ≡ get_or right count 0 → Alike left right (count + 1)
  alike_next e =
      record {
        agree = λ place h. by_test (eqb place count) (λ t. rw (eqb-true place count t) e) (λ t. alike.agree place (omega (arith, eqb-false place count t)));
      }

  -- where none is left, the lists are equal
  pub alike_end : length left ≡ length right → length left ≤ count → left ≡ right
  alike_end long h = ext_get_or 0 left right long (λ place k. alike.agree place (omega arith))

  -- and found equal
  pub alike_same : length left ≡ length right → length left ≤ count → true ≡ same left right
  alike_same long h = sym (equal_same left right (alike_end long h))

-- a member that differs tells two lists apart
pub differ_at : (left right : List ℕ) (place : ℕ) → (get_or left place 0 ≡ get_or right place 0 → ⊥) → false ≡ same left right
differ_at left right place d = sym (differ_same left right (λ e. d (ap (λ s. get_or s place 0) e)))

-- ------------------------------------------------------------------ bytes and eights

-- the parts of a number below a base and from it on are told from the number
split : {base low high low' high' : ℕ} → low < base → low' < base → low + high * base ≡ low' + high' * base → (low ≡ low') × (high ≡ high')
split {base} {low} {high} {low'} {high'} l l' e = (
  sym (lower low high l) ∙ ap (λ n. n % base) e ∙ lower low' high' l',
  sym (upper low high l) ∙ ap (λ n. n / base) e ∙ upper low' high' l',
)
  where
    lower : (a b : ℕ) → a < base → (a + b * base) % base ≡ a
    lower a b h = add-mul-mod_self_right a b base ∙ mod-eq_of_lt h

    upper : (a b : ℕ) → a < base → (a + b * base) / base ≡ b
    upper a b h = add-mul-div_right a b (omega arith) ∙ ap (λ n. n + b) (div-eq_of_lt h) ∙ omega arith

module _ {left right : List ℕ} {count : ℕ} (alike : Alike left right count) where
  two_alike : (from : ℕ) → from + 2 ≤ count → two_at left from ≡ two_at right from
  two_alike from h = cc (alike.agree from (omega arith), alike.agree (from + 1) (omega arith))

  four_alike : (from : ℕ) → from + 4 ≤ count → four_at left from ≡ four_at right from
  four_alike from h = cc (two_alike from (omega arith), two_alike (from + 2) (omega arith))

  -- eight bytes that agree are one number in both
  pub eight_alike : (from : ℕ) → from + 8 ≤ count → eight_at left from ≡ eight_at right from
  eight_alike from h = cc (four_alike from (omega arith), four_alike (from + 4) (omega arith))

two_below : (s : List ℕ) → Bytes s → (from : ℕ) → two_at s from < 65536
two_below s bytes from = omega (arith, bytes from, bytes (from + 1))

four_below : (s : List ℕ) → Bytes s → (from : ℕ) → four_at s from < 4294967296
four_below s bytes from = omega (arith, two_below s bytes from, two_below s bytes (from + 2))

module _ (left right : List ℕ) (lefts : Bytes left) (rights : Bytes right) where
  alike_two : {count : ℕ} → Alike left right count → two_at left count ≡ two_at right count → Alike left right (count + 2)
  alike_two {count} alike e =
      let parts = split (lefts count) (rights count) e in
      alike_front (alike_next (alike_next alike parts.0) parts.1) (count + 2) (omega arith)

  alike_four : {count : ℕ} → Alike left right count → four_at left count ≡ four_at right count → Alike left right (count + 4)
  alike_four {count} alike e =
      let parts = split (two_below left lefts count) (two_below right rights count) e in
      alike_front (alike_two (alike_two alike parts.0) parts.1) (count + 4) (omega arith)

  -- eight bytes that are one number in both agree
  pub alike_eight : {count : ℕ} → Alike left right count → eight_at left count ≡ eight_at right count → Alike left right (count + 8)
  alike_eight {count} alike e =
      let parts = split (four_below left lefts count) (four_below right rights count) e in
      alike_front (alike_four (alike_four alike parts.0) parts.1) (count + 8) (omega arith)
