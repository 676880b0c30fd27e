-- How many comparisons two runs of bytes take, by their first difference (document 02, C-12).
use Prim.Native.Nat.{ℕ, zero, suc, ◌+◌, ◌*◌, ◌/◌, ◌%◌, ◌<◌, ◌≤◌}
use mathlib.Core.Path.{◌≡◌, refl}
use mathlib.Core.Logic.{◌⊎◌, inl, inr}
use mathlib.Core.List.{List, [], ◌∷◌}
use native.Mathlib.Omega.{arith}
use lib.Dec.{eqb}
use lib.ListN.{length, get_or}
use borrow.Author.Tests.{eqb-true, eqb-false}
use Rattle.spellings.specs.Alike.{Bytes, Alike, FirstDifference}
use Rattle.spellings.specs.Compared.{comparisons_of}
use Rattle.spellings.proofs.AlikeLaws.{alike_front, alike_eight}
use Rattle.spellings.proofs.BytesLaws.{by_test}
use Rattle.spellings.proofs.Comparing.{stop_eight, stop_tail}

module _ {left right : List ℕ} {place : ℕ} (first : FirstDifference left right place) where
  -- before the tail, the eight that has the first difference is the last that is compared
  pub differ_in_eight : Bytes left → Bytes right → place < length left / 8 * 8 → comparisons_of left right ≡ place / 8 + 1
  differ_in_eight lefts rights h =
      let from : ℕ = place / 8 * 8 in
      let alike : Alike left right from = alike_front first.before from (omega arith) in
      stop_eight left right first.long (place / 8) (omega arith) alike
      (λ e. first.differs ((alike_eight left right lefts rights alike e).agree place (omega arith)))

  -- in the tail, the first byte that differs is
  pub differ_in_tail : length left / 8 * 8 ≤ place → comparisons_of left right ≡ length left / 8 + place % 8 + 1
  differ_in_tail h =
      let e : place / 8 ≡ length left / 8 = omega (arith, first.within) in
      rw (← e) (stop_tail left right first.long place h first.within first.before first.differs)

-- two runs of one length are equal, or there is a place where they first differ
pub equal_or_differ : (left right : List ℕ) → length left ≡ length right → (left ≡ right) ⊎ ((place : ℕ) × FirstDifference left right place)
equal_or_differ [] [] long = inl refl
equal_or_differ [] (y ∷ ys) long = absurd (omega arith)
equal_or_differ (x ∷ xs) [] long = absurd (omega arith)
equal_or_differ (x ∷ xs) (y ∷ ys) long =
    by_test (eqb x y) (λ t. behind (eqb-true x y t) (equal_or_differ xs ys (omega arith))) (λ t. inr (
      0,
      record { long = long; within = omega arith; before = record { agree = λ j h. absurd (omega arith) }; differs = eqb-false x y t },
    ))
  where
    behind : x ≡ y → (xs ≡ ys) ⊎ ((place : ℕ) × FirstDifference xs ys place)
        → (◌≡◌ {A = List ℕ} (x ∷ xs) (y ∷ ys)) ⊎ ((place : ℕ) × FirstDifference (x ∷ xs) (y ∷ ys) place)
    behind e (inl rest) = inl (cc (e, rest))
    behind e (inr (place, first)) = inr (
      suc place,
      record { long = long; within = omega (arith, first.within); before = record { agree = agrees e first }; differs = first.differs },
    )
      where
        agrees : x ≡ y → FirstDifference xs ys place → (j : ℕ) → j < suc place → get_or (x ∷ xs) j 0 ≡ get_or (y ∷ ys) j 0
        agrees e first zero h = e
        agrees e first (suc j) h = first.before.agree j (omega arith)
