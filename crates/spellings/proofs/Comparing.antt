-- Two runs of bytes compared: which piece a byte stands in, how many comparisons there are up to a piece that differs, and what the loops that
-- compare make of it.
use Prim.Native.Nat.{ℕ, zero, suc, ◌+◌, ◌-◌, ◌*◌, ◌/◌, ◌%◌, ◌<◌, ◌≤◌}
use mathlib.Core.Path.{◌≡◌, refl, sym, ap, ◌∙◌}
use mathlib.Core.Bool.{Bool, true, false}
use mathlib.Core.List.{List, [], ◌∷◌}
use native.Mathlib.Omega.{arith}
use lib.Dec.{ltb}
use lib.ListN.{length, get_or, length-drop}
use lib.Seq.{get_or-drop}
use borrow.Author.Tests.{eq-eqb, ne_eqb, ltb-true, ltb-false}
use Rattle.spellings.specs.Alike.{Bytes, Alike, FirstDifference}
use Rattle.spellings.specs.Tails.{TailLeft}
use Rattle.spellings.specs.Eights.{eight_at}
use Rattle.spellings.specs.Compared.{pieces_from, pieces, comparisons, comparisons_of, compared}
use Rattle.spellings.specs.declared.Comparison.{Comparison}
use Rattle.spellings.proofs.BytesLaws.{by_test, differ_same, length_same}
use Rattle.spellings.proofs.AlikeLaws.{alike_start, alike_next, alike_end, alike_same, differ_at, eight_alike, alike_eight}

-- ------------------------------------------------------------------ how many comparisons

-- a member that differs, behind so many that agree, is the last that is compared
stops_at : (left right : List ℕ) (place : ℕ) → FirstDifference left right place → comparisons left right ≡ place + 1
unfolding comparisons
stops_at [] right place d = absurd (omega (arith, d.within))
stops_at (x ∷ xs) [] place d = absurd (omega (arith, d.long))
stops_at (x ∷ xs) (y ∷ ys) zero d = rw (ne_eqb x y d.differs, comparisons) refl
stops_at (x ∷ xs) (y ∷ ys) (suc place) d =
    let rest : FirstDifference xs ys place = record {
      long = omega (arith, d.long);
      within = omega (arith, d.within);
      before = record { agree = λ j h. d.before.agree (suc j) (omega arith) };
      differs = d.differs;
    } in
    rw (eq-eqb x y (d.before.agree 0 (omega arith)), comparisons) (omega (arith, stops_at xs ys place rest))

-- where all agree, each is compared
all_compared : (bytes : List ℕ) → comparisons bytes bytes ≡ length bytes
unfolding comparisons
all_compared [] = refl
all_compared (x ∷ xs) = rw (eq-eqb x x refl, comparisons) (ap suc (all_compared xs))

-- ------------------------------------------------------------------ pieces

-- an eight is one piece, and so is each byte behind the eights
pieces_length : (eights : ℕ) (s : List ℕ) (from : ℕ) → from + eights * 8 ≤ length s
    → length (pieces_from eights s from) ≡ eights + (length s - (from + eights * 8))
unfolding pieces_from
pieces_length zero s from h = omega (arith, length-drop from s)
pieces_length (suc eights) s from h = omega (arith, pieces_length eights s (from + 8) (omega arith))

-- a piece among the eights
eight_piece : (eights : ℕ) (s : List ℕ) (from place : ℕ) → place < eights → get_or (pieces_from eights s from) place 0 ≡ eight_at s (from + place * 8)
unfolding pieces_from
eight_piece zero s from place h = absurd (omega arith)
eight_piece (suc eights) s from zero h = ap (eight_at s) (omega arith)
eight_piece (suc eights) s from (suc place) h = eight_piece eights s (from + 8) place (omega arith) ∙ ap (eight_at s) (omega arith)

-- a piece of the tail
tail_piece : (eights : ℕ) (s : List ℕ) (from place : ℕ) → eights ≤ place
    → get_or (pieces_from eights s from) place 0 ≡ get_or s (from + eights * 8 + (place - eights)) 0
unfolding pieces_from
tail_piece zero s from place h = get_or-drop from s place 0 ∙ ap (λ j. get_or s j 0) (omega arith)
tail_piece (suc eights) s from zero h = absurd (omega arith)
tail_piece (suc eights) s from (suc place) h = tail_piece eights s (from + 8) place (omega arith) ∙ ap (λ j. get_or s j 0) (omega arith)

-- ------------------------------------------------------------------ how many comparisons two runs take

-- runs of different lengths take none
pub none_compared : (left right : List ℕ) → (length left ≡ length right → ⊥) → comparisons_of left right ≡ 0
unfolding comparisons_of
none_compared left right d = rw (ne_eqb _ _ d, comparisons_of) refl

-- equal runs take one for each eight and one for each byte of the tail
pub whole_compared : (bytes : List ℕ) → comparisons_of bytes bytes ≡ length bytes / 8 + length bytes % 8
unfolding comparisons_of
whole_compared bytes =
    rw (eq-eqb (length bytes) (length bytes) refl, comparisons_of)
    (omega (arith, all_compared (pieces bytes), pieces_length (length bytes / 8) bytes 0 (omega arith)))

module _ (left right : List ℕ) (long : length left ≡ length right) where
  abbrev eights : ℕ
  eights = length left / 8

  abbrev lefts : List ℕ
  lefts = pieces_from eights left 0

  abbrev rights : List ℕ
  rights = pieces_from eights right 0

  by_pieces : comparisons_of left right ≡ comparisons lefts rights
  unfolding comparisons_of
  by_pieces = rw (eq-eqb _ _ long, comparisons_of) (rw (← long) refl)

  left_pieces : length lefts ≡ eights + length left % 8
  left_pieces = omega (arith, pieces_length eights left 0 (omega arith))

  as_many : length lefts ≡ length rights
  as_many = omega (arith, pieces_length eights left 0 (omega arith), pieces_length eights right 0 (omega arith))

  -- eights of bytes that agree are pieces that agree
  eights_alike : {count : ℕ} → Alike left right count → (place : ℕ) → place < eights → place * 8 + 8 ≤ count → get_or lefts place 0 ≡ get_or rights place 0
  eights_alike alike place h k =
      eight_piece eights left 0 place h ∙ eight_alike alike (0 + place * 8) (omega arith) ∙ sym (eight_piece eights right 0 place h)

  -- an eight that differs, behind those that agree, is the last that is compared
  pub stop_eight : (place : ℕ) → place < eights → Alike left right (place * 8) → (eight_at left (place * 8) ≡ eight_at right (place * 8) → ⊥)
      → comparisons_of left right ≡ place + 1
  stop_eight place h alike d =
      by_pieces
      ∙ stops_at lefts rights place
      record {
        long = as_many;
        within = omega (arith, left_pieces);
        before = record { agree = λ j k. eights_alike alike j (omega arith) (omega arith) };
        differs = λ e. d (at_place left ∙ e ∙ sym (at_place right));
      }
    where
      at_place : (s : List ℕ) → eight_at s (place * 8) ≡ get_or (pieces_from eights s 0) place 0
      at_place s = ap (eight_at s) (omega arith) ∙ sym (eight_piece eights s 0 place h)

  -- a byte of the tail that differs, behind all that agree, is the last that is compared
  pub stop_tail : (place : ℕ) → eights * 8 ≤ place → place < length left → Alike left right place → (get_or left place 0 ≡ get_or right place 0 → ⊥)
      → comparisons_of left right ≡ place / 8 + place % 8 + 1
  stop_tail place h k alike d =
      by_pieces
      ∙ stops_at lefts rights (eights + (place - eights * 8))
      record {
        long = as_many;
        within = omega (arith, left_pieces);
        before = record { agree = λ j l. by_test (ltb j eights) (λ t. in_eights j (ltb-true j eights t)) (λ t. in_tail j l (ltb-false j eights t)) };
        differs = λ e. d (at_place left ∙ e ∙ sym (at_place right));
      }
      ∙ omega arith
    where
      at_place : (s : List ℕ) → get_or s place 0 ≡ get_or (pieces_from eights s 0) (eights + (place - eights * 8)) 0
      at_place s = ap (λ j. get_or s j 0) (omega arith) ∙ sym (tail_piece eights s 0 (eights + (place - eights * 8)) (omega arith))

      in_eights : (j : ℕ) → j < eights → get_or lefts j 0 ≡ get_or rights j 0
      in_eights j m = eights_alike alike j m (omega arith)

      in_tail : (j : ℕ) → j < eights + (place - eights * 8) → eights ≤ j → get_or lefts j 0 ≡ get_or rights j 0
      in_tail j l m = tail_piece eights left 0 j m ∙ alike.agree (0 + eights * 8 + (j - eights)) (omega arith) ∙ sym (tail_piece eights right 0 j m)

-- ------------------------------------------------------------------ eight bytes at a time

-- an answer by its parts
answer_is : {equal equal' : Bool} {count count' : ℕ} → equal ≡ equal' → count ≡ count'
    → ◌≡◌ {A = Comparison} (record { equal = equal; count = count }) (record { equal = equal'; count = count' })
answer_is e n = cc

-- runs of different lengths are not compared
pub lengths_differ : (left right : List ℕ) → (length left ≡ length right → ⊥) → ◌≡◌ {A = Comparison} (record { equal = false; count = 0 }) (compared left right)
lengths_differ left right d = answer_is (sym (length_same left right d)) (sym (none_compared left right d))

-- the bytes before `place`, which are whole eights, agree
pub record Passing (left right : List ℕ) (place : ℕ) : Type 0 where
  -- the runs have one length
  pub long : length left ≡ length right
  -- `place` is no further than the end
  pub within : place ≤ length left
  -- an eight begins there
  pub eights : place ≡ place / 8 * 8
  -- all before it is found equal
  pub alike : Alike left right place

-- nothing is compared yet
pub passing_start : {left right : List ℕ} → length left ≡ length right → Passing left right 0
passing_start {left} {right} long = record { long = long; within = omega arith; eights = omega arith; alike = alike_start left right }

module _ {left right : List ℕ} {place : ℕ} (passing : Passing left right place) where
  module _ (more : 8 ≤ length left - place) {one other : ℕ} (one_is : one ≡ eight_at left place) (other_is : other ≡ eight_at right place) where
    -- one more eight agrees
    pub passing_next : Bytes left → Bytes right → one ≡ other → Passing left right (place + 8)
    passing_next lefts rights e =
        record {
          long = passing.long;
          within = omega (arith, passing.within);
          eights = omega (arith, passing.eights);
          alike = alike_eight left right lefts rights passing.alike (sym one_is ∙ e ∙ other_is);
        }

    -- an eight that differs is the last that is compared
    pub passing_stop : (one ≡ other → ⊥) → ◌≡◌ {A = Comparison} (record { equal = false; count = place / 8 + 1 }) (compared left right)
    passing_stop d =
        let differs : eight_at left place ≡ eight_at right place → ⊥ = λ e. d (one_is ∙ e ∙ sym other_is) in
        answer_is (sym (differ_same left right (λ e. differs (ap (λ s. eight_at s place) e))))
        (sym
        (stop_eight left right passing.long (place / 8) (omega (arith, passing.within)) (rw (← passing.eights) passing.alike)
        (rw (← passing.eights) differs)))

  -- fewer than eight bytes are left
  pub passing_end : length left - place < 8 → TailLeft left right place
  passing_end h = record { long = passing.long; behind = omega (arith, passing.within, passing.eights); before = passing.alike }

-- ------------------------------------------------------------------ the tail

-- the bytes before `place`, which is none of an eight, agree
pub record Tailing (left right : List ℕ) (place : ℕ) : Type 0 where
  -- the runs have one length
  pub long : length left ≡ length right
  -- `place` is no further than the end
  pub within : place ≤ length left
  -- the whole eights end before it
  pub behind : length left / 8 * 8 ≤ place
  -- all before it is found equal
  pub alike : Alike left right place

-- no byte of the tail is compared yet
pub tailing_start : {left right : List ℕ} {tail : ℕ} → TailLeft left right tail → Tailing left right tail
tailing_start left = record { long = left.long; within = omega (arith, left.behind); behind = omega (arith, left.behind); alike = left.before }

module _ {left right : List ℕ} {place : ℕ} (tailing : Tailing left right place) where
  -- one more byte agrees
  pub tailing_next : place < length left → get_or left place 0 ≡ get_or right place 0 → Tailing left right (place + 1)
  tailing_next h e =
      record { long = tailing.long; within = omega arith; behind = omega (arith, tailing.behind); alike = alike_next tailing.alike e }

  -- a byte that differs is the last that is compared
  pub tailing_stop : place < length left → (get_or left place 0 ≡ get_or right place 0 → ⊥)
      → ◌≡◌ {A = Comparison} (record { equal = false; count = place / 8 + place % 8 + 1 }) (compared left right)
  tailing_stop h d =
      answer_is (differ_at left right place d)
      (sym (stop_tail left right tailing.long place tailing.behind h tailing.alike d))

  -- where nothing is left, all agree
  pub tailing_end : length left ≤ place → ◌≡◌ {A = Comparison} (record { equal = true; count = length left / 8 + length left % 8 }) (compared left right)
  tailing_end h =
      answer_is (alike_same tailing.alike tailing.long h)
      (rw (← alike_end tailing.alike tailing.long h) (sym (whole_compared left)))

-- fewer than eight bytes are a tail alone
pub tail_alone : {left right : List ℕ} → length right < 8 → length left ≡ length right → TailLeft left right 0
tail_alone {left} {right} few long = record { long = long; behind = omega arith; before = alike_start left right }
