-- What is promised of comparing two runs of bytes (document 02, C-12; readings-02, C-12). The calls promise `compared` (spellings/specs/Compared) by equation.
-- Here its two values are told without it: by the two lists themselves, by their lengths, and by the first place where they differ, byte by byte
-- (`FirstDifference`, spellings/specs/Alike).
use Prim.Native.Nat.{ℕ, ◌+◌, ◌*◌, ◌/◌, ◌%◌, ◌<◌, ◌≤◌}
use mathlib.Core.Path.{◌≡◌, refl}
use mathlib.Core.Logic.{◌↔◌, ◌⊎◌}
use mathlib.Core.Bool.{true}
use mathlib.Core.List.{List}
use lib.ListN.{length}
use Rattle.spellings.specs.Bytes.{same}
use Rattle.spellings.specs.Alike.{Bytes, FirstDifference}
use Rattle.spellings.specs.Compared.{compared}
use Rattle.spellings.proofs.BytesLaws.{same_true, equal_same}
use Rattle.spellings.proofs.Comparing.{none_compared, whole_compared}
use Rattle.vegzump.proofs.ComparisonLaws as laws

-- Any two runs.
module _ (a b : List ℕ) where
  -- Which spellings are equal is as everywhere in documents 01 and 02: `same`.
  pub equal_as_before : (compared a b).equal ≡ same a b
  equal_as_before = refl

  -- The call says that two runs are equal exactly if they are one list of bytes.
  pub equal_exactly : ((compared a b).equal ≡ true) ↔ (a ≡ b)
  equal_exactly = (same_true a b, equal_same a b)

  -- Runs of different lengths take no comparison.
  pub lengths_differ : ¬ (length a ≡ length b) → (compared a b).count ≡ 0
  lengths_differ = none_compared a b

  -- Equal runs of n bytes take n div 8 + n mod 8 comparisons.
  pub equal_runs : a ≡ b → (compared a b).count ≡ length a / 8 + length a % 8
  equal_runs e = rw (← e) (whole_compared a)

  module _ (place : ℕ) (first : FirstDifference a b place) where
    -- Runs of n bytes that first differ at a place before the tail, which begins at n div 8 × 8, take place div 8 + 1 comparisons.
    pub differ_before_tail : Bytes a → Bytes b → place < length a / 8 * 8 → (compared a b).count ≡ place / 8 + 1
    differ_before_tail = laws.differ_in_eight first

    -- Those that first differ in the tail take n div 8 + place mod 8 + 1.
    pub differ_in_tail : length a / 8 * 8 ≤ place → (compared a b).count ≡ length a / 8 + place % 8 + 1
    differ_in_tail = laws.differ_in_tail first

  -- These are all cases: two runs of one length are equal, or they first differ at some place.
  pub equal_or_differ : length a ≡ length b → (a ≡ b) ⊎ ((place : ℕ) × FirstDifference a b place)
  equal_or_differ = laws.equal_or_differ a b
