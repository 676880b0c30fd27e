-- The call for portions: its counts, and the expansion behind them.
use Rattle.std.specs.Prelude.{Err}
use Prim.Native.Nat.{ℕ, ◌<◌, ◌≤◌}
use mathlib.Core.Path.{◌≡◌, refl, sym, ◌∙◌}
use mathlib.Core.Bool.{Bool, true, false, ◌&&◌}
use mathlib.Core.List.{List}
use native.Mathlib.Omega.{arith}
use lib.Dec.{leb}
use borrow.Author.Tests.{leb-true, le-leb}
use Rattle.spellings.proofs.BytesLaws.{by_test}
use Rattle.answers.specs.declared.Refusal.{Refusal}
use Rattle.answers.specs.Refusals.{Answer, refusal}
use Rattle.portions.specs.Portions.{portions_of, most_portions, are_counts}
use Rattle.emitter.specs.declared.Writing.TheVariants.{Portions}
use Rattle.emitter.specs.Writing.{Writable}
use Rattle.handover.specs.Expands.{Expands}
use Rattle.meaning.specs.Expand.{expanded, refused, expand_by}
use Rattle.vegzump.specs.Portions.{portions}

-- both tests of two hold
both : (a b : Bool) → (a && b) ≡ true → (a ≡ true) × (b ≡ true)
both true b e = (refl, e)
both false b e = let z : ◌≡◌ {A = ℕ} 0 1 = cc in absurd (omega arith)

-- Counts that are not refused are from 1 to 10,000.
pub counts_are : (written wanted : ℕ) → are_counts written wanted ≡ true → (0 < written) × (written ≤ most_portions) × (0 < wanted) × (wanted ≤ most_portions)
counts_are written wanted e =
    let halves = both (leb 1 written && leb written most_portions) (leb 1 wanted && leb wanted most_portions) e in
    let one = both (leb 1 written) (leb written most_portions) halves.0 in
    let two = both (leb 1 wanted) (leb wanted most_portions) halves.1 in
    (leb-true 1 written one.0, leb-true written most_portions one.1, leb-true 1 wanted two.0, leb-true wanted most_portions two.1)

-- Such counts are not refused,
pub counts_told : (written wanted : ℕ) → (0 < written) × (written ≤ most_portions) × (0 < wanted) × (wanted ≤ most_portions) → are_counts written wanted ≡ true
counts_told written wanted h = rw (le-leb 1 written h.0, le-leb written most_portions h.1, le-leb 1 wanted h.2, le-leb wanted most_portions h.3) refl

-- and all others are.
pub counts_not : (written wanted : ℕ) → ((0 < written) × (written ≤ most_portions) × (0 < wanted) × (wanted ≤ most_portions) → ⊥)
    → are_counts written wanted ≡ false
counts_not written wanted n = by_test (are_counts written wanted) (λ e. absurd (n (counts_are written wanted e))) (λ e. e)

module _ (written wanted : ℕ) (table formula cells list : List ℕ) where
  -- With other counts the call is refused, and all that was lent is as found.
  pub counts_refused : are_counts written wanted ≡ false → portions written wanted table formula cells list ≡ refused (refusal 25 0 0 0) cells list
  unfolding portions
  counts_refused e = rw (e, portions) refl

  -- With these the call is the expansion that writes the portions.
  pub counts_allowed : are_counts written wanted ≡ true
      → portions written wanted table formula cells list ≡ expand_by (portions_of written wanted) table formula cells list
  unfolding portions
  counts_allowed e = rw (e, portions) refl

module _ (written wanted : ℕ) {allowed : Bool} (told : allowed ≡ are_counts written wanted) where
  -- The portions may be written,
  pub portions_writable : allowed ≡ true → Writable (Portions written wanted)
  portions_writable e =
      let c = counts_are written wanted (sym told ∙ e) in
      record { counts = λ w v is. let same : (w ≡ written) × (v ≡ wanted) = (cc, cc) in rw (same.0, same.1) (record { some = c.0; few = c.3 }) }

  -- and are then what the call promises.
  pub portions_written : {table formula cells text list : List ℕ} {answer : Answer} {cells' text' list' : List ℕ} → allowed ≡ true
      → Expands (Portions written wanted) table formula cells text list answer cells' text' list'
      → expanded answer cells' list' ≡ portions written wanted table formula cells list
  portions_written {table} {formula} {cells} {list = list} e x = x.wrote ∙ sym (counts_allowed written wanted table formula cells list (sym told ∙ e))

  -- Else the call is refused.
  pub portions_refused : (table formula cells list : List ℕ) {cause : Refusal} → allowed ≡ false → cause ≡ refusal 25 0 0 0
      → expanded (Err cause) cells list ≡ portions written wanted table formula cells list
  portions_refused table formula cells list e c = rw c (sym (counts_refused written wanted table formula cells list (sym told ∙ e)))
