-- Rooms of numbers: all zeros, and runs of stores.
use Prim.Native.Nat.{ℕ, suc, ◌+◌, ◌<◌, ◌≤◌}
use mathlib.Core.Path.{◌≡◌, refl, ap, ◌∙◌}
use mathlib.Core.List.{List, [], ◌∷◌, ◌++◌}
use native.Mathlib.Nat.{add-zero}
use native.Mathlib.Omega.{arith}
use lib.Dec.{ltb}
use lib.ListN.{length, get_or, set, take, drop, replicate, length-replicate, get_or-replicate}
use lib.Seq.{sets, sets-eq, set_comm, take_at}
use borrow.Author.Tests.{ltb-true, ltb-false}
use Rattle.spellings.proofs.BytesLaws.{by_test}
use Rattle.grammar.proofs.ReaderLaws.{get_d_past}

-- a room of zeros reads as 0 everywhere
pub zeros : (count place : ℕ) → get_or {A = ℕ} (replicate count 0) place 0 ≡ 0
zeros count place =
    by_test (ltb place count) (λ e. get_or-replicate {A = ℕ} count place 0 0 (ltb-true place count e))
    (λ e. get_d_past {A = ℕ} (replicate count 0) place 0 (omega (arith, ltb-false place count e, length-replicate {A = ℕ} count 0)))

-- two runs of stores, one behind the other, are one
pub sets_append : (numbers : List ℕ) (place : ℕ) (written more : List ℕ)
    → sets numbers place (written ++ more) ≡ sets (sets numbers place written) (place + length written) more
sets_append numbers place [] more = cc (add-zero place)
sets_append numbers place (x ∷ written) more =
    let e : suc place + length written ≡ place + suc (length written) = omega arith in cc (sets_append (set numbers place x) (suc place) written more)

-- a store before a run of stores may come after it
pub set_sets : (numbers : List ℕ) (before place value : ℕ) (written : List ℕ) → before < place
    → set (sets numbers place written) before value ≡ sets (set numbers before value) place written
set_sets numbers before place value [] h = refl
set_sets numbers before place value (x ∷ written) h =
    cc (set_sets (set numbers place x) before (suc place) value written (omega arith), set_comm numbers place before x value (λ e. omega arith))

-- what was stored at the front stands there
pub sets_front : (room ms : List ℕ) (count : ℕ) → length ms ≡ count → count ≤ length room → take count (sets room 0 ms) ≡ ms
sets_front room ms count e l =
    ap (take count) (sets-eq ms room 0 (omega arith)) ∙ take_at ms (drop (0 + length ms) room) count e
