-- The slots of names.
use Prim.Native.Nat.{ℕ, zero, suc, ◌+◌, ◌*◌, ◌/◌, ◌≤◌, ◌<◌}
use mathlib.Core.Path.{◌≡◌, refl}
use mathlib.Core.Bool.{Bool, true, false, and-eq-true_iff}
use mathlib.Core.List.{List}
use native.Mathlib.Omega.{arith}
use lib.Dec.{eqb}
use lib.ListN.{length}
use borrow.Author.Tests.{eq-eqb, eqb-true}
use Rattle.spellings.proofs.BytesLaws.{by_test}
use Rattle.terms.specs.Cells.{column, columns, most_cells}
use Rattle.binders.specs.Slots.{binds, slot_from, slot_of}

slot_binds : (rows : ℕ) (cells : List ℕ) (row name : ℕ) → slot_from rows cells row name < most_cells → binds cells (slot_from rows cells row name) name ≡ true
unfolding slot_from
slot_binds zero cells row name h = absurd (omega arith)
slot_binds (suc rows) cells row name h =
    by_test (binds cells row name) (λ e. rw (e, slot_from) e) (λ e. rw (e, slot_from) (slot_binds rows cells (suc row) name (rw (e, slot_from) at h)))

-- the row of a slot has the slot's name
pub slot_name : (cells : List ℕ) (name : ℕ) → slot_of cells name < most_cells → column cells (slot_of cells name) 1 ≡ name
slot_name cells name h =
    eqb-true (column cells (slot_of cells name) 1) name
    ((and-eq-true_iff (eqb (column cells (slot_of cells name) 0) 0x21) (eqb (column cells (slot_of cells name) 1) name)).0
    (slot_binds (length cells / columns) cells 0 name h)).1

slot_first : (rows : ℕ) (cells : List ℕ) (row name found : ℕ) → row ≤ found → found < row + rows → row + rows ≤ most_cells → binds cells found name ≡ true
    → slot_from rows cells row name < most_cells
unfolding slot_from
slot_first zero cells row name found a b m e = absurd (omega arith)
slot_first (suc rows) cells row name found a b m e =
    by_test (binds cells row name) (λ t. rw (t, slot_from) (omega arith))
    (λ f.
    let other : row ≡ found → ⊥ = λ z. absurd (clash (binds cells found name) e cc) in
    rw (f, slot_from) (slot_first rows cells (suc row) name found (omega (arith, other)) (omega arith) (omega arith) e))
  where
    clash : (test : Bool) → test ≡ true → test ≡ false → ⊥
    clash test p q = let z : ◌≡◌ {A = ℕ} 0 1 = cc in omega arith

-- a name that a row binds has a slot
pub slot_there : (cells : List ℕ) (found : ℕ) → found < length cells / columns → length cells ≤ most_cells * columns → column cells found 0 ≡ 0x21
    → slot_of cells (column cells found 1) < most_cells
slot_there cells found h m e =
    slot_first (length cells / columns) cells 0 (column cells found 1) found (omega arith) (omega arith) (omega arith)
    ((and-eq-true_iff (eqb (column cells found 0) 0x21) (eqb (column cells found 1) (column cells found 1))).1
    (eq-eqb (column cells found 0) 0x21 e, eq-eqb (column cells found 1) (column cells found 1) refl))
