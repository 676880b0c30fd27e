-- The lines by their number, and what is said of an answer.
use Prim.Native.Nat.{ℕ, zero, suc, ◌≤◌, min}
use mathlib.Core.Path.{◌≡◌, refl, sym, ◌∙◌}
use mathlib.Core.Bool.{Bool, true, false}
use mathlib.Core.List.{List, [], ◌∷◌, ◌++◌}
use native.Mathlib.Numerals.{unary_clauses}
use lib.ListN.{length, get_or, get_or-eq_default}
use Rattle.spellings.specs.Bytes.{bytes}
use Rattle.answers.specs.Refusals.{Answer, numbered}
use Rattle.answers.specs.declared.Refusal.{Refusal}
use Rattle.reports.specs.Lines.{newline, difference}
use Rattle.rooms.specs.Laying.{Lays}
use Rattle.boundaries.specs.declared.Formula.TheVariants.{Nothing}
use Rattle.boundaries.specs.declared.Table.TheVariants.{SeventeenLevels}
use Rattle.boundaries.specs.Lines.{refusing, line, first_lines, line_at, differs, saying}

-- the last line
pub line_last : {i : ℕ} → 8 ≤ i → line_at i ≡ line SeventeenLevels Nothing false (refusing 20 0)
unfolding line_at
line_last behind = get_or-eq_default first_lines _ behind

-- what stands at a number, the last for all numbers behind
pub or_last : {A : Type 0} (xs : List A) (last d : A) (i : ℕ) → get_or (xs ++ last ∷ []) (min i (length xs)) d ≡ get_or xs i last
or_last [] last d zero = refl
or_last [] last d (suc i) = simp unary_clauses refl
or_last (x ∷ xs) last d zero = simp unary_clauses refl
or_last (x ∷ xs) last d (suc i) = simp unary_clauses (or_last xs last d i)

-- an answer that differs is laid as the difference
pub says_difference : (listed found : Answer) {x y : Refusal} {test : Bool} {room room' : List ℕ} {at r : ℕ} → test ≡ differs listed found → test ≡ true
    → x ≡ numbered listed → y ≡ numbered found → Lays room at (difference x y) r room' → Lays room at (saying listed found) r room'
unfolding saying
says_difference listed found e t ex ey lays =
    let d : differs listed found ≡ true = sym e ∙ t in
    let s : saying listed found ≡ difference (numbered listed) (numbered found) = rw (d, saying) refl in
    rw (s, ← ex, ← ey) lays

-- the answer listed is laid as such
pub says_listed : (listed found : Answer) {test : Bool} {room room' : List ℕ} {at r : ℕ} → test ≡ differs listed found → test ≡ false
    → Lays room at (bytes ": as listed" ++ newline) r room' → Lays room at (saying listed found) r room'
unfolding saying
says_listed listed found e t lays =
    let d : differs listed found ≡ false = sym e ∙ t in
    let s : saying listed found ≡ bytes ": as listed" ++ newline = rw (d, saying) refl in
    rw s lays
