-- What it is for a check to be passed, as a type of its outcome. The lemmas on the parts of the sort check go both ways:
-- NAME-rule takes a passed check to the derivation and to what holds of the value, rule-NAME goes back.
use Prim.Native.Nat.{ℕ}
use mathlib.Core.Path.{◌≡◌, refl, sym, ap, subst₂}
use mathlib.Core.Bool.{Bool, true, false}
use Rattle.answers.specs.Checked.{Checked, ok, bad, ◌>>=◌, ◌>>◌, need}

-- the check is passed with a value of which P holds
abbrev pub Accepts : {A : Type 0} → Checked A → (A → Type 0) → Type 0
Accepts (ok a) P = P a
Accepts (bad r) P = ⊥

-- a test, and what holds after it
pub need_passed : (test : Bool) (number at : ℕ) (P : Unit {0} → Type 0) → Accepts (need test number at) P → (test ≡ true) × P tt
need_passed true number at P h = (refl, h)
need_passed false number at P h = absurd h

-- a demand that is met passes
pub need_passes : (test : Bool) (number at : ℕ) (P : Unit {0} → Type 0) → test ≡ true → P tt → Accepts (need test number at) P
need_passes test number at P e h = rw e h

-- two tests at one place
pub needs_passed :
    (test other : Bool) (first_number number at : ℕ) (P : Unit {0} → Type 0) → Accepts (need test first_number at >> need other number at) P
    → (test ≡ true) × (other ≡ true) × P tt
needs_passed true true first_number number at P h = (refl, refl, h)
needs_passed true false first_number number at P h = absurd h
needs_passed false other first_number number at P h = absurd h

-- two demands that are met pass
pub needs_passes :
    (test other : Bool) (first_number number at : ℕ) (P : Unit {0} → Type 0) → test ≡ true → other ≡ true → P tt
    → Accepts (need test first_number at >> need other number at) P
needs_passes test other first_number number at P e f h = subst₂ (λ x y. Accepts (need x first_number at >> need y number at) P) (sym e) (sym f) h

module _ {A B : Type 0} (P : B → Type 0) where
  -- one check after another, with the value of the first
  pub bind_passed : (first : Checked A) (next : A → Checked B) → Accepts (first >>= next) P → Accepts first (λ a. Accepts (next a) P)
  bind_passed (ok a) next h = h
  bind_passed (bad r) next h = h

  -- a check that passes goes on with the next
  pub bind_passes : (first : Checked A) (next : A → Checked B) → Accepts first (λ a. Accepts (next a) P) → Accepts (first >>= next) P
  bind_passes (ok a) next h = h
  bind_passes (bad r) next h = h

  -- and without it
  pub then_passed : (first : Checked A) (next : Checked B) → Accepts (first >> next) P → Accepts first (λ a. Accepts next P)
  then_passed (ok a) next h = h
  then_passed (bad r) next h = h

  -- the same where the first gives no value
  pub then_passes : (first : Checked A) (next : Checked B) → Accepts first (λ a. Accepts next P) → Accepts (first >> next) P
  then_passes (ok a) next h = h
  then_passes (bad r) next h = h

-- a check is passed with a value exactly if it gives that value
pub passed : {A : Type 0} (checked : Checked A) {value : A} → checked ≡ ok value → Accepts checked (λ a. a ≡ value)
passed checked e = rw e refl

-- what is accepted passes
pub passes : {A : Type 0} (checked : Checked A) {value : A} → Accepts checked (λ a. a ≡ value) → checked ≡ ok value
passes (ok a) h = ap ok h
passes (bad r) h = absurd h
