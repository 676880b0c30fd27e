-- Laws of reading a value: a byte past the end, the constructors' arities as a table, and parts of a slice.
use Prim.Native.Nat.{ℕ, zero, suc, ◌+◌, ◌-◌, ◌<◌, ◌≤◌}
use mathlib.Core.Path.{◌≡◌, refl, sym, ◌∙◌}
use mathlib.Core.List.{List, [], ◌∷◌}
use mathlib.Core.Bool.{true, and-eq-true_iff}
use native.Mathlib.Omega.{arith}
use lib.Dec.{leb}
use lib.ListN.{length, get_or, take, drop, get_or-map}
use borrow.Author.Tests.{leb-true}
use Rattle.spellings.specs.Bytes.{every}
use Rattle.grammar.specs.Sorts.{Signature, gives, unit, constructor_signatures, constructor, arity}

-- what stands past the end of a list is the default
pub get_d_past {ℓ} : {A : Type ℓ} (l : List A) (n : ℕ) (d : A) → length l ≤ n → get_or l n d ≡ d
get_d_past [] n d h = refl
get_d_past (x ∷ xs) zero d h = absurd (omega arith)
get_d_past (x ∷ xs) (suc n) d h = get_d_past xs n d (omega arith)

-- how many arguments the constructors take, in the order of their codes
abbrev pub arities : List ℕ
arities = 1 ∷ 2 ∷ 2 ∷ 1 ∷ 2 ∷ 0 ∷ 3 ∷ 1 ∷ []

-- the arity of a constructor is the one listed for it
pub arity_at : (code : ℕ) → get_or arities (code - 32) 0 ≡ arity code
unfolding constructor_signatures constructor
arity_at code = get_or-map (λ (s : Signature). length s.params) constructor_signatures (code - 32) (gives [] unit)

-- the arity of a code that is known
pub arity_is : {code : ℕ} (known : ℕ) → code ≡ known → get_or arities (known - 32) 0 ≡ arity code
arity_is {code} known e = cc (arity_at code)

-- the other codes up to the last constructor's have one argument, those below the constructors as the first of them
pub arity_one : (code : ℕ) → code < 40 → (code ≡ 0x21 → ⊥) → (code ≡ 0x22 → ⊥) → (code ≡ 0x24 → ⊥) → (code ≡ 0x25 → ⊥) → (code ≡ 0x26 → ⊥) → 1 ≡ arity code
arity_one code small not-33 not-34 not-36 not-37 not-38 = by (code - 32) refl ∙ arity_at code
  where
    by : (place : ℕ) → place ≡ code - 32 → 1 ≡ get_or arities (code - 32) 0
    by zero e = rw (← e) refl
    by (suc zero) e = absurd (not-33 (omega arith))
    by (suc (suc zero)) e = absurd (not-34 (omega arith))
    by (suc (suc (suc zero))) e = rw (← e) refl
    by (suc (suc (suc (suc zero)))) e = absurd (not-36 (omega arith))
    by (suc (suc (suc (suc (suc zero))))) e = absurd (not-37 (omega arith))
    by (suc (suc (suc (suc (suc (suc zero)))))) e = absurd (not-38 (omega arith))
    by (suc (suc (suc (suc (suc (suc (suc zero))))))) e = rw (← e) refl
    by (suc (suc (suc (suc (suc (suc (suc (suc place)))))))) e = absurd (omega arith)

-- a code above them has no argument
pub arity_high : (code : ℕ) → 8 ≤ code - 32 → 0 ≡ arity code
arity_high code h = sym (get_d_past arities (code - 32) 0 h) ∙ arity_at code

entry_few : (entries : List ℕ) (place : ℕ) → every (λ n. leb n 3) entries ≡ true → get_or entries place 0 ≤ 3
unfolding every
entry_few [] place e = omega arith
entry_few (x ∷ xs) zero e = leb-true x 3 ((and-eq-true_iff (leb x 3) (every (λ n. leb n 3) xs)).0 e).0
entry_few (x ∷ xs) (suc place) e = entry_few xs place ((and-eq-true_iff (leb x 3) (every (λ n. leb n 3) xs)).0 e).1

-- no constructor takes more than three
pub arity_few : (code : ℕ) → arity code ≤ 3
unfolding every
arity_few code = omega (arith, arity_at code, entry_few arities (code - 32) refl)

-- a part of a slice that ends in time is the one asked for
pub part_within : (bytes : List ℕ) (at size : ℕ) → take (at + size - at) (drop at bytes) ≡ take size (drop at bytes)
part_within bytes at size = let z : at + size - at ≡ size = omega arith in cc
