-- Laws of the spellings that are kept: each keyword keeps its number, and its spelling if it counts.
use Prim.Native.Nat.{ℕ, zero, suc, ◌+◌, ◌<◌, ◌≤◌}
use mathlib.Core.Path.{◌≡◌, refl, ap}
use mathlib.Core.Bool.{Bool, true, false}
use mathlib.Core.List.{List, [], ◌∷◌}
use native.Mathlib.Omega.{arith}
use lib.ListN.{length, get_or, take}
use Rattle.kinds.specs.Kinds.{keyword_kind, has_kind}
use Rattle.keywords.specs.KeptSpellings.{spellings_kept}
use Rattle.keywords.specs.KeptSizes.{kept_if, kept_size}

-- without spellings there is none to keep
pub kept_none : (every : Bool) (kinds number : ℕ) → kept_if every kinds number [] ≡ []
unfolding spellings_kept
kept_none true kinds number = refl
kept_none false kinds number = refl

-- one after the other
pub kept_one : (every : Bool) (kinds number size : ℕ) (bytes : List ℕ) (vs : List (List ℕ))
    → kept_if every kinds number (take size bytes ∷ vs) ≡ take (kept_size every kinds number size) bytes ∷ kept_if every kinds (suc number) vs
unfolding spellings_kept
kept_one true kinds number size bytes vs = refl
kept_one false kinds number size bytes vs = by (has_kind kinds (keyword_kind number))
  where
    by : (test : Bool) → ◌≡◌ {A = List (List ℕ)} ((elim test as (λ b. List ℕ) [ true ↦ take size bytes | false ↦ [] ]) ∷ spellings_kept kinds (suc number) vs)
        (take (elim test as (λ b. ℕ) [ true ↦ size | false ↦ 0 ]) bytes ∷ spellings_kept kinds (suc number) vs)
    by true = refl
    by false = refl

-- each keyword keeps its number
pub kept_many : (kinds number : ℕ) (vs : List (List ℕ)) → length (spellings_kept kinds number vs) ≡ length vs
unfolding spellings_kept
kept_many kinds number [] = refl
kept_many kinds number (v ∷ vs) = ap suc (kept_many kinds (suc number) vs)

-- the bytes kept are no more than there are
pub kept_less : (every : Bool) (kinds number size : ℕ) {kept : ℕ} → kept ≡ kept_size every kinds number size → kept ≤ size
kept_less true kinds number size e = omega (arith, e)
kept_less false kinds number size {kept} e = by (has_kind kinds (keyword_kind number)) e
  where
    by : (test : Bool) → kept ≡ (elim test as (λ b. ℕ) [ true ↦ size | false ↦ 0 ]) → kept ≤ size
    by true q = omega (arith, q)
    by false q = omega (arith, q)

-- the spelling of keyword k, by whether it counts
pub kept_at : (kinds first : ℕ) (spellings : List (List ℕ)) (k : ℕ) (counts : Bool) → has_kind kinds (keyword_kind (first + k)) ≡ counts
    → get_or (spellings_kept kinds first spellings) k [] ≡ elim counts as (λ b. List ℕ) [ true ↦ get_or spellings k [] | false ↦ [] ]
unfolding spellings_kept
kept_at kinds first [] k true t = refl
kept_at kinds first [] k false t = refl
kept_at kinds first (s ∷ ss) zero counts t =
    let z : first + 0 ≡ first = omega arith in
    ap (λ (b : Bool). elim b as (λ x. List ℕ) [ true ↦ s | false ↦ [] ]) (rw z at t)
kept_at kinds first (s ∷ ss) (suc k) counts t =
    let z : first + suc k ≡ suc first + k = omega arith in
    kept_at kinds (suc first) ss k counts (rw z at t)

-- where each keyword is among the kinds, all spellings are kept
pub all_kept : (kinds first : ℕ) (spellings : List (List ℕ)) → ((k : ℕ) → k < first + length spellings → has_kind kinds (keyword_kind k) ≡ true)
    → spellings_kept kinds first spellings ≡ spellings
unfolding spellings_kept
all_kept kinds first [] h = refl
all_kept kinds first (s ∷ ss) h =
    rw (h first (omega arith), all_kept kinds (suc first) ss (λ k l. h k (omega arith))) refl
