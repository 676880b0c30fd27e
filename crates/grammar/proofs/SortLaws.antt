-- Laws of the sorts of constructors: each of the code's tables has, at a constructor's code, what `constructor` says.
use Prim.Native.Nat.{ℕ, ◌-◌, ◌≤◌}
use mathlib.Core.Path.{◌≡◌, refl, sym}
use mathlib.Core.List.{[], ◌∷◌}
use native.Mathlib.Omega.{arith}
use lib.Dec.{leb, ltb}
use lib.ListN.{get_or, get_or-map}
use borrow.Author.Tests.{leb-true, ltb-true, ltb-false}
use Rattle.spellings.proofs.BytesLaws.{by_test, every_at}
use Rattle.spellings.specs.Bytes.{every}
use Rattle.grammar.specs.Sorts.{Signature, gives, unit, constructor_signatures, constructor, arity}
use Rattle.grammar.proofs.ReaderLaws.{get_d_past, arities, arity_at, arity_high}

-- the results of the eight constructors
pub results : (code : ℕ) → get_or (4 ∷ 4 ∷ 4 ∷ 4 ∷ 4 ∷ 5 ∷ 5 ∷ 4 ∷ []) (code - 32) 0 ≡ (constructor code).result
unfolding constructor_signatures constructor
results code = get_or-map (λ (s : Signature). s.result) constructor_signatures (code - 32) (gives [] unit)

-- the sorts of their first arguments
pub firsts : (code : ℕ) → get_or (1 ∷ 2 ∷ 4 ∷ 5 ∷ 4 ∷ 0 ∷ 3 ∷ 6 ∷ []) (code - 32) 0 ≡ get_or (constructor code).params 0 unit
unfolding constructor_signatures constructor
firsts code = get_or-map (λ (s : Signature). get_or s.params 0 unit) constructor_signatures (code - 32) (gives [] unit)

-- of their second arguments
pub seconds : (code : ℕ) → get_or (0 ∷ 4 ∷ 4 ∷ 0 ∷ 3 ∷ 0 ∷ 4 ∷ 0 ∷ []) (code - 32) 0 ≡ get_or (constructor code).params 1 unit
unfolding constructor_signatures constructor
seconds code = get_or-map (λ (s : Signature). get_or s.params 1 unit) constructor_signatures (code - 32) (gives [] unit)

-- and of their third arguments
pub thirds : (code : ℕ) → get_or (0 ∷ 0 ∷ 0 ∷ 0 ∷ 0 ∷ 0 ∷ 5 ∷ 0 ∷ []) (code - 32) 0 ≡ get_or (constructor code).params 2 unit
unfolding constructor_signatures constructor
thirds code = get_or-map (λ (s : Signature). get_or s.params 2 unit) constructor_signatures (code - 32) (gives [] unit)

-- a constructor has three arguments at most
pub arity_small : (code : ℕ) → arity code ≤ 3
unfolding every
arity_small code =
    by_test (ltb (code - 32) 8)
    (λ e. rw (← (arity_at code)) (leb-true _ 3 (every_at (λ n. leb n 3) arities (code - 32) refl (ltb-true _ 8 e))))
    (λ e. omega (arith, arity_high code (ltb-false _ 8 e)))

-- no constructor has a fourth argument
pub arguments_end : (code place : ℕ) → 3 ≤ place → unit ≡ get_or (constructor code).params place unit
arguments_end code place h = sym (get_d_past (constructor code).params place unit (omega (arith, arity_small code)))

-- argument `index`, where `place` is `index`
pub argument_is : {result place index : ℕ} (code : ℕ) → place ≡ index → result ≡ get_or (constructor code).params index unit
    → result ≡ get_or (constructor code).params place unit
argument_is {result} code e h = rw e h
