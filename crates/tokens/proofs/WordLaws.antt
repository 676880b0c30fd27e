-- Laws of the words met, and of a test of two parts.
use Prim.Native.Nat.{ℕ}
use mathlib.Core.Path.{◌≡◌, refl}
use mathlib.Core.Bool.{Bool, true, false, ◌&&◌}
use mathlib.Core.List.{List, [], ◌∷◌, ◌++◌}
use native.Mathlib.Omega.{arith}
use lib.ListN.{length}
use Rattle.tokens.specs.declared.Token.{Token}
use Rattle.tokens.specs.Scan.{is_new, words_with}

-- both parts of a test that passes
pub both : (first second : Bool) → (first && second) ≡ true → (first ≡ true) × (second ≡ true)
both true second e = (refl, e)
both false second e = let z : ◌≡◌ {A = ℕ} 0 1 = cc in absurd (omega arith)

-- a new word is added to those met
pub with_new : (words : List (List ℕ)) (spelling : List ℕ) (token : Token) → is_new (length words) token ≡ true
    → words_with words spelling token ≡ words ++ (spelling ∷ [])
unfolding words_with
with_new words spelling token e = rw (e, words_with) refl

-- a token that is no new word adds none
pub with_old : (words : List (List ℕ)) (spelling : List ℕ) (token : Token) → is_new (length words) token ≡ false → words_with words spelling token ≡ words
unfolding words_with
with_old words spelling token e = rw (e, words_with) refl
