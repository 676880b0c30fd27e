-- What is tested of a text before it is read, test by test.
use Rattle.std.specs.Prelude.{Ok, Err}
use Prim.Native.Nat.{ℕ, ◌<◌, ◌≤◌}
use mathlib.Core.Path.{◌≡◌, refl, sym, ap, ◌∙◌}
use mathlib.Core.Bool.{Bool, true, false, ◌&&◌, and-false}
use mathlib.Core.List.{List}
use native.Mathlib.Omega.{arith}
use lib.Dec.{leb, ltb}
use lib.ListN.{length, get_or}
use borrow.Author.Tests.{lt-ltb, le-leb, lt-leb}
use Rattle.tokens.specs.Variables.{dollars_below}
use Rattle.bodies.specs.declared.Fault.TheVariants.{Undefined, WrongSort}
use Rattle.bodies.specs.HeadBytes.{signature_at, head_before}
use Rattle.bodies.proofs.TemplateInduction.{choose}
use Rattle.elaborator.specs.TextHeads.{text_head}

module _ (bs heads : List ℕ) (block nonterminal variables : ℕ) (text : List ℕ) {head : ℕ} (before : head ≡ head_before bs heads block nonterminal) where
  -- by its tests
  head_by :
      (defined few : Bool) → (ltb 0 head && dollars_below variables text) ≡ defined → leb (length (signature_at bs head)) 1 ≡ few
      → choose (choose (Ok (get_or (signature_at bs head) 0 0)) (Err WrongSort) few) (Err Undefined) defined
      ≡ text_head bs heads block nonterminal variables text
  unfolding text_head
  head_by defined few d f = cc (before, d, f)

  -- The blocks before do not define the nonterminal.
  pub head_undefined : head ≡ 0 → Err Undefined ≡ text_head bs heads block nonterminal variables text
  head_undefined z = head_by false _ (rw z refl) refl

  module _ {named : Bool} (told : named ≡ dollars_below variables text) where
    -- Some `$` names no variable.
    pub head_unnamed : named ≡ false → Err Undefined ≡ text_head bs heads block nonterminal variables text
    head_unnamed f = head_by false _ (rw (sym told ∙ f) (and-false (ltb 0 head))) refl

    module _ (all : named ≡ true) (found : head ≡ 0 → ⊥) {signature : List ℕ} (signed : signature ≡ signature_at bs head) where
      defined : (ltb 0 head && dollars_below variables text) ≡ true
      defined = rw (lt-ltb 0 head (omega (arith, found))) (sym told ∙ all)

      -- It has parameters.
      pub head_parameters : 1 < length signature → Err WrongSort ≡ text_head bs heads block nonterminal variables text
      head_parameters l = head_by true false defined (rw (← signed) (lt-leb (length signature) 1 l))

      -- Else it has a sort.
      pub head_sorted : length signature ≤ 1 → {sort : ℕ} → sort ≡ get_or signature 0 0 → Ok sort ≡ text_head bs heads block nonterminal variables text
      head_sorted l e =
          ap Ok (e ∙ ap (λ s. get_or s 0 0) signed) ∙ head_by true true defined (rw (← signed) (le-leb (length signature) 1 l))
