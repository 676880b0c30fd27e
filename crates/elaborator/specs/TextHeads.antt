-- What is tested of a text before it is read, by the bytes of its table. This mirrors code: nobody needs it to believe `expand`.
use Rattle.std.specs.Prelude.{ℕ, true, false, ◌&&◌, List, leb, ltb, length, get_or, Ok, Err}
use Rattle.tokens.specs.Variables.{dollars_below}
use Rattle.bodies.specs.declared.Fault.TheVariants.{Undefined, WrongSort}
use Rattle.bodies.specs.Faults.{ItemSort}
use Rattle.bodies.specs.HeadBytes.{signature_at, head_before}

-- the sort of a text's nonterminal n, where the text's block begins at `block` and so many variables are numbered
unfoldable pub text_head : List ℕ → List ℕ → ℕ → ℕ → ℕ → List ℕ → ItemSort
text_head bs H block n variables text =
    let h : ℕ = head_before bs H block n in
    elim (ltb 0 h && dollars_below variables text) [
      | true ↦ elim (leb (length (signature_at bs h)) 1) [ true ↦ Ok (get_or (signature_at bs h) 0 0) | false ↦ Err WrongSort ]
      | false ↦ Err Undefined
    ]
