-- The length of a text. Document 01, "Printing".
use Rattle.std.specs.Prelude.{ℕ, ◌+◌, List, length}
use Rattle.terms.specs.Term.{Term, Fields, variable, function, apply, rcd, dot, number, nil, cons}
use Rattle.terms.specs.Print.{numeral}

-- Counted without the text: a constructor's name, two parentheses, the spaces between its arguments and the arguments.
unfoldable mutual
  pub text_size : Term (List ℕ) → ℕ
  text_size (variable x) = 11 + length x
  text_size (function x t) = 12 + length x + text_size t
  text_size (apply t u) = 12 + text_size t + text_size u
  text_size (rcd f) = 11 + text_size_fields f
  text_size (dot t l) = 12 + text_size t + length l
  text_size (number n) = 11 + length (numeral n)

  pub text_size_fields : Fields (List ℕ) → ℕ
  text_size_fields nil = 12
  text_size_fields (cons l t f) = 15 + length l + text_size t + text_size_fields f
