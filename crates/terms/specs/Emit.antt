-- The last step of an expansion: the tests on its term, what is written of the term, and whether that fits into the buffer lent for it.
-- Document 01, "Causes, by number": "Last 22, 23, 24", and what is returned on acceptance.
use Rattle.std.specs.Prelude.{ℕ, true, false, List, [], ◌∷◌, ◌++◌, leb, length, drop, Ok, Err}
use Rattle.answers.specs.Refusals.{Answer}
use Rattle.answers.specs.Refusals.{accepted}
use Rattle.answers.specs.Refusals.{refusal}
use Rattle.answers.specs.Checked.{Checked, ok, bad, ◌>>=◌, need}
use Rattle.terms.specs.Term.{Name, Term, size, largest_term}
use Rattle.terms.specs.Rename.{rename}
use Rattle.terms.specs.Loose.{Walk, loose, reached, walk}
use Rattle.terms.specs.Print.{print}

-- ------------------------------------------------------------------ the tests on a term

-- 22, where so many cells were made
abbrev pub size_test : ℕ → Term Name → Checked (Unit {0})
size_test made t = need (leb (size t) largest_term) 22 made

-- 23: a walk that ends at a fresh variable under no binder made with it
abbrev pub walk_test : Walk → Checked (Unit {0})
walk_test (loose p) = bad (refusal 23 p 0 0)
walk_test (reached p) = ok tt

abbrev pub binding_test : Term Name → Checked (Unit {0})
binding_test t = walk_test (walk [] 0 t)

-- a term passes all tests, or the first that it fails refuses it; no test is made behind one that refuses
unfoldable pub passing : List (Term Name → Checked (Unit {0})) → Term Name → Checked (Unit {0})
passing [] t = ok tt
passing (test ∷ rest) t = test t >>= λ u. passing rest t

-- What is judged of a term after so many cells were made: the tests in order.
unfoldable pub judged : ℕ → Term Name → Checked (Unit {0})
judged made t = passing (size_test made ∷ binding_test ∷ []) t

-- ------------------------------------------------------------------ what is written

-- the text of a term: one way to write a term into a lent buffer
abbrev pub text_of : Term Name → List ℕ
text_of t = print (rename t)

-- the answer, and the buffer at exit
pub record Emitted : Type 0 where
  pub answer : Answer
  pub text : List ℕ

-- what is written of a term of so many constructors stands at the front of the buffer, if it fits; if not, 24, and nothing is written
abbrev pub fitted : ℕ → ℕ → List ℕ → List ℕ → Emitted
fitted made constructors out text =
    elim (leb (length out) (length text)) [
      | false ↦ record { answer = Err (refusal 24 (length out) 0 0); text = text }
      | true ↦ record { answer = accepted made constructors (length out); text = out ++ drop (length out) text }
    ]

abbrev pub emitted_if : Checked (Unit {0}) → (Term Name → List ℕ) → ℕ → Term Name → List ℕ → Emitted
emitted_if (bad r) write made t text = record { answer = Err r; text = text }
emitted_if (ok u) write made t text = fitted made (size t) (write t) text

-- The last step for a term after so many cells were made, judged and then written: its answer, and the buffer with what `write` gives of the term.
unfoldable pub emitted : (Term Name → List ℕ) → ℕ → Term Name → List ℕ → Emitted
emitted write made t text = emitted_if (judged made t) write made t text
