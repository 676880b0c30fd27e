-- What is written of a term, and the buffer that it goes into. Nobody needs this to believe `expand` or `portions`.
use Rattle.std.specs.Prelude.{ℕ, ◌≡◌, List}
use Rattle.answers.specs.Refusals.{Answer}
use Rattle.terms.specs.Term.{Name, Term}
use Rattle.terms.specs.Emit.{text_of, emitted}
use Rattle.portions.specs.Portions.{portions_of}
use Rattle.portions.specs.Lists.{Counts}
use Rattle.emitter.specs.declared.Writing.{Writing}
use Rattle.emitter.specs.declared.Writing.TheVariants.{Text, Portions}

-- what is written of a term
abbrev pub writes : Writing → Term Name → List ℕ
writes Text = text_of
writes (Portions written wanted) = portions_of written wanted

-- the one of two buffers, a text and a list, that it goes into,
abbrev pub lent_for : Writing → List ℕ → List ℕ → List ℕ
lent_for Text text list = text
lent_for (Portions written wanted) text list = list

-- and the other
abbrev pub spare : Writing → List ℕ → List ℕ → List ℕ
spare Text text list = list
spare (Portions written wanted) text list = text

-- counts of portions are those that an entry can have
pub record Writable (writing : Writing) : Type 0 where
  pub counts : (written wanted : ℕ) → writing ≡ Portions written wanted → Counts written wanted

-- The last step for a term after so many cells were made answers and writes what `emitted` says, and leaves the other buffer.
pub record Emits (writing : Writing) (made : ℕ) (t : Term Name) (text list : List ℕ) (answer : Answer) (text' list' : List ℕ) : Type 0 where
  pub wrote : emitted (writes writing) made t (lent_for writing text list) ≡ record { answer = answer; text = lent_for writing text' list' }
  pub kept : spare writing text' list' ≡ spare writing text list
