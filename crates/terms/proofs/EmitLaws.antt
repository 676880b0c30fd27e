-- The last step of an expansion: what is judged of a term, case by case, and what is written of one that passes.
use Rattle.std.specs.Prelude.{Ok, Err}
use Prim.Native.Nat.{ℕ, ◌<◌, ◌≤◌}
use mathlib.Core.Path.{◌≡◌, refl}
use mathlib.Core.List.{List, [], ◌∷◌, ◌++◌}
use lib.ListN.{length, drop}
use borrow.Author.Tests.{le-leb, lt-leb}
use Rattle.answers.specs.declared.Refusal.{Refusal}
use Rattle.answers.specs.Refusals.{Answer}
use Rattle.answers.specs.Refusals.{accepted}
use Rattle.answers.specs.Refusals.{refusal}
use Rattle.answers.specs.Checked.{Checked, ok, bad, ◌>>=◌}
use Rattle.terms.specs.Term.{Name, Term, size, largest_term}
use Rattle.terms.specs.Loose.{loose, reached, walk}
use Rattle.terms.specs.Emit.{passing, judged, Emitted, fitted, emitted}

-- an answer, and the buffer at exit
abbrev pub leaves : Answer → List ℕ → Emitted
leaves r text = record { answer = r; text = text }

module _ (made constructors : ℕ) (out text : List ℕ) where
  -- a text that does not fit is refused: 24
  pub fitted_long : length text < length out → fitted made constructors out text ≡ leaves (Err (refusal 24 (length out) 0 0)) text
  fitted_long h = rw (lt-leb (length out) (length text) h, fitted) refl

  -- one that fits is written in front
  pub fitted_whole : length out ≤ length text
      → fitted made constructors out text ≡ leaves (accepted made constructors (length out)) (out ++ drop (length out) text)
  fitted_whole h = rw (le-leb (length out) (length text) h, fitted) refl

-- ------------------------------------------------------------------ what is judged

-- an answer alone
bind_pass : (answer : Checked (Unit {0})) → (answer >>= λ u. ok tt) ≡ answer
bind_pass (ok u) = refl
bind_pass (bad r) = refl

-- and one with another behind it
bind_more : (answer front last : Checked (Unit {0})) {all : Checked (Unit {0})} → all ≡ (front >>= λ u. last)
    → (answer >>= λ u. all) ≡ ((answer >>= λ u. front) >>= λ u. last)
bind_more (ok u) front last e = e
bind_more (bad r) front last e = refl

-- One test more, behind the others, is made where they pass: it is one case more.
pub passing_snoc : (tests : List (Term Name → Checked (Unit {0}))) (test : Term Name → Checked (Unit {0})) (t : Term Name)
    → passing (tests ++ test ∷ []) t ≡ (passing tests t >>= λ u. test t)
unfolding passing
passing_snoc [] test t = bind_pass (test t)
passing_snoc (first ∷ tests) test t = bind_more (first t) (passing tests t) (test t) (passing_snoc tests test t)

module _ (made : ℕ) (t : Term Name) where
  -- 22
  pub judged_large : largest_term < size t → judged made t ≡ bad (refusal 22 made 0 0)
  unfolding judged passing
  judged_large h = rw (lt-leb (size t) largest_term h, judged, passing) refl

  -- 23
  pub judged_loose : {place : ℕ} → size t ≤ largest_term → walk [] 0 t ≡ loose place → judged made t ≡ bad (refusal 23 place 0 0)
  unfolding judged passing
  judged_loose h w = rw (le-leb (size t) largest_term h, w, judged, passing) refl

  -- else the term passes
  pub judged_passes : {end : ℕ} → size t ≤ largest_term → walk [] 0 t ≡ reached end → judged made t ≡ ok tt
  unfolding judged passing
  judged_passes h w = rw (le-leb (size t) largest_term h, w, judged, passing) refl

-- ------------------------------------------------------------------ and written

module _ (write : Term Name → List ℕ) (made : ℕ) (t : Term Name) (text : List ℕ) where
  -- what is refused is not written
  pub emitted_refused : {r : Refusal} → judged made t ≡ bad r → emitted write made t text ≡ leaves (Err r) text
  unfolding emitted
  emitted_refused e = rw e

  -- what passes is written, if it fits
  pub emitted_fitted : {u : Unit {0}} → judged made t ≡ ok u → emitted write made t text ≡ fitted made (size t) (write t) text
  unfolding emitted
  emitted_fitted e = rw e
