-- What a formula means under a passed table, and when each answer is given, by rules.
-- Document 01, "Choice", "Formula" and "Causes, by number".
use Rattle.std.specs.Prelude.{ℕ, ◌≤◌, ◌<◌, ◌≡◌, List, [], length}
use Rattle.answers.specs.declared.Refusal.{Refusal}
use Rattle.answers.specs.Refusals.{refusal}
use Rattle.terms.specs.Cells.{rows_lent}
use Rattle.tokens.specs.declared.Token.{Token}
use Rattle.tokens.specs.Tokens.{most_tokens, longest_formula, spelled}
use Rattle.tokens.specs.Tiling.{Tiled}
use Rattle.tokens.specs.Unscanned.{Unscans}
use Rattle.checker.specs.Syntax.{Syntax}
use Rattle.expansion.specs.Figure3.{Parses}
use Rattle.expansion.specs.Costs.{rows_in, Affords}
use Rattle.soundness.specs.Stopping.{Refuses}
use Rattle.terms.specs.Term.{Name, Term, size, largest_term}
use Rattle.terms.specs.Rename.{rename}
use Rattle.terms.specs.Print.{print}
use Rattle.terms.specs.Binding.{Occurrence}
use Rattle.meaning.specs.Origins.{Occurs, FirstLoose, NoneLoose}

-- a formula's tokens and its words in the order of their numbers
pub record Scans (syntax : Syntax) (formula : List ℕ) (tokens : List Token) (words : List (List ℕ)) : Type 0 where
  pub short : length formula ≤ longest_formula
  pub tiled : Tiled syntax.lexicon formula 0 [] tokens (length formula) words
  pub few : length tokens ≤ most_tokens

-- what a spelling number stands for
abbrev pub spell_of : Syntax → List (List ℕ) → ℕ → List ℕ
spell_of syntax words = spelled syntax.lexicon words

-- the formula is tokens, from all of which Figure 3 derives u
pub record Means (syntax : Syntax) (formula : List ℕ) (u : Term Name) : Type 0 where
  pub tokens : List Token
  pub words : List (List ℕ)
  pub scans : Scans syntax formula tokens words
  pub parsed : Parses syntax.productions (spell_of syntax words) syntax.root tokens u

-- and at a cost within the limits and the rows
pub record MeansWithin (syntax : Syntax) (formula cells : List ℕ) (u : Term Name) : Type 0 where
  pub means : Means syntax formula u
  pub affords : Affords (rows_lent (length cells)) 0 0 0 means.parsed.derived

-- the cells that it costs
abbrev pub cells_of : {syntax : Syntax} {formula cells : List ℕ} {u : Term Name} → MeansWithin syntax formula cells u → ℕ
cells_of E = rows_in E.means.parsed.derived

-- what document 01 writes of a term: its text
abbrev pub in_text : Term Name → List ℕ
in_text u = print (rename u)

-- ------------------------------------------------------------------ what is judged of a term

-- what a term is refused for, after so many cells were made, whatever is to be written of it
pub data Judges (made : ℕ) (u : Term Name) : Refusal → Type 0 where
  too_large : largest_term < size u → Judges made u (refusal 22 made 0 0)
  is_loose : {os : List Occurrence} {p : ℕ}
      → size u ≤ largest_term
      → Occurs [] 0 u os
      → FirstLoose os p
      → Judges made u (refusal 23 p 0 0)

-- a term that is refused for none of these
pub record PassesTests (u : Term Name) : Type 0 where
  pub small : size u ≤ largest_term
  pub occurrences : List Occurrence
  pub occur : Occurs [] 0 u occurrences
  pub none_loose : NoneLoose occurrences

-- ------------------------------------------------------------------ refusals and acceptance

-- document 01's causes from 14 on, under a passed table: when each is given, and with what values, where `write` gives what is written of a term
pub data Cause (write : Term Name → List ℕ) (syntax : Syntax) (formula cells text : List ℕ) : Refusal → Type 0 where
  -- 14, 15 and 16
  unscanned : {r : Refusal}
      → Unscans syntax.lexicon formula r
      → Cause write syntax formula cells text r
  -- 17 to 21
  stopped : {r : Refusal} {made : ℕ} {tokens : List Token} {words : List (List ℕ)}
      → Scans syntax formula tokens words
      → Refuses syntax.productions (spell_of syntax words) (rows_lent (length cells)) tokens syntax.root r made
      → Cause write syntax formula cells text r
  -- 22 and 23
  is_judged : {r : Refusal} {u : Term Name}
      → (E : MeansWithin syntax formula cells u)
      → Judges (cells_of E) u r
      → Cause write syntax formula cells text r
  -- 24
  text_too_long : {u : Term Name}
      → MeansWithin syntax formula cells u
      → PassesTests u
      → length text < length (write u)
      → Cause write syntax formula cells text (refusal 24 (length (write u)) 0 0)

-- an acceptance of the term u, and its values: cells, constructors and the length of what is written
pub record Accepts (write : Term Name → List ℕ) (syntax : Syntax) (formula cells text : List ℕ) (u : Term Name) (a b c : ℕ) : Type 0 where
  pub means : MeansWithin syntax formula cells u
  pub passes : PassesTests u
  pub fits : length (write u) ≤ length text
  pub cells_are : a ≡ cells_of means
  pub size_is : b ≡ size u
  pub length_is : c ≡ length (write u)
