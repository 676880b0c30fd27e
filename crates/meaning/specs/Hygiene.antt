-- What demand 3 asks of an expansion, from the bytes of a table and a formula to the text at exit. Document 01, "Whose name is whose".
use Rattle.std.specs.Prelude.{ℕ, ◌<◌, ◌≡◌, List, [], ◌++◌, map, length, get_or, drop, Err}
use Rattle.answers.specs.declared.Refusal.{Refusal}
use Rattle.answers.specs.Refusals.{Answer, accepted}
use Rattle.kinds.specs.Kinds.{word_kind}
use Rattle.decoding.specs.Within.{Each, Among}
use Rattle.tokens.specs.declared.Token.{Token}
use Rattle.tokens.specs.Tiling.{bytes_of}
use Rattle.checker.specs.Syntax.{Syntax, syntax_of}
use Rattle.checker.specs.Passes.{Passes}
use Rattle.soundness.specs.Places.{Supplied, given_in, Placed}
use Rattle.terms.specs.Term.{Name, Term}
use Rattle.terms.specs.Print.{none, more, tree_of, print}
use Rattle.terms.specs.Parts.{constructors, shape}
use Rattle.terms.specs.Binding.{Occurrence, use_of, constructors_in_all, nesting_all}
use Rattle.terms.specs.Reading.{read_text}
use Rattle.meaning.specs.Meaning.{spell_of, Means, in_text, Cause, Accepts}
use Rattle.meaning.specs.Origins.{Occurs, IsOwned}
use Rattle.meaning.specs.Naming.{Named}

-- The text `out` is the one term u of demand 2, printed. Each part of u has the sort that its place demands; its words are tokens of the formula,
-- each the bytes of its token, its outside names the table's spellings. The text has u's constructors and labels; its names are u's, but for new names,
-- `_1`, `_2` and on from the left, for exactly the binders that document 01 renames and for their variables; and each of its variables belongs, by
-- nesting and bytes, to exactly the binder that its origin calls for.
pub record Hygienic (syntax : Syntax) (formula : List ℕ) (u : Term Name) (out : List ℕ) : Type 0 where
  pub means : Means syntax formula u
  pub only : (w : Term Name) → Means syntax formula w → w ≡ u
  pub sorted : Placed (given_in means.parsed.derived) (spell_of syntax means.words) u
  pub supplied : Each (Supplied means.tokens (length syntax.lexicon.outsides)) (given_in means.parsed.derived)
  pub words_as_written : (w : Token) → Among means.tokens w → w.kind ≡ word_kind → spell_of syntax means.words w.value ≡ bytes_of formula w
  pub outsides_as_listed : (n : ℕ) → n < length syntax.lexicon.outsides → spell_of syntax means.words n ≡ get_or syntax.lexicon.outsides n []
  pub shown : Term (List ℕ)
  pub next_number : ℕ
  pub named : Named [] 1 u shown next_number
  pub printed : out ≡ print shown
  pub reads_back : read_text out ≡ more (tree_of shown) none
  pub same_constructors : constructors_in_all (read_text out) ≡ constructors u
  pub labels_stay : shape shown ≡ shape u
  pub occurrences : List Occurrence
  pub occur : Occurs [] 0 u occurrences
  pub owned : Each IsOwned occurrences
  pub whose : nesting_all [] 0 (read_text out) ≡ map use_of occurrences

-- Under the syntax of a passed table: an answer, with the text at exit, is a refusal 14 to 24 in its case and the text as lent, or an acceptance of the term
-- and a hygienic text of it in front of what was lent.
pub data Ends (syntax : Syntax) (formula cells text : List ℕ) : Answer → List ℕ → Type 0 where
  refuses : {r : Refusal} → Cause in_text syntax formula cells text r → Ends syntax formula cells text (Err r) text
  prints : {a b : ℕ} {u : Term Name} {out : List ℕ}
      → Accepts in_text syntax formula cells text u a b (length out)
      → Hygienic syntax formula u out
      → Ends syntax formula cells text (accepted a b (length out)) (out ++ drop (length out) text)

-- demand 3, of the bytes of any table
abbrev pub Demand3 : List ℕ → List ℕ → List ℕ → List ℕ → Answer → List ℕ → Type 0
Demand3 table formula cells text answer text' = (P : Passes table) → Ends (syntax_of P.table) formula cells text answer text'
