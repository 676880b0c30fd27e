-- The whole expansion: from the bytes of a table and a formula, the cells and the text as lent, to the answer, the cells and the
-- text at exit. Document 01, "Causes, by number": "Every expansion checks the table again". What is written of a term is a parameter: its text, or what
-- document 02 puts in place of it.
use Rattle.std.specs.Prelude.{ℕ, List, Err, Ok}
use Rattle.answers.specs.declared.Refusal.{Refusal}
use Rattle.answers.specs.Refusals.{Answer}
use Rattle.answers.specs.Checked.{Checked, ok, bad}
use Rattle.tokens.specs.Scanned.{Scanned}
use Rattle.tokens.specs.Scan.{Lexed, scan}
use Rattle.tokens.specs.Tokens.{spelled}
use Rattle.checker.specs.Syntax.{Syntax}
use Rattle.checker.specs.Check.{passed_table}
use Rattle.expansion.specs.Run.{Result, done, halt}
use Rattle.expansion.specs.Expansion.{input_of, run}
use Rattle.terms.specs.Term.{Name, Term}
use Rattle.terms.specs.Rows.{term_at}
use Rattle.terms.specs.Emit.{text_of, Emitted, emitted}

-- the answer, and all that was lent as it is at exit
pub record Expanded : Type 0 where
  pub answer : Answer
  pub cells : List ℕ
  pub text : List ℕ

-- a call's answer, with the cells and the text as they then are
abbrev pub expanded : Answer → List ℕ → List ℕ → Expanded
expanded answer cells text = record { answer = answer; cells = cells; text = text }

-- a refusal leaves the text as it was
abbrev pub refused : Refusal → List ℕ → List ℕ → Expanded
refused r cells text = record { answer = Err r; cells = cells; text = text }

-- the last step of an expansion, beside the cells
abbrev pub with_cells : List ℕ → Emitted → Expanded
with_cells cells e = record { answer = e.answer; cells = cells; text = e.text }

-- ------------------------------------------------------------------ from a passed table

-- the last step with the term at the root's row
abbrev pub finished : (Term Name → List ℕ) → (ℕ → List ℕ) → List ℕ → Result ℕ → Expanded
finished write spelling text (halt r cells) = refused r cells text
finished write spelling text (done v s cells) = with_cells cells (emitted write s.made (term_at s.made spelling cells v) text)

abbrev pub scanned : (Term Name → List ℕ) → Syntax → Lexed → Scanned → List ℕ → List ℕ → Expanded
scanned write syntax l (Err r) cells text = refused r cells text
scanned write syntax l (Ok (n, m)) cells text =
    finished write (spelled syntax.lexicon l.words) text (run (input_of syntax.productions l.tokens cells) syntax.root cells)

unfoldable pub expand_table : (Term Name → List ℕ) → Syntax → List ℕ → List ℕ → List ℕ → Expanded
expand_table write syntax formula cells text =
    let l : Lexed = scan syntax.lexicon formula in
    scanned write syntax l l.answer cells text

-- ------------------------------------------------------------------ from bytes to bytes

abbrev pub checked_first : (Term Name → List ℕ) → Checked Syntax → List ℕ → List ℕ → List ℕ → Expanded
checked_first write (bad r) formula cells text = refused r cells text
checked_first write (ok syntax) formula cells text = expand_table write syntax formula cells text

-- an expansion of which `write` gives what is written of its term
unfoldable pub expand_by : (Term Name → List ℕ) → List ℕ → List ℕ → List ℕ → List ℕ → Expanded
expand_by write table formula cells text = checked_first write (passed_table table) formula cells text

-- that of document 01, of which the text is written
abbrev pub expand : List ℕ → List ℕ → List ℕ → List ℕ → Expanded
expand table formula cells text = expand_by text_of table formula cells text
