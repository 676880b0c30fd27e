-- An expansion under which every keyword of a table counts, as in document 01. Document 02, C-13, holds the calls to it: "tables whose keywords are all
-- reachable expand as before".
use Rattle.std.specs.Prelude.{ℕ, true, false, List, []}
use Rattle.answers.specs.Checked.{Checked, ok, ◌>>=◌, ◌>>◌}
use Rattle.answers.specs.Refusals.{refusal}
use Rattle.grammar.specs.Table.{Table, Lexicon}
use Rattle.decoding.specs.Decode.{decode}
use Rattle.elaboration.specs.CheckSequence.{check_sorts}
use Rattle.productions.specs.Normal.{normalized}
use Rattle.clashes.specs.CheckFirsts.{check_firsts}
use Rattle.checker.specs.Syntax.{Syntax}
use Rattle.terms.specs.Term.{Name, Term}
use Rattle.portions.specs.Portions.{portions_of, are_counts}
use Rattle.meaning.specs.Expand.{Expanded, refused, checked_first}

-- every keyword has its spelling
abbrev pub every_keyword : Table → Lexicon
every_keyword t = record { keywords = t.keywords; outsides = t.outsides; variables = [] }

-- what an expansion needs of a table, with these
abbrev pub syntax_every : Table → Syntax
syntax_every t = record { lexicon = every_keyword t; productions = normalized t.blocks; root = t.root }

unfoldable pub passed_every : List ℕ → Checked Syntax
passed_every bs = decode bs >>= λ t. check_sorts t >>= λ u. check_firsts (normalized u.blocks) >> ok (syntax_every u)

-- `expand_by` and `portions` by it
unfoldable pub expand_every : (Term Name → List ℕ) → List ℕ → List ℕ → List ℕ → List ℕ → Expanded
expand_every write table formula cells text = checked_first write (passed_every table) formula cells text

unfoldable pub portions_every : ℕ → ℕ → List ℕ → List ℕ → List ℕ → List ℕ → Expanded
portions_every written wanted table formula cells list =
    elim (are_counts written wanted) [
      | false ↦ refused (refusal 25 0 0 0) cells list
      | true ↦ expand_every (portions_of written wanted) table formula cells list
    ]
