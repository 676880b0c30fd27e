-- The check of a table, refusals 1 to 13 in document 01's order: "Checks".
use Rattle.std.specs.Prelude.{ℕ, List}
use Rattle.answers.specs.Checked.{Checked, ok, ◌>>=◌, ◌>>◌, verdict}
use Rattle.answers.specs.Refusals.{Verdict}
use Rattle.decoding.specs.Decode.{decode}
use Rattle.elaboration.specs.CheckSequence.{check_sorts}
use Rattle.productions.specs.Normal.{normalized}
use Rattle.clashes.specs.CheckFirsts.{check_firsts}
use Rattle.checker.specs.Syntax.{Syntax, syntax_of}

-- what an expansion needs of the table that some bytes are, if it passes
unfoldable pub passed_table : List ℕ → Checked Syntax
passed_table bs = decode bs >>= λ t. check_sorts t >>= λ u. check_firsts (normalized u.blocks) >> ok (syntax_of u)

-- what `check_table` answers
unfoldable pub check : List ℕ → Verdict
check bs = verdict (passed_table bs)
