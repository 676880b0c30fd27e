-- The check of one field with a text, by the bytes of its table: as `check_text` of the elaboration has it, with the bytes up to the text's block for the
-- blocks before. These mirror code: nobody needs them to believe `expand`.
use Rattle.std.specs.Prelude.{ℕ, ◌&&◌, List, leb, ltb, length, get_or, take, Ok, Err}
use Rattle.answers.specs.Refusals.{Verdict, refusal}
use Rattle.answers.specs.Checked.{Checked, bad, ◌>>◌, need}
use Rattle.grammar.specs.Lookup.{lexicon_of}
use Rattle.tokens.specs.Variables.{dollars_below}
use Rattle.bodies.specs.Faults.{ItemSort, cause_of}
use Rattle.bodies.specs.HeadBytes.{signature_at, head_before}
use Rattle.clashes.specs.CheckFirsts.{check_firsts}
use Rattle.steps.specs.Source.{productions_from}
use Rattle.texts.specs.Reading.{TextContext, TextRead, check_reading}
use Rattle.elaborator.specs.TextHeads.{text_head}
use Rattle.elaborator.specs.TextsUnder.{text_source, scanned}

-- a field with a text where the check has come to it: the table's bytes and heads, the offset of the text's block, the texts that are held and the rows that
-- they made, the sorts of the alternative's variables, the offset of the field, its nonterminal, the sort that is asked, and the text
pub record TextField : Type 0 where
  pub bytes : List ℕ
  pub heads : List ℕ
  pub block : ℕ
  pub texts : List ℕ
  pub used : ℕ
  pub sorts : List ℕ
  pub at : ℕ
  pub nonterminal : ℕ
  pub asked : ℕ
  pub text : List ℕ

-- the bytes of the blocks before, and what a text is read under by them
abbrev pub bytes_before : TextField → List ℕ
bytes_before f = take f.block f.bytes

abbrev pub context_in : List ℕ → List ℕ → ℕ → TextContext
context_in bs texts used =
    record {
      keywords = (lexicon_of bs).keywords;
      outsides = (lexicon_of bs).outsides;
      productions = productions_from (text_source bs texts);
      used = used;
    }

abbrev pub context_at : TextField → TextContext
context_at f = context_in (bytes_before f) f.texts f.used

-- the head of its nonterminal from the blocks before
abbrev pub head_at : TextField → ℕ
head_at f = head_before f.bytes f.heads f.block f.nonterminal

-- the reading, where its nonterminal has a sort
abbrev pub reading_at : TextField → ℕ → Checked TextRead
reading_at f sort =
    check_reading (context_at f) f.nonterminal sort f.asked f.at (scanned (context_at f) f.sorts f.nonterminal f.text)

-- the check of the field: 9 for the nonterminal and each `$`, 11 if it has parameters, 12 and 13 of the blocks before, then the reading
unfoldable pub text_step_at : TextField → Checked TextRead
text_step_at f =
    need (ltb 0 (head_at f) && dollars_below (length f.sorts) f.text) 9 f.at
    >> need (leb (length (signature_at f.bytes (head_at f))) 1) 11 f.at
    >> check_firsts (context_at f).productions
    >> reading_at f (get_or (signature_at f.bytes (head_at f)) 0 0)

-- ------------------------------------------------------------------ by what the code finds

-- the tests of the head
abbrev pub text_head_at : TextField → ItemSort
text_head_at f = text_head f.bytes f.heads f.block f.nonterminal (length f.sorts) f.text

-- what follows the tests of the head of a field at an offset
abbrev pub behind_head : {A : Type 0} → ItemSort → ℕ → (ℕ → Checked A) → Checked A
behind_head (Ok sort) at more = more sort
behind_head (Err fault) at more = bad (refusal (cause_of fault) at 0 0)

-- what follows a verdict
abbrev pub behind_verdict : {A : Type 0} → Verdict → Checked A → Checked A
behind_verdict (Ok tt) more = more
behind_verdict (Err r) more = bad r
