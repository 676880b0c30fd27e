-- `is_word`: the three tests of a word, one of them by the length of a run.
use mathlib.Core.Path.{sym}
use Rattle.spellings.proofs.BytesLaws.{is_word_empty, is_word_by}
use borrow.Author.Rules.{rules}
use Rattle.spellings.proofs.is_word.Goals as goal

pub returns-then-s-eq0 : goal.returns-then-s-eq0
returns-then-s-eq0 c = sym (is_word_empty c.args.s.now c.if-s-eq0.true)

pub returns : goal.returns
returns c =
    let s = c.args.s.now in
    cc (c.is_letter.ensures, c.word_run.ensures, is_word_by s (search rules))
