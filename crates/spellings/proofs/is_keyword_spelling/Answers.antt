-- `is_keyword_spelling`: one byte is a letter or a symbol, any other number of them a word.
use mathlib.Core.Path.{sym, ap₂, ◌∙◌}
use mathlib.Core.Bool.{◌||◌}
use Rattle.spellings.proofs.BytesLaws.{is_keyword_one, is_keyword_word}
use Rattle.spellings.proofs.is_keyword_spelling.Goals as goal

pub returns-then-s-eq1 : goal.returns-then-s-eq1
returns-then-s-eq1 c =
    let is_letter_place = c in
    let then1 = is_letter_place in
    ap₂ ◌||◌ is_letter_place.is_letter.ensures c.is_symbol.ensures
    ∙ sym (is_keyword_one then1.args.s.now then1.if-s-eq1.true)

pub returns : goal.returns
returns c = c.is_word.ensures ∙ sym (is_keyword_word c.args.s.now c.if-s-eq1.false)
