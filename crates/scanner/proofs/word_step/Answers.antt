-- `word_step`: a word by the table, or by the words met.
use mathlib.Core.Path.{ap, ◌∙◌}
use native.Mathlib.Omega.{arith}
use Rattle.lexicon.specs.Trees.{hash_of}
use Rattle.scanner.proofs.MadeLaws as laws
use Rattle.scanner.proofs.word_step.Goals as goal

pub returns-then-size-gt-LONGEST_WORD : goal.returns-then-size-gt-LONGEST_WORD
returns-then-size-gt-LONGEST_WORD c = search laws.long_made

pub class_of-name-requires : goal.class_of-name-requires
class_of-name-requires c =
    let asked = c.requires.at_in_bounds in
    let here = laws.word_here asked.0 asked.2 c.word_at-run.ensures c.if-size-gt-LONGEST_WORD.false c.part.ensures in
    (c.requires.ready.lexical, laws.here_hash here)

pub overflow_add-k : goal.overflow_add-k
overflow_add-k c =
    omega (arith, laws.keyword_small c.requires.ready.lexical.held c.part.result.now c.class_of-name.ensures c.in-Keyword.is)

pub own_word-requires : goal.own_word-requires
own_word-requires c =
    let asked = c.requires.at_in_bounds in
    let here = laws.word_here asked.0 asked.2 c.word_at-run.ensures c.if-size-gt-LONGEST_WORD.false c.part.ensures in
    let hash = laws.here_hash here ∙ ap hash_of c.part.ensures in record {
      planted = (laws.ready_planted c.requires.ready, hash);
      at_le_longest_formula = (omega arith, omega (arith, c.if-size-gt-LONGEST_WORD.false), omega (arith, c.requires.ready.few));
    }

pub returns-in-Keyword : goal.returns-in-Keyword
returns-in-Keyword c =
    let asked = c.requires.at_in_bounds in
    let here = laws.word_here asked.0 asked.2 c.word_at-run.ensures c.if-size-gt-LONGEST_WORD.false c.part.ensures in
    laws.keyword_made here c.requires.ready.lexical.held.few_outsides c.class_of-name.ensures c.in-Keyword.is c.emit.ensures

pub returns-in-Outside : goal.returns-in-Outside
returns-in-Outside c =
    let asked = c.requires.at_in_bounds in
    let here = laws.word_here asked.0 asked.2 c.word_at-run.ensures c.if-size-gt-LONGEST_WORD.false c.part.ensures in
    laws.outside_made here c.requires.ready.lexical.held.few_outsides c.class_of-name.ensures c.in-Outside.is c.emit-in-Outside.ensures

pub returns-in-Other : goal.returns-in-Other
returns-in-Other c =
    let asked = c.requires.at_in_bounds in
    let here = laws.word_here asked.0 asked.2 c.word_at-run.ensures c.if-size-gt-LONGEST_WORD.false c.part.ensures in
    laws.other_made here c.requires.ready.lexical.held.few_outsides c.class_of-name.ensures c.in-Other.is c.own_word.ensures
