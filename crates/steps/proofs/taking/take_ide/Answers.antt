-- `take_ide`: a word, or a token of a text that meets the ide.
use Rattle.steps.proofs.TokenLaws as laws
use Rattle.steps.proofs.taking.take_ide.Goals as goal

pub returns-then-here-eq-WORD_KIND : goal.returns-then-here-eq-WORD_KIND
returns-then-here-eq-WORD_KIND c =
    record {
      takes =
          λ I cells e.
          laws.ide_word I c.args.s cells c.args.sort c.args.tokens.now e c.kind_at-here.ensures
          c.value_at-word.ensures.0 c.if-here-eq-WORD_KIND.true c.word_value.ensures c.behind.ensures;
      spends = laws.taken_spends c.args.s c.behind.ensures;
    }
