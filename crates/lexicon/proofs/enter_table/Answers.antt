-- `enter_table`: keywords, symbols, outside names, and their counts.
use Rattle.lexicon.proofs.LexiconLaws as laws
use Rattle.lexicon.proofs.enter_table.Goals as goal

pub enter_leading-keywords-requires : goal.enter_leading-keywords-requires
enter_leading-keywords-requires c =
    let asked = c.requires in
    laws.first_enters c.args.kinds asked.0 asked.1

pub mark_symbols-requires : goal.mark_symbols-requires
mark_symbols-requires c =
    let asked = c.requires in
    let keywords = c.enter_leading-keywords.ensures in (
      laws.few_marks _ asked.0 asked.1 keywords,
      laws.still_unmarked _ asked.0 asked.1 keywords,
      keywords.spelled.long,
    )

pub enter_leading-spellings-requires : goal.enter_leading-spellings-requires
enter_leading-spellings-requires c =
    let asked = c.requires in
    laws.second_enters _ asked.0 asked.1 c.enter_leading-keywords.ensures (c.mark_symbols.ensures.symbols, c.mark_symbols.ensures.same_places)

pub returns : goal.returns
returns c =
    let asked = c.requires in
    laws.lexical _ asked.0 asked.1 c.enter_leading-keywords.ensures (c.mark_symbols.ensures.symbols, c.mark_symbols.ensures.same_places)
    c.after_leading-names.result
    c.after_leading-names.ensures c.enter_leading-spellings.ensures
