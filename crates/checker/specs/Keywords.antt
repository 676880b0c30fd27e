-- What a table gives the scanner. Document 02, C-13: "A keyword is from now on only one that occurs in an alternative reachable by calls from the root."
use Rattle.std.specs.Prelude.{[]}
use Rattle.grammar.specs.Table.{Table, Lexicon}
use Rattle.keywords.specs.KeptSpellings.{spellings_kept}
use Rattle.productions.specs.Normal.{normalized}
use Rattle.firsts.specs.Reach.{kinds_reached}

-- its outside names, and the spellings of its keywords that the root reaches
abbrev pub lexicon_of_table : Table → Lexicon
lexicon_of_table t = record { keywords = spellings_kept (kinds_reached (normalized t.blocks) t.root) 0 t.keywords; outsides = t.outsides; variables = [] }
