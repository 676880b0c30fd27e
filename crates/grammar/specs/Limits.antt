-- How much a table may have. Document 01, "Phrase table". grammar/src/limits.rt has the same numbers.
use Rattle.std.specs.Prelude.{ℕ}

pub record Limits : Type 0 where
  pub bytes : ℕ
  pub keywords : ℕ
  pub outsides : ℕ
  pub blocks : ℕ
  pub alternatives : ℕ
  pub items : ℕ
  pub parameters : ℕ
  pub nonterminals : ℕ

-- the most of each: items in an alternative, parameters of a nonterminal, the others in the whole table; nonterminals are numbered from 0
abbrev pub most : Limits
most = record { bytes = 16384; keywords = 62; outsides = 64; blocks = 16; alternatives = 256; items = 12; parameters = 4; nonterminals = 64 }
