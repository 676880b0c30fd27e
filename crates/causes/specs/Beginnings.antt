-- The beginnings of tables, of which `reached_begins` (proofs/CauseTheorems) says that the rules of 4 let nothing else pass. Nobody needs this file to
-- believe a refusal. Document 01, "Order: all 01, all 02, blocks, root. A block may have no definition; a definition has one alternative or more."
use Rattle.std.specs.Prelude.{◌≤◌, ◌≡◌, List, ◌++◌, reverse, length}
use Rattle.grammar.specs.Written.{WrittenDefinition, Written}
use Rattle.grammar.specs.Values.{Field}
use Rattle.grammar.specs.Encode.{table_fields}
use Rattle.decoding.specs.Within.{Each}

abbrev pub HasAlternative : WrittenDefinition → Type 0
HasAlternative d = 1 ≤ length d.alternatives

-- fields, newest first, are the first fields of a table, whatever its counts
pub record Begins (before : List Field) : Type 0 where
  pub table : Written
  pub alternatives : Each (Each HasAlternative) table.blocks
  pub behind : List Field
  pub fields : table_fields table ≡ reverse before ++ behind
