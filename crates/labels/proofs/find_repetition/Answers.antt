-- `find_repetition`: rows without a field need no walk; else a room with a stamp for each number that a label may have.
use native.Mathlib.Omega.{arith}
use Rattle.labels.proofs.WholeLaws as laws
use Rattle.labels.proofs.find_repetition.Goals as goal

pub returns-then-not-has_fields : goal.returns-then-not-has_fields
returns-then-not-has_fields c = search laws.nothing_found

pub search_in-requires-clause-searchable : goal.search_in-requires-clause-searchable
search_in-requires-clause-searchable c = laws.searchable c.requires 128 (omega arith)

pub search_in-requires-2-clause-searchable : goal.search_in-requires-2-clause-searchable
search_in-requires-2-clause-searchable c = laws.searchable c.requires 4160 (omega (arith, c.requires.few))
