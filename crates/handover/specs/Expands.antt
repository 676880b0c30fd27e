-- What an expansion under a passed table promises, whatever is written of its term. Nobody needs this to believe `expand` or `portions`.
use Rattle.std.specs.Prelude.{◌≡◌, List, ℕ}
use Rattle.answers.specs.Refusals.{Answer}
use Rattle.emitter.specs.declared.Writing.{Writing}
use Rattle.emitter.specs.Writing.{writes, lent_for, spare}
use Rattle.meaning.specs.Expand.{expanded, expand_by}

-- The answer, the cells and the buffer that what is written goes into, a text or a list, are those of the expansion; the other buffer is as it was.
pub record Expands (writing : Writing) (table formula cells text list : List ℕ) (answer : Answer) (cells' text' list' : List ℕ) : Type 0 where
  pub wrote : expanded answer cells' (lent_for writing text' list') ≡ expand_by (writes writing) table formula cells (lent_for writing text list)
  pub kept : spare writing text' list' ≡ spare writing text list
