-- `hashed_turns`: the bits of both hashes, and a 1 behind them.
use mathlib.Core.Path.{refl}
use Rattle.lexicon.proofs.PathLaws as laws
use borrow.Author.Rules.{rules}
use Rattle.lexicon.proofs.trees.hashed_turns.Goals as goal

pub returns : goal.returns
returns c = laws.both_window _ c.requires (search rules) c.second.ensures refl
