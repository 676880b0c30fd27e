-- `Sort::fits`: the same tests.
use mathlib.Core.Path.{refl}
use Rattle.grammar.specs.SortTests.{fits}
use Rattle.grammar.proofs.sorts.Sort.fits.Goals as goal

pub returns : goal.returns
unfolding fits
returns c = refl
