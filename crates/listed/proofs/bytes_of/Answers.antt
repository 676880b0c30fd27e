-- `bytes_of`: by the table.
use mathlib.Core.Path.{refl}
use Rattle.listed.specs.Lent.{bytes_of}
use Rattle.listed.proofs.bytes_of.Goals as goal

pub returns-in-House : goal.returns-in-House
unfolding bytes_of
returns-in-House c = rw c.in-House.is refl

pub returns-in-Twice : goal.returns-in-Twice
unfolding bytes_of
returns-in-Twice c = rw c.in-Twice.is refl

pub returns-in-SixteenLevels : goal.returns-in-SixteenLevels
unfolding bytes_of
returns-in-SixteenLevels c = rw c.in-SixteenLevels.is refl

pub returns-in-SeventeenLevels : goal.returns-in-SeventeenLevels
unfolding bytes_of
returns-in-SeventeenLevels c = rw c.in-SeventeenLevels.is refl
