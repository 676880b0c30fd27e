-- `file_name`: by the table.
use mathlib.Core.Path.{refl}
use Rattle.spellings.specs.Bytes.{bytes}
use Rattle.boundaries.specs.Lines.{file_name}
use Rattle.boundaries.proofs.file_name.Goals as goal

pub returns-in-House : goal.returns-in-House
unfolding bytes file_name
returns-in-House c = rw c.in-House.is refl

pub returns-in-Twice : goal.returns-in-Twice
unfolding bytes file_name
returns-in-Twice c = rw c.in-Twice.is refl

pub returns-in-SixteenLevels : goal.returns-in-SixteenLevels
unfolding bytes file_name
returns-in-SixteenLevels c = rw c.in-SixteenLevels.is refl

pub returns-in-SeventeenLevels : goal.returns-in-SeventeenLevels
unfolding bytes file_name
returns-in-SeventeenLevels c = rw c.in-SeventeenLevels.is refl
