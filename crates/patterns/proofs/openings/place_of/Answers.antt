-- `place_of`: by the terminal.
use Rattle.patterns.proofs.OpeningLaws as laws
use Rattle.patterns.proofs.openings.place_of.Goals as goal

pub returns-in-Place : goal.returns-in-Place
returns-in-Place c = search laws.place_own
