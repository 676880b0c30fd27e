-- `pattern_of`: by the terminal.
use Rattle.patterns.proofs.PatternLaws as laws
use Rattle.patterns.proofs.pattern_of.Goals as goal

pub returns-in-Ide : goal.returns-in-Ide
returns-in-Ide c = search laws.pattern_ide

pub returns-in-Place : goal.returns-in-Place
returns-in-Place c = search laws.pattern_place
