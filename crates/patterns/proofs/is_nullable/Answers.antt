-- `is_nullable`: by the symbol.
use Rattle.patterns.proofs.PatternLaws as laws
use Rattle.patterns.proofs.is_nullable.Goals as goal

pub returns-in-Call : goal.returns-in-Call
returns-in-Call c = search laws.nullable_call
