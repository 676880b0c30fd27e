-- `pattern_sets`: the rounds that are left lead to the same sets.
use Rattle.productions.specs.Index.{productions_by}
use Rattle.patterns.proofs.PatternLaws as laws
use Rattle.patterns.proofs.pattern_sets.Given as goal

abbrev pub invariant-loop : goal.invariant-loop
invariant-loop l = laws.Rounding l.nulls (productions_by l.m l.table l.owners l.starts) l.counter l.sets
