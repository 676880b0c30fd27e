-- Normalizing preserves typing (001, section 4.2): the productions of an elaborated table have the sorts of its last environment.
use Rattle.grammar.specs.Table.{Table}
use Rattle.grammar.specs.Written.{Written}
use Rattle.decoding.specs.Within.{Within, Among}
use Rattle.productions.specs.Normal.{Production, normalized}
use Rattle.elaboration.specs.Elaboration.{Elaborates, scope_of}
use Rattle.elaboration.proofs.Ranges.{table_fine}
use Rattle.elaboration.proofs.Normalizing.{Fit}
use Rattle.elaboration.proofs.SortTheorems.{elaborated_sorted}
use Rattle.soundness.proofs.Typing.{FitAll}

-- Each production of an elaborated table fits its scope.
pub each_fits : {table : Written} {made : Table} → Within table → (elaborates : Elaborates table made) → (p : Production)
    → Among (normalized made.blocks) p → Fit (scope_of elaborates) p
each_fits z = elaborated_sorted (table_fine z)

-- the productions of an elaborated table fit it
abbrev pub table_fits : {table : Written} {made : Table} → Within table → Elaborates table made → FitAll (normalized made.blocks)
table_fits z e = record { scope = scope_of e; keyword_count = z.keyword_count; outside_count = z.outside_count; each = each_fits z e }
