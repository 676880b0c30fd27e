-- `has_fields`: the rows from the present one on tell of all.
use Rattle.labels.proofs.FieldLaws as laws
use Rattle.labels.proofs.has_fields.Goals as goal

pub returns-then-code-eq-FIELD_CONS : goal.returns-then-code-eq-FIELD_CONS
returns-then-code-eq-FIELD_CONS c = search laws.looking_stop

pub loop-row-preserved : goal.loop-row-preserved
loop-row-preserved c = search laws.looking_next

pub returns : goal.returns
returns c = search laws.looking_end
