-- `is_fields`: the two codes of field lists.
use Rattle.rows.proofs.SumLaws as laws
use Rattle.rows.proofs.sums.is_fields.Goals as goal

pub returns : goal.returns
returns c = laws.fields_code _
