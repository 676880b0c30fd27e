-- `name_value`: the tag decides.
use Rattle.templates.proofs.VariableLaws as laws
use Rattle.templates.proofs.name_value.Goals as goal

pub returns-then-tag-eq-NAME_AS_VAR : goal.returns-then-tag-eq-NAME_AS_VAR
returns-then-tag-eq-NAME_AS_VAR c = search laws.name_var

pub returns-else-tag-eq-NAME_AS_VAR : goal.returns-else-tag-eq-NAME_AS_VAR
returns-else-tag-eq-NAME_AS_VAR c = search laws.name_label
