-- `text_result`: the rows that are held for the field, under the values of the variables.
use Rattle.steps.proofs.TextLaws as laws
use Rattle.steps.proofs.texts.text_result.Goals as goal

pub returns : goal.returns
returns c = search laws.text_given
