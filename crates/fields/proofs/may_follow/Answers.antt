-- `may_follow`: the tag is in the set of those before.
use mathlib.Core.Path.{◌∙◌}
use Rattle.fields.proofs.may_follow.Goals as goal

pub returns : goal.returns
returns c = c.has.ensures ∙ c.tags_before.ensures _
