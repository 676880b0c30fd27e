-- `check_end`: by the last tag.
use mathlib.Core.Path.{sym}
use Rattle.fields.proofs.Laws as laws
use Rattle.layout.proofs.check_end.Goals as goal

pub returns-then-s-eq-ROOT_TAG : goal.returns-then-s-eq-ROOT_TAG
returns-then-s-eq-ROOT_TAG c = sym (laws.end_root _ _ c.if-s-eq-ROOT_TAG.true)

pub returns : goal.returns
returns c = search laws.end_other
