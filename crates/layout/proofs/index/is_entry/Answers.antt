-- `is_entry`: another hash is another spelling; else the bytes are compared.
use mathlib.Core.Path.{refl, ◌∙◌}
use Rattle.layout.proofs.IndexLaws as laws
use Rattle.layout.proofs.index.is_entry.Goals as goal

pub returns-then-room-at : goal.returns-then-room-at
returns-then-room-at c = λ w p e f. laws.entry_other _ e f refl c.if-room-at.true

pub returns : goal.returns
returns c =
    λ w p e f. c.equal.ensures
    ∙ laws.entry_same _ e refl refl c.part.ensures
