-- `redefine`: the mode decides.
use Rattle.productions.proofs.IndexLaws as laws
use Rattle.productions.proofs.index.redefine.Goals as goal

pub returns-then-mode-eq-UPDATE : goal.returns-then-mode-eq-UPDATE
returns-then-mode-eq-UPDATE c = search laws.redefine_update

pub returns-else-mode-eq-UPDATE : goal.returns-else-mode-eq-UPDATE
returns-else-mode-eq-UPDATE c = search laws.redefine_other
