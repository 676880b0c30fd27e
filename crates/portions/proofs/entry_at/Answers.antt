-- `entry_at`: an entry is three stores, or none where the list ends before.
use Rattle.portions.proofs.ListLaws as laws
use Rattle.portions.proofs.entry_at.Goals as goal

pub returns-then-end-list : goal.returns-then-end-list
returns-then-end-list c = search laws.entry_put

pub returns-else-end-list : goal.returns-else-end-list
returns-else-end-list c = search laws.entry_long
