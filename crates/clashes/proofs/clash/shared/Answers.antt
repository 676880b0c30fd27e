-- `shared`: what is seen and what is found of the places that are past.
use Rattle.clashes.proofs.PairsLaws as laws
use Rattle.clashes.proofs.clash.shared.Goals as goal

pub loop-i-init : goal.loop-i-init
loop-i-init c = laws.sharing_start _ c.first_place-i.ensures

pub loop-i-smaller : goal.loop-i-smaller
loop-i-smaller c = search laws.sharing_less

pub loop-i-preserved : goal.loop-i-preserved
loop-i-preserved c = search laws.sharing_next

pub returns : goal.returns
returns c = search laws.sharing_end
