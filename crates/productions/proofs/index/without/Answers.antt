-- `without`: the entries that are kept move down, those of the nonterminal are dropped.
use Rattle.productions.proofs.IndexLaws as laws
use Rattle.productions.proofs.index.without.Goals as goal
use Rattle.productions.proofs.index.without.Goals.{then-owner-n, else-owner-n}

pub loop-i-init : goal.loop-i-init
loop-i-init c = laws.dropping_start _ _ _ _ c.requires

pub loop-i-preserved : goal.loop-i-preserved
loop-i-preserved c =
    elim c.if-owner-n.branch [
      | then-owner-n w ↦ rw (w.owners-is, w.starts-is, w.w-is) (laws.dropping_kept c.loop-i.invariant c.loop-i-test.true w.if-owner-n.true)
      | else-owner-n w ↦ rw (w.owners-is, w.starts-is, w.w-is) (laws.dropping_dropped c.loop-i.invariant c.loop-i-test.true w.if-owner-n.false)
    ]

pub returns : goal.returns
returns c = search laws.dropping_end
