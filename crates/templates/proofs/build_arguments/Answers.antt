-- `build_arguments`: the templates ahead, one by one.
use borrow.Author.Rules.{rules}
use Rattle.templates.proofs.ArgumentLaws as laws
use Rattle.templates.proofs.VariableLaws.{holds_more, kept_behind}
use Rattle.templates.proofs.build_arguments.Goals as goal

pub head_at-requires : goal.head_at-requires
head_at-requires c = (laws.listing_first c.loop-at.invariant.0 c.loop-at-test.true).0

pub returns-in_err-x-in-Node : goal.returns-in_err-x-in-Node
returns-in_err-x-in-Node c =
    rw c.from_residual.ensures
    (record {
      lists = laws.listing_full c.loop-at.invariant.0 c.loop-at-test.true _ _ c.build_node.ensures c.in_err-x-in-Node.was;
      few = tt;
      kept = tt;
    })

pub returns : goal.returns
returns c = record { lists = search laws.listing_end; few = search rules; kept = search rules }

pub loop-at-preserved-in-Leaf : goal.loop-at-preserved-in-Leaf
loop-at-preserved-in-Leaf c =
    let inv = c.loop-at.invariant in (
      laws.leaf_next inv.0 c.loop-at-test.true c.head_at.result c.in-Leaf.is c.head_at.ensures.by_index
          c.head_at.ensures.heads c.put.new.env (holds_more _ c.put.ensures),
      inv.1,
      kept_behind _ c.put.ensures inv.2,
    )

pub loop-at-preserved : goal.loop-at-preserved
loop-at-preserved c = (
  laws.listing_next c.loop-at.invariant.0 c.loop-at-test.true _ _ c.build_node.ensures (search rules)
      c.in_ok-x-in-Node.was c.put-in-Node.new.env (holds_more _ c.put-in-Node.ensures),
  cc,
  kept_behind _ c.put-in-Node.ensures c.loop-at.invariant.2,
)
