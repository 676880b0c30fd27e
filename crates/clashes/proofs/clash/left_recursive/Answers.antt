-- `left_recursive`: no lower nonterminal reaches itself.
use mathlib.Core.Path.{◌≡◌, ◌∙◌}
use native.Mathlib.Omega.{arith}
use Rattle.clashes.proofs.PairsLaws as laws
use Rattle.clashes.proofs.clash.left_recursive.Goals as goal

pub loop-n-init : goal.loop-n-init
loop-n-init c = laws.lowest_start

pub returns-then-found : goal.returns-then-found
returns-then-found c =
    laws.lowest_stop c.loop-n.invariant c.loop-n-test.true
    (laws.reach_is _ c.set_at-reached.ensures c.has-found.ensures ∙ c.if-found.true)

pub loop-n-preserved : goal.loop-n-preserved
loop-n-preserved c =
    laws.lowest_next c.loop-n.invariant c.loop-n-test.true
    (laws.reach_is _ c.set_at-reached.ensures c.has-found.ensures ∙ c.if-found.false)

pub returns : goal.returns
returns c =
    let z : c.args.many ≡ c.loop-n.n = omega (arith, c.loop-n-test.false, c.loop-n.auto.n-end) in
    z ∙ laws.lowest_end c.loop-n.invariant c.loop-n-test.false
