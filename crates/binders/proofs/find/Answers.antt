-- `find`: every first row of the name is older than where the links have led.
use mathlib.Core.Path.{refl}
use native.Mathlib.Omega.{arith}
use Rattle.binders.proofs.LinkLaws as laws
use Rattle.binders.proofs.find.Goals as goal

pub hash-requires : goal.hash-requires
hash-requires c = c.requires.some

pub loop-p-init : goal.loop-p-init
loop-p-init c =
    (laws.chasing_start c.requires _ (cc (c.link_at-p.ensures, c.hash.ensures.0)), refl)

pub overflow_cast-row : goal.overflow_cast-row
overflow_cast-row c =
    omega (arith, laws.chasing_inside c.requires _ c.loop-p.invariant.0 c.loop-p-test.true)

pub returns-then-y-x : goal.returns-then-y-x
returns-then-y-x c = (
  laws.chasing_found c.requires _ c.loop-p.invariant.0 c.loop-p-test.true c.column-y.ensures
      c.if-y-x.true,
  omega (arith, laws.chasing_inside c.requires _ c.loop-p.invariant.0 c.loop-p-test.true),
)

pub overflow_add-half : goal.overflow_add-half
overflow_add-half c =
    omega (arith, laws.chasing_inside c.requires _ c.loop-p.invariant.0 c.loop-p-test.true)

pub loop-p-smaller : goal.loop-p-smaller
loop-p-smaller c =
    laws.chasing_less c.requires _ c.loop-p.invariant.0 c.loop-p-test.true
    c.column-y.ensures c.if-y-x.false c.link_at-p-in-loop-p.ensures

pub loop-p-preserved : goal.loop-p-preserved
loop-p-preserved c = (
  laws.chasing_next c.requires _ c.loop-p.invariant.0 c.loop-p-test.true
      c.column-y.ensures c.if-y-x.false c.link_at-p-in-loop-p.ensures,
  c.loop-p.invariant.1,
)

pub returns : goal.returns
returns c =
    (laws.chasing_end c.requires _ c.loop-p.invariant.0 c.loop-p-test.false, omega arith)
