-- `load_params`: what is copied is the front of the parameters.
use Prim.Native.Nat.{◌+◌, ◌-◌}
use mathlib.Core.Path.{◌≡◌, refl}
use native.Mathlib.Omega.{arith}
use Rattle.bodies.proofs.BodyLaws as laws
use Rattle.bodies.proofs.items.load_params.Goals as goal

pub loop-i-init : goal.loop-i-init
loop-i-init c = laws.copying_start

pub loop-i-preserved : goal.loop-i-preserved
loop-i-preserved c =
    let here : c.loop-i.i + 1 - 1 ≡ c.loop-i.i = omega arith in
    rw here (laws.copying_next c.requires c.loop-i.invariant c.loop-i-test.true refl)

pub returns : goal.returns
returns c = record { count_is = c.saturating_sub.ensures; sorts_are = (laws.copying_end c.loop-i.invariant c.loop-i-test.false).sorts_are }
