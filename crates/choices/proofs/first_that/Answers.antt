-- `first_that`: no place of the nonterminal before j passes; for any test, so also for one that none passes.
use mathlib.Core.Path.{refl, sym, ◌∙◌}
use mathlib.Core.Bool.{false}
use native.Mathlib.Omega.{arith}
use Rattle.choices.proofs.ChoiceLaws as laws
use Rattle.choices.proofs.first_that.Goals as goal

pub loop-j-init : goal.loop-j-init
loop-j-init g c = (
  λ P bs h. laws.walk_start h c.requires.held.1 (λ entry. false) c.first_place-j.ensures,
  λ P bs h passes told. laws.walk_start h c.requires.held.1 passes c.first_place-j.ensures,
)

pub returns : goal.returns
returns g c =
    λ P bs h passes told.
    laws.walk_end h c.requires.held.1 passes (c.loop-j.invariant.1 P bs h passes told) c.loop-j-test.false

pub returns-then-fits : goal.returns-then-fits
returns-then-fits g c =
    λ P bs h passes told.
    let walking = c.loop-j.invariant.1 P bs h passes told in
    let tested = sym (told _ _ (walking.inside c.loop-j-test.true) c.test-fits.ensures) ∙ c.if-fits.true in
    laws.walk_found h c.requires.held.1 passes walking c.loop-j-test.true tested

pub loop-j-smaller : goal.loop-j-smaller
loop-j-smaller g c =
    let held = c.requires.held.0.held in
    let walking = c.loop-j.invariant.0 _ _ held in
    omega (arith, (laws.walk-next held c.requires.held.1 (λ entry. false) walking c.loop-j-test.true refl c.next_place-j.ensures).0, c.loop-j-test.true)

pub loop-j-preserved : goal.loop-j-preserved
loop-j-preserved g c = (
  λ P bs h.
      (laws.walk-next h c.requires.held.1 (λ entry. false) (c.loop-j.invariant.0 P bs h) c.loop-j-test.true refl c.next_place-j.ensures).1,
  λ P bs h passes told.
      let walking = c.loop-j.invariant.1 P bs h passes told in
      let tested = sym (told _ _ (walking.inside c.loop-j-test.true) c.test-fits.ensures) ∙ c.if-fits.false in
      (laws.walk-next h c.requires.held.1 passes walking c.loop-j-test.true tested c.next_place-j.ensures).1,
)
