-- `enter`: tested 17.
use mathlib.Core.Path.{◌∙◌}
use native.Mathlib.Omega.{arith}
use Rattle.choices.proofs.ChoiceLaws.{kinds_are}
use Rattle.turns.proofs.BeginLaws as laws
use Rattle.turns.proofs.begins.enter.Goals as goal

pub returns-then-place-lt-NO_PLACE : goal.returns-then-place-lt-NO_PLACE
returns-then-place-lt-NO_PLACE c =
    λ depth positive.
    record {
      starts =
          λ S rows h m.
          laws.starts_at h c.args.tokens.now rows _ _ _ _ (λ e. omega (arith, positive, e)) c.requires.may_call c.kind_at-kind.ensures
          (c.choose-place.ensures S.patterns S.bytes h.held m) c.if-place-lt-NO_PLACE.true c.start.ensures c.with_call.ensures;
    }

pub returns : goal.returns
returns c =
    λ depth positive.
    record {
      starts =
          λ S rows h m.
          laws.starts_nowhere h c.args.tokens.now rows _ _ _ _ (λ e. omega (arith, positive, e)) c.requires.may_call c.kind_at-kind.ensures
          (c.choose-place.ensures S.patterns S.bytes h.held m) c.if-place-lt-NO_PLACE.false (c.kinds_of.ensures ∙ kinds_are h.held _)
          c.misfit.ensures;
    }
