-- `lay_answered`: the line is laid, and counted by its test.
use mathlib.Core.Path.{◌≡◌, refl, ap, ◌∙◌}
use mathlib.Core.Bool.{Bool, true, false}
use Prim.Native.Nat.{◌+◌}
use mir.Val.{bool_byte}
use Rattle.spellings.specs.Bytes.{one_if}
use Rattle.listed.proofs.LentLaws as laws
use Rattle.listed.proofs.lay_answered.Goals as goal

one_is : (test : Bool) → bool_byte test ≡ one_if test
one_is true = refl
one_is false = refl

pub returns : goal.returns
returns c =
    laws.tells _ c.line_at-listed.ensures c.answered-found.ensures c.lay_line-size.ensures c.differs.ensures refl
    (ap (λ n. c.args.told.differ + n) (c.from.ensures ∙ one_is c.differs.result))
