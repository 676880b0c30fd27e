-- `lay_number`: the digits that the library makes.
use Rattle.std.proofs.Common.{ℕ, List, arith, ◌∙◌, subst}
use Rattle.rooms.specs.Laying.{Lays}
use Rattle.reports.proofs.DigitLaws.{digits_decimal}
use Rattle.spellings.proofs.DecimalLaws.{decimal_bound}
use Rattle.reports.proofs.lay_number.Goals as goal

pub returns : goal.returns
returns c =
    let digits = c.as_bytes.ensures.value ∙ c.format-text.ensures.text ∙ digits_decimal c.args.v (omega arith) in
    let laid = subst (λ (part : List ℕ). Lays c.args.line.now c.args.at part c.lay.result c.lay.new.room) digits c.lay.ensures in
    record { lays = laid; v_len_bound = decimal_bound 19 _ (omega arith) }
