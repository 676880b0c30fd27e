-- `write_checked`: the check's refusal, or the expansion under the table that passed.
use mathlib.Core.Path.{refl, sym, ◌∙◌}
use Rattle.std.proofs.lemmas.Result.{err_from_is_err_and}
use Rattle.meaning.proofs.Stages.{expand_refused}
use Rattle.handover.proofs.write_checked.Goals as goal

pub expand_passed-requires : goal.expand_passed-requires
expand_passed-requires c =
    let pre = c.requires in record { holds_passed = pre.checked_room.holds c.in_ok-verdict.was; writable = pre.writable }

pub returns-in_err-verdict : goal.returns-in_err-verdict
returns-in_err-verdict c =
    let pre = c.requires in
    let p = err_from_is_err_and c.from_residual.result c.from_residual.ensures.1 in
    rw (p.1, p.2) (record { wrote = sym (expand_refused _ _ (sym pre.checked_room.answer ∙ c.in_err-verdict.was) _ _ _); kept = refl })
