-- `explain`: the run is done once more in zeroed cells.
use Rattle.reader.proofs.AttemptLaws as laws
use Rattle.reader.proofs.attempts.explain.Goals as goal

pub because-requires : goal.because-requires
because-requires c =
    c.run_text-outcome.ensures.few _ _ c.in-Ok.is

pub returns-in-Err : goal.returns-in-Err
returns-in-Err c = λ patterns ready. search (laws.explained_halted, c.run_text-outcome.ensures.runs patterns ready)

pub returns-in-Ok : goal.returns-in-Ok
returns-in-Ok c =
    λ patterns ready.
    search (laws.explained_done, c.run_text-outcome.ensures.runs patterns ready)
