-- `read_tokens`: a number, a run that halts, or one that is done and judged.
use Rattle.steps.specs.Source.{source_of}
use Rattle.reader.specs.TextRuns.{RunnableText}
use Rattle.reader.proofs.AttemptLaws as laws
use Rattle.reader.proofs.attempts.read_tokens.Goals as goal

pub returns-then-number : goal.returns-then-number
returns-then-number c = λ patterns ready. search laws.attempt_number

pub run_text-outcome-requires : goal.run_text-outcome-requires
run_text-outcome-requires c =
    let runnable : RunnableText c.args.room.now c.as_outside.new.tokens (source_of c.args.table.now c.args.texts.now c.requires.patterns)
    = record { ready = c.requires.holds.ready; tokens_fit = c.as_outside.ensures.fit c.requires.holds.tokens_fit } in
    record { patterns = _; holds = runnable }

pub judge-requires : goal.judge-requires
judge-requires c =
    c.run_text-outcome.ensures.few _ _ c.in-Ok.is

pub returns-in-Err : goal.returns-in-Err
returns-in-Err c = λ patterns ready. search (laws.attempt_halted, c.run_text-outcome.ensures.runs patterns ready)

pub returns-in-Ok : goal.returns-in-Ok
returns-in-Ok c =
    λ patterns ready.
    search (laws.attempt_done, c.run_text-outcome.ensures.runs patterns ready)
