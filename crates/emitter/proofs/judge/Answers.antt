-- `judge`: the size, then the names.
use Rattle.emitter.proofs.EmitterLaws as laws
use Rattle.emitter.proofs.judge.Goals as goal

pub returns-then-size-gt-LARGEST_TERM : goal.returns-then-size-gt-LARGEST_TERM
returns-then-size-gt-LARGEST_TERM c = search laws.judge_large

pub resolve-requires : goal.resolve-requires
resolve-requires c = search laws.resolvable

pub returns-in-Err : goal.returns-in-Err
returns-in-Err c = search laws.judge_loose

pub returns-in-Ok : goal.returns-in-Ok
returns-in-Ok c = search laws.judge_passes
