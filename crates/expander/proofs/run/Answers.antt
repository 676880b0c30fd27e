-- `run`: a call of the root, and nothing left over.
use mathlib.Core.Path.{◌∙◌}
use mathlib.Core.List.{[]}
use Rattle.std.proofs.lemmas.Result.{err_from_is_err_and}
use Rattle.expansion.specs.Expansion.{Input, initial_state}
use Rattle.expansion.specs.Limits.{most_open}
use Rattle.steps.specs.Source.{Source, source_of}
use Rattle.calls.specs.Lent.{reading}
use Rattle.turns.specs.Begins.{Starts}
use Rattle.choices.proofs.ChoiceLaws.{remembers_none}
use Rattle.steps.proofs.TokenLaws.{token_count}
use Rattle.expander.proofs.CallLaws as laws
use Rattle.expander.proofs.run.Goals as goal

pub begin_root-requires : goal.begin_root-requires
begin_root-requires c =
    let given = c.requires.holds in
    record { may_choose = record { patterns = _; bs = _; held = given.ready.held; remembers = remembers_none _ _ }; tokens_fit = given.tokens_fit }

pub root_items-outcome-requires : goal.root_items-outcome-requires
root_items-outcome-requires c =
    let may = c.requires.holds in
    let S : Source = source_of c.args.table.now c.args.texts.now c.requires.patterns in
    let input : Input = reading S c.args.tokens.now c.args.cells.now in
    let starts : Starts input S most_open c.args.root 0 initial_state c.begin_root.result c.begin_root.new.memory =
    c.begin_root.ensures.starts S _ may.ready (remembers_none S.patterns S.bytes) in
    record {
      patterns = _;
      holds =
          record {
            lent = may;
            remembers = starts.remembers;
            entered = laws.root_entered input _ (laws.entry_of starts c.in_ok-call.was) (laws.chosen_of starts c.in_ok-call.was) may.ready.held.grammar.small;
          };
    }

pub returns-in_err-call : goal.returns-in_err-call
returns-in_err-call c =
    let p = err_from_is_err_and c.from_residual.result c.from_residual.ensures.1 in
    rw (p.1, p.2)
    (λ patterns may.
    let S : Source = source_of c.args.table.now c.args.texts.now patterns in
    let input : Input = reading S c.args.tokens.now c.args.cells.now in
    let starts : Starts input S most_open c.args.root 0 initial_state c.begin_root.result c.begin_root.new.memory =
    c.begin_root.ensures.starts S _ may.ready (remembers_none S.patterns S.bytes) in
    laws.expands c.args.cells.now
    (laws.run_is input c.args.root c.args.cells.now (laws.begins_as starts c.in_err-call.was [] c.args.cells.now)))

pub returns : goal.returns
returns c =
    λ patterns may.
    let S : Source = source_of c.args.table.now c.args.texts.now patterns in
    let input : Input = reading S c.args.tokens.now c.args.cells.now in
    let starts : Starts input S most_open c.args.root 0 initial_state c.begin_root.result c.begin_root.new.memory =
    c.begin_root.ensures.starts S _ may.ready (remembers_none S.patterns S.bytes) in
    let began = c.root_items-outcome.ensures patterns (
    record {
      lent = may;
      remembers = starts.remembers;
      entered = laws.root_entered input _ (laws.entry_of starts c.in_ok-call.was) (laws.chosen_of starts c.in_ok-call.was) may.ready.held.grammar.small;
    }
    ) in
    laws.expands c.args.cells.now
    (c.ended.ensures input c.root_items-outcome.new.cells (token_count c.args.tokens.now _)
    ∙ laws.run_is input c.args.root c.args.cells.now (laws.call_of starts c.in_ok-call.was c.args.cells.now began))
