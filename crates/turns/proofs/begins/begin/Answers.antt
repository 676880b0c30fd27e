-- `begin`: tested 19 and 20, then entered.
use Rattle.turns.proofs.BeginLaws as laws
use Rattle.turns.proofs.begins.begin.Goals as goal

pub returns-then-depth-eq0 : goal.returns-then-depth-eq0
returns-then-depth-eq0 c =
    record { starts = λ S rows h m. laws.starts_closed h c.args.tokens.now rows _ _ _ _ m c.if-depth-eq0.true c.refuse.ensures }

pub returns-then-s-ge-MOST_CALLS : goal.returns-then-s-ge-MOST_CALLS
returns-then-s-ge-MOST_CALLS c =
    record {
      starts = λ S rows h m. laws.starts_spent h c.args.tokens.now rows _ _ _ _ c.if-depth-eq0.false m c.if-s-ge-MOST_CALLS.true
          c.refuse-then-s-ge-MOST_CALLS.ensures;
    }
