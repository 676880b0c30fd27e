-- `read_item`: the item's kind decides.
use Rattle.steps.proofs.ItemLaws as laws
use Rattle.steps.proofs.read_item.Goals as goal

pub returns-in-0 : goal.returns-in-0
returns-in-0 c =
    record {
      reads =
          λ C I ts M cells et.
          laws.keyword_read _ _ ts C I M c.args.s cells c.in-0.is (c.take.ensures.takes I cells et);
      spends = c.take.ensures.spends;
    }

pub returns-in-5 : goal.returns-in-5
returns-in-5 c =
    record {
      reads =
          λ C I ts M cells et.
          laws.place_read _ _ ts C I M c.args.s cells c.args.tokens.now et c.value_at-value.ensures.0
          c.in-5.is (c.take-in-5.ensures.takes I cells et);
      spends = c.take-in-5.ensures.spends;
    }

pub returns-in_default : goal.returns-in_default
returns-in_default c =
    let other = c.in_default.in_default-own.rest in
    record {
      reads =
          λ C I ts M cells et.
          laws.number_read _ _ ts C I M c.args.s cells c.args.tokens.now et c.value_at-value.ensures.0
          other.0.0.0.1 other.0.0.1 other.0.1 c.requires.no_call other.1 (c.take-in_default.ensures.takes I cells et);
      spends = c.take-in_default.ensures.spends;
    }
