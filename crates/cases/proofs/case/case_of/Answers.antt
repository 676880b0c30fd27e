-- `case_of`: what is lent, and what is expected.
use borrow.Author.Rules.{rules}
use Rattle.cases.proofs.CaseLaws.{whole_cause}
use Rattle.cases.specs.Cases.{case_of}
use Rattle.cases.proofs.case.case_of.Goals as goal

pub expected_at-expected-requires : goal.expected_at-expected-requires
expected_at-expected-requires c = record { lent_bound = search rules; lent_bound_2 = search whole_cause }

pub returns : goal.returns
unfolding case_of
returns c = cc
