-- `next_case`: the end, or a case that is whole or is not.
use borrow.Author.Rules.{rules}
use Rattle.cases.proofs.CaseLaws.{next-end, next_far, next_whole, next_broken}
use Rattle.cases.proofs.case.next_case.Goals as goal

pub returns-then-at-file : goal.returns-then-at-file
returns-then-at-file c = search next-end

pub returns-then-at-gt-LONGEST_FILE : goal.returns-then-at-gt-LONGEST_FILE
returns-then-at-gt-LONGEST_FILE c = search next_far

pub case_of-requires : goal.case_of-requires
case_of-requires c = record { lent_bound = search rules; places_value = cc }

pub returns-then-is_whole : goal.returns-then-is_whole
returns-then-is_whole c = search next_whole

pub returns : goal.returns
returns c = search next_broken
