-- `size_part`: the parts of a row decide, and the depth bound falls from a row to its parts.
use Rattle.copying.proofs.SizeLaws as laws
use Rattle.copying.proofs.sizes.+size_part.Goals as goal

pub returns-then-bound-eq0 : goal.returns-then-bound-eq0
returns-then-bound-eq0 t c = search laws.bound_left

pub returns-in-NoPart : goal.returns-in-NoPart
returns-in-NoPart t c = search laws.no_part_left

pub returns-in-OneTerm : goal.returns-in-OneTerm
returns-in-OneTerm t c = search laws.term_left

pub returns-in-TwoTerms : goal.returns-in-TwoTerms
returns-in-TwoTerms t c = search laws.terms_left

pub returns-in-OneList : goal.returns-in-OneList
returns-in-OneList t c = search laws.list_left

pub returns-in-TermAndList : goal.returns-in-TermAndList
returns-in-TermAndList t c = search laws.field_left
