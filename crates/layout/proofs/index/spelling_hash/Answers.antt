-- `spelling_hash`: by the tag.
use Rattle.layout.proofs.IndexLaws as laws
use Rattle.layout.proofs.index.spelling_hash.Goals as goal

pub returns-then-tag-gt-OUTSIDE_TAG : goal.returns-then-tag-gt-OUTSIDE_TAG
returns-then-tag-gt-OUTSIDE_TAG c = search laws.hashed_none

pub returns : goal.returns
returns c = search laws.hashed_own
