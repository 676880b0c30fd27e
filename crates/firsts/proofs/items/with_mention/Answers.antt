-- `with_mention`: by the symbol.
use Rattle.firsts.proofs.MentionLaws as laws
use Rattle.firsts.proofs.items.with_mention.Goals as goal

pub returns-in-Read : goal.returns-in-Read
returns-in-Read c = search laws.mention_read

pub returns-in-Local : goal.returns-in-Local
returns-in-Local c = search laws.mention_local

pub returns-in-Call : goal.returns-in-Call
returns-in-Call c = search laws.mention_call
