-- `needs_of`: the productions before number j are noted, and held where they need only others.
use Rattle.firsts.proofs.NeedsLaws as laws
use Rattle.firsts.proofs.MentionLaws as notes
use Rattle.firsts.proofs.nullable.needs_of.Given as goal

abbrev pub invariant-loop-j : goal.invariant-loop-j
invariant-loop-j l =
    laws.Holding l.table l.owners l.starts l.m l.initial.whose l.initial.needs l.k l.j l.whose l.needs
    × notes.Noting l.table l.owners l.starts l.m l.initial.kinds l.initial.calls l.j l.kinds l.calls
