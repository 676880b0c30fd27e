-- `scan_with`: the lexicon is entered into rooms that hold nothing, and the scan goes by the lexicon that they hold.
use Rattle.lexicon.proofs.LexiconLaws.{blank}
use Rattle.scanner.proofs.ScanningLaws as laws
use Rattle.scanner.proofs.scan_with.Goals as goal

pub enter_table-requires : goal.enter_table-requires
enter_table-requires c = (blank, c.requires.0.short)

pub enter_sorts-requires : goal.enter_sorts-requires
enter_sorts-requires c =
    (c.requires.0.few, c.enter_table.ensures.long)

pub scan_loop-requires : goal.scan_loop-requires
scan_loop-requires c =
    let asked = c.requires in
    (laws.lexical_held c.enter_table.ensures c.enter_sorts.ensures asked.0.few, asked.0.room, asked.1)

pub returns : goal.returns
returns c =
    let asked = c.requires in
    laws.scanned_held c.enter_table.ensures c.enter_sorts.ensures asked.0.few _ _ _ c.scan_loop.ensures
