-- `write_name`: a new name, a fresh name without a number, or a name as written.
use Rattle.writer.proofs.Pieces as pieces
use Rattle.writer.proofs.BeginningLaws as laws
use Rattle.writer.proofs.beginnings.write_name.Goals as goal

pub write_byte-digits-requires : goal.write_byte-digits-requires
write_byte-digits-requires c = search laws.new_fits

pub write_number-requires : goal.write_number-requires
write_number-requires c = search laws.new_number_fits

pub returns-then-shown-gt0 : goal.returns-then-shown-gt0
returns-then-shown-gt0 c = search laws.new_written

pub write_bytes-requires : goal.write_bytes-requires
write_bytes-requires c = search (pieces.as_fits, laws.fresh_name)

pub returns-then-x-eq-FRESH_CLASS : goal.returns-then-x-eq-FRESH_CLASS
returns-then-x-eq-FRESH_CLASS c = search (pieces.as_text, laws.fresh_name)

pub write_bytes-requires-2 : goal.write_bytes-requires-2
write_bytes-requires-2 c = search (pieces.as_fits, laws.plain_name)

pub returns : goal.returns
returns c = search (pieces.as_text, laws.plain_name)
