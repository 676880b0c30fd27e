-- `begin_fields`: what the text of a field list begins with.
use Rattle.writer.proofs.Pieces as pieces
use Rattle.writer.proofs.BeginningLaws as laws
use Rattle.writer.proofs.beginnings.begin_fields.Goals as goal

pub write_bytes-requires : goal.write_bytes-requires
write_bytes-requires c = search (pieces.as_fits, laws.shallow_begins_fields)

pub returns-then-bound-eq0 : goal.returns-then-bound-eq0
returns-then-bound-eq0 c = search (pieces.as_text, laws.shallow_begins_fields)

pub write_bytes-label-requires : goal.write_bytes-label-requires
write_bytes-label-requires c = search laws.cons_fits

pub write_label-requires : goal.write_label-requires
write_label-requires c = search laws.cons_label_fits

pub write_byte-requires : goal.write_byte-requires
write_byte-requires c = search laws.cons_space_fits

pub returns-then-code-eq-FIELD_CONS : goal.returns-then-code-eq-FIELD_CONS
returns-then-code-eq-FIELD_CONS c = search laws.cons_written

pub write_bytes-requires-2 : goal.write_bytes-requires-2
write_bytes-requires-2 c = search (pieces.as_fits, laws.nil_begins)

pub returns : goal.returns
returns c = search (pieces.as_text, laws.nil_begins)
