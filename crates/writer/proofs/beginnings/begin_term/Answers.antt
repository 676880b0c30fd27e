-- `begin_term`: what the text of a term begins with, by its code.
use Rattle.writer.proofs.Pieces as pieces
use Rattle.writer.proofs.BeginningLaws as laws
use mathlib.Core.Logic.{inl, inr}
use Rattle.writer.proofs.beginnings.begin_term.Goals as goal

pub begin_number-requires : goal.begin_number-requires
begin_number-requires c = search (pieces.as_fits, laws.shallow_begins)

pub returns-then-bound-eq0 : goal.returns-then-bound-eq0
returns-then-bound-eq0 c = search (pieces.as_text, laws.shallow_begins)

pub write_bytes-name-requires : goal.write_bytes-name-requires
write_bytes-name-requires c = search laws.var_fits

pub write_name-requires : goal.write_name-requires
write_name-requires c = search laws.var_name_fits

pub write_bytes-name-requires-in-33 : goal.write_bytes-name-requires-in-33
write_bytes-name-requires-in-33 c = search laws.fun_fits

pub write_name-requires-in-33 : goal.write_name-requires-in-33
write_name-requires-in-33 c = search laws.fun_name_fits

pub write_byte-requires : goal.write_byte-requires
write_byte-requires c = search laws.fun_space_fits

pub write_bytes-requires : goal.write_bytes-requires
write_bytes-requires c = search (pieces.as_fits, laws.app_begins)

pub write_bytes-requires-in-35 : goal.write_bytes-requires-in-35
write_bytes-requires-in-35 c = search (pieces.as_fits, laws.rcd_begins)

pub write_bytes-requires-in-36 : goal.write_bytes-requires-in-36
write_bytes-requires-in-36 c = search (pieces.as_fits, laws.dot_begins)

pub begin_number-requires-in-37 : goal.begin_number-requires-in-37
begin_number-requires-in-37 c = search (pieces.as_fits, laws.zero_begins, inl)

pub begin_number-requires-in-38 : goal.begin_number-requires-in-38
begin_number-requires-in-38 c = search (pieces.as_fits, laws.zero_begins, inr)

pub begin_number-requires-in_default : goal.begin_number-requires-in_default
begin_number-requires-in_default c = search (pieces.as_fits, laws.num_begins)

pub returns-in-32 : goal.returns-in-32
returns-in-32 c = search laws.var_written

pub returns-in-33 : goal.returns-in-33
returns-in-33 c = search laws.fun_written

pub returns-in-34 : goal.returns-in-34
returns-in-34 c = search (pieces.as_text, laws.app_begins)

pub returns-in-35 : goal.returns-in-35
returns-in-35 c = search (pieces.as_text, laws.rcd_begins)

pub returns-in-36 : goal.returns-in-36
returns-in-36 c = search (pieces.as_text, laws.dot_begins)

pub returns-in-37 : goal.returns-in-37
returns-in-37 c = search (pieces.as_text, laws.zero_begins, inl)

pub returns-in-38 : goal.returns-in-38
returns-in-38 c = search (pieces.as_text, laws.zero_begins, inr)

pub returns-in_default : goal.returns-in_default
returns-in_default c = search (pieces.as_text, laws.num_begins)
