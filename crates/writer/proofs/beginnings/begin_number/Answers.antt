-- `begin_number`: its constructor, then its digits.
use Rattle.writer.proofs.BeginningLaws as laws
use Rattle.writer.proofs.beginnings.begin_number.Goals as goal

pub write_bytes-digits-requires : goal.write_bytes-digits-requires
write_bytes-digits-requires c = search laws.number_fits

pub write_number-requires : goal.write_number-requires
write_number-requires c = search laws.digits_fit

pub returns : goal.returns
returns c = search laws.number_written
