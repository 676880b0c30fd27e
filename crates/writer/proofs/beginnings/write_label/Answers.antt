-- `write_label`: its spelling.
use mathlib.Core.Path.{ap}
use native.Mathlib.Omega.{arith}
use lib.ListN.{length}
use Rattle.writer.proofs.Pieces.{as_text}
use Rattle.writer.proofs.beginnings.write_label.Goals as goal

pub write_bytes-requires : goal.write_bytes-requires
write_bytes-requires c =
    omega (arith, ap length c.spelling.ensures, c.requires)

pub returns : goal.returns
returns c = search as_text
