-- `enter`: a spelling's hash fits its place.
use mathlib.Core.Path.{◌≡◌}
use native.Mathlib.Omega.{arith}
use Rattle.layout.specs.Index.{bucket_hash}
use Rattle.layout.proofs.IndexLaws as laws
use Rattle.layout.proofs.index.enter.Goals as goal

pub overflow_cast-room : goal.overflow_cast-room
overflow_cast-room c =
    let hashed : c.args.h ≡ bucket_hash c.args.v.now = c.requires.hashed c.if-not-spelled.false in
    omega (arith, hashed, laws.hash_below c.args.v.now)
