-- `store`: the length, then the bytes, each in what remains of the room.
use Prim.Native.Nat.{◌*◌}
use mathlib.Core.Path.{refl}
use native.Mathlib.Omega.{arith}
use Rattle.writer.specs.Pool.{spelling_room}
use Rattle.writer.proofs.PoolLaws as laws
use Rattle.writer.proofs.pool.store.Goals as goal

pub returns : goal.returns
returns c =
    laws.stored_both c.args.pool.now c.args.s.now (c.args.i * spelling_room) refl
    (omega (arith, c.requires.s_len_bound.0, c.requires.s_len_bound.1)) c.write_byte.ensures c.write_bytes.ensures
