-- `resolve_in`: room for the binders of all rows.
use Prim.Native.Nat.{ℕ}
use mathlib.Core.Path.{sym, ap}
use native.Mathlib.Omega.{arith}
use lib.ListN.{replicate, length-replicate}
use Rattle.resolver.proofs.resolve_in.Goals as goal

pub link-requires : goal.link-requires
link-requires g c =
    let long = length-replicate {A = ℕ} g.row.LINKS 0 in
    record {
      few = c.requires.resolvable.whole.few;
      some = omega (arith, c.requires.roomy);
      room = omega (arith, c.requires.roomy);
      none = ap (λ k. replicate k 0) (sym long);
    }
