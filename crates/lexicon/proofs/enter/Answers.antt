-- `enter`: a spelling is linked where a search for it ended.
use Prim.Native.Nat.{◌*◌}
use native.Mathlib.Omega.{arith}
use Rattle.lexicon.proofs.PlaceLaws.{place_stored}
use Rattle.lexicon.proofs.LexiconLaws as laws
use Rattle.lexicon.proofs.enter.Goals as goal

pub seek-seen-requires : goal.seek-seen-requires
seek-seen-requires c = record { planted = laws.entered_planted c.requires.0; hash_value = c.hash-h.ensures }

pub settle-spot-requires : goal.settle-spot-requires
settle-spot-requires c = record { planted = (laws.entered_planted c.requires.0, c.hash-h.ensures); seeks = c.seek-seen.ensures }

pub bounds-room-i-2 : goal.bounds-room-i-2
bounds-room-i-2 c =
    laws.place_inside c.requires.0 _ _

pub link-requires : goal.link-requires
link-requires c = (
  laws.entered_linkable c.requires.0 c.part-s.result.now c.settle-spot.result c.settle-spot.ensures,
  omega (arith, c.requires.0.enough),
)

pub returns : goal.returns
returns c =
    let place = place_stored c.args.room.now (c.args.e * 2) c.args.from c.args.size in
    record {
      room_after = place;
      spelled =
          rw place
          (laws.enter_one _ _ _ _ c.settle-spot.result c.requires.0 c.part-s.ensures c.settle-spot.ensures c.link.ensures);
    }
