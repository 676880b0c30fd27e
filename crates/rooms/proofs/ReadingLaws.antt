-- What a room holds once more was read into it behind what was read before.
use Rattle.std.proofs.Common.{◌≡◌, ℕ, ◌+◌, ◌-◌, ◌≤◌, List, ◌++◌, length, take, refl, sym, ap, ◌∙◌, length-take-le, take_at, IfSome, Option, Some, None}
use Rattle.std.specs.Io.{StartsWith}
use Rattle.std.specs.Io.KnownBytes.{Consumes}
use borrow.Rule.Slice.PartMut.{put_mid, post_of}
use lib.Seq.{take-append-add, take-append-le}

-- the first bytes, those before and those just read behind them
pub read_behind : (before count : ℕ) (room part : List ℕ) → before ≤ length room → count ≤ length part
    → take before room ++ take count part ≡ take (before + count) (put_mid before (length room - before) room part)
read_behind before count room part within fits =
    let behind = post_of before (length room - before) room in
    let far : length (take before room) ≡ before = length-take-le before room within in
    ap (λ (l : List ℕ). take before room ++ l) (sym (take-append-le count part behind fits)) ∙ sym (take-append-add (take before room) (part ++ behind) count)
    ∙ ap (λ (n : ℕ). take (n + count) (put_mid before (length room - before) room part)) far

-- bytes that were taken from known ones are the first of them
pub taken_first : (known left : Option (List ℕ)) (taken : List ℕ) → Consumes known left taken → IfSome known (λ bytes. StartsWith bytes taken)
taken_first None left taken h = tt
taken_first (Some bytes) None taken h = absurd h
taken_first (Some bytes) (Some more) taken h = ap (take (length taken)) h ∙ take_at taken more (length taken) refl
