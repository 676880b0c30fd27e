-- The layout of tables: what decoding accepts, that it is the inverse of encoding, and what it gives otherwise.
use Prim.Native.Nat.{ℕ, ◌<◌}
use mathlib.Core.Path.{◌≡◌, sym, ap, ◌∙◌}
use mathlib.Core.Bool.{true}
use mathlib.Core.Logic.{◌↔◌, ◌⊎◌, inl, inr}
use mathlib.Core.List.{List}
use lib.ListN.{get_or}
use Rattle.answers.specs.declared.Refusal.{Refusal}
use Rattle.answers.specs.Checked.{ok, bad}
use Rattle.grammar.specs.Written.{Written}
use Rattle.grammar.specs.Encode.{encode}
use Rattle.decoding.specs.Decode.{decode}
use Rattle.decoding.specs.Within.{Within}
use Rattle.decoding.proofs.Inverse.{decode_encoded, decoded_encoding}
use Rattle.decoding.proofs.RefusalNumbers.{is_layout_number, decode_answers}

-- Bytes are decoded as the `table` exactly if they are the encoding of `table` and `table` is within document 01's counts, spellings and ranges.
pub decode_exactly : (bs : List ℕ) → ((place : ℕ) → get_or bs place 0 < 256) → (table : Written) → (decode bs ≡ ok table) ↔ ((bs ≡ encode table) × Within table)
decode_exactly bs b table = (decoded_encoding bs b table, λ h. ap decode h.0 ∙ decode_encoded table h.1)

-- Two tables within the bounds never share an encoding.
pub encode_injective : (table other : Written) → Within table → Within other → encode table ≡ encode other → table ≡ other
encode_injective table other w v e = one (sym (decode_encoded table w) ∙ ap decode e ∙ decode_encoded other v)
  where
    one : ok table ≡ ok other → table ≡ other
    one h = cc

-- Bytes that are no such encoding get exactly one refusal, and its number is one of 1 to 6 and 10.
pub decode_refuses : (bs : List ℕ) → ((place : ℕ) → get_or bs place 0 < 256) → ((table : Written) → bs ≡ encode table → Within table → ⊥)
    → (refusal : Refusal) × (decode bs ≡ bad refusal) × (is_layout_number refusal.number ≡ true)
    × ((other : Refusal) → decode bs ≡ bad other → other ≡ refusal)
decode_refuses bs b none = by (decode_answers bs)
  where
    by : ((table : Written) × (decode bs ≡ ok table)) ⊎ ((refusal : Refusal) × (decode bs ≡ bad refusal) × (is_layout_number refusal.number ≡ true))
        → (refusal : Refusal) × (decode bs ≡ bad refusal) × (is_layout_number refusal.number ≡ true)
        × ((other : Refusal) → decode bs ≡ bad other → other ≡ refusal)
    by (inl a) = let found = decoded_encoding bs b a.0 a.1 in absurd (none a.0 found.0 found.1)
    by (inr a) = (a.0, a.1, a.2, λ q f. cc)
