-- Decoding is the inverse of encoding.
use Prim.Native.Nat.{ℕ, ◌≤◌}
use mathlib.Core.Path.{◌≡◌, refl, sym, ap, ◌∙◌, subst, subst⁻¹}
use mathlib.Core.Bool.{true, false}
use mathlib.Core.List.{List, []}
use lib.Dec.{leb}
use lib.ListN.{length}
use borrow.Author.Tests.{le-leb, leb-true}
use Rattle.answers.specs.Refusals.{refusal}
use Rattle.answers.specs.Checked.{Checked, ok, bad, ◌>>◌}
use Rattle.spellings.proofs.BytesLaws.{by_test}
use Rattle.grammar.specs.Written.{Written}
use Rattle.grammar.specs.Encode.{field_bytes, table_fields, encode}
use Rattle.grammar.specs.Fields.{fields_of}
use Rattle.decoding.specs.Layout.{initial_progress, check_fields, layout}
use Rattle.grammar.specs.Limits.{most}
use Rattle.decoding.specs.Decode.{decode_fields, table_of, decode}
use Rattle.decoding.specs.Within.{Within}
use Rattle.decoding.proofs.Split.{Bytes, fields_of_bytes, bytes_of_fields, value_bytes}
use Rattle.decoding.proofs.Accept.{Accepts, accepted_uncut}
use Rattle.decoding.proofs.Sound.{accepted_table}
use Rattle.decoding.proofs.Complete.{table_accepted}
use Rattle.decoding.proofs.Rebuilt.{table_built}

-- ------------------------------------------------------------------ the layout

layout_short : (bs : List ℕ) → leb (length bs) most.bytes ≡ true → layout bs ≡ check_fields (fields_of bs) [] initial_progress
unfolding layout
layout_short bs e = rw (e, layout) refl

layout_long : (bs : List ℕ) → leb (length bs) most.bytes ≡ false → layout bs ≡ bad (refusal 1 0 0 0)
unfolding layout
layout_long bs e = rw (e, layout) refl

-- A layout is right exactly if the table is not too long and its fields are accepted.
pub layout_parts : (bs : List ℕ) → layout bs ≡ ok tt → (length bs ≤ most.bytes) × (check_fields (fields_of bs) [] initial_progress ≡ ok tt)
layout_parts bs h =
    by_test (leb (length bs) most.bytes) (λ e. (leb-true (length bs) most.bytes e, sym (layout_short bs e) ∙ h))
    (λ e. absurd (subst⁻¹ Accepts (sym (layout_long bs e) ∙ h) tt))

-- ------------------------------------------------------------------ decoding

passed_first : {A : Type 0} (checked : Checked (Unit {0})) (item : A) (other : A) → (checked >> ok item) ≡ ok other → (checked ≡ ok tt) × (item ≡ other)
passed_first (ok tt) item other h = (refl, cc)
passed_first (bad r) item other h = absurd (subst⁻¹ Accepts h tt)

-- bytes that are decoded have the layout of a table, and it is built from them
pub decoded_layout : (bs : List ℕ) (table : Written) → decode bs ≡ ok table → (layout bs ≡ ok tt) × (table_of (decode_fields (fields_of bs)) ≡ table)
unfolding decode
decoded_layout bs table h = passed_first (layout bs) (table_of (decode_fields (fields_of bs))) table h

-- The encoding of a table within the bounds is decoded as this table.
pub decode_encoded : (table : Written) → Within table → decode (encode table) ≡ ok table
unfolding decode encode
decode_encoded table w =
    let bs = field_bytes (table_fields table) in
    let split = fields_of_bytes (table_fields table) in
    let right : layout bs ≡ ok tt =
    cc (layout_short bs (le-leb (length bs) most.bytes w.size), (table_accepted table w).from 0) in
    cc (table_built table 0 w)

-- Bytes whose layout is right are the encoding of a table within the bounds.
pub layout_encoded : (bs : List ℕ) → Bytes bs → layout bs ≡ ok tt → (table : Written) × (bs ≡ encode table) × Within table
unfolding encode
layout_encoded bs b h =
    let parts = layout_parts bs h in
    let found = accepted_table (fields_of bs) (value_bytes bs b) parts.1 in
    let same : bs ≡ field_bytes (table_fields found.0) =
    bytes_of_fields bs b (accepted_uncut (fields_of bs) [] initial_progress parts.1) ∙ ap field_bytes found.1 in
    (found.0, same, found.2 (rw (← same) parts.0))

-- bytes that are decoded as a table are its encoding
pub decoded_encoding : (bs : List ℕ) → Bytes bs → (table : Written) → decode bs ≡ ok table → (bs ≡ encode table) × Within table
decoded_encoding bs b table h =
    let found = layout_encoded bs b (decoded_layout bs table h).0 in
    let one : found.0 ≡ table = same_value (sym (ap decode found.1 ∙ decode_encoded found.0 found.2) ∙ h) in
    (found.1 ∙ ap encode one, subst Within one found.2)
  where
    same_value : {other other_table : Written} → ok other ≡ ok other_table → other ≡ other_table
    same_value e = cc
