-- The whole search, from the front and in a room of zeros.
use Prim.Native.Nat.{ℕ, ◌+◌, ◌≤◌}
use mathlib.Core.Path.{◌≡◌, ap, ◌∙◌}
use mathlib.Core.Bool.{Bool, true, false}
use mathlib.Core.List.{List}
use native.Mathlib.Nat.{zero-add}
use native.Mathlib.Omega.{arith}
use lib.ListN.{replicate, length-replicate}
use Rattle.std.specs.Prelude.{Some, None}
use Rattle.grammar.specs.Limits.{most}
use Rattle.terms.specs.Term.{size}
use Rattle.terms.specs.Loose.{reached}
use Rattle.terms.proofs.Repeated.{label_reached}
use Rattle.rows.specs.Sizes.{no_spell, rows_held}
use Rattle.rows.proofs.ListLaws.{zeros}
use Rattle.rows.proofs.SizeLaws.{size_spell}
use Rattle.labels.specs.Stamps.{single, numbered_term, has_fields}
use Rattle.labels.specs.Searches.{Searchable, Searches, LabelsFit, Finds}
use Rattle.labels.proofs.StampLaws.{each_label}
use Rattle.labels.proofs.FieldLaws.{no_repetition}

module _ {cells : List ℕ} {root : ℕ} {stamps : List ℕ} {r : Bool} {place : ℕ} {stamps' : List ℕ}
    (h : Searches cells (rows_held cells) root 0 stamps r place stamps')
  where
    -- A label given twice was found.
    pub found_at : r ≡ true → Finds cells root (Some place)
    found_at e = record { walked = rw e at h.told.found }

    -- None was.
    pub found_none : r ≡ false → Finds cells root None
    found_none e =
        let t = numbered_term cells (rows_held cells) root in
        let w = rw e at h.told.found in
        record { walked = w ∙ ap reached (label_reached t 0 place w ∙ zero-add (size t)) }

module _ {cells : List ℕ} {root words : ℕ} (asked : LabelsFit cells root words) where
  -- A room of so many zeros takes all labels.
  pub searchable : (count : ℕ) → most.outsides + words ≤ count → Searchable cells (rows_held cells) root 0 (replicate count 0)
  searchable count h =
      record {
        below = rw (length-replicate {A = ℕ} count 0) (each_label (λ n l. omega arith) (numbered_term cells (rows_held cells) root) asked.below);
        room = omega (arith, asked.small, size_spell (rows_held cells) no_spell single cells root);
        earlier = λ l. omega (arith, zeros count l);
      }

  -- Rows without a field have no label twice.
  pub nothing_found : {some : Bool} → some ≡ has_fields cells → some ≡ false → Finds cells root None
  nothing_found e f = record { walked = no_repetition asked.whole (rw (← e) f) (rows_held cells) root }
