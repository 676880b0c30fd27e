-- The entries of a term, part by part, and of a whole one.
use Prim.Native.Nat.{ℕ, ◌+◌, ◌-◌, ◌*◌, ◌/◌, ◌%◌, ◌^◌, ◌<◌, ◌≤◌}
use mathlib.Core.Path.{◌≡◌, refl, sym, ap, ap₂, ◌∙◌}
use mathlib.Core.List.{List, [], ◌∷◌, ◌++◌}
use mathlib.Core.Logic.{◌⊎◌}
use native.Mathlib.Nat.{add-zero, mul-le-mul_left}
use native.Mathlib.Numerals.{add-one, add-two}
use native.Mathlib.Omega.{arith}
use lib.ListN.{length, set, drop, length-append, length-set}
use lib.Seq.{sets, sets-eq}
use mir.Syntax.{w64}
use mir.Val as val
use Rattle.spellings.proofs.BuffersLaws.{written_fits, written_not}
use Rattle.terms.specs.Cells.{column}
use Rattle.terms.specs.Rows.{term_at, field_list_at}
use Rattle.rows.specs.Sizes.{no_spell, rows_held}
use Rattle.rows.proofs.ListLaws.{sets_append}
use Rattle.rows.proofs.RowLaws as rows
use Rattle.portions.specs.Portions.{numbers, numbers_fields, entries_for, portions_of}
use Rattle.portions.specs.Lists.{entries_at, field_entries_at, EntryFits, TermFits, FieldsFit, Wrote, Portionable, Listed}
use Rattle.portions.proofs.Exactly.{entries_append, entries_length, numbers_few, numbers_spell}

-- ------------------------------------------------------------------ writing

-- nothing is written
wrote_none : (list : List ℕ) (at : ℕ) → Wrote list at [] at list
wrote_none list at = record { end = sym (add-zero at); same = refl; put = λ h. refl }

-- one run behind another
wrote_then : {list : List ℕ} {at : ℕ} {first second : List ℕ} {middle r : ℕ} {list' list'' : List ℕ} → Wrote list at first middle list'
    → Wrote list' middle second r list'' → Wrote list at (first ++ second) r list''
wrote_then {list} {at} {first} {second} w w' =
    let long = length-append first second in
    record {
      end = omega (arith, w.end, w'.end, long);
      same = w'.same ∙ w.same;
      put =
          λ h.
          w'.put (omega (arith, w.end, w.same, long)) ∙ ap₂ (λ o m. sets o m second) (w.put (omega (arith, long))) w.end
          ∙ sym (sets_append list at first second);
    }

-- ------------------------------------------------------------------ an entry

module _ {written wanted n at : ℕ} (m : EntryFits written wanted at) {amount : ℕ}
    (wide : (amount ≡ n) × (amount < 4294967296)) where
  -- a number of 32 bits times a count of portions is a number of 64 bits
  pub product_fits : val.Fits w64 (amount * wanted)
  product_fits = record { fits = omega (arith, mul-le-mul_left amount m.counts.few, wide.1) }

-- an entry that fits
pub entry_put : (written wanted : ℕ) {n at amount : ℕ} → amount ≡ n → {list : List ℕ} → at + 3 ≤ length list
    → Wrote list at (entries_for written wanted (n ∷ [])) (at + 3)
    (set (set (set list at amount) (at + 1) (amount * wanted / written)) (at + 2) (amount * wanted % written))
unfolding entries_for
entry_put written wanted {at = at} {amount} equal {list} h =
    record {
      end = refl;
      same =
          length-set (set (set list at amount) (at + 1) (amount * wanted / written)) (at + 2) (amount * wanted % written)
          ∙ length-set (set list at amount) (at + 1) (amount * wanted / written) ∙ length-set list at amount;
      put = λ l. rw (equal, add-one, add-two) refl;
    }

-- one that does not
pub entry_long : (n : ℕ) {list : List ℕ} {at written wanted : ℕ} → EntryFits written wanted at → length list < at + 3
    → Wrote list at (entries_for written wanted (n ∷ [])) (at + 3) list
unfolding entries_for
entry_long n m h = record { end = refl; same = refl; put = λ l. absurd (omega arith) }

-- ------------------------------------------------------------------ terms

-- the place behind an entry
entry_room : (written wanted n at : ℕ) {whole : List ℕ} → whole ≡ entries_for written wanted (n ∷ []) → at + length whole < 2 ^ 62 → at + 3 < 2 ^ 62
entry_room written wanted n at e l = omega (arith, ap length e, entries_length written wanted (n ∷ []))

-- the place behind one of two runs of entries, by the place behind both
first_room : (at : ℕ) (first second : List ℕ) {whole : List ℕ} → whole ≡ first ++ second → at + length whole < 2 ^ 62 → at + length first < 2 ^ 62
first_room at first second e l = omega (arith, ap length e, length-append first second)

second_room : (at : ℕ) (first second : List ℕ) {whole : List ℕ} {place : ℕ} → whole ≡ first ++ second → at + length whole < 2 ^ 62
    → place ≤ at + length first → place + length second < 2 ^ 62
second_room at first second e l no-further = omega (arith, ap length e, length-append first second)

module _ {written wanted : ℕ} {cells : List ℕ} {depth row at : ℕ} (m : TermFits written wanted cells depth row at) where
  abbrev Entries : List ℕ
  Entries = entries_at written wanted cells depth row

  -- with no depth left, a term is the number 0
  module _ (none : depth ≡ 0) where
    zero_entries : Entries ≡ entries_for written wanted (0 ∷ [])
    unfolding entries_at term_at numbers
    zero_entries = rw none refl

    -- whose entry can be written,
    pub shallow_fits : EntryFits written wanted at
    shallow_fits = record { counts = m.counts; room = entry_room written wanted 0 at zero_entries m.room }

    -- and is the term's
    pub shallow_wrote : {list list' : List ℕ} {r : ℕ} → Wrote list at (entries_for written wanted (0 ∷ [])) r list' → Wrote list at Entries r list'
    shallow_wrote w = rw zero_entries w

  module _ (some : depth ≡ 0 → ⊥) {code : ℕ} (read : code ≡ column cells row 0) where
    -- a variable has none
    pub var_wrote : code ≡ 0x20 → {list : List ℕ} → Wrote list at Entries at list
    unfolding entries_at numbers entries_for
    var_wrote is {list} = rw (rows.var_row_lem no_spell cells depth row some read is) (wrote_none list at)

    -- a function has those of its body
    module _ (is : code ≡ 0x21) {last : ℕ} (two : last ≡ column cells row 2) where
      fun_entries : Entries ≡ entries_at written wanted cells (depth - 1) last
      unfolding entries_at numbers
      fun_entries = rw (two, rows.fun_row_lem no_spell cells depth row some read is) refl

      -- which can be written,
      pub fun_fits : TermFits written wanted cells (depth - 1) last at
      fun_fits = record { counts = m.counts; room = rw fun_entries at m.room }

      -- and are the function's
      pub fun_wrote : {list list' : List ℕ} {r : ℕ} → Wrote list at (entries_at written wanted cells (depth - 1) last) r list' → Wrote list at Entries r list'
      fun_wrote w = rw fun_entries w

    -- an application has those of its two terms
    module _ (is : code ≡ 0x22) {first last : ℕ} (one : first ≡ column cells row 1) (two : last ≡ column cells row 2) where
      app_entries : Entries ≡ entries_at written wanted cells (depth - 1) first ++ entries_at written wanted cells (depth - 1) last
      unfolding entries_at numbers
      app_entries = rw (one, two, rows.app_row_lem no_spell cells depth row some read is) (entries_append written wanted _ _)

      -- the first can be written,
      pub app_first : TermFits written wanted cells (depth - 1) first at
      app_first =
          let first_entries = entries_at written wanted cells (depth - 1) first in
          let last_entries = entries_at written wanted cells (depth - 1) last in
          record { counts = m.counts; room = first_room at first_entries last_entries app_entries m.room }

      -- then the second, from where the first ends, or before,
      pub app_last : {place : ℕ} → place ≤ at + length (entries_at written wanted cells (depth - 1) first) → TermFits written wanted cells (depth - 1) last place
      app_last l =
          let first_entries = entries_at written wanted cells (depth - 1) first in
          let last_entries = entries_at written wanted cells (depth - 1) last in
          record { counts = m.counts; room = second_room at first_entries last_entries app_entries m.room l }

      -- and both, the second from where the first ends, are the application's
      pub app_wrote : {list list' list'' : List ℕ} {middle r : ℕ}
          → Wrote list at (entries_at written wanted cells (depth - 1) first) middle list'
          → Wrote list' middle (entries_at written wanted cells (depth - 1) last) r list''
          → Wrote list at Entries r list''
      app_wrote w w' = rw app_entries (wrote_then w w')

    -- a record has those of its fields
    module _ (is : code ≡ 0x23) {first : ℕ} (one : first ≡ column cells row 1) where
      rcd_entries : Entries ≡ field_entries_at written wanted cells (depth - 1) first
      unfolding entries_at field_entries_at numbers
      rcd_entries = rw (one, rows.rcd_row_lem no_spell cells depth row some read is) refl

      -- which can be written,
      pub rcd_fits : FieldsFit written wanted cells (depth - 1) first at
      rcd_fits = record { counts = m.counts; room = rw rcd_entries at m.room }

      -- and are the record's
      pub rcd_wrote : {list list' : List ℕ} {r : ℕ} → Wrote list at (field_entries_at written wanted cells (depth - 1) first) r list'
          → Wrote list at Entries r list'
      rcd_wrote w = rw rcd_entries w

    -- a selection has those of its term
    module _ (is : code ≡ 0x24) {first : ℕ} (one : first ≡ column cells row 1) where
      dot_entries : Entries ≡ entries_at written wanted cells (depth - 1) first
      unfolding entries_at numbers
      dot_entries = rw (one, rows.dot_row_lem no_spell cells depth row some read is) refl

      -- which can be written,
      pub dot_fits : TermFits written wanted cells (depth - 1) first at
      dot_fits = record { counts = m.counts; room = rw dot_entries at m.room }

      -- and are the selection's
      pub dot_wrote : {list list' : List ℕ} {r : ℕ} → Wrote list at (entries_at written wanted cells (depth - 1) first) r list' → Wrote list at Entries r list'
      dot_wrote w = rw dot_entries w

    -- a row of a field list is read as the number 0
    module _ (is : (code ≡ 0x25) ⊎ (code ≡ 0x26)) where
      none_entries : Entries ≡ entries_for written wanted (0 ∷ [])
      unfolding entries_at numbers
      none_entries = rw (rows.zero_row no_spell cells depth row some read is) refl

      -- whose entry can be written,
      pub zero-fits : EntryFits written wanted at
      zero-fits = record { counts = m.counts; room = entry_room written wanted 0 at none_entries m.room }

      -- and is the row's
      pub zero_wrote : {list list' : List ℕ} {r : ℕ} → Wrote list at (entries_for written wanted (0 ∷ [])) r list' → Wrote list at Entries r list'
      zero_wrote w = rw none_entries w

    -- any other row is a number
    module _ (others : ((((((Unit {0} × (code ≡ 0x20 → ⊥)) × (code ≡ 0x21 → ⊥)) × (code ≡ 0x22 → ⊥)) × (code ≡ 0x23 → ⊥)) × (code ≡ 0x24 → ⊥)) ×
        (code ≡ 0x25 → ⊥))
        × (code ≡ 0x26 → ⊥)) {value : ℕ} (one : value ≡ column cells row 1) where
      number_entries : Entries ≡ entries_for written wanted (value ∷ [])
      unfolding entries_at numbers
      number_entries =
          let (before-cons, not-cons) = others in
          let (before-nil, not-nil) = before-cons in
          let (before-dot, not-dot) = before-nil in
          let (until-app, not-rcd) = before-dot in
          rw (one, rows.num_row_lem no_spell cells depth row some read until-app.0.0.1 until-app.0.1 until-app.1 not-rcd not-dot not-nil not-cons) refl

      -- whose entry can be written,
      pub number_fits : EntryFits written wanted at
      number_fits = record { counts = m.counts; room = entry_room written wanted value at number_entries m.room }

      -- and is the row's
      pub number_wrote : {list list' : List ℕ} {r : ℕ} → Wrote list at (entries_for written wanted (value ∷ [])) r list' → Wrote list at Entries r list'
      number_wrote w = rw number_entries w

-- ------------------------------------------------------------------ field lists

module _ {written wanted : ℕ} {cells : List ℕ} {depth row at : ℕ} (m : FieldsFit written wanted cells depth row at) where
  abbrev FieldEntries : List ℕ
  FieldEntries = field_entries_at written wanted cells depth row

  -- with no depth left, there are none
  pub shallow_wrote_fields : depth ≡ 0 → {list : List ℕ} → Wrote list at FieldEntries at list
  unfolding field_entries_at field_list_at numbers_fields entries_for
  shallow_wrote_fields none {list} = rw none (wrote_none list at)

  module _ (some : depth ≡ 0 → ⊥) {code : ℕ} (read : code ≡ column cells row 0) where
    -- any row but that of a field has none
    pub nil_wrote : (code ≡ 0x26 → ⊥) → {list : List ℕ} → Wrote list at FieldEntries at list
    unfolding field_entries_at numbers_fields entries_for
    nil_wrote other {list} = rw (rows.nil_row_lem no_spell cells depth row some read other) (wrote_none list at)

    -- a field has those of its term and of the fields behind it
    module _ (is : code ≡ 0x26) {part others : ℕ} (two : part ≡ column cells row 2) (three : others ≡ column cells row 3) where
      cons_entries : FieldEntries ≡ entries_at written wanted cells (depth - 1) part ++ field_entries_at written wanted cells (depth - 1) others
      unfolding entries_at field_entries_at numbers_fields
      cons_entries = rw (two, three, rows.cons_row_lem no_spell cells depth row some read is) (entries_append written wanted _ _)

      -- the first can be written,
      pub cons_term : TermFits written wanted cells (depth - 1) part at
      cons_term =
          let first_entries = entries_at written wanted cells (depth - 1) part in
          let last_entries = field_entries_at written wanted cells (depth - 1) others in
          record { counts = m.counts; room = first_room at first_entries last_entries cons_entries m.room }

      -- then the others, from where these end, or before,
      pub cons_rest : {place : ℕ} → place ≤ at + length (entries_at written wanted cells (depth - 1) part)
          → FieldsFit written wanted cells (depth - 1) others place
      cons_rest l =
          let first_entries = entries_at written wanted cells (depth - 1) part in
          let last_entries = field_entries_at written wanted cells (depth - 1) others in
          record { counts = m.counts; room = second_room at first_entries last_entries cons_entries m.room l }

      -- and all, the others from where these end, are the field's
      pub cons_wrote : {list list' list'' : List ℕ} {middle r : ℕ}
          → Wrote list at (entries_at written wanted cells (depth - 1) part) middle list'
          → Wrote list' middle (field_entries_at written wanted cells (depth - 1) others) r list''
          → Wrote list at FieldEntries r list''
      cons_wrote w w' = rw cons_entries (wrote_then w w')

-- ------------------------------------------------------------------ a whole term

-- The entries of a row are the portions of its term, however names are spelled.
pub entries_portions : (written wanted : ℕ) (cells : List ℕ) (depth row : ℕ) (spell : ℕ → List ℕ)
    → entries_at written wanted cells depth row ≡ portions_of written wanted (term_at depth spell cells row)
unfolding entries_at
entries_portions written wanted cells depth row spell = ap (entries_for written wanted) (numbers_spell no_spell spell cells depth row)

module _ {written wanted : ℕ} {cells : List ℕ} {root : ℕ} (m : Portionable written wanted cells root) where
  abbrev All : List ℕ
  All = entries_at written wanted cells (rows_held cells) root

  few_entries : length All < 65536
  unfolding entries_at
  few_entries =
      let t = term_at (rows_held cells) no_spell cells root in
      omega (arith, entries_length written wanted (numbers t), numbers_few t, m.small)

  -- it can be listed from the front
  pub whole_fits : TermFits written wanted cells (rows_held cells) root 0
  whole_fits = record { counts = m.counts; room = omega (arith, few_entries) }

  module _ {none none' : List ℕ} {needed : ℕ} (counted : Wrote none 0 All needed none') {list : List ℕ} where
    -- a list that is too short stays
    pub whole_long : length list < needed → Listed All list list needed
    whole_long h = record { needed = omega (arith, counted.end); placed = sym (written_not All list (omega (arith, counted.end))) }

    -- else the entries stand at its front
    pub whole_written : needed ≤ length list → {list' : List ℕ} {r : ℕ} → Wrote list 0 All r list' → Listed All list list' r
    whole_written h w =
        let fits : length All ≤ length list = omega (arith, counted.end) in
        let front : 0 + length All ≡ length All = omega arith in
        record {
          needed = omega (arith, w.end);
          placed =
              w.put (omega arith) ∙ sets-eq All list 0 (omega arith) ∙ ap (λ n. All ++ drop n list) front
              ∙ sym (written_fits All list fits);
        }
