-- A walk by the code of a row: there is room for its parts, and what the parts' walks leave, the whole leaves.
use Prim.Native.Nat.{ℕ, ◌+◌, ◌-◌, ◌≤◌, ◌<◌}
use mathlib.Core.Path.{◌≡◌, refl, ap, ◌∙◌}
use mathlib.Core.List.{List}
use native.Mathlib.Numerals.{add-one}
use native.Mathlib.Omega.{arith}
use lib.Bits.{bit_or}
use lib.ListN.{length, get_or, set, length-append}
use lib.Seq.{set-set, length-sets}
use Rattle.terms.specs.Cells.{column}
use Rattle.terms.specs.Term.{largest_term}
use Rattle.terms.specs.Rows.{term_at, field_list_at}
use Rattle.rows.specs.Sizes.{no_spell}
use Rattle.rows.proofs.ListLaws.{sets_append, set_sets}
use Rattle.rows.proofs.RowLaws as rows
use Rattle.rows.proofs.SizeLaws.{size-some, size_some_fields}
use Rattle.binders.specs.Slots.{slot_of}
use Rattle.scopes.specs.Marks.{variable_mark, outsides_of, binder_mark_of}
use Rattle.scopes.specs.Scopes.{Enters}
use Rattle.scopes.proofs.AroundLaws.{restored}
use Rattle.marking.specs.RowMarks.{Marked, variable_marked, binding, bare, over, over_both, marked_term, marked_fields, term_marks, field_marks}
use Rattle.marking.specs.Walks.{Walkable, Walks}
use Rattle.marking.proofs.MarkLaws.{length_marked, length_marked_fields}

-- ------------------------------------------------------------------ rooms

-- A value is stored at a place.
abbrev pub Stored : ℕ → ℕ → List ℕ → List ℕ → Type 0
Stored place value room room₀ = (room₀ ≡ set room place value) × (length room₀ ≡ length room)

-- A place among as many marks.
pub fits_as : {place end end' : ℕ} → end' ≡ end → (place < end) × (end ≤ largest_term) → (place < end') × (end' ≤ largest_term)
fits_as e f = (omega (arith, f.0), omega (arith, f.1))

module _ {cells links : List ℕ} (depth row place : ℕ) (current : List ℕ) {room : List ℕ} where
  -- The marks of a term go on behind its first place.
  pub term_fits : Walkable cells links (term_marks cells depth row place current) place room → (place < length room) × (length room ≤ largest_term)
  term_fits w =
      let t = term_at depth no_spell cells row in
      (omega (arith, w.inside, length_marked cells t row place current, size-some t), w.few)

  -- The marks of a field list go on behind its first place.
  pub fields_fit : Walkable cells links (field_marks cells depth row place current) place room → (place < length room) × (length room ≤ largest_term)
  fields_fit w =
      let f = field_list_at depth no_spell cells row in
      (omega (arith, w.inside, length_marked_fields cells f row place current, size_some_fields f), w.few)

-- There are as many marks as before.
pub walks_long : {marked : Marked} {place place' held : ℕ} {current current' room room' : List ℕ}
    → Walks marked place place' current current' room room' held → length room' ≡ length room
walks_long {marked} {place} {room = room} w = ap length w.stored ∙ length-sets room place marked.marks

-- A part, in a room of as many marks.
part_fits : {cells links room room' : List ℕ} {whole part : Marked} {place place' : ℕ} → Walkable cells links whole place room → length room' ≡ length room
    → place' + length part.marks ≤ place + length whole.marks → Walkable cells links part place' room'
part_fits w e l = record { linked = w.linked; inside = omega (arith, w.inside); few = omega (arith, w.few) }

-- ------------------------------------------------------------------ constructors

-- the number of marks
abbrev count : Marked → ℕ
count marked = length marked.marks

module _ {place : ℕ} {room room₀ : List ℕ} (blank : Stored place 0 room room₀) where
  -- A constructor with no part and no name: the 0 stays.
  pub bare_walks : {whole : Marked} {current : List ℕ} → whole ≡ bare → Walks whole place (place + 1) current current room room₀ 0
  bare_walks e = rw e (record { stored = blank.0; moved = refl; holding = refl; kept = refl })

  -- A variable's mark is stored.
  pub variable_walks : (cells : List ℕ) (name : ℕ) {whole : Marked} {mark held : ℕ} {current current' room₁ : List ℕ}
      → whole ≡ variable_marked cells current name → (mark ≡ variable_mark name (get_or current (slot_of cells name) 0)) × (current' ≡ current)
      → held ≡ outsides_of name → Stored place mark room₀ room₁ → Walks whole place (place + 1) current current' room room₁ held
  variable_walks cells name {mark = mark} e em eh stored =
      rw e (record { stored = cc (stored.0, blank.0, set-set room place 0 mark, em.0); moved = refl; holding = eh; kept = em.1 })

  -- A constructor over one part: there is room for the part.
  pub over_fits : {cells links : List ℕ} {whole part : Marked} → whole ≡ over part → Walkable cells links whole place room
      → Walkable cells links part (place + 1) room₀
  over_fits e w = part_fits w blank.1 (omega (arith, ap count e))

  -- The part is walked.
  pub over_walks : {whole part : Marked} {place₁ held : ℕ} {current current₁ room₁ : List ℕ} → whole ≡ over part
      → Walks part (place + 1) place₁ current current₁ room₀ room₁ held → Walks whole place place₁ current current₁ room room₁ held
  over_walks e w =
      rw e (record { stored = cc (w.stored, blank.0, add-one place); moved = omega (arith, w.moved); holding = w.holding; kept = w.kept })

  -- A constructor over two parts: there is room for the first.
  pub first_fits : {cells links : List ℕ} {whole first : Marked} (second : Marked) → whole ≡ over_both first second → Walkable cells links whole place room
      → Walkable cells links first (place + 1) room₀
  first_fits {first = first} second e w = part_fits w blank.1 (omega (arith, ap count e, length-append first.marks second.marks))

  module _ {whole first second : Marked} (both : whole ≡ over_both first second) {place₁ held₁ : ℕ} {current current₁ room₁ : List ℕ} (walk : Walks first
      (place + 1) place₁ current current₁ room₀ room₁ held₁) where
    -- There is room for the second, behind the first.
    pub second_fits : {cells links : List ℕ} → Walkable cells links whole place room → Walkable cells links second place₁ room₁
    second_fits w =
        part_fits w (walks_long walk ∙ blank.1) (omega (arith, walk.moved, ap count both, length-append first.marks second.marks))

    -- Both are walked, one after the other.
    pub both_walk : {place₂ held₂ held : ℕ} {current₂ room₂ : List ℕ} → Walks second place₁ place₂ current₁ current₂ room₁ room₂ held₂
        → held ≡ bit_or held₁ held₂ → Walks whole place place₂ current current₂ room room₂ held
    both_walk w' eh =
        rw both
        (record {
          stored =
              cc (w'.stored, walk.stored, walk.moved, blank.0, add-one place, sets_append (set room place 0) (place + 1) first.marks second.marks);
          moved = omega (arith, walk.moved, w'.moved, length-append first.marks second.marks);
          holding = cc (eh, walk.holding, w'.holding);
          kept = w'.kept ∙ walk.kept;
        })

  module _ (name : ℕ) {whole body : Marked} (function : whole ≡ binding name body) where
    -- There is room for the body of a function.
    pub body_fits : {cells links : List ℕ} → Walkable cells links whole place room → Walkable cells links body (place + 1) room₀
    body_fits w = part_fits w blank.1 (omega (arith, ap count function))

    -- A function's body is walked with its binder in its slot; then the slot has the outer binder again, and the function's own is marked.
    pub function_walks : {cells : List ℕ} {slot outer mark place₁ held : ℕ} {current current₁ current₂ current₃ room₁ room₂ : List ℕ}
        → Enters cells name place current current₁ slot outer → Walks body (place + 1) place₁ current₁ current₂ room₀ room₁ held
        → current₃ ≡ set current₂ slot outer → mark ≡ binder_mark_of name held → Stored place mark room₁ room₂
        → Walks whole place place₁ current current₃ room room₂ held
    function_walks {cells} {mark = mark} {current = current} entered w left em stored =
        rw function
        (record {
          stored =
              cc (
                stored.0,
                w.stored,
                blank.0,
                set_sets (set room place 0) place (place + 1) mark body.marks (omega arith),
                set-set room place 0 mark,
                add-one place,
                em,
                w.holding,
              );
          moved = omega (arith, w.moved);
          holding = w.holding;
          kept =
              cc (left, w.kept, entered.stored, entered.slot_is, entered.outer_is, restored current (slot_of cells name) (place + 1));
        })

-- ------------------------------------------------------------------ rows

-- Where no depth is left, a term is read as a number.
pub shallow_marked : (cells : List ℕ) (depth row place : ℕ) (current : List ℕ) → depth ≡ 0 → term_marks cells depth row place current ≡ bare
unfolding term_at marked_term
shallow_marked cells depth row place current e = rw e refl

-- And a field list as empty.
pub shallow_fields_marked : (cells : List ℕ) (depth row place : ℕ) (current : List ℕ) → depth ≡ 0 → field_marks cells depth row place current ≡ bare
unfolding field_list_at marked_fields
shallow_fields_marked cells depth row place current e = rw e refl

-- A row's code is read where some depth is left.
pub record RowRead (cells : List ℕ) (depth row code : ℕ) : Type 0 where
  -- some depth is left
  pub some : depth ≡ 0 → ⊥
  -- the code stands in the row
  pub at : code ≡ column cells row 0

-- No code of a variable, a function, an application, a record or a selection.
abbrev pub OtherCode : ℕ → Type 0
OtherCode code = ((((Unit {0} × (code ≡ 0x20 → ⊥)) × (code ≡ 0x21 → ⊥)) × (code ≡ 0x22 → ⊥)) × (code ≡ 0x23 → ⊥)) × (code ≡ 0x24 → ⊥)

module _ {cells : List ℕ} {depth row code : ℕ} (read : RowRead cells depth row code) (place : ℕ) (current : List ℕ) where
  -- A variable's row.
  pub var_marked : code ≡ 0x20 → {name : ℕ} → name ≡ column cells row 1 → term_marks cells depth row place current ≡ variable_marked cells current name
  unfolding marked_term
  var_marked e en = rw (en, rows.var_row_lem no_spell cells depth row read.some read.at e) refl

  -- A function's row.
  pub fun_marked : code ≡ 0x21 → {name part : ℕ} → name ≡ column cells row 1 → part ≡ column cells row 2 → {current₁ : List ℕ}
      → current₁ ≡ set current (slot_of cells name) (place + 1)
      → term_marks cells depth row place current ≡ binding name (term_marks cells (depth - 1) part (place + 1) current₁)
  unfolding marked_term
  fun_marked e en ep ec = rw (ec, en, ep, rows.fun_row_lem no_spell cells depth row read.some read.at e) refl

  -- An application's row: the second term begins behind the first.
  pub app_marked : code ≡ 0x22 → {part part' : ℕ} → part ≡ column cells row 1 → part' ≡ column cells row 2 → {place₁ : ℕ} {current₁ : List ℕ}
      → place₁ ≡ place + 1 + count (term_marks cells (depth - 1) part (place + 1) current) → current₁ ≡ current
      → term_marks cells depth row place current
      ≡ over_both (term_marks cells (depth - 1) part (place + 1) current) (term_marks cells (depth - 1) part' place₁ current₁)
  unfolding marked_term
  app_marked e ep ep' el ec = rw (ec, el, ep, ep', rows.app_row_lem no_spell cells depth row read.some read.at e) refl

  -- A record's row.
  pub rcd_marked : code ≡ 0x23 → {part : ℕ} → part ≡ column cells row 1
      → term_marks cells depth row place current ≡ over (field_marks cells (depth - 1) part (place + 1) current)
  unfolding marked_term
  rcd_marked e ep = rw (ep, rows.rcd_row_lem no_spell cells depth row read.some read.at e) refl

  -- A selection's row.
  pub dot_marked : code ≡ 0x24 → {part : ℕ} → part ≡ column cells row 1
      → term_marks cells depth row place current ≡ over (term_marks cells (depth - 1) part (place + 1) current)
  unfolding marked_term
  dot_marked e ep = rw (ep, rows.dot_row_lem no_spell cells depth row read.some read.at e) refl

  -- Any other row.
  pub num_marked : OtherCode code → term_marks cells depth row place current ≡ bare
  unfolding marked_term
  num_marked (((((_, v), a), b), c), d) =
      rows.number_row no_spell cells depth row read.some read.at (λ t. marked_term cells t row place current ≡ bare) (λ n. refl) v a b c d

  -- The row of a field: the fields behind it begin behind its term.
  pub cons_marked : code ≡ 0x26 → {part part' : ℕ} → part ≡ column cells row 2 → part' ≡ column cells row 3 → {place₁ : ℕ} {current₁ : List ℕ}
      → place₁ ≡ place + 1 + count (term_marks cells (depth - 1) part (place + 1) current) → current₁ ≡ current
      → field_marks cells depth row place current
      ≡ over_both (term_marks cells (depth - 1) part (place + 1) current) (field_marks cells (depth - 1) part' place₁ current₁)
  unfolding marked_fields
  cons_marked e ep ep' el ec = rw (ec, el, ep, ep', rows.cons_row_lem no_spell cells depth row read.some read.at e) refl

  -- Any other row of a field list.
  pub nil_marked : (code ≡ 0x26 → ⊥) → field_marks cells depth row place current ≡ bare
  unfolding marked_fields
  nil_marked e = rw (rows.nil_row_lem no_spell cells depth row read.some read.at e) refl
