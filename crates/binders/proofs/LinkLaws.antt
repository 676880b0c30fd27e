-- Laws of the links between rows that bind: what a search finds, and that one more row keeps them.
use Prim.Native.Nat.{ℕ, zero, suc, ◌+◌, ◌-◌, ◌*◌, ◌/◌, ◌%◌, ◌<◌, ◌≤◌}
use mathlib.Core.Path.{◌≡◌, refl, sym, ap, subst, ◌∙◌}
use mathlib.Core.Bool.{true, false, and-eq-true_iff}
use mathlib.Core.List.{List}
use native.Mathlib.Nat.{mod-lt}
use native.Mathlib.Omega.{arith}
use lib.Dec.{eqb, ltb}
use lib.ListN.{length, get_or, set, length-set}
use lib.Seq.{get_or-set_same, get_or-set_other}
use borrow.Author.Tests.{eq-eqb, eqb-true, eqb-false, ltb-true, ltb-false}
use Rattle.spellings.proofs.BytesLaws.{by_test}
use Rattle.terms.specs.Cells.{column, columns, most_cells}
use Rattle.binders.specs.Slots.{binds, slot_from}
use Rattle.binders.specs.Links.{FirstBinding, NewestRow, LinkedTo, links_with_row}

-- ------------------------------------------------------------------ first rows

module _ (cells : List ℕ) (sought : ℕ) where
  -- a slot is a row, or `most_cells`
  pub slot_le : (rows row : ℕ) → row + rows ≤ most_cells → slot_from rows cells row sought ≤ most_cells
  unfolding slot_from
  slot_le zero row l = omega arith
  slot_le (suc rows) row l =
      by_test (binds cells row sought) (λ e. rw (e, slot_from) (omega arith)) (λ e. rw (e, slot_from) (slot_le rows (suc row) (omega arith)))

  -- the first of some rows, and one more row behind them
  slot_more : (rows row : ℕ) → row + rows ≤ most_cells → slot_from rows cells row sought < most_cells
      → slot_from (suc rows) cells row sought ≡ slot_from rows cells row sought
  unfolding slot_from
  slot_more zero row l h = absurd (omega arith)
  slot_more (suc rows) row l h =
      by_test (binds cells row sought) (λ e. rw (e, slot_from) refl)
      (λ e. rw (e, slot_from) ((slot_more rows (suc row) (omega arith) (rw (e, slot_from) at h))))

  slot_last : (rows row : ℕ) → slot_from rows cells row sought ≡ most_cells → row + rows < most_cells → binds cells (row + rows) sought ≡ true
      → slot_from (suc rows) cells row sought ≡ row + rows
  unfolding slot_from
  slot_last zero row h l b =
      let z : row + 0 ≡ row = omega arith in
      let b' : binds cells row sought ≡ true = cc in
      rw (b', slot_from) (sym z)
  slot_last (suc rows) row h l b =
      by_test (binds cells row sought)
      (λ e.
      let g : slot_from (suc rows) cells row sought ≡ row = rw (e, slot_from) refl in
      absurd (omega (arith, g, h)))
      (λ e.
      let z : row + suc rows ≡ suc row + rows = omega arith in
      rw (e, slot_from) (slot_last rows (suc row) (rw (e, slot_from) at h) (omega arith) (cc) ∙ sym z))

  slot_none : (rows row : ℕ) → slot_from rows cells row sought ≡ most_cells → binds cells (row + rows) sought ≡ false
      → slot_from (suc rows) cells row sought ≡ most_cells
  unfolding slot_from
  slot_none zero row h b =
      let z : row + 0 ≡ row = omega arith in
      let b' : binds cells row sought ≡ false = cc in
      rw (b', slot_from) refl
  slot_none (suc rows) row h b =
      by_test (binds cells row sought)
      (λ e. let g : slot_from (suc rows) cells row sought ≡ row = rw (e, slot_from) refl in rw (e, slot_from) (sym g ∙ h))
      (λ e.
      let z : row + suc rows ≡ suc row + rows = omega arith in
      rw (e, slot_from) (slot_none rows (suc row) (rw (e, slot_from) at h) cc))

  last_of_all : (rows : ℕ) → slot_from rows cells 0 sought ≡ most_cells → rows < most_cells → binds cells rows sought ≡ true
      → slot_from (suc rows) cells 0 sought ≡ rows
  last_of_all rows h l b =
      let z : 0 + rows ≡ rows = omega arith in
      slot_last rows 0 h (omega arith) (cc) ∙ z

  none_of_all : (rows : ℕ) → slot_from rows cells 0 sought ≡ most_cells → binds cells rows sought ≡ false → slot_from (suc rows) cells 0 sought ≡ most_cells
  none_of_all rows h b = let z : 0 + rows ≡ rows = omega arith in slot_none rows 0 h cc

  -- found among `rows` rows, or not: one row more decides
  slot_grows : (rows : ℕ) → rows < most_cells → (slot_from rows cells 0 sought < most_cells → ⊥) → slot_from rows cells 0 sought ≡ most_cells
  slot_grows rows l h = omega (arith, slot_le rows 0 (omega arith))

binds_name : (cells : List ℕ) (row name : ℕ) → binds cells row name ≡ true → column cells row 1 ≡ name
binds_name cells row name e = eqb-true (column cells row 1) name ((and-eq-true_iff (eqb (column cells row 0) 0x21) (eqb (column cells row 1) name)).0 e).1

binds_code : (cells : List ℕ) (row name : ℕ) → binds cells row name ≡ true → column cells row 0 ≡ 0x21
binds_code cells row name e = eqb-true (column cells row 0) 0x21 ((and-eq-true_iff (eqb (column cells row 0) 0x21) (eqb (column cells row 1) name)).0 e).0

binds_row : (cells : List ℕ) (row name : ℕ) → column cells row 0 ≡ 0x21 → column cells row 1 ≡ name → binds cells row name ≡ true
binds_row cells row name a b =
    (and-eq-true_iff (eqb (column cells row 0) 0x21) (eqb (column cells row 1) name)).1 (eq-eqb (column cells row 0) 0x21 a, eq-eqb (column cells row 1) name b)

-- the slot of `name` among `rows` rows is a first row, of `name`
pub record SlotIs (cells : List ℕ) (name rows slot : ℕ) : Type 0 where
  -- it is one of them
  pub inside : slot < rows
  -- it binds `name`
  pub named : column cells slot 1 ≡ name
  -- and no row before it does
  pub is_first : FirstBinding cells slot

-- The slot of a name that some row binds.
pub slot_is : (cells : List ℕ) (name rows : ℕ) → rows ≤ most_cells → slot_from rows cells 0 name < most_cells → SlotIs cells name rows (slot_from rows cells 0 name)
unfolding slot_from
slot_is cells name zero l h = absurd (omega arith)
slot_is cells name (suc rows) l h =
    by_test (ltb (slot_from rows cells 0 name) most_cells)
    (λ e.
    let g : slot_from rows cells 0 name < most_cells = ltb-true (slot_from rows cells 0 name) most_cells e in
    let s : SlotIs cells name rows (slot_from rows cells 0 name) = slot_is cells name rows (omega arith) g in
    rw (slot_more cells name rows 0 (omega arith) g) (record { inside = omega (arith, s.inside); named = s.named; is_first = s.is_first }))
    (λ e.
    let g : slot_from rows cells 0 name ≡ most_cells = slot_grows cells name rows (omega arith)
    (λ k. omega (arith, ltb-false (slot_from rows cells 0 name) most_cells e)) in
    by_test (binds cells rows name)
    (λ b.
    let nm : column cells rows 1 ≡ name = binds_name cells rows name b in
    rw (last_of_all cells name rows g (omega arith) b)
    (record {
      inside = omega arith;
      named = nm;
      is_first = record { binding = ap (binds cells rows) nm ∙ b; earliest = ap (slot_from rows cells 0) nm ∙ g };
    }))
    (λ b.
    let z : slot_from (suc rows) cells 0 name ≡ most_cells = none_of_all cells name rows g b in
    absurd (omega (arith, z))))

-- a first row is the slot of its name among all rows behind it
slot_stays : (cells : List ℕ) (name slot rows : ℕ) → slot_from (suc slot) cells 0 name ≡ slot → suc (slot + rows) ≤ most_cells
    → slot_from (suc (slot + rows)) cells 0 name ≡ slot
slot_stays cells name slot zero e l = let z : suc (slot + 0) ≡ suc slot = omega arith in cc
slot_stays cells name slot (suc rows) e l =
    let z : suc (slot + suc rows) ≡ suc (suc (slot + rows)) = omega arith in
    let s : slot_from (suc (slot + rows)) cells 0 name ≡ slot = slot_stays cells name slot rows e (omega arith) in
    cc (slot_more cells name (suc (slot + rows)) 0 (omega arith) (omega arith))

first_slot : {cells : List ℕ} {slot : ℕ} → FirstBinding cells slot → (rows : ℕ) → slot < rows → rows ≤ most_cells
    → slot_from rows cells 0 (column cells slot 1) ≡ slot
first_slot {cells} {slot} f rows l m =
    let z : rows ≡ suc (slot + (rows - suc slot)) = omega arith in
    cc
    (slot_stays cells (column cells slot 1) slot (rows - suc slot) (last_of_all cells (column cells slot 1) slot f.earliest (omega arith) f.binding)
    (omega arith))

-- ------------------------------------------------------------------ the search

-- every first row of name `sought` is older than where `link` leads, and that one is a first row with the hash of `sought`
pub record Chasing (rows : ℕ) (cells : List ℕ) (half sought link : ℕ) : Type 0 where
  -- `link` leads to one of the rows or to none
  pub small : link ≤ rows
  -- the first row of `sought`, if there is one, is not behind where `link` leads
  pub all : (earlier : ℕ) → earlier < rows → FirstBinding cells earlier → column cells earlier 1 ≡ sought → earlier < link
  -- `link` leads to a row that binds its name first
  pub first : (found : ℕ) → link ≡ suc found → FirstBinding cells found
  -- whose name has the hash of `sought`
  pub hashed : (found : ℕ) → link ≡ suc found → column cells found 1 % half ≡ sought % half

module _ {rows : ℕ} {cells links : List ℕ} (linked : LinkedTo rows cells links) (sought : ℕ) where
  abbrev Half : ℕ
  Half = length links / 2

  hash_small : sought % Half < Half
  hash_small = mod-lt sought linked.some

  -- the search begins at the link of the hash of `sought`
  pub chasing_start : {link : ℕ} → link ≡ get_or links (sought % Half) 0 → Chasing rows cells Half sought link
  chasing_start e =
      let w : NewestRow cells Half (sought % Half) rows (get_or links (sought % Half) 0) = linked.heads (sought % Half) hash_small in
      rw e (record { small = w.small; all = λ j l f h. w.all j l f cc; first = w.first; hashed = w.hashed })

  module _ {link : ℕ} (chasing : Chasing rows cells Half sought link) where
    -- where a link leads to none, no row binds `sought`
    pub chasing_end : link ≤ 0 → most_cells ≡ slot_from rows cells 0 sought
    chasing_end h =
        by_test (ltb (slot_from rows cells 0 sought) most_cells)
        (λ e.
        let s : SlotIs cells sought rows (slot_from rows cells 0 sought) = slot_is cells sought rows linked.few
        (ltb-true (slot_from rows cells 0 sought) most_cells e) in
        absurd (omega (arith, chasing.all (slot_from rows cells 0 sought) s.inside s.is_first s.named)))
        (λ e. omega (arith, slot_le cells sought rows 0 (omega (arith, linked.few)), ltb-false (slot_from rows cells 0 sought) most_cells e))

    module _ (below : 0 < link) where
      at_first : FirstBinding cells (link - 1)
      at_first = chasing.first (link - 1) (omega arith)

      -- the row led to is below 16,384
      pub chasing_inside : link - 1 < most_cells
      chasing_inside = omega (arith, chasing.small, linked.few)

      -- a row with the name `sought` is the first that binds it
      pub chasing_found : {read_name : ℕ} → read_name ≡ column cells (link - 1) 1 → read_name ≡ sought → link - 1 ≡ slot_from rows cells 0 sought
      chasing_found e f =
          sym (first_slot at_first rows (omega (arith, chasing.small)) linked.few) ∙ ap (slot_from rows cells 0) (sym e ∙ f)

      module _ {read_name : ℕ} (ey : read_name ≡ column cells (link - 1) 1) (differs : read_name ≡ sought → ⊥) {next : ℕ}
          (en : next ≡ get_or links (Half + (link - 1)) 0) where
        newest : NewestRow cells Half (column cells (link - 1) 1 % Half) (link - 1) (get_or links (Half + (link - 1)) 0)
        newest = linked.nexts (link - 1) (omega (arith, chasing.small)) at_first

        -- the next link leads to an older row
        pub chasing_less : next < link
        chasing_less = omega (arith, en, newest.small)

        -- at a row with another name the search goes on with the next link
        pub chasing_next : Chasing rows cells Half sought next
        chasing_next =
            let hs : column cells (link - 1) 1 % Half ≡ sought % Half = chasing.hashed (link - 1) (omega arith) in
            rw en
            (record {
              small = omega (arith, newest.small, chasing.small);
              all =
                  λ j l f e.
                  let other : j ≡ link - 1 → ⊥ = λ z. differs cc in
                  newest.all j (omega (arith, chasing.all j l f e, other)) f cc;
              first = newest.first;
              hashed = λ q e. newest.hashed q e ∙ hs;
            })

-- ------------------------------------------------------------------ one more row

newest_on : {cells : List ℕ} {half hash below link : ℕ} → NewestRow cells half hash below link
    → (FirstBinding cells below → column cells below 1 % half ≡ hash → ⊥)
    → NewestRow cells half hash (below + 1) link
newest_on {cells} {half} {hash} {below} {link} w d =
    record {
      small = omega (arith, w.small);
      all =
          λ j l f e.
          by_test (eqb j below)
          (λ t. let z : j ≡ below = eqb-true j below t in absurd (d (subst (FirstBinding cells) z f) cc))
          (λ t. w.all j (omega (arith, eqb-false j below t)) f e);
      first = w.first;
      hashed = w.hashed;
    }

-- a row that is no first row changes nothing
pub linked_skip : {rows : ℕ} {cells links : List ℕ} → LinkedTo rows cells links → rows < length links / 2 → rows < most_cells → (FirstBinding cells rows → ⊥)
    → LinkedTo (rows + 1) cells links
linked_skip {rows} {cells} {links} k r l d =
    record {
      few = omega arith;
      some = k.some;
      room = omega arith;
      heads = λ h b. newest_on (k.heads h b) (λ f e. d f);
      nexts =
          λ i b f.
          by_test (eqb i rows)
          (λ t. absurd (d (subst (FirstBinding cells) (eqb-true i rows t) f)))
          (λ t. k.nexts i (omega (arith, eqb-false i rows t)) f);
    }

module _ {rows : ℕ} {cells links : List ℕ} (linked : LinkedTo rows cells links) (below : rows < length links / 2) (under : rows < most_cells)
    (binds_first : FirstBinding cells rows) where
  x : ℕ
  x = column cells rows 1

  half : ℕ
  half = length links / 2

  links₁ : List ℕ
  unfolding x half
  links₁ = set links (half + rows) (get_or links (x % half) 0)

  links₂ : List ℕ
  unfolding x half links₁
  links₂ = set links₁ (x % half) (rows + 1)

  double : half + half ≤ length links
  unfolding half
  double = omega arith

  hx : x % half < half
  unfolding x half
  hx = mod-lt (column cells rows 1) linked.some

  rn : rows < half
  unfolding half
  rn = below

  long : length links₂ ≡ length links
  unfolding links₁ links₂
  long = length-set links₁ (x % half) (rows + 1) ∙ length-set links (half + rows) (get_or links (x % half) 0)

  half_same : length links₂ / 2 ≡ half
  unfolding half
  half_same = rw long refl

  head_same : get_or links₂ (x % half) 0 ≡ rows + 1
  unfolding links₁ links₂
  head_same =
      get_or-set_same links₁ (x % half) (rows + 1) 0 (omega (arith, hx, double, length-set links (half + rows) (get_or links (x % half) 0)))

  head_other : (hash : ℕ) → hash < half → (hash ≡ x % half → ⊥) → get_or links₂ hash 0 ≡ get_or links hash 0
  unfolding links₁ links₂
  head_other hash b d =
      get_or-set_other links₁ (x % half) hash (rows + 1) 0 d
      ∙ get_or-set_other links (half + rows) hash (get_or links (x % half) 0) 0 (λ e. omega (arith, e))

  next_same : get_or links₂ (half + rows) 0 ≡ get_or links (x % half) 0
  unfolding links₁ links₂
  next_same =
      get_or-set_other links₁ (x % half) (half + rows) (rows + 1) 0 (λ e. omega (arith, e, hx))
      ∙ get_or-set_same links (half + rows) (get_or links (x % half) 0) 0 (omega (arith, double, rn))

  next_other : (older : ℕ) → older < rows → get_or links₂ (half + older) 0 ≡ get_or links (half + older) 0
  unfolding links₁ links₂
  next_other older b =
      get_or-set_other links₁ (x % half) (half + older) (rows + 1) 0 (λ e. omega (arith, e, hx))
      ∙ get_or-set_other links (half + rows) (half + older) (get_or links (x % half) 0) 0 (λ e. omega (arith, e))

  old_head : (hash : ℕ) → hash < half → NewestRow cells half hash rows (get_or links hash 0)
  unfolding half
  old_head hash b = linked.heads hash b

  old_next : (older : ℕ) → older < rows → FirstBinding cells older → NewestRow cells half (column cells older 1 % half) older (get_or links (half + older) 0)
  unfolding half
  old_next older b g = linked.nexts older b g

  newest_same : NewestRow cells half (x % half) (rows + 1) (get_or links₂ (x % half) 0)
  unfolding x
  newest_same =
      rw head_same
      (record {
        small = omega arith;
        all = λ j b g e. omega arith;
        first = λ q e. subst (FirstBinding cells) (omega arith) binds_first;
        hashed = λ q e. let z : q ≡ rows = omega arith in cc;
      })

  newest_other : (hash : ℕ) → hash < half → (hash ≡ x % half → ⊥) → NewestRow cells half hash (rows + 1) (get_or links₂ hash 0)
  unfolding x
  newest_other hash b d = rw (head_other hash b d) (newest_on (old_head hash b) (λ g e. d (sym e)))

  heads : (hash : ℕ) → hash < half → NewestRow cells half hash (rows + 1) (get_or links₂ hash 0)
  heads hash b =
      by_test (eqb hash (x % half))
      (λ e. rw (eqb-true hash (x % half) e) newest_same)
      (λ e. newest_other hash b (eqb-false hash (x % half) e))

  nexts : (older : ℕ) → older < rows + 1 → FirstBinding cells older → NewestRow cells half (column cells older 1 % half) older (get_or links₂ (half + older) 0)
  unfolding x
  nexts older b g =
      by_test (eqb older rows)
      (λ e.
      let z : rows ≡ older = sym (eqb-true older rows e) in
      rw (← z) (rw next_same (old_head (x % half) hx)))
      (λ e.
      let b' : older < rows = omega (arith, eqb-false older rows e) in
      rw (next_other older b') (old_next older b' g))

  linked_by : LinkedTo (rows + 1) cells links₂
  linked_by =
      record {
        few = omega arith;
        some = omega (arith, half_same, hx);
        room = omega (arith, half_same, rn);
        heads = λ h b. rw half_same (heads h (omega (arith, half_same)));
        nexts = λ i b g. rw half_same (nexts i b g);
      }

  linked_more : {links' : List ℕ} → links' ≡ links_with_row links rows (column cells rows 1) → LinkedTo (rows + 1) cells links'
  unfolding links₁ links₂ x half
  linked_more e = rw e linked_by

-- ------------------------------------------------------------------ the loop

-- rows before `row` are linked
pub record Linking (cells links₀ links : List ℕ) (row : ℕ) : Type 0 where
  -- `row` is a row or the end
  pub inside : row ≤ length cells / columns
  -- the links keep their number
  pub long : length links ≡ length links₀
  -- the links lead through the first rows of the names bound so far
  pub linked : LinkedTo row cells links

module _ {cells links₀ links : List ℕ} {row : ℕ}
    (linking : Linking cells links₀ links row) (few : length cells ≤ most_cells * columns) (fits : length cells / columns ≤ length links₀ / 2)
    (below : row < length cells / columns) where
  -- the row has a link
  pub row_fits : row < length links / 2
  row_fits = omega (arith, ap (λ m. m / 2) linking.long)

  -- it is below 16,384
  pub row_small : row < most_cells
  row_small = omega arith

  -- a row that binds its name first is linked
  pub add_row : {code name there : ℕ} → code ≡ column cells row 0 → name ≡ column cells row 1 → code ≡ 0x21 → there ≡ slot_from row cells 0 name
      → there ≡ most_cells → {links' : List ℕ} → links' ≡ links_with_row links row name → Linking cells links₀ links' (row + 1)
  add_row ec ex e et t {links'} el =
      let f : FirstBinding cells row =
      record { binding = binds_row cells row (column cells row 1) (sym ec ∙ e) refl; earliest = ap (slot_from row cells 0) (sym ex) ∙ sym et ∙ t } in
      let el' : links' ≡ links_with_row links row (column cells row 1) = el ∙ ap (links_with_row links row) ex in
      record {
        inside = omega arith;
        long =
            ap length el ∙ length-set (set links (length links / 2 + row) (get_or links (_ % (length links / 2)) 0)) _ (row + 1) ∙ length-set links
            (length links / 2 + row) _ ∙ linking.long;
        linked = linked_more linking.linked row_fits row_small f el';
      }
