-- Labels that differ, counted by stamps at their numbers.
use Prim.Native.Nat.{ℕ, suc, ◌+◌, ◌-◌, ◌<◌, ◌≤◌}
use mathlib.Core.Path.{◌≡◌, refl, sym, ap, ◌∙◌}
use mathlib.Core.Bool.{Bool, true, false, ◌||◌}
use mathlib.Core.List.{List, [], ◌∷◌}
use native.Mathlib.Nat.{zero-add}
use native.Mathlib.Omega.{arith}
use lib.Dec.{eqb}
use lib.ListN.{length, get_or, set, length-set}
use lib.Seq.{get_or-set_same, get_or-set_other}
use borrow.Author.Tests.{ne_eqb, eq-eqb, eqb-true, eqb-false}
use Rattle.spellings.specs.Bytes.{same}
use Rattle.spellings.proofs.BytesLaws.{by_test}
use Rattle.terms.specs.Cells.{column}
use Rattle.terms.specs.Term.{Name, Term, Fields, variable, function, apply, rcd, dot, number, nil, cons}
use Rattle.terms.specs.Rows.{field_list_at}
use Rattle.terms.specs.Labels.{is_among}
use Rattle.rows.proofs.RowLaws as rows
use Rattle.labels.specs.Stamps.{single, numbered_term, numbered_fields, EachLabel, differing, EachLabelFields, LabelsBelowFields}
use Rattle.labels.specs.Stamps.{PutsStamp, Stampable, Stamps}

-- ------------------------------------------------------------------ what holds of each label

mutual
  unfolding EachLabel EachLabelFields

  -- What follows from something that holds of each label holds of each.
  pub each_label : {P Q : ℕ → Type 0} → ((n : ℕ) → P n → Q n) → (t : Term Name) → EachLabel P t → EachLabel Q t
  each_label from (variable v) h = tt
  each_label from (function b t) h = each_label from t h
  each_label from (apply t u) h = (each_label from t h.0, each_label from u h.1)
  each_label from (rcd f) h = each_label_fields from f h
  each_label from (dot t l) h = each_label from t h
  each_label from (number n) h = tt

  each_label_fields : {P Q : ℕ → Type 0} → ((n : ℕ) → P n → Q n) → (f : Fields Name) → EachLabelFields P f → EachLabelFields Q f
  each_label_fields from nil h = tt
  each_label_fields from (cons l t f) h = (from (get_or l 0 0) h.0, each_label from t h.1, each_label_fields from f h.2)

-- ------------------------------------------------------------------ one more stamp

-- a room has the stamp at exactly the numbers of some labels
abbrev pub StampedAt : List ℕ → ℕ → List (List ℕ) → Type 0
StampedAt stamps stamp earlier = (l : ℕ) → l < length stamps → eqb (get_or stamps l 0) stamp ≡ is_among (single l) earlier

-- whether a number is among labels, with one more in front
among_more : (other label : ℕ) (earlier : List (List ℕ))
    → is_among (single other) (single label ∷ earlier) ≡ (eqb other label || is_among (single other) earlier)
unfolding is_among same
among_more other label earlier = by_test (eqb other label) (λ e. rw e refl) (λ e. rw e refl)

module _ (stamps : List ℕ) (label stamp : ℕ) (inside : label < length stamps) where
  -- what a room with one more stamp has at a number: the stamp, or what it had
  stamp_read : (P : ℕ → Type 0) (other : ℕ) → (other ≡ label → P stamp) → ((other ≡ label → ⊥) → P (get_or stamps other 0))
      → P (get_or (set stamps label stamp) other 0)
  stamp_read P other here kept =
      by_test (eqb other label)
      (λ e.
      let q = eqb-true other label e in
      rw (q, get_or-set_same stamps label stamp 0 inside) (here q))
      (λ e.
      let q = eqb-false other label e in
      rw (get_or-set_other stamps label other stamp 0 q) (kept q))

  -- the room has the stamp of the new label too
  stamped_more : (earlier : List (List ℕ)) → StampedAt stamps stamp earlier → StampedAt (set stamps label stamp) stamp (single label ∷ earlier)
  stamped_more earlier known other h =
      rw among_more
      (stamp_read (λ v. eqb v stamp ≡ (eqb other label || is_among (single other) earlier)) other
      (λ q. rw (eq-eqb stamp stamp refl, eq-eqb other label q))
      (λ q. rw (ne_eqb other label q) (known other (omega (arith, length-set stamps label stamp)))))

  -- and none is above it
  most_more : ((l : ℕ) → get_or stamps l 0 ≤ stamp) → (l : ℕ) → get_or (set stamps label stamp) l 0 ≤ stamp
  most_more most l = stamp_read (λ v. v ≤ stamp) l (λ q. omega arith) (λ q. most l)

-- ------------------------------------------------------------------ the loop

-- So many labels at the front differ, and the fields from a row on are left.
pub record Counting (cells : List ℕ) (bound row stamp : ℕ) (stamps : List ℕ) (count part : ℕ) (stamps' : List ℕ) : Type 0 where
  -- no more labels than the depth are counted
  pub within : count ≤ bound
  -- the labels counted, the last one first
  pub earlier : List (List ℕ)
  -- these have the stamp, and no other number has it
  pub known : StampedAt stamps' stamp earlier
  -- the count, with what is left behind these labels, is that of the whole
  pub rest : count + differing earlier (numbered_fields cells (bound - count) part) ≡ differing [] (numbered_fields cells bound row)
  -- the labels left have numbers within the room
  pub below : LabelsBelowFields (length stamps) (numbered_fields cells (bound - count) part)
  -- the room is as long as it was
  pub long : length stamps' ≡ length stamps
  -- no stamp is above this one
  pub most : (l : ℕ) → get_or stamps' l 0 ≤ stamp

-- No label is counted yet.
pub counting_start : {cells : List ℕ} {bound row stamp : ℕ} {stamps : List ℕ} → Stampable cells bound row stamps stamp
    → Counting cells bound row stamp stamps 0 row stamps
unfolding is_among
counting_start {cells} {bound} {row} {stamp} {stamps} p =
    let whole : bound - 0 ≡ bound = omega arith in
    record {
      within = omega arith;
      earlier = [];
      known = λ l h. ne_eqb (get_or stamps l 0) stamp (λ e. omega (arith, p.unused l));
      rest = rw (whole, zero-add);
      below = rw whole p.below;
      long = refl;
      most = λ l. omega (arith, p.unused l);
    }

module _ {cells : List ℕ} {bound row stamp : ℕ} {stamps : List ℕ} {count part : ℕ} {stamps' : List ℕ}
    (counting : Counting cells bound row stamp stamps count part stamps')
  where
    abbrev Ahead : Fields Name
    Ahead = numbered_fields cells (bound - count) part

    -- nothing that is left differs
    counted : differing counting.earlier Ahead ≡ 0 → count ≡ differing [] (numbered_fields cells bound row)
    counted e = omega (arith, e, counting.rest)

    ended : Ahead ≡ nil → Stamps cells bound row stamps stamp count stamps'
    unfolding differing
    ended e = record { count = counted (rw e); long = counting.long; most = counting.most }

    -- The whole depth is used up.
    pub counting_end : bound ≤ count → Stamps cells bound row stamps stamp bound stamps'
    unfolding field_list_at
    counting_end h =
        let none : bound - count ≡ 0 = omega arith in
        let all : bound ≡ count = omega (arith, counting.within) in
        let ends = ended (rw none) in
        record { count = all ∙ ends.count; long = ends.long; most = ends.most }

    module _ (more : count < bound) {code : ℕ} (read : code ≡ column cells part 0) where
      some : bound - count ≡ 0 → ⊥
      some e = omega arith

      -- A row that is no field.
      pub counting_nil : (code ≡ 0x26 → ⊥) → Stamps cells bound row stamps stamp count stamps'
      counting_nil e = ended (rows.nil_row_lem single cells (bound - count) part some read e)

      module _ (field : code ≡ 0x26) {label : ℕ} (label_read : label ≡ column cells part 1) where
        abbrev Behind : Fields Name
        Behind = numbered_fields cells (bound - count - 1) (column cells part 3)

        ahead : Ahead ≡ cons (single label) (numbered_term cells (bound - count - 1) (column cells part 2)) Behind
        ahead = rw label_read (rows.cons_row_lem single cells (bound - count) part some read field)

        -- A field's label has a number within the room.
        pub counting_inside : label < length stamps'
        unfolding EachLabelFields
        counting_inside = omega (arith, (rw ahead at counting.below).0, counting.long)

        module _ {again : Bool} {stamps'' : List ℕ} (stamped : PutsStamp stamps' label stamp again stamps'') where
          among : is_among (single label) counting.earlier ≡ again
          among = sym (counting.known label counting_inside) ∙ sym stamped.told

          long'' : length stamps'' ≡ length stamps
          long'' = ap length stamped.put ∙ length-set stamps' label stamp ∙ counting.long

          most'' : (l : ℕ) → get_or stamps'' l 0 ≤ stamp
          most'' = rw stamped.put (most_more stamps' label stamp counting_inside counting.most)

          -- A label that stood earlier.
          pub counting_again : again ≡ true → Stamps cells bound row stamps stamp count stamps''
          unfolding differing
          counting_again e = record { count = counted (rw (ahead, among ∙ e)); long = long''; most = most'' }

          -- One that did not.
          pub counting_next : again ≡ false → {part' : ℕ} → part' ≡ column cells part 3 → Counting cells bound row stamp stamps (count + 1) part' stamps''
          unfolding differing EachLabelFields
          counting_next e {part' = part'} q =
              let fewer : bound - (count + 1) ≡ bound - count - 1 = omega arith in
              let one : differing counting.earlier Ahead ≡ suc (differing (single label ∷ counting.earlier) Behind) = rw (ahead, among ∙ e) in
              record {
                within = omega arith;
                earlier = single label ∷ counting.earlier;
                known = rw stamped.put (stamped_more stamps' label stamp counting_inside counting.earlier counting.known);
                rest = rw (fewer, q) (omega (arith, one, counting.rest));
                below = rw (fewer, q) (rw ahead at counting.below).2;
                long = long'';
                most = most'';
              }
