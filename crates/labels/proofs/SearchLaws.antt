-- The walk that looks for a label given twice, constructor by constructor.
use Prim.Native.Nat.{ℕ, suc, ◌+◌, ◌-◌}
use mathlib.Core.Path.{◌≡◌, refl, sym, ap, ◌∙◌}
use mathlib.Core.Bool.{Bool, true, false}
use mathlib.Core.List.{List, [], ◌∷◌}
use native.Mathlib.Numerals.{add-one}
use native.Mathlib.Omega.{arith}
use Rattle.terms.specs.Cells.{column}
use Rattle.terms.specs.Term.{Name, Term, function, apply, rcd, dot, cons, size, size_fields}
use Rattle.terms.specs.Rows.{name_of, term_at, field_list_at}
use Rattle.terms.specs.Loose.{Walk, reached, and_then}
use Rattle.terms.specs.Labels.{is_among, stop_if, label_walk, label_walk_fields}
use Rattle.terms.proofs.Repeated.{label_reached}
use Rattle.rows.proofs.RowLaws as rows
use Rattle.labels.specs.Stamps.{single, numbered_term, numbered_fields, more_unless, differing, EachLabel, EachLabelFields, Stampable, Stamps}
use Rattle.labels.specs.Searches.{StampsTo, Searchable, SearchableFields, Searched, Searches, SearchesFields}

-- ------------------------------------------------------------------ walks

-- one constructor
passed : (place : ℕ) (stamps : List ℕ) → StampsTo place stamps → Searched (reached (suc place)) stamps false (place + 1) stamps
passed place stamps h = record { found = ap reached (sym (add-one place)); long = refl; earlier = λ e l. omega (arith, h l) }

-- where a first part has a label twice, it is that of both
then_found : {first : Walk} (on : ℕ → Walk) {stamps stamps' : List ℕ} {r : Bool} {place' : ℕ} → Searched first stamps r place' stamps' → r ≡ true
    → Searched (and_then first on) stamps true place' stamps'
then_found on s e =
    record { found = rw (s.found, e); long = s.long; earlier = λ f. s.earlier (e ∙ f) }

-- where it has none, the walk goes on
then_on : {first : Walk} (on : ℕ → Walk) {stamps between stamps' : List ℕ} {r r' : Bool} {middle place' : ℕ} → Searched first stamps r middle between
    → r ≡ false → Searched (on middle) between r' place' stamps' → Searched (and_then first on) stamps r' place' stamps'
then_on on s e s' =
    record {
      found = rw (s.found, e) s'.found;
      long = s'.long ∙ s.long;
      earlier = s'.earlier;
    }

-- and it is behind the first part's constructors
middle_is : (t : Term Name) (place : ℕ) {stamps between : List ℕ} {r : Bool} {middle : ℕ} → Searched (label_walk (place + 1) t) stamps r middle between
    → r ≡ false → middle ≡ place + 1 + size t
middle_is t place s e = label_reached t (place + 1) _ (rw e at s.found)

-- ------------------------------------------------------------------ the term at a row

module _ {cells : List ℕ} {depth row place : ℕ} {stamps : List ℕ} (s : Searchable cells depth row place stamps) where
  -- Where no depth is left there is one constructor.
  pub shallow : depth ≡ 0 → Searches cells depth row place stamps false (place + 1) stamps
  unfolding term_at label_walk
  shallow e = record { told = rw e (passed place stamps s.earlier) }

  later : StampsTo (place + 1) stamps
  later l = omega (arith, s.earlier l)

  module _ (some : depth ≡ 0 → ⊥) {code : ℕ} (read : code ≡ column cells row 0) where
    -- A variable or a number is one too.
    pub bare_searched : (code ≡ 0x21 → ⊥) → (code ≡ 0x22 → ⊥) → (code ≡ 0x23 → ⊥) → (code ≡ 0x24 → ⊥)
        → Searches cells depth row place stamps false (place + 1) stamps
    unfolding label_walk
    bare_searched a b c d =
        record {
          told =
              rows.bare_row single cells depth row some read (λ t. Searched (label_walk place t) stamps false (place + 1) stamps)
              (λ v. passed place stamps s.earlier) (λ n. passed place stamps s.earlier) a b c d;
        }

    module _ (is : code ≡ 0x21) {part : ℕ} (q : part ≡ column cells row 2) where
      is_fun : numbered_term cells depth row ≡ function (name_of single (column cells row 1)) (numbered_term cells (depth - 1) part)
      is_fun = rw q (rows.fun_row_lem single cells depth row some read is)

      -- The body of a function may be walked.
      pub fun_searchable : Searchable cells (depth - 1) part (place + 1) stamps
      unfolding EachLabel size
      fun_searchable = record { below = rw is_fun at s.below; room = omega (arith, s.room, ap size is_fun); earlier = later }

      -- Its walk is the function's.
      pub fun_searched : {r : Bool} {place' : ℕ} {stamps' : List ℕ} → Searches cells (depth - 1) part (place + 1) stamps r place' stamps'
          → Searches cells depth row place stamps r place' stamps'
      unfolding label_walk
      fun_searched h = record { told = rw is_fun (rw add-one at h.told) }

    module _ (is : code ≡ 0x24) {part : ℕ} (q : part ≡ column cells row 1) where
      is_dot : numbered_term cells depth row ≡ dot (numbered_term cells (depth - 1) part) (single (column cells row 2))
      is_dot = rw q (rows.dot_row_lem single cells depth row some read is)

      -- The term of a selection may be walked.
      pub dot_searchable : Searchable cells (depth - 1) part (place + 1) stamps
      unfolding EachLabel size
      dot_searchable = record { below = rw is_dot at s.below; room = omega (arith, s.room, ap size is_dot); earlier = later }

      -- Its walk is the selection's.
      pub dot_searched : {r : Bool} {place' : ℕ} {stamps' : List ℕ} → Searches cells (depth - 1) part (place + 1) stamps r place' stamps'
          → Searches cells depth row place stamps r place' stamps'
      unfolding label_walk
      dot_searched h = record { told = rw is_dot (rw add-one at h.told) }

    module _ (is : code ≡ 0x22) {first : ℕ} (q : first ≡ column cells row 1) where
      abbrev Second : Term Name
      Second = numbered_term cells (depth - 1) (column cells row 2)

      is_app : numbered_term cells depth row ≡ apply (numbered_term cells (depth - 1) first) Second
      is_app = rw q (rows.app_row_lem single cells depth row some read is)

      -- The first term of an application may be walked.
      pub app_searchable : Searchable cells (depth - 1) first (place + 1) stamps
      unfolding EachLabel size
      app_searchable = record { below = (rw is_app at s.below).0; room = omega (arith, s.room, ap size is_app); earlier = later }

      module _ {r : Bool} {middle : ℕ} {between : List ℕ} (h : Searches cells (depth - 1) first (place + 1) stamps r middle between) where
        -- A label given twice in it is that of the application.
        pub app_found : r ≡ true → Searches cells depth row place stamps true middle between
        unfolding label_walk
        app_found t = record { told = rw is_app (then_found (λ p. label_walk p Second) (rw add-one at h.told) t) }

        module _ (none : r ≡ false) {second : ℕ} (q' : second ≡ column cells row 2) where
          -- Where it has none, the second term may be walked.
          pub app_next : Searchable cells (depth - 1) second middle between
          unfolding EachLabel size
          app_next =
              record {
                below = rw (h.told.long, q') (rw is_app at s.below).1;
                room = rw q' (omega (arith, s.room, ap size is_app, middle_is (numbered_term cells (depth - 1) first) place h.told none));
                earlier = h.told.earlier none;
              }

          -- Both walks are the application's.
          pub app_searched : {r' : Bool} {place' : ℕ} {stamps' : List ℕ} → Searches cells (depth - 1) second middle between r' place' stamps'
              → Searches cells depth row place stamps r' place' stamps'
          unfolding label_walk
          app_searched h' = record { told = rw is_app (then_on (λ p. label_walk p Second) (rw add-one at h.told) none (rw q' at h'.told)) }

    module _ (is : code ≡ 0x23) {part : ℕ} (q : part ≡ column cells row 1) {stamp : ℕ} (own : stamp ≡ place + 1) where
      is_rcd : numbered_term cells depth row ≡ rcd (numbered_fields cells (depth - 1) part)
      is_rcd = rw q (rows.rcd_row_lem single cells depth row some read is)

      -- The labels of a record may be counted.
      pub rcd_stampable : Stampable cells (depth - 1) part stamps stamp
      unfolding EachLabel
      rcd_stampable = record { below = rw is_rcd at s.below; unused = λ l. omega (arith, s.earlier l) }

      module _ {left : ℕ} {between : List ℕ} (counted : Stamps cells (depth - 1) part stamps stamp left between) where
        -- Behind that its fields may be walked.
        pub rcd_searchable : SearchableFields cells (depth - 1) part (place + 1) between
        unfolding EachLabel size
        rcd_searchable =
            record {
              below = rw counted.long (rw is_rcd at s.below);
              room = omega (arith, s.room, ap size is_rcd);
              earlier = λ l. omega (arith, counted.most l);
            }

        -- Their walk is the record's.
        pub rcd_searched : {r : Bool} {place' : ℕ} {stamps' : List ℕ} → SearchesFields cells (depth - 1) part left (place + 1) between r place' stamps'
            → Searches cells depth row place stamps r place' stamps'
        unfolding label_walk
        rcd_searched h =
            let w = rw add-one at (h.told [] counted.count) in
            record { told = rw is_rcd (record { found = w.found; long = w.long ∙ counted.long; earlier = w.earlier }) }

-- ------------------------------------------------------------------ the field list at a row

-- none of some labels differs exactly if the first stood earlier
unless_none : (test : Bool) (n : ℕ) → 0 ≡ more_unless test n → test ≡ true
unless_none true n h = refl
unless_none false n h = absurd (omega arith)

unless_more : (test : Bool) {m : ℕ} (n : ℕ) → m ≡ more_unless test n → (m ≡ 0 → ⊥) → (test ≡ false) × (m - 1 ≡ n)
unless_more true n h k = absurd (k h)
unless_more false n h k = (refl, omega arith)

module _ {cells : List ℕ} {depth row place : ℕ} {stamps : List ℕ} (s : SearchableFields cells depth row place stamps) (left : ℕ) where
  -- Where no depth is left there is one constructor.
  pub shallow_fields : depth ≡ 0 → SearchesFields cells depth row left place stamps false (place + 1) stamps
  unfolding field_list_at label_walk_fields
  shallow_fields e = record { told = λ earlier l. rw e (passed place stamps s.earlier) }

  module _ (some : depth ≡ 0 → ⊥) {code : ℕ} (read : code ≡ column cells row 0) where
    -- The empty field list is one too.
    pub nil_searched : (code ≡ 0x26 → ⊥) → SearchesFields cells depth row left place stamps false (place + 1) stamps
    unfolding label_walk_fields
    nil_searched n = record { told = λ earlier l. rw (rows.nil_row_lem single cells depth row some read n) (passed place stamps s.earlier) }

    module _ (is : code ≡ 0x26) where
      abbrev Label : List ℕ
      Label = single (column cells row 1)

      abbrev Part : Term Name
      Part = numbered_term cells (depth - 1) (column cells row 2)

      -- the walk of the other fields, and that of the field's term with them
      abbrev Others : List (List ℕ) → ℕ → Walk
      Others earlier p = label_walk_fields (Label ∷ earlier) p (numbered_fields cells (depth - 1) (column cells row 3))

      abbrev Onward : List (List ℕ) → Walk
      Onward earlier = and_then (label_walk (place + 1) Part) (λ p. Others earlier p)

      is-cons : numbered_fields cells depth row ≡ cons Label Part (numbered_fields cells (depth - 1) (column cells row 3))
      is-cons = rows.cons_row_lem single cells depth row some read is

      walk_cons : (earlier : List (List ℕ)) {test : Bool} → is_among Label earlier ≡ test
          → label_walk_fields earlier place (numbered_fields cells depth row) ≡ stop_if test place (Onward earlier)
      unfolding label_walk_fields
      walk_cons earlier t = rw (is-cons, t, add-one place)

      -- how many differ, by the first
      differ_cons : (earlier : List (List ℕ)) → left ≡ differing earlier (numbered_fields cells depth row)
          → left ≡ more_unless (is_among Label earlier) (differing (Label ∷ earlier) (numbered_fields cells (depth - 1) (column cells row 3)))
      unfolding differing
      differ_cons earlier l = l ∙ rw is-cons

      -- Where none of the labels left differs, the first of them stood earlier.
      pub cons_found : left ≡ 0 → SearchesFields cells depth row left place stamps true place stamps
      cons_found z =
          record {
            told = λ earlier l.
                record {
                  found = walk_cons earlier (unless_none (is_among Label earlier) _ (sym z ∙ differ_cons earlier l));
                  long = refl;
                  earlier = λ f. s.earlier;
                };
          }

      module _ (more : left ≡ 0 → ⊥) {part : ℕ} (q : part ≡ column cells row 2) where
        onward : (earlier : List (List ℕ)) → left ≡ differing earlier (numbered_fields cells depth row) → {r : Bool} {place' : ℕ} {stamps' : List ℕ}
            → Searched (Onward earlier) stamps r place' stamps'
            → Searched (label_walk_fields earlier place (numbered_fields cells depth row)) stamps r place' stamps'
        onward earlier l w = rw (walk_cons earlier (unless_more (is_among Label earlier) _ (differ_cons earlier l) more).0) w

        -- Where some do, the field's term may be walked.
        pub cons_searchable : Searchable cells (depth - 1) part (place + 1) stamps
        unfolding EachLabelFields size_fields
        cons_searchable =
            record {
              below = rw q (rw is-cons at s.below).1;
              room = rw q (omega (arith, s.room, ap size_fields is-cons));
              earlier = λ l. omega (arith, s.earlier l);
            }

        module _ {r : Bool} {middle : ℕ} {between : List ℕ} (h : Searches cells (depth - 1) part (place + 1) stamps r middle between) where
          first : Searched (label_walk (place + 1) Part) stamps r middle between
          first = rw q at h.told

          -- A label given twice in it is that of the field list.
          pub part_found : r ≡ true → SearchesFields cells depth row left place stamps true middle between
          part_found t = record { told = λ earlier l. onward earlier l (then_found (λ p. Others earlier p) first t) }

          module _ (none : r ≡ false) {rest : ℕ} (q' : rest ≡ column cells row 3) where
            -- Where it has none, the other fields may be walked.
            pub cons_next : SearchableFields cells (depth - 1) rest middle between
            unfolding EachLabelFields size_fields
            cons_next =
                record {
                  below = rw (first.long, q') (rw is-cons at s.below).2;
                  room = rw q' (omega (arith, s.room, ap size_fields is-cons, middle_is Part place first none));
                  earlier = first.earlier none;
                }

            -- Both walks are that of the field list.
            pub cons_searched : {r' : Bool} {place' : ℕ} {stamps' : List ℕ}
                → SearchesFields cells (depth - 1) rest (left - 1) middle between r' place' stamps'
                → SearchesFields cells depth row left place stamps r' place' stamps'
            cons_searched h' =
                record {
                  told = λ earlier l.
                      let fewer = (unless_more (is_among Label earlier) _ (differ_cons earlier l) more).1 in
                      onward earlier l (then_on (λ p. Others earlier p) first none (rw q' at (h'.told (Label ∷ earlier) (rw q' fewer))));
                }
