-- What the code's check of sorts means: on the bytes of a table it is the check of the table. The places that the walk of the table counts
-- are the offsets of the fields.
use Prim.Native.Nat.{ℕ, zero, suc, ◌+◌, ◌-◌, ◌≤◌, ◌<◌}
use mathlib.Core.Path.{◌≡◌, refl, sym, ap, subst, ◌∙◌}
use mathlib.Core.Bool.{false≢true}
use mathlib.Core.List.{List, [], ◌∷◌, ◌++◌}
use native.Mathlib.Omega.{arith}
use native.Mathlib.Nat.{add-zero, zero-add}
use lib.Dec.{ltb}
use lib.ListN.{length, get_or, drop, set, length-append, length-drop, length-set, replicate, length-replicate}
use lib.Seq.{take_at, take-suc-set}
use borrow.Author.Tests.{le-leb, lt-ltb}
use Rattle.std.specs.Prelude.{Some, Ok, Err}
use Rattle.answers.specs.Checked.{Checked, ok, bad, ◌>>=◌, ◌>>◌, verdict}
use Rattle.grammar.specs.Sorts.{Signature}
use Rattle.grammar.specs.Table.{Item, Alternative, Definition, Table}
use Rattle.grammar.specs.Written.{WrittenResult, template, result_field, WrittenAlternative, WrittenDefinition, Written, with_alternatives}
use Rattle.grammar.specs.Values.{Field, field, item_value, head_value}
use Rattle.grammar.specs.Fields.{RawFields, fields_of}
use Rattle.grammar.specs.Encode.{spellings_then, items_then, alternatives_then, definitions_then, blocks_then, table_fields, encode}
use Rattle.grammar.proofs.LookupLaws.{fields_of_lem}
use Rattle.decoding.specs.Decode.{decode}
use Rattle.decoding.specs.Within.{Each, each_none, each_more, ItemWithin, ResultWithin, template_within, AlternativeWithin, DefinitionWithin, Within}
use Rattle.decoding.proofs.Split.{Bytes, spread, fields_of_bytes}
use Rattle.decoding.proofs.Inverse.{decoded_encoding}
use Rattle.judgements.specs.Sizes.{field_size, spellings_size, items_size, alternative_size, alternatives_size, definition_size, definitions_size, blocks_size}
use Rattle.judgements.specs.CheckSorts.{is_defined, collect, check_item, check_items}
use Rattle.judgements.specs.Scopes.{Env, Scope}
use Rattle.judgements.specs.Judgements.{scope}
use Rattle.texts.specs.Reading.{TextRead}
use Rattle.elaboration.specs.CheckSequence.{Elaborated, none_yet, and_then, check_result, check_alternative, check_alternatives, check_bodies, check_blocks}
use Rattle.elaboration.specs.CheckSequence.{check_root, check_sorts}
use Rattle.elaboration.specs.Contexts.{Before, at_first, behind_block, scope_after}
use Rattle.bodies.specs.declared.Known.{Known}
use Rattle.bodies.specs.Faults.{ItemSort}
use Rattle.bodies.specs.HeadBytes.{signature_at, Collected, collected, collect_from}
use Rattle.bodies.specs.BodyBytes.{one_more, item_at}
use Rattle.bodies.proofs.HeadLaws.{before_in_front}
use Rattle.sorts.specs.ByBytes.{stepped, counting, verdict_step, after_block, after_item, step_at, go_on, sorts_from, sorts_of, Finding}
use Rattle.sorts.proofs.StepLaws.{sorts_short}
use Rattle.sorts.proofs.PlacedFields.{Placed, over_alternatives, placed_fields}
use Rattle.sorts.proofs.HeadsByBytes.{bytes_of, KnowsHead, Knows, Collects, head_signature}
use Rattle.sorts.proofs.CollectByBytes.{Below, Agree, collect_agrees}
use Rattle.sorts.proofs.BodiesByBytes.{known_of, Carries, sorted_at, item_agrees, result_agrees, root_agrees}

-- ------------------------------------------------------------------ checks in order

-- what comes after a check that passes
abbrev after : {A : Type 0} → Checked A → (A → Finding) → Finding
after (ok a) f = f a
after (bad r) f = Some (Err r)

-- what a check finds
abbrev pub found : {A : Type 0} → Checked A → Finding
found checked = Some (verdict checked)

after_bind : {A B : Type 0} (first : Checked A) (second : A → Checked B) (last : B → Finding)
    → after first (λ a. after (second a) last) ≡ after (first >>= second) last
after_bind (ok a) second last = refl
after_bind (bad r) second last = refl

after_same : {A : Type 0} (first : Checked A) (last last' : A → Finding) → ((a : A) → last a ≡ last' a) → after first last ≡ after first last'
after_same (ok a) last last' e = e a
after_same (bad r) last last' e = refl

-- a check of what is before, of what is beside it, and of the rest
rest_goes : {A B C D : Type 0} (first : Checked A) (second : A → Checked B) (third : A → B → Checked C) (last : C → Checked D)
    → after first (λ a. after (second a) (λ b. found (third a b >>= last))) ≡ found ((first >>= λ a. second a >>= λ b. third a b) >>= last)
rest_goes {B = B} (ok a) second third last = by (second a)
  where
    by : (checked : Checked B) → after checked (λ b. found (third a b >>= last)) ≡ found ((checked >>= λ b. third a b) >>= last)
    by (ok b) = refl
    by (bad r) = refl
rest_goes (bad r) second third last = refl

-- a value that is given at the end does not change a verdict
value_given : {A B : Type 0} (checked : Checked A) (value : B) → found checked ≡ found (checked >> ok value)
value_given (ok a) value = refl
value_given (bad r) value = refl

-- a verdict on the way
verdict_goes : {A : Type 0} (checked : Checked A) (known : Known) (heads room : List ℕ) (f : Known → List ℕ → List ℕ → Finding)
    → go_on (stepped (verdict_step known (verdict checked)) heads room) f ≡ after checked (λ u. f known heads room)
verdict_goes (ok u) known heads room f = refl
verdict_goes (bad r) known heads room f = refl

-- ------------------------------------------------------------------ the sorts of variables

-- one sort more
carries_more : (L room : List ℕ) (sort : ℕ) → Carries L room → length L < 16 → Carries (L ++ (sort ∷ [])) (set room (length L) sort)
carries_more L room sort c h =
    let one : length (L ++ (sort ∷ [])) ≡ suc (length L) = length-append L (sort ∷ []) ∙ omega arith in
    record {
      holds = cc (take-suc-set room (length L) sort (omega (arith, c.size)), c.holds);
      size = length-set room (length L) sort ∙ c.size;
    }

more_is : (count : ℕ) → count < 16 → one_more count ≡ count + 1
unfolding one_more
more_is count h = rw (lt-ltb count 16 h, one_more) refl

-- the parameters of a signature
carries_parameters : (params room : List ℕ) → length room ≡ 16 → length params ≤ 4 → Carries params (params ++ drop (length params) room)
carries_parameters params room e h =
    record {
      holds = take_at params (drop (length params) room) (length params) refl;
      size = simp (length-append, length-drop) (omega arith);
    }

-- ------------------------------------------------------------------ bodies

module _ (bs : List ℕ) (given_scope : Scope) (before : Before) (heads : List ℕ)
    (knows : (nonterminal : ℕ) → nonterminal < 64 → Knows bs given_scope.env heads nonterminal) where
  abbrev walk : List Field → ℕ → ℕ → ℕ → List ℕ → Finding
  walk fields at head count room = sorts_from (spread at fields) bs (known_of given_scope head count) heads room

  -- an item is checked, then what is behind it
  item_goes :
      (head at : ℕ) (L room : List ℕ) (rest : RawFields) (item_sort : ItemSort) (checked : Checked ℕ) → sorted_at at item_sort ≡ checked → length L < 16
      → (last : ℕ → Finding)
      → ((sort : ℕ) → sorts_from rest bs (known_of given_scope head (length (L ++ (sort ∷ [])))) heads (set room (length L) sort) ≡ last sort)
      → go_on (after_item (known_of given_scope head (length L)) heads room at item_sort) (λ k H M. sorts_from rest bs k H M) ≡ after checked last
  item_goes head at L room rest (Ok s) checked e h last f =
      let one : one_more (length L) ≡ length (L ++ (s ∷ [])) = more_is (length L) h ∙ sym (length-append L (s ∷ [])) in
      cc (f s)
  item_goes head at L room rest (Err fault) checked e h last f = cc

  items_sorted :
      {is : List Item} → Each ItemWithin is → (follow : List Field) (head at to : ℕ) → at + items_size is ≡ to → (L room : List ℕ) → Carries L room
      → length L + length is ≤ 16 → (last : List ℕ → Finding)
      → ((L' room' : List ℕ) → Carries L' room' → walk follow to head (length L') room' ≡ last L')
      → walk (items_then is follow) at head (length L) room ≡ after (check_items given_scope L at is) last
  unfolding spread items_then items_size sorts_from step_at check_items
  items_sorted each_none follow head at to z L room c h last f = let e : at ≡ to = omega arith in rw e (f L room c)
  items_sorted (each_more {x = i} {xs = is} w ws) follow head at to z L room c h last f =
      let behind : ℕ = at + field_size (item_value i) in
      item_goes head at L room (spread behind (items_then is follow)) (item_at bs (known_of given_scope head (length L)) heads room (item_value i))
      (check_item given_scope L at i) (item_agrees bs given_scope heads knows head at c w) (omega arith)
      (λ s. after (check_items given_scope (L ++ (s ∷ [])) behind is) last)
      (λ s. items_sorted ws follow head behind to (omega arith) (L ++ (s ∷ [])) (set room (length L) s) (carries_more L room s c (omega arith))
      (omega (arith, length-append L (s ∷ []))) last f)
      ∙ after_bind (check_item given_scope L at i) _ last

  -- a result is checked, then what is behind it
  result_sorted :
      {result : WrittenResult} → ResultWithin result → (follow : List Field) (head at : ℕ) {L room : List ℕ} → Carries L room
      → (S : Signature) → signature_at bs head ≡ bytes_of S → (used : ℕ) (last : TextRead → Finding)
      → ((made : TextRead) → walk follow (at + field_size (result_field result).value) head (length L) room ≡ last made)
      → walk (result_field result ∷ follow) at head (length L) room ≡ after (check_result given_scope before L S.result used at result) last
  unfolding spread sorts_from step_at
  result_sorted (template_within {t} w) follow head at {L} {room} c S signed used last f =
      rw (result_agrees bs given_scope heads knows head at c before used S signed w)
      (verdict_goes (check_result given_scope before L S.result used at (template t)) _ heads room _
      ∙ after_same (check_result given_scope before L S.result used at (template t)) _ _ f)

  -- whatever head and variables are known behind the fields, they give the same
  abbrev Goes : List Field → ℕ → Finding → Type 0
  Goes fields at last = (head count : ℕ) (room : List ℕ) → length room ≡ 16 → walk fields at head count room ≡ last

  -- and for one head
  abbrev GoesAt : ℕ → List Field → ℕ → Finding → Type 0
  GoesAt head fields at last = (count : ℕ) (room : List ℕ) → length room ≡ 16 → walk fields at head count room ≡ last

  module _ (head : ℕ) (S : Signature) (signed : signature_at bs head ≡ bytes_of S) (few : length S.params ≤ 4) where
    alternatives_sorted : {rest : List WrittenAlternative} → Each AlternativeWithin rest → (follow : List Field) (at to : ℕ) → at + alternatives_size rest ≡ to
        → (last : Elaborated (List Alternative) → Finding) → ((choices : Elaborated (List Alternative)) → GoesAt head follow to (last choices))
        → (done : Elaborated (List Alternative))
        → GoesAt head (alternatives_then rest follow) at (after (check_alternatives given_scope before S done at rest) last)
    unfolding spread alternatives_then alternatives_size alternative_size sorts_from step_at check_alternatives check_alternative
    alternatives_sorted each_none follow at to z last f done count room r = let e : at ≡ to = omega arith in rw e (f done count room r)
    alternatives_sorted (each_more {x = a} {xs = rest} w ws) follow at to z last f done count room r =
        let result : ℕ = at + 3 + items_size a.items in
        let behind : ℕ = at + alternative_size a in
        let params : List ℕ = S.params in
        let whole : TextRead → Elaborated Alternative = λ t. record { value = record { items = a.items; result = t.template }; used = t.used } in
        let others : Elaborated Alternative → Finding
        = λ b. after (check_alternatives given_scope before S (and_then done b.value b.used) behind rest) last in
        let many : length (bytes_of S) - 1 ≡ length params = omega arith in
        rw (signed, many)
        (items_sorted w.items (result_field a.result ∷ alternatives_then rest follow) head (at + 3) result refl params
        (params ++ drop (length params) room) (carries_parameters params room r few) (omega (arith, w.item_count))
        (λ L. after (check_result given_scope before L S.result done.used result a.result >>= λ t. ok (whole t)) others)
        (λ L' room' c.
        let place : result + field_size (result_field a.result).value ≡ behind = omega arith in
        result_sorted w.result (alternatives_then rest follow) head result c S signed done.used (λ t. others (whole t))
        (λ t. rw place
        (alternatives_sorted ws follow behind to (omega arith) last f (and_then done (whole t).value t.used) (length L') room' c.size))
        ∙ after_bind (check_result given_scope before L' S.result done.used result a.result) (λ t. ok (whole t)) others))
        ∙ after_bind (check_items given_scope params (at + 3) a.items) _ others
        ∙ after_bind (check_alternative given_scope before S done.used at a)
        (λ b. check_alternatives given_scope before S (and_then done b.value b.used) behind rest) last

  definitions_sorted : {ds : List WrittenDefinition} → Each DefinitionWithin ds → (follow : List Field) (at to : ℕ) → at + definitions_size ds ≡ to
      → Placed bs (spread at (definitions_then ds follow)) → (last : Elaborated (List Definition) → Finding)
      → (Placed bs (spread to follow) → (ds : Elaborated (List Definition)) → Goes follow to (last ds))
      → (done : Elaborated (List Definition)) → Goes (definitions_then ds follow) at (after (check_bodies given_scope before done at ds) last)
  unfolding spread definitions_then definitions_size definition_size sorts_from step_at counting check_bodies
  definitions_sorted each_none follow at to z p last f done head count room r =
      let e : at ≡ to = omega arith in
      rw e (f (rw e at p) done head count room r)
  definitions_sorted (each_more {x = d} {xs = ds} w ws) follow at to z p last f done head count room r =
      let first : ℕ = at + field_size (head_value d) in
      let behind : ℕ = at + definition_size d in
      let rest : List Field = definitions_then ds follow in
      let none : Elaborated (List Alternative) = none_yet done.used in
      let more : Elaborated (List Alternative) → Elaborated (List Definition) = λ e. and_then done (with_alternatives d e.value) e.used in
      alternatives_sorted at d.signature (head_signature bs at d w p.0) (omega (arith, w.param_count)) w.alternatives rest first behind (omega arith)
      (λ choices. after (check_bodies given_scope before (more choices) behind ds) last)
      (λ choices count' room' r'. definitions_sorted ws follow behind to (omega arith)
      (over_alternatives (Placed bs) (λ tag part at v fs q. q.1) d.alternatives rest first behind (omega arith) p.1) last f (more choices) at count'
      room' r')
      none count room r
      ∙ after_bind (check_alternatives given_scope before d.signature none first d.alternatives)
      (λ choices. check_bodies given_scope before (more choices) behind ds) last

-- ------------------------------------------------------------------ blocks

-- the heads show an environment, and none lies behind an offset
record Shows (bs : List ℕ) (E : Env) (heads : List ℕ) (at : ℕ) : Type 0 where
  -- there is a head for each nonterminal
  pub size : length heads ≡ 64
  -- it is that of the nonterminal's newest signature, if it is defined
  pub knows : (nonterminal : ℕ) → nonterminal < 64 → Knows bs E heads nonterminal
  -- none lies behind the offset
  pub below : Below heads at

module _ (bs : List ℕ) (root : ℕ) (low : root < 64) (whole : List (List Definition) → Table) where
  -- the field behind the blocks ends the last of them
  abbrev root_field : List Field
  root_field = field 8 (root ∷ []) ∷ []

  collect_ends : (blocks : List (List WrittenDefinition)) (block at : ℕ) (heads : List ℕ)
      → collect_from (spread at (blocks_then blocks root_field)) bs block heads ≡ collected (Ok tt) heads
  unfolding spread blocks_then collect_from
  collect_ends [] block at heads = refl
  collect_ends (b ∷ blocks) block at heads = refl

  -- a block is collected, then what is behind it is checked
  block_goes :
      (E : Env) (block limit : ℕ) (known : Known) (room : List ℕ) (rest : RawFields) (checked : Checked Env) (given_collected : Collected)
      → Agree bs E block limit checked given_collected → (last : Env → Finding)
      → ((own : Env) (heads : List ℕ) → Collects bs E own block heads → Below heads limit → sorts_from rest bs known heads room ≡ last own)
      → go_on (after_block known room given_collected) (λ k H M. sorts_from rest bs k H M) ≡ after checked last
  block_goes E block limit known room rest (ok own) (collected (Ok tt) heads) (c, b) last f = f own heads c b
  block_goes E block limit known room rest (ok own) (collected (Err r) heads) a last f = absurd a
  block_goes E block limit known room rest (bad r) (collected (Ok tt) heads) a last f = absurd a
  block_goes E block limit known room rest (bad r) (collected (Err q) heads) a last f = ap (λ p. Some (Err p)) (sym a)

  -- behind the blocks the root is checked
  abbrev root_after : ℕ → Before → Checked Table
  root_after at P = check_root P.env at root >> ok (whole P.blocks)

  -- what the blocks and the root give
  abbrev check_rest : Before → ℕ → List (List WrittenDefinition) → Checked Table
  check_rest P at blocks = check_blocks P at blocks >>= root_after (at + blocks_size blocks)

  blocks_sorted : {blocks : List (List WrittenDefinition)} → Each (Each DefinitionWithin) blocks → (P : Before) (heads : List ℕ) (at : ℕ)
      → Shows bs P.env heads at → Placed bs (spread at (blocks_then blocks root_field)) → (head count : ℕ) (room : List ℕ) → length room ≡ 16
      → sorts_from (spread at (blocks_then blocks root_field)) bs (known_of (scope_after P []) head count) heads room
      ≡ found (check_rest P at blocks)
  unfolding spread blocks_then sorts_from step_at check_blocks blocks_size is_defined
  blocks_sorted each_none P heads at s p head count room r =
      rw (add-zero at)
      (ap Some (root_agrees bs (scope_after P []) heads s.knows at root low) ∙ value_given (check_root P.env at root) (whole P.blocks))
  blocks_sorted (each_more {x = b} {xs = blocks} w ws) P heads at s p head count room r =
      let E : Env = P.env in
      let behind : ℕ = at + 3 + definitions_size b in
      let place : behind + blocks_size blocks ≡ at + blocks_size (b ∷ blocks) = omega arith in
      let follow : List Field = blocks_then blocks root_field in
      let before : Collects bs E [] at heads =
      record {
        size = s.size;
        knows = s.knows;
        here = λ n l. le-leb (get_or heads n 0) at (s.below n);
        before = λ n l.
            subst (λ h. KnowsHead bs E h n) (sym (before_in_front bs heads at n (le-leb (get_or heads n 0) at (s.below n)))) (s.knows n l);
      } in
      let next : Env → Elaborated (List Definition) → Before = λ own ds. behind_block P own ds.value ds.used in
      let bodies : Env → Checked (Elaborated (List Definition)) = λ own. check_bodies (scope_after P own) P (none_yet P.used) (at + 3) b in
      let rest : Env → Elaborated (List Definition) → Checked Before = λ own ds. check_blocks (next own ds) behind blocks in
      block_goes E at behind _ room (spread (at + 3) (definitions_then b follow)) (collect E [] (at + 3) b)
      (collect_from (spread (at + 3) (definitions_then b follow)) bs at heads)
      (collect_agrees bs E at follow (collect_ends blocks at) w (at + 3) behind refl [] heads p.1 (omega arith) before (λ n. omega (arith, s.below n)))
      (λ own. after (bodies own) (λ ds. found (check_rest (next own ds) behind blocks)))
      (λ own heads' c l.
      definitions_sorted bs (scope_after P own) P heads' c.knows w follow (at + 3) behind refl p.1
      (λ ds. found (check_rest (next own ds) behind blocks))
      (λ q ds. blocks_sorted ws (next own ds) heads' behind (record { size = c.size; knows = c.knows; below = l }) q)
      (none_yet P.used) head count room r)
      ∙ rest_goes (collect E [] (at + 3) b) bodies rest (root_after (behind + blocks_size blocks))
      ∙ rw place refl

-- ------------------------------------------------------------------ spellings

module _ (bs : List ℕ) (heads room : List ℕ) (follow : List Field) where
  -- each keyword counts
  keywords_sorted : (ss : List (List ℕ)) (at to : ℕ) → at + spellings_size ss ≡ to → (E : Env) (keywords outsides head count : ℕ)
      → sorts_from (spread at (spellings_then 1 ss follow)) bs (known_of (scope keywords outsides E) head count) heads room
      ≡ sorts_from (spread to follow) bs (known_of (scope (keywords + length ss) outsides E) head count) heads room
  unfolding spread spellings_then spellings_size sorts_from step_at counting
  keywords_sorted [] at to z E keywords outsides head count = let e : at ≡ to = omega arith in rw (e, add-zero keywords) refl
  keywords_sorted (s ∷ ss) at to z E keywords outsides head count =
      let one : keywords + 1 + length ss ≡ keywords + suc (length ss) = omega arith in
      rw one at (keywords_sorted ss (at + field_size s) to (omega arith) E (keywords + 1) outsides head count)

  -- and each outside name
  outsides_sorted : (ss : List (List ℕ)) (at to : ℕ) → at + spellings_size ss ≡ to → (E : Env) (keywords outsides head count : ℕ)
      → sorts_from (spread at (spellings_then 2 ss follow)) bs (known_of (scope keywords outsides E) head count) heads room
      ≡ sorts_from (spread to follow) bs (known_of (scope keywords (outsides + length ss) E) head count) heads room
  unfolding spread spellings_then spellings_size sorts_from step_at counting
  outsides_sorted [] at to z E keywords outsides head count = let e : at ≡ to = omega arith in rw (e, add-zero outsides) refl
  outsides_sorted (s ∷ ss) at to z E keywords outsides head count =
      let one : outsides + 1 + length ss ≡ outsides + suc (length ss) = omega arith in
      rw one at (outsides_sorted ss (at + field_size s) to (omega arith) E keywords (outsides + 1) head count)

-- ------------------------------------------------------------------ the whole table

no_heads : (count place : ℕ) → get_or {A = ℕ} (replicate count 0) place 0 ≡ 0
no_heads zero place = refl
no_heads (suc count) zero = refl
no_heads (suc count) (suc place) = no_heads count place

nothing_shown : (bs : List ℕ) (at : ℕ) → Shows bs [] (replicate 64 0) at
unfolding is_defined
nothing_shown bs at =
    record {
      size = length-replicate {A = ℕ} 64 0;
      knows = λ n l. record { defined = ap (ltb 0) (no_heads 64 n); shown = λ e. absurd (false≢true e) };
      below = λ n. omega (arith, no_heads 64 n);
    }

-- behind the spellings the fields stand where they stood
placed_spellings : (bs : List ℕ) (tag : ℕ) (ss : List (List ℕ)) (follow : List Field) (at to : ℕ) → at + spellings_size ss ≡ to
    → Placed bs (spread at (spellings_then tag ss follow)) → Placed bs (spread to follow)
unfolding spread spellings_then spellings_size
placed_spellings bs tag [] follow at to z p = let e : at ≡ to = omega arith in rw e at p
placed_spellings bs tag (s ∷ ss) follow at to z p = placed_spellings bs tag ss follow (at + field_size s) to (omega arith) p.1

table_sorted : (table : Written) → Within table → sorts_of (encode table) ≡ found (check_sorts table)
unfolding encode table_fields check_sorts
table_sorted table w =
    let bs : List ℕ = encode table in
    let ks : List (List ℕ) = table.keywords in
    let os : List (List ℕ) = table.outsides in
    let blocks : List Field = blocks_then table.blocks (field 8 (table.root ∷ []) ∷ []) in
    let names : List Field = spellings_then 2 os blocks in
    let second : ℕ = spellings_size ks in
    let first : ℕ = spellings_size ks + spellings_size os in
    let heads : List ℕ = replicate 64 0 in
    let room : List ℕ = replicate 16 0 in
    let whole : List (List Definition) → Table = λ checked. record { keywords = ks; outsides = os; blocks = checked; root = table.root } in
    let split : fields_of bs ≡ spread 0 (spellings_then 1 ks names) = fields_of_bytes (table_fields table) in
    let placed : Placed bs (spread 0 (spellings_then 1 ks names)) = rw split at (placed_fields bs) in
    sym (sorts_short bs w.size)
    ∙ rw (← (fields_of_lem bs), split)
    (keywords_sorted bs heads room names ks 0 second (zero-add second) [] 0 0 0 0
    ∙ outsides_sorted bs heads room blocks os second first refl [] (0 + length ks) 0 0 0
    ∙ rw (zero-add (length ks), zero-add (length os))
    (blocks_sorted bs table.root (omega (arith, w.root)) whole w.blocks (at_first table) heads first
    (nothing_shown bs first)
    (placed_spellings bs 2 os blocks second first refl (placed_spellings bs 1 ks names 0 second (zero-add second) placed)) 0 0 room
    (length-replicate {A = ℕ} 16 0)))

-- On the bytes of a decoded table the code's check, `sorts_of`, finds the verdict of the sort check of that table.
pub bytes_checked : (bs : List ℕ) → Bytes bs → (table : Written) → decode bs ≡ ok table → sorts_of bs ≡ found (check_sorts table)
bytes_checked bs b table e =
    let laid = decoded_encoding bs b table e in
    ap sorts_of laid.0 ∙ table_sorted table laid.1
