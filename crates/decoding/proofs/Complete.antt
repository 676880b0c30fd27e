-- The fields of a table within the counts, spellings and ranges are accepted.
use Prim.Native.Nat.{ℕ, ◌+◌, ◌≤◌, ◌<◌}
use mathlib.Core.Path.{◌≡◌, refl, ap}
use mathlib.Core.Bool.{true}
use mathlib.Core.List.{List, [], ◌∷◌}
use native.Mathlib.Omega.{arith}
use lib.ListN.{length}
use borrow.Author.Tests.{lt-ltb}
use Rattle.answers.specs.Checked.{ok}
use Rattle.spellings.specs.Bytes.{is_word, is_keyword}
use Rattle.grammar.specs.Limits.{most}
use Rattle.grammar.specs.Table.{Item}
use Rattle.grammar.specs.Written.{WrittenResult, result_field, WrittenAlternative, WrittenDefinition, Written}
use Rattle.grammar.specs.Encode.{spellings_then, items_then, alternatives_then, definitions_then, blocks_then, table_fields}
use Rattle.grammar.specs.Values.{Field, field, template_then, item_value, head_value}
use Rattle.decoding.specs.declared.Progress.{Progress}
use Rattle.decoding.specs.Layout.{is_known, follows, is_repeated, is_spelled, has_room, is_whole, passed, initial_progress, check_fields}
use Rattle.decoding.specs.Within.{Each, each_none, each_more, ItemWithin, ResultWithin, template_within, AlternativeWithin, DefinitionWithin}
use Rattle.decoding.specs.Within.{alternatives_of, alternatives_in, Within}
use Rattle.decoding.proofs.Split.{spread}
use Rattle.decoding.proofs.Values.{root_known, head_known, result_whole, item_known, item_whole}
use Rattle.decoding.proofs.Accept.{Passes, accept}
use Rattle.decoding.proofs.Spelled.{Spelled, each_all, spelled_first, spelled_rest}

-- fields are accepted wherever they stand
pub record Accepted (before : List Field) (progress : Progress) (fs : List Field) : Type 0 where
  -- wherever they begin
  pub from : (at : ℕ) → check_fields (spread at fs) before progress ≡ ok tt

-- one field more
and_then : {before : List Field} {progress : Progress} {tag : ℕ} {value : List ℕ} {fs : List Field} → Passes before tag value progress
    → Accepted (field tag value ∷ before) (passed tag progress) fs → Accepted before progress (field tag value ∷ fs)
unfolding spread
and_then {before} {progress} {tag} {value} {fs} p k =
    record { from = λ at. accept at tag value (spread (at + (3 + length value)) fs) before progress p (k.from (at + (3 + length value))) }

-- ------------------------------------------------------------------ an alternative

-- a tag after which an item or the result may come
record Inside (last : ℕ) : Type 0 where
  item : follows 6 last ≡ true
  result : follows 7 last ≡ true

-- What follows some fields is accepted from each state that they lead to: the fields are then accepted before it. Only what
-- is needed of that state is said.
items_accepted : {is : List Item} → Each ItemWithin is → (before : List Field) (progress : Progress) → Inside progress.last
    → progress.items + length is ≤ most.items → (follow : List Field)
    → ((passed_fields : List Field) (next : Progress) → Inside next.last → next.blocks ≡ progress.blocks → next.alternatives ≡ progress.alternatives
    → Accepted passed_fields next follow) → Accepted before progress (items_then is follow)
unfolding items_then passed follows is_spelled has_room
items_accepted each_none before progress i m follow c = c before progress i refl refl
items_accepted (each_more {x} {xs} h t) before progress i m follow c =
    and_then
    (record {
      known = item_known h;
      ordered = i.item;
      spelled = refl;
      room = lt-ltb progress.items most.items (omega arith);
      whole = item_whole h;
    })
    (items_accepted t (field 6 (item_value x) ∷ before) (passed 6 progress) (record { item = refl; result = refl }) (omega arith) follow
    (λ b t i e f. c b t i (omega arith) (omega arith)))

result_accepted : {result : WrittenResult} → ResultWithin result → (before : List Field) (progress : Progress) → Inside progress.last → (follow : List Field)
    → ((passed_fields : List Field) (next : Progress) → next.last ≡ 7 → next.blocks ≡ progress.blocks → next.alternatives ≡ progress.alternatives
    → Accepted passed_fields next follow) → Accepted before progress (result_field result ∷ follow)
unfolding passed is_known is_spelled has_room
result_accepted (template_within {t} w) before progress i follow c =
    and_then (record { known = refl; ordered = i.result; spelled = refl; room = refl; whole = result_whole w })
    (c (field 7 (template_then t []) ∷ before) (passed 7 progress) refl (omega arith) (omega arith))

alternative_accepted : {alternative : WrittenAlternative} → AlternativeWithin alternative → (before : List Field) (progress : Progress)
    → follows 5 progress.last ≡ true → progress.alternatives < most.alternatives → (follow : List Field)
    → ((passed_fields : List Field) (next : Progress) → next.last ≡ 7 → next.blocks ≡ progress.blocks → next.alternatives ≡ progress.alternatives + 1
    → Accepted passed_fields next follow)
    → Accepted before progress (field 5 [] ∷ items_then alternative.items (result_field alternative.result ∷ follow))
unfolding passed follows is_known is_spelled has_room is_whole
alternative_accepted {alternative} w before progress f m follow c =
    and_then
    (record { known = refl; ordered = f; spelled = refl; room = rw (lt-ltb progress.alternatives most.alternatives m) refl; whole = refl })
    (items_accepted w.items (field 5 [] ∷ before) (passed 5 progress) (record { item = refl; result = refl }) (omega (arith, w.item_count))
    (result_field alternative.result ∷ follow)
    (λ b t i e g. result_accepted w.result b t i follow (λ b u l e' g'. c b u l (omega arith) (omega arith))))

alternatives_accepted : {rest : List WrittenAlternative} → Each AlternativeWithin rest → (before : List Field) (progress : Progress)
    → follows 5 progress.last ≡ true → (length rest ≡ 0 → progress.last ≡ 7) → progress.alternatives + length rest ≤ most.alternatives
    → (follow : List Field)
    → ((passed_fields : List Field) (next : Progress) → next.last ≡ 7 → next.blocks ≡ progress.blocks → next.alternatives
    ≡ progress.alternatives + length rest → Accepted passed_fields next follow)
    → Accepted before progress (alternatives_then rest follow)
unfolding alternatives_then follows
alternatives_accepted each_none before progress f z m follow c = c before progress (z refl) refl (omega arith)
alternatives_accepted (each_more {x = a} {xs = rest} h w) before progress f z m follow c =
    alternative_accepted h before progress f (omega arith) (alternatives_then rest follow)
    (λ b t l e g.
    alternatives_accepted w b t (ap (follows 5) l) (λ n. l) (omega arith) follow (λ b u l i j. c b u l (omega arith) (omega arith)))

-- ------------------------------------------------------------------ blocks and root

-- a tag after which a block or the root may come
record Closed (last : ℕ) : Type 0 where
  block : follows 3 last ≡ true
  root : follows 8 last ≡ true

closed_after : (last : ℕ) → last ≡ 7 → Closed last
unfolding follows
closed_after last e = record { block = ap (follows 3) e; root = ap (follows 8) e }

definitions_accepted : {ds : List WrittenDefinition} → Each DefinitionWithin ds → (before : List Field) (progress : Progress)
    → follows 4 progress.last ≡ true → Closed progress.last → progress.alternatives + alternatives_of ds ≤ most.alternatives → (follow : List Field)
    → ((passed_fields : List Field) (next : Progress) → Closed next.last → next.blocks ≡ progress.blocks → next.alternatives
    ≡ progress.alternatives + alternatives_of ds → Accepted passed_fields next follow)
    → Accepted before progress (definitions_then ds follow)
unfolding definitions_then alternatives_of passed follows is_spelled has_room is_whole
definitions_accepted each_none before progress f n m follow c = c before progress n refl (omega arith)
definitions_accepted (each_more {x = d} {xs = ds} h w) before progress f n m follow c =
    and_then (record { known = head_known h; ordered = f; spelled = refl; room = refl; whole = refl })
    (alternatives_accepted h.alternatives (field 4 (head_value d) ∷ before) (passed 4 progress) refl (λ z. omega (arith, h.alternative_count))
    (omega arith) (definitions_then ds follow)
    (λ b t l e g.
    definitions_accepted w b t (ap (follows 4) l) (closed_after t.last l) (omega arith) follow
    (λ b u n i j. c b u n (omega arith) (omega arith))))

module _ (root : ℕ) (below : root < most.nonterminals) where
  root_accepted : (before : List Field) (progress : Progress) → Closed progress.last → Accepted before progress (field 8 (root ∷ []) ∷ [])
  unfolding spread check_fields passed is_spelled has_room is_whole
  root_accepted before progress n =
      and_then (record { known = root_known root below; ordered = n.root; spelled = refl; room = refl; whole = refl })
      (record { from = λ at. refl })

  blocks_accepted : {bs : List (List WrittenDefinition)} → Each (Each DefinitionWithin) bs → (before : List Field) (progress : Progress)
      → Closed progress.last → progress.blocks + length bs ≤ most.blocks → progress.alternatives + alternatives_in bs ≤ most.alternatives
      → Accepted before progress (blocks_then bs (field 8 (root ∷ []) ∷ []))
  unfolding blocks_then alternatives_in passed follows is_known is_spelled has_room is_whole
  blocks_accepted each_none before progress n m l = root_accepted before progress n
  blocks_accepted (each_more {xs = bs} w ws) before progress n m l =
      and_then
      (record { known = refl; ordered = n.block; spelled = refl; room = rw (lt-ltb progress.blocks most.blocks (omega arith)) refl; whole = refl })
      (definitions_accepted w (field 3 [] ∷ before) (passed 3 progress) refl (record { block = refl; root = refl }) (omega arith)
      (blocks_then bs (field 8 (root ∷ []) ∷ []))
      (λ b t n e g. blocks_accepted ws b t n (omega arith) (omega arith)))

-- ------------------------------------------------------------------ spellings

-- What follows the outside names is accepted where nothing of a block was counted.
module _ (follow : List Field)
    (accepts : (passed_fields : List Field) (progress : Progress) → Closed progress.last → progress.blocks ≡ 0 → progress.alternatives ≡ 0
    → Accepted passed_fields progress follow) where
  outsides_accepted : (os : List (List ℕ)) (before : List Field) (progress : Progress) → Spelled is_word 2 before os
      → follows 2 progress.last ≡ true → Closed progress.last → progress.outsides + length os ≤ most.outsides → progress.blocks ≡ 0
      → progress.alternatives ≡ 0 → Accepted before progress (spellings_then 2 os follow)
  unfolding spellings_then passed follows is_known is_repeated is_spelled has_room is_whole
  outsides_accepted [] before progress w f n m e g = accepts before progress n e g
  outsides_accepted (o ∷ os) before progress w f n m e g =
      let first = spelled_first is_word 2 before o os (λ v. refl) w in
      and_then
      (record {
        known = refl;
        ordered = f;
        spelled = rw (first.0, first.1) refl;
        room = rw (lt-ltb progress.outsides most.outsides (omega arith)) refl;
        whole = refl;
      })
      (outsides_accepted os (field 2 o ∷ before) (passed 2 progress) (spelled_rest is_word 2 before o os (λ v. refl) w) refl
      (record { block = refl; root = refl }) (omega arith) (omega arith) (omega arith))

  keywords_accepted : (os ks : List (List ℕ)) (before : List Field) (progress : Progress) → Spelled is_keyword 1 before ks
      → Spelled is_word 2 before os → follows 1 progress.last ≡ true → follows 2 progress.last ≡ true → Closed progress.last
      → progress.keywords + length ks ≤ most.keywords → progress.outsides + length os ≤ most.outsides → progress.blocks ≡ 0 → progress.alternatives ≡ 0
      → Accepted before progress (spellings_then 1 ks (spellings_then 2 os follow))
  unfolding spellings_then passed follows is_known is_repeated is_spelled has_room is_whole
  keywords_accepted os [] before progress w v i f n m l e g = outsides_accepted os before progress v f n l e g
  keywords_accepted os (x ∷ ks) before progress w v i f n m l e g =
      let first = spelled_first is_keyword 1 before x ks (λ y. refl) w in
      and_then
      (record {
        known = refl;
        ordered = i;
        spelled = rw (first.0, first.1) refl;
        room = rw (lt-ltb progress.keywords most.keywords (omega arith)) refl;
        whole = refl;
      })
      (keywords_accepted os ks (field 1 x ∷ before) (passed 1 progress) (spelled_rest is_keyword 1 before x ks (λ y. refl) w)
      (record { spelled = v.spelled; fresh = v.fresh; different = v.different }) refl refl (record { block = refl; root = refl })
      (omega arith) (omega arith) (omega arith) (omega arith))

-- The fields of a table within the bounds are accepted.
pub table_accepted : (table : Written) → Within table → Accepted [] initial_progress (table_fields table)
unfolding table_fields follows is_repeated
table_accepted table w =
    keywords_accepted (blocks_then table.blocks (field 8 (table.root ∷ []) ∷ []))
    (λ b s n e g. blocks_accepted table.root w.root w.blocks b s n (omega (arith, w.block_count)) (omega (arith, w.alternative_count)))
    table.outsides table.keywords [] initial_progress
    (record { spelled = w.keywords; fresh = each_all (λ v. refl) table.keywords; different = w.keywords_differ })
    (record { spelled = w.outsides; fresh = each_all (λ v. refl) table.outsides; different = w.outsides_differ })
    refl refl (record { block = refl; root = refl }) (omega (arith, w.keyword_count)) (omega (arith, w.outside_count)) refl refl
