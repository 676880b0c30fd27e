-- The check of a table from what the layers below answer, for the code.
use Prim.Native.Nat.{ℕ}
use mathlib.Core.Path.{◌≡◌, refl, sym, ◌∙◌, ap}
use mathlib.Core.List.{List}
use Rattle.std.specs.Prelude.{Some, None, IsSome, is_some, Ok, Err}
use Rattle.answers.specs.declared.Refusal.{Refusal}
use Rattle.answers.specs.Refusals.{Verdict}
use Rattle.answers.specs.Checked.{Checked, ok, bad, ◌>>◌, verdict}
use Rattle.grammar.specs.Limits.{most}
use Rattle.grammar.specs.Table.{Table}
use Rattle.grammar.specs.Written.{Written}
use Rattle.grammar.specs.Templated.{templated}
use Rattle.grammar.specs.Encode.{encode}
use Rattle.decoding.specs.Layout.{layout}
use Rattle.decoding.specs.Decode.{decode}
use Rattle.decoding.specs.Within.{Within}
use Rattle.decoding.proofs.Split.{Bytes}
use Rattle.decoding.proofs.Inverse.{layout_encoded, decode_encoded}
use Rattle.elaboration.specs.CheckSequence.{check_sorts}
use Rattle.elaboration.proofs.SortTheorems.{sorts_exactly}
use Rattle.elaboration.proofs.Elaborated.{elaborated_blocks}
use Rattle.sorts.specs.ByBytes.{sorts_of, Finding}
use Rattle.sorts.proofs.SortedBytes.{found, bytes_checked}
use Rattle.clashes.specs.CheckFirsts.{check_firsts}
use Rattle.productions.specs.Index.{places_in, places_of}
use Rattle.productions.specs.IndexCalls.{Index, FitsIndex}
use Rattle.productions.specs.Room.{overwritten}
use Rattle.productions.proofs.FewAlternatives.{few_alternatives}
use Rattle.productions.proofs.Places.{productions_at_lem, whole_places}
use Rattle.firsts.specs.Room.{productions_in, table_room, table_room_for, WholeIndex}
use Rattle.clashes.specs.CheckCalls.{FirstsChecked}
use Rattle.productions.specs.Normal.{normalized}
use Rattle.productions.proofs.NormalizedByFields.{normalized_by_lem}
use Rattle.checker.specs.Syntax.{syntax_of}
use Rattle.checker.specs.Check.{passed_table, check}
use Rattle.checker.specs.CheckedInto.{room_after, CheckedInto}
use Rattle.checker.specs.Passes.{grammar_of}
use Rattle.checker.proofs.Passing.{never, refused_by_layout, refused_by_sorts}

-- a verdict says what the check gave
refused_bad : {A : Type 0} (checked : Checked A) (refusal : Refusal) → verdict checked ≡ Err refusal → checked ≡ bad refusal
refused_bad (ok a) refusal e = never refusal (sym e)
refused_bad (bad q) refusal e = ap bad (let z : q ≡ refusal = cc in z)

passed_ok : {A : Type 0} (checked : Checked A) → verdict checked ≡ Ok tt → (value : A) × (checked ≡ ok value)
passed_ok (ok a) e = (a, refl)
passed_ok (bad q) e = never q e

verdict_then : {A : Type 0} (checked : Checked (Unit {0})) (item : A) → verdict (checked >> ok item) ≡ verdict checked
verdict_then (ok u) item = refl
verdict_then (bad r) item = refl

module _ (bs : List ℕ) where
  refused_layout : (refusal : Refusal) → verdict (layout bs) ≡ Err refusal → check bs ≡ Err refusal
  unfolding decode
  refused_layout refusal e =
      refused_by_layout bs refusal (cc (refused_bad (layout bs) refusal e))

  -- a table refused for its layout leaves the room as it was
  pub into_layout : (refusal : Refusal) → verdict (layout bs) ≡ Err refusal → (room : List ℕ) → CheckedInto bs room room (Err refusal)
  unfolding decode room_after
  into_layout refusal e room =
      record {
        answer = sym (refused_layout refusal e);
        held = cc (refused_bad (layout bs) refusal e);
        whole = λ p. never refusal p;
      }

  module _ (bytes : Bytes bs) (laid : verdict (layout bs) ≡ Ok tt) where
    layout_right : layout bs ≡ ok tt
    layout_right = (passed_ok (layout bs) laid).1

    -- the table that the bytes are
    pub encoded : (table : Written) × (bs ≡ encode table) × Within table
    encoded = layout_encoded bs bytes layout_right

    decoded : decode bs ≡ ok encoded.0
    decoded = ap decode encoded.1 ∙ decode_encoded encoded.0 encoded.2

    sorts_here : sorts_of bs ≡ found (check_sorts encoded.0)
    sorts_here = bytes_checked bs bytes encoded.0 decoded

    -- its verdict
    judged_here : {given_verdict : Verdict} → sorts_of bs ≡ Some given_verdict → verdict (check_sorts encoded.0) ≡ given_verdict
    judged_here e = ap judgement (sym sorts_here ∙ e)
      where
        judgement : Finding → Verdict
        judgement (Some v) = v
        judgement None = Ok tt

    -- no text is met
    pub no_text : {finding : Finding} → finding ≡ sorts_of bs → IsSome finding
    no_text e = ap is_some (e ∙ sorts_here)

    refused_sorts : (refusal : Refusal) → sorts_of bs ≡ Some (Err refusal) → check bs ≡ Err refusal
    refused_sorts refusal e = refused_by_sorts bs encoded.0 refusal decoded (refused_bad (check_sorts encoded.0) refusal (judged_here e))

    room_left : (refusal : Refusal) → sorts_of bs ≡ Some (Err refusal) → (room : List ℕ) → room ≡ room_after bs room
    unfolding room_after
    room_left refusal e room =
        cc (refused_bad (check_sorts encoded.0) refusal (judged_here e), decoded)

    -- and so does one refused for its sorts
    pub into_sorts : (refusal : Refusal) → sorts_of bs ≡ Some (Err refusal) → (room : List ℕ) → CheckedInto bs room room (Err refusal)
    into_sorts refusal e room =
        record { answer = sym (refused_sorts refusal e); held = room_left refusal e room; whole = λ p. never refusal p }

    -- the table fits its index
    pub few : FitsIndex bs
    few = few_alternatives bs layout_right

    -- an index that was built is whole
    pub whole_index : {many : ℕ} {owners starts : List ℕ} → Index (places_of bs) most.alternatives many owners starts → WholeIndex bs many owners starts
    whole_index i =
        record {
          short = few.short;
          few = i.few;
          whole = rw i.entries (whole_places bs layout_right);
        }

    -- the productions of the table's bytes are those of its templates
    pub indexed : productions_in bs ≡ normalized (templated encoded.0.blocks)
    indexed = cc (productions_at_lem bs, encoded.1, normalized_by_lem encoded.0 encoded.2)

    module _ (sorted : sorts_of bs ≡ Some (Ok tt)) where
      -- what its check of sorts answers
      sorts_ok : (made : Table) × (check_sorts encoded.0 ≡ ok made)
      sorts_ok = passed_ok (check_sorts encoded.0) (judged_here sorted)

      by_firsts : check bs ≡ verdict (check_firsts (productions_in bs))
      unfolding check passed_table
      by_firsts =
          let (made, answered) = sorts_ok in
          let same = elaborated_blocks encoded.2 ((sorts_exactly encoded.0 made encoded.2).0 answered) in
          cc (decoded, answered, verdict_then (check_firsts (grammar_of made)) (syntax_of made), indexed, same)

      room_written : (room : List ℕ) → room_after bs room ≡ overwritten (table_room bs) room
      unfolding room_after
      room_written room =
          cc (decoded, sorts_ok.1)

      -- a table with neither refusal is answered by the check of its first sets
      pub into_firsts : {many : ℕ} {owners starts : List ℕ} → Index (places_of bs) most.alternatives many owners starts
          → {room₀ room : List ℕ} {given_verdict : Verdict}
          → FirstsChecked bs (places_in many owners starts) room₀ room given_verdict → CheckedInto bs room₀ room given_verdict
      unfolding table_room_for
      into_firsts i {room₀} f =
          record {
            answer = cc (f.answer, i.entries, by_firsts);
            held = cc (f.held, i.entries, room_written room₀);
            whole = λ p. whole_places bs layout_right;
          }
