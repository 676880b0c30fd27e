-- What the promises of check, scan and run come to, joined.
use Rattle.std.specs.Prelude.{Ok, Err}
use Prim.Native.Nat.{ℕ, ◌*◌, ◌-◌, ◌≤◌}
use mathlib.Core.Path.{◌≡◌, refl, sym, ap, ◌∙◌}
use mathlib.Core.List.{List, []}
use native.Mathlib.Omega.{arith}
use lib.ListN.{length, get_or, take}
use Rattle.grammar.specs.Limits.{most}
use Rattle.answers.specs.declared.Refusal.{Refusal}
use Rattle.answers.specs.Refusals.{Verdict}
use Rattle.grammar.specs.Table.{Lexicon}
use Rattle.grammar.specs.Lookup.{lexicon_of}
use Rattle.decoding.proofs.Split.{Bytes}
use Rattle.decoding.proofs.LayoutTheorems.{decode_exactly}
use Rattle.decoding.proofs.DecodedLexicon.{lexicon_decoded}
use Rattle.decoding.proofs.Inverse.{decoded_layout}
use Rattle.decoding.specs.Within.{Each}
use Rattle.lexicon.specs.LexiconRoom.{lexicon_by}
use Rattle.productions.specs.Index.{Place, places_of, root_in}
use Rattle.productions.specs.Room.{room_of, kinds_in}
use Rattle.firsts.specs.Reach.{kinds_reached}
use Rattle.firsts.specs.Room.{productions_in, table_room_for, HoldsGrammar}
use Rattle.tokens.specs.Scanned.{Scanned}
use Rattle.scanner.specs.Rooms.{Filled, filled, scan_into, RoomFor, TokensFit}
use Rattle.scanner.proofs.AfterScan.{Holds, scan_holds}
use Rattle.checker.specs.Syntax.{Syntax, syntax_of}
use Rattle.checker.specs.CheckedInto.{CheckedInto}
use Rattle.checker.specs.Passes.{Passes}
use Rattle.checker.proofs.TableTheorems.{check_exactly}
use Rattle.checker.proofs.PassedNames.{names_within}
use Rattle.checker.proofs.Joined.{passed_grammar, passed_holds, passed_places}
use Rattle.expansion.specs.Outcome.{Outcome}
use Rattle.expansion.specs.Outcomes.{ran}
use Rattle.parser.specs.declared.Parsed.{Parsed}
use Rattle.parser.specs.Parse.{HoldsPassed, CheckedRoom, Parseable, halted_parse, parsed_into, parse_into, run_in}
use Rattle.steps.specs.Source.{source, GoesOn}
use Rattle.steps.proofs.SourceLaws.{productions_from_lem}
use Rattle.parser.proofs.Parsing as parsing
use Rattle.parser.proofs.Complete.{complete_places}
use Rattle.parser.proofs.Cutting.{cut_tokens}
use Rattle.parser.proofs.Root.{root_last}

-- ------------------------------------------------------------------ the check

module _ {bs : List ℕ} (bytes : Bytes bs) where
  -- the productions of a table that passes go on where they begin
  begun : (P : Passes bs) → Each (λ (p : Place). GoesOn (source bs) p.start) (places_of bs)
  begun P =
      let decoded = (decode_exactly bs bytes P.written).1 (P.encoded, P.within) in
      complete_places bs (decoded_layout bs P.written decoded).0 (passed_places bytes P)

  -- a table that the check passes, and its room
  checked_passes : {room₀ room : List ℕ} {verdict : Verdict} → CheckedInto bs room₀ room verdict → verdict ≡ Ok tt → HoldsPassed bs room
  checked_passes c e =
      let P : Passes bs = (check_exactly bs bytes).0 (sym c.answer ∙ e) in
      record { passes = P; ready = record { held = record { grammar = passed_holds bytes P c; places = passed_places bytes P }; begun = begun P } }

  -- What the check of a table gives an expansion.
  pub checked_room : {room₀ room : List ℕ} {verdict : Verdict} → CheckedInto bs room₀ room verdict → CheckedRoom bs room verdict
  checked_room c = record { answer = c.answer; holds = checked_passes c }

  module _ (passes : Passes bs) where
    abbrev syntax : Syntax
    syntax = syntax_of passes.table

    abbrev lex : Lexicon
    lex = syntax.lexicon

    abbrev few : length lex.outsides ≤ most.outsides
    few = (names_within passes.within passes.meets).outside_count

    spellings : lexicon_of bs ≡ record { keywords = passes.table.keywords; outsides = passes.table.outsides; variables = [] }
    spellings =
        let decoded = (decode_exactly bs bytes passes.written).1 (passes.encoded, passes.within) in
        let names = names_within passes.within passes.meets in
        cc (lexicon_decoded bs passes.written decoded, names.same_keywords, names.same_outsides)

    -- and its root is their last byte
    root_passed : get_or bs (length bs - 1) 0 ≡ passes.table.root
    root_passed = root_last passes.written passes.encoded ∙ sym (names_within passes.within passes.meets).same_root

    -- The outside names of a passed table stand in its bytes.
    pub outsides_passed : (lexicon_of bs).outsides ≡ lex.outsides
    outsides_passed = ap (λ (l : Lexicon). l.outsides) spellings

    module _ {room : List ℕ} (holds : HoldsGrammar bs room) where
      -- the kinds that the room has are those that the root reaches
      kinds_held : kinds_in room ≡ kinds_reached (productions_in bs) (root_in bs)
      unfolding table_room_for room_of
      kinds_held = ap kinds_in holds.held

      -- The scanner finds the keywords and outside names of a passed table in its bytes, and in its room which keywords count.
      pub lexicon_passed : lexicon_by (kinds_in room) [] bs ≡ lex
      lexicon_passed = rw (spellings, kinds_held, passed_grammar bytes passes, root_passed) refl

    -- ------------------------------------------------------------------ the scan

    module _ {room : List ℕ} (holds : HoldsGrammar bs room) {kinds : ℕ} (reached : kinds ≡ kinds_in room) (formula tokens words : List ℕ) where
      in_lexicon : {given_filled : Filled} → given_filled ≡ scan_into (lexicon_by kinds [] bs) formula tokens words
          → given_filled ≡ scan_into lex formula tokens words
      in_lexicon e = rw (reached, lexicon_passed holds) at e

      module _ {scanned : Scanned} {tokens' words' : List ℕ} (fills : filled scanned tokens' words' ≡ scan_into (lexicon_by kinds [] bs) formula tokens words)
        where
          -- A scan that refuses is the end of the parse.
          pub stops_whole : (cells : List ℕ) {refusal : Refusal} {parsed : Parsed} → scanned ≡ Err refusal → parsed ≡ halted_parse refusal
              → parsed_into parsed tokens' words' cells ≡ parse_into syntax formula tokens words cells
          stops_whole cells h = parsing.into_unscanned syntax formula tokens words cells (rw h at (in_lexicon fills))

          module _ {many count : ℕ} (rooms : RoomFor formula tokens words) (accepts : scanned ≡ Ok (many, count)) where
            -- One that does not leaves its tokens and words in the rooms.
            pub scan_fills : Holds lex formula tokens' words' many count
            scan_fills = scan_holds lex few (omega arith) formula rooms (rw accepts at (in_lexicon fills))

            -- ------------------------------------------------------------------ the run

            -- The run of the tokens, cut behind the last, ends the parse.
            pub runs_whole : (cells : List ℕ) {outcome : Outcome} {cells' : List ℕ}
                → ran outcome cells' ≡ run_in bs (take (many * 4) tokens') cells
                → parsed_into (record { outcome = outcome; words = count }) tokens' words' cells' ≡ parse_into syntax formula tokens words cells
            runs_whole cells {outcome} e =
                parsing.into_run syntax formula tokens words cells outcome (rw accepts at (in_lexicon fills))
                (rw (
                  productions_from_lem (begun passes) ∙ passed_grammar bytes passes,
                  cut_tokens scan_fills.tokens_fit ∙ scan_fills.tokens_are,
                  root_passed,
                ) at e)

-- ------------------------------------------------------------------ the tokens

-- The tokens of a formula that is scanned fit their room.
pub parsed_fit : {bs room formula tokens words : List ℕ} → Bytes bs → Parseable bs room formula tokens words → {kinds : ℕ} → kinds ≡ kinds_in room
    → {scanned : Scanned} {tokens' words' : List ℕ} → filled scanned tokens' words' ≡ scan_into (lexicon_by kinds [] bs) formula tokens words
    → {many count : ℕ} → scanned ≡ Ok (many, count) → TokensFit tokens' many
parsed_fit {formula = formula} {tokens} {words} bytes asked reached fills accepts =
    (scan_fills bytes asked.checked.passes asked.checked.ready.held.grammar reached formula tokens words fills asked.rooms accepts).tokens_fit
