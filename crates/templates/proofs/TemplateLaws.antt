-- Laws of templates read from their bytes, and of the loop over the arguments of a constructor.
use Rattle.std.specs.Prelude.{Some}
use Prim.Native.Nat.{ℕ, suc, ◌+◌, ◌<◌, ◌≤◌}
use mathlib.Core.Path.{◌≡◌, refl, sym, ap, ◌∙◌}
use mathlib.Core.Bool.{true, false}
use mathlib.Core.List.{List, [], ◌∷◌, ◌++◌, append_assoc}
use native.Mathlib.Numerals.{add-one}
use native.Mathlib.Omega.{arith}
use native.Mathlib.Decide.{dec_lt}
use lib.Dec.{eqb}
use lib.ListN.{length, get_or, drop, drop_of_length-le}
use lib.Seq.{drop-cons}
use borrow.Author.Tests.{lt-ltb, le-ltb, lt-leb, ne_eqb}
use Rattle.spellings.proofs.BytesLaws.{by_test}
use Rattle.grammar.specs.Sorts.{arity}
use Rattle.grammar.specs.SortTests.{is_constructor}
use Rattle.grammar.specs.Table.{Template, Templates, variable, make, more}
use Rattle.decoding.specs.Prefix.{ReadTemplates, fault, parsed, in_front, SplitTemplates, short, taken, take_templates, applied, constructed, byte_in_front}
use Rattle.decoding.specs.Prefix.{is_name_tag, name_by}
use Rattle.decoding.specs.Prefix.{templates_of}
use Rattle.decoding.proofs.PrefixLaws.{name_first, name_last, byte_first, variable_first, constructor_first, unknown_first}
use Rattle.expansion.specs.declared.State.{State}
use Rattle.expansion.specs.Run.{Result, done, halt, Run, return, after, ◌>>=◌}
use Rattle.expansion.specs.Expansion.{Input, build, build_all}
use Rattle.templates.specs.Built.{Holds, with_made, Ahead, template_at, others_at, Behind}

-- ------------------------------------------------------------------ what is read in front

-- a template in front of what was read
front_read : (other : Template) (read : ReadTemplates) (template : Template) (ts : Templates) → in_front other read ≡ parsed (more template ts)
    → (template ≡ other) × (read ≡ parsed ts)
front_read other fault template ts e = let z : ◌≡◌ {A = ℕ} 0 1 = cc in absurd (omega arith)
front_read other (parsed ws) template ts e = (cc, cc)

fault_read : {read : ReadTemplates} (template : Template) (ts : Templates) → read ≡ fault → read ≡ parsed (more template ts) → ⊥
fault_read template ts e f = let z : ◌≡◌ {A = ℕ} 0 1 = cc in omega arith

-- a constructor and the templates that it takes
pub record Makes (byte : ℕ) (other : ReadTemplates) (template : Template) (ts : Templates) : Type 0 where
  -- the templates behind the code
  pub ahead : Templates
  -- those that it takes
  pub own : Templates
  -- they are read
  pub read : other ≡ parsed ahead
  -- these are the first, as many as it takes
  pub takes : take_templates (arity byte) ahead ≡ taken own ts
  -- the template is the constructor of them
  pub is : template ≡ make byte own

applied_read : (byte : ℕ) (ws : Templates) (split : SplitTemplates) → take_templates (arity byte) ws ≡ split → (template : Template) (ts : Templates)
    → applied byte split ≡ parsed (more template ts)
    → Makes byte (parsed ws) template ts
applied_read byte ws short h template ts e = let z : ◌≡◌ {A = ℕ} 0 1 = cc in absurd (omega arith)
applied_read byte ws (taken us vs) h template ts e = record { ahead = ws; own = us; read = refl; takes = cc; is = cc }

constructed_read : (byte : ℕ) (read : ReadTemplates) (template : Template) (ts : Templates) → constructed byte read ≡ parsed (more template ts)
    → Makes byte read template ts
constructed_read byte fault template ts e = let z : ◌≡◌ {A = ℕ} 0 1 = cc in absurd (omega arith)
constructed_read byte (parsed ws) template ts e = applied_read byte ws (take_templates (arity byte) ws) refl template ts e

-- ------------------------------------------------------------------ the template at an offset, by its first byte

no_name : (byte : ℕ) → (byte ≡ 0x10 → ⊥) → (byte ≡ 0x11 → ⊥) → is_name_tag byte ≡ false
no_name byte e f = rw (ne_eqb byte 0x10 e, ne_eqb byte 0x11 f) refl

module _ (bytes : List ℕ) (at : ℕ) (ahead : Ahead bytes at) where
  -- the template ahead
  pub template_is : template_at bytes at ≡ ahead.template
  template_is = cc ahead.read

  -- those behind it
  pub others_are : others_at bytes at ≡ ahead.others
  others_are = cc ahead.read

  -- it begins within the bytes
  pub ahead_inside : at < length bytes
  unfolding templates_of
  ahead_inside = by (dec_lt at (length bytes))
    where
      by : Dec (at < length bytes) → at < length bytes
      by (yes h) = h
      by (no n) =
          let e : drop at bytes ≡ [] = drop_of_length-le bytes {i = at} (omega arith) in
          let f : templates_of [] ≡ parsed (more ahead.template ahead.others) = sym (ap templates_of e) ∙ ahead.read in
          let z : ◌≡◌ {A = ℕ} 0 1 = cc in
          absurd (omega arith)

  module _ {byte : ℕ} (eb : byte ≡ get_or bytes at 0) where
    first_byte : templates_of (byte ∷ drop (at + 1) bytes) ≡ parsed (more ahead.template ahead.others)
    first_byte =
        cc (add-one at, drop-cons bytes at 0 ahead_inside, ahead.read)

    -- a variable
    variable_read : byte < 16 → (ahead.template ≡ variable byte) × (templates_of (drop (at + 1) bytes) ≡ parsed ahead.others)
    variable_read h =
        front_read (variable byte) (templates_of (drop (at + 1) bytes)) ahead.template ahead.others
        (sym
        (byte_first byte (drop (at + 1) bytes) (no_name byte (λ e. omega arith) (λ e. omega arith))
        ∙ variable_first byte (templates_of (drop (at + 1) bytes)) (lt-ltb byte 16 h))
        ∙ first_byte)

    -- a byte below 0x10 is a variable
    pub at_variable : byte < 16 → template_at bytes at ≡ variable byte
    at_variable h = template_is ∙ (variable_read h).0

    -- behind it, one byte on
    pub behind_variable : byte < 16 → (row made : ℕ) → Behind bytes at (Some (row, at + 1, made))
    behind_variable h row made = (omega arith, omega (arith, ahead_inside), (variable_read h).1 ∙ ap parsed (sym others_are))

    -- a variable is built as its value
    pub variable_built : byte < 16 → (env : List ℕ) (variables row : ℕ) → ((values : List ℕ) → Holds env variables values → row ≡ get_or values byte 0)
        → (rows made : ℕ) (cells : List ℕ) (input : Input) (state : State) (values : List ℕ) → input.rows ≡ rows → Holds env variables values
        → done row (with_made state made) cells ≡ build (template_at bytes at) input values (with_made state made) cells
    unfolding build
    variable_built h env variables row f rows made cells input state values e g =
        cc (f values g, at_variable h)

    -- a constructor
    pub makes : 32 ≤ byte → Makes byte (templates_of (drop (at + 1) bytes)) ahead.template ahead.others
    makes h = by_test (is_constructor byte) known (λ c. absurd (unknown c))
      where
        other : templates_of (byte ∷ drop (at + 1) bytes) ≡ byte_in_front byte (templates_of (drop (at + 1) bytes))
        other = byte_first byte (drop (at + 1) bytes) (no_name byte (λ e. omega arith) (λ e. omega arith))

        known : is_constructor byte ≡ true → Makes byte (templates_of (drop (at + 1) bytes)) ahead.template ahead.others
        known c =
            constructed_read byte (templates_of (drop (at + 1) bytes)) ahead.template ahead.others
            (sym (other ∙ constructor_first byte (templates_of (drop (at + 1) bytes)) (le-ltb byte 16 (omega arith)) c) ∙ first_byte)

        unknown : is_constructor byte ≡ false → ⊥
        unknown c =
            fault_read ahead.template ahead.others
            (other ∙ unknown_first byte (templates_of (drop (at + 1) bytes)) (le-ltb byte 16 (omega arith)) c) first_byte

    -- an outside name
    module _ (low : 16 ≤ byte) (high : byte < 32) where
      no_constructor : is_constructor byte ≡ false
      no_constructor = rw (lt-leb 0x20 byte high) refl

      name_tag : (bs : List ℕ) → templates_of (byte ∷ bs) ≡ parsed (more ahead.template ahead.others) → is_name_tag byte ≡ true
      name_tag bs e =
          by_test (is_name_tag byte) (λ t. t)
          (λ f.
          absurd
          (fault_read ahead.template ahead.others
          (byte_first byte bs f ∙ unknown_first byte (templates_of bs) (le-ltb byte 16 low) no_constructor) e))

      name_inside : at + 1 < length bytes
      name_inside = by (dec_lt (at + 1) (length bytes))
        where
          by : Dec (at + 1 < length bytes) → at + 1 < length bytes
          by (yes h) = h
          by (no n) =
              let e : drop (at + 1) bytes ≡ [] = drop_of_length-le bytes {i = at + 1} (omega arith) in
              let f : templates_of (byte ∷ []) ≡ parsed (more ahead.template ahead.others) = cc first_byte in
              absurd (fault_read ahead.template ahead.others (name_last byte (name_tag [] f)) f)

      module _ {number : ℕ} (en : number ≡ get_or bytes (at + 1) 0) where
        second_byte : templates_of (byte ∷ number ∷ drop (at + 2) bytes) ≡ parsed (more ahead.template ahead.others)
        second_byte =
            let z : suc (at + 1) ≡ at + 2 = omega arith in
            cc (drop-cons bytes (at + 1) 0 name_inside, first_byte)

        name_read : (ahead.template ≡ name_by (eqb byte 0x10) number) × (templates_of (drop (at + 2) bytes) ≡ parsed ahead.others)
        name_read =
            front_read (name_by (eqb byte 0x10) number) (templates_of (drop (at + 2) bytes)) ahead.template ahead.others
            (sym (name_first byte number (drop (at + 2) bytes) (name_tag (number ∷ drop (at + 2) bytes) second_byte)) ∙ second_byte)

        -- a name is read with its number
        pub at_name : template_at bytes at ≡ name_by (eqb byte 0x10) number
        at_name = template_is ∙ name_read.0

        -- behind it, two bytes on
        pub behind_name : (row made : ℕ) → Behind bytes at (Some (row, at + 2, made))
        behind_name row made = (omega arith, omega (arith, name_inside), name_read.1 ∙ ap parsed (sym others_are))

-- ------------------------------------------------------------------ the arguments of a constructor, one by one

-- values that are given, and those of the templates ahead, handed on together
module _ {B : Type 0} (then_run : List ℕ → Run B) (given : List ℕ) where
  -- values in front of others, grouped in another way
  pub regroup : (row : ℕ) (result : Result (List ℕ))
      → after result (λ ys. then_run ((given ++ (row ∷ [])) ++ ys)) ≡ after (after result (λ ys. return (row ∷ ys))) (λ ys. then_run (given ++ ys))
  regroup row (done ys s cs) = cc (append_assoc given (row ∷ []) ys)
  regroup row (halt r cs) = refl

  -- a template is built, and then the others
  pub first_built : (input : Input) (values : List ℕ) (template : Template) (ts : Templates) (result : Result ℕ) (state : State) (cells : List ℕ)
      → result ≡ build template input values state cells
      → after (after result (λ x. build_all ts input values >>= λ ys. return (x ∷ ys))) (λ ys. then_run (given ++ ys))
      ≡ after (build_all (more template ts) input values state cells) (λ ys. then_run (given ++ ys))
  unfolding build build_all
  first_built input values template ts result state cells h =
      cc
