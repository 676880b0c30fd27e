-- The heads collected from a table's bytes are the environment collected from its definitions.
use Prim.Native.Nat.{ℕ, suc, ◌+◌, ◌*◌, ◌≤◌, ◌<◌}
use mathlib.Core.Path.{◌≡◌, refl, sym, ap, ap₂, subst, ◌∙◌}
use mathlib.Core.Bool.{Bool, true, false, not, ◌&&◌, ◌||◌, true≢false, and-eq-true_iff}
use mathlib.Core.List.{List, [], ◌∷◌, ◌++◌}
use native.Mathlib.Omega.{arith}
use native.Mathlib.Nat.{add-zero, add_assoc}
use lib.Dec.{eqb, leb, ltb}
use lib.ListN.{length, get_or, drop, set, length-set, length-take}
use lib.Seq.{take_all, get_or-drop, get_or-take, get_or-set_same, get_or-set_other}
use borrow.Author.Tests.{eqb-true, eqb-false, eq-eqb, ne_eqb, lt-ltb, ltb-true, ltb-false, lt-leb, not-true}
use Rattle.std.specs.Prelude.{⊤, Result, Ok, Err}
use Rattle.answers.specs.Refusals.{refusal}
use Rattle.answers.specs.Checked.{Checked, ok, bad, need}
use Rattle.spellings.specs.Bytes.{same}
use Rattle.spellings.proofs.BytesLaws.{by_test, same_true}
use Rattle.grammar.specs.Sorts.{Signature}
use Rattle.grammar.specs.Table.{Mode, add, extend, update}
use Rattle.grammar.specs.Written.{WrittenDefinition}
use Rattle.grammar.specs.Values.{mode_code, head_value}
use Rattle.decoding.specs.Within.{DefinitionWithin}
use Rattle.judgements.specs.CheckSorts.{is_defined, signature_of, same_signature, is_unused, is_as_before, consistent}
use Rattle.judgements.specs.Scopes.{Declaration, Env, entry_of}
use Rattle.judgements.proofs.Environments.{defined_here, defined_later, signature_here, signature_later}
use Rattle.bodies.specs.declared.Fault.{Fault}
use Rattle.bodies.specs.declared.Fault.TheVariants.{NumberInUse, BadExtension}
use Rattle.bodies.specs.Faults.{cause_of, tested_by}
use Rattle.bodies.specs.HeadBytes.{value_at, signature_at, head_before, fault_of, with_head}
use Rattle.bodies.proofs.HeadLaws.{fault_earlier, fault_new, before_kept, before_same_head}

-- ------------------------------------------------------------------ a head

-- a signature's bytes: the result, then the parameters
abbrev pub bytes_of : Signature → List ℕ
bytes_of S = S.result ∷ S.params

module _ (bs : List ℕ) (at : ℕ) (definition : WrittenDefinition) (within : DefinitionWithin definition) (placed : head_value definition ≡ value_at bs at) where
  -- the bytes of the table that hold it
  byte_at : (place byte : ℕ) → place < 3 → get_or (head_value definition) place 0 ≡ byte → get_or bs (at + 3 + place) 0 ≡ byte
  unfolding head_value
  byte_at place byte l e =
      let size : ℕ = get_or bs (at + 1) 0 * 256 + get_or bs (at + 2) 0 in
      let long : suc (suc (suc (length definition.signature.params))) ≡ length (value_at bs at) = ap length placed in
      cc (get_or-drop (at + 3) bs place 0, get_or-take size (drop (at + 3) bs) place 0 (omega (arith, length-take size (drop (at + 3) bs))))

  -- its nonterminal
  head_nonterminal : definition.nonterminal ≡ get_or bs (at + 3) 0
  unfolding head_value
  head_nonterminal = cc (add-zero (at + 3), byte_at 0 definition.nonterminal (omega arith) refl)

  -- its mode
  head_mode : mode_code definition.mode ≡ get_or bs (at + 4) 0
  unfolding head_value
  head_mode = cc (add_assoc at 3 1, byte_at 1 (mode_code definition.mode) (omega arith) refl)

  -- its signature
  pub head_signature : signature_at bs at ≡ bytes_of definition.signature
  unfolding signature_at head_value
  head_signature = cc (placed, take_all 5 (bytes_of definition.signature) (omega (arith, within.param_count)))

-- ------------------------------------------------------------------ environments

-- one nonterminal: its head's offset is not 0 exactly if it is defined, and the head has its newest signature
pub record KnowsHead (bs : List ℕ) (E : Env) (head nonterminal : ℕ) : Type 0 where
  -- it has a head exactly if it is defined
  pub defined : ltb 0 head ≡ is_defined E nonterminal
  -- the head of a defined one spells its newest signature
  pub shown : is_defined E nonterminal ≡ true → signature_at bs head ≡ bytes_of (signature_of E nonterminal)

-- its head stands among those that are known
abbrev pub Knows : List ℕ → Env → List ℕ → ℕ → Type 0
Knows bs E known_heads nonterminal = KnowsHead bs E (get_or known_heads nonterminal 0) nonterminal

-- a number is 0 exactly if it is not above 0
pub zero_test : (count : ℕ) → eqb count 0 ≡ not (ltb 0 count)
zero_test count =
    by_test (ltb 0 count) (λ e. ne_eqb count 0 (λ z. let l : 0 < count = ltb-true 0 count e in omega arith) ∙ sym (ap not e))
    (λ e. eq-eqb count 0 (let l : count ≤ 0 = ltb-false 0 count e in omega arith) ∙ sym (ap not e))

-- an environment followed by another
append_defined : (own E : Env) (nonterminal : ℕ) → is_defined (own ++ E) nonterminal ≡ (is_defined own nonterminal || is_defined E nonterminal)
unfolding is_defined
append_defined [] E nonterminal = refl
append_defined (e ∷ own) E nonterminal =
    by_test (eqb e.nonterminal nonterminal)
    (λ q. cc (defined_here e (own ++ E) nonterminal q, defined_here e own nonterminal q))
    (λ q.
    cc (defined_later e (own ++ E) nonterminal q, append_defined own E nonterminal, defined_later e own nonterminal q))

append_signature : (own E : Env) (nonterminal : ℕ) → is_defined own nonterminal ≡ false → signature_of (own ++ E) nonterminal ≡ signature_of E nonterminal
unfolding is_defined
append_signature [] E nonterminal h = refl
append_signature (e ∷ own) E nonterminal h =
    by_test (eqb e.nonterminal nonterminal) (λ q. absurd (true≢false (sym (defined_here e own nonterminal q) ∙ h)))
    (λ q. signature_later e (own ++ E) nonterminal q ∙ append_signature own E nonterminal (sym (defined_later e own nonterminal q) ∙ h))

-- what a test finds at an offset, as a check
abbrev pub check_of : ℕ → Result ⊤ Fault → Checked (Unit {0})
check_of at (Ok tt) = ok tt
check_of at (Err fault) = bad (refusal (cause_of fault) at 0 0)

-- what a block has defined lies behind its beginning
pub record Collects (bs : List ℕ) (E own : Env) (block : ℕ) (known_heads : List ℕ) : Type 0 where
  -- there is a head for each nonterminal
  pub size : length known_heads ≡ 64
  -- each head shows what the block and the environment before it have
  pub knows : (nonterminal : ℕ) → nonterminal < 64 → Knows bs (own ++ E) known_heads nonterminal
  -- a head lies in front of the block exactly if the block does not define its nonterminal
  pub here : (nonterminal : ℕ) → nonterminal < 64 → leb (get_or known_heads nonterminal 0) block ≡ not (is_defined own nonterminal)
  -- what the environment before the block has can be told from the heads too
  pub before : (nonterminal : ℕ) → nonterminal < 64 → KnowsHead bs E (head_before bs known_heads block nonterminal) nonterminal

-- a test that finds nothing
tested_sound : (test : Bool) (fault : Fault) → tested_by test fault ≡ Ok tt → test ≡ true
tested_sound true fault e = refl
tested_sound false fault e = absurd (true≢false (sym (ap is_sound e)))
  where
    is_sound : Result ⊤ Fault → Bool
    is_sound (Ok tt) = true
    is_sound (Err other) = false

-- three tests, each of which is asked only after those before it
three :
    (first second third first' second' third' : Bool) → first ≡ first' → (first' ≡ true → second ≡ second') → (first' ≡ true → second' ≡ true → third ≡ third')
    → (first && second && third) ≡ (first' && second' && third')
three first second third true true third' e f g = cc (f refl, g refl refl)
three first second third true false third' e f g = cc (f refl)
three first second third false second' third' e f g = cc

module _ (bs : List ℕ) (E own : Env) (block : ℕ) (known_heads : List ℕ) (collects : Collects bs E own block known_heads) (at : ℕ)
    (definition : WrittenDefinition) (within : DefinitionWithin definition) (placed : head_value definition ≡ value_at bs at) where
  abbrev n : ℕ
  n = definition.nonterminal

  abbrev head : ℕ
  head = get_or known_heads n 0

  low : n < 64
  low = omega (arith, within.nonterminal)

  known_head : Knows bs (own ++ E) known_heads n
  known_head = collects.knows n low

  -- refusal 7: no head
  new_same : eqb head 0 ≡ (not (is_defined own n) && not (is_defined E n))
  new_same =
      zero_test head
      ∙ ap not (known_head.defined ∙ append_defined own E n)
      ∙ not_or (is_defined own n) (is_defined E n)
    where
      not_or : (first second : Bool) → not (first || second) ≡ (not first && not second)
      not_or true second = refl
      not_or false second = refl

  -- refusal 8: a head before the block, with the same signature
  before_same :
      (leb head block && ltb 0 head && same (signature_at bs head) (signature_at bs at))
      ≡ (not (is_defined own n) && is_defined E n && same_signature (signature_of E n) definition.signature)
  before_same =
      three (leb head block) (ltb 0 head) (same (signature_at bs head) (signature_at bs at)) (not (is_defined own n)) (is_defined E n)
      (same_signature (signature_of E n) definition.signature) (collects.here n low)
      (λ o. cc (known_head.defined, append_defined own E n, not-true (is_defined own n) o))
      (λ o e.
      let missing : is_defined own n ≡ false = not-true (is_defined own n) o in
      let known : is_defined (own ++ E) n ≡ true = cc (append_defined own E n) in
      ap₂ same (known_head.shown known ∙ ap bytes_of (append_signature own E n missing)) (head_signature bs at definition within placed))

  -- the test of a head, as a check
  need_tested : (test : Bool) (fault : Fault) → need test (cause_of fault) at ≡ check_of at (tested_by test fault)
  need_tested true fault = refl
  need_tested false fault = refl

  coded : {mode : Mode} → definition.mode ≡ mode → mode_code mode ≡ get_or bs (at + 4) 0
  coded q = cc (head_mode bs at definition within placed)

  new_outcome : {mode : Mode} → definition.mode ≡ mode → (eqb (mode_code mode) 1 || eqb (mode_code mode) 2) ≡ false
      → need (is_unused E own definition) 7 at ≡ check_of at (fault_of bs at block known_heads)
  new_outcome q m =
      cc (
        new_same,
        need_tested (eqb head 0) NumberInUse,
        fault_new bs known_heads at block (head_nonterminal bs at definition within placed) (coded q) refl m (eqb head 0) refl,
      )

  before_outcome : {mode : Mode} → definition.mode ≡ mode → (eqb (mode_code mode) 1 || eqb (mode_code mode) 2) ≡ true
      → need (is_as_before E own definition) 8 at ≡ check_of at (fault_of bs at block known_heads)
  before_outcome q m =
      let good : Bool = leb head block && ltb 0 head && same (signature_at bs head) (signature_at bs at) in
      cc (
        before_same,
        need_tested good BadExtension,
        fault_earlier bs known_heads at block (head_nonterminal bs at definition within placed) (coded q) refl m refl refl refl good refl,
      )

  -- the refusal of a head is that of its definition
  pub head_same : consistent definition.mode E own definition at ≡ check_of at (fault_of bs at block known_heads)
  head_same = by definition.mode refl
    where
      by : (mode : Mode) → definition.mode ≡ mode → consistent mode E own definition at ≡ check_of at (fault_of bs at block known_heads)
      by add q = new_outcome q refl
      by extend q = before_outcome q refl
      by update q = before_outcome q refl

  -- one head more, if nothing is wrong with it
  module _ (later : block < at) (sound : fault_of bs at block known_heads ≡ Ok tt) where
    abbrev e : Declaration
    e = entry_of definition

    abbrev heads : List ℕ
    heads = with_head bs at known_heads

    put : heads ≡ set known_heads n at
    put = cc (head_nonterminal bs at definition within placed)

    this_head : (other : ℕ) → eqb n other ≡ true → get_or heads other 0 ≡ at
    this_head other q = cc (eqb-true n other q, put, get_or-set_same known_heads n at 0 (omega (arith, low, collects.size)))

    that_head : (other : ℕ) → eqb n other ≡ false → get_or heads other 0 ≡ get_or known_heads other 0
    that_head other q = cc (put, get_or-set_other known_heads n other at 0 (λ z. eqb-false n other q (sym z)))

    knows_more : (other : ℕ) → other < 64 → Knows bs (e ∷ own ++ E) heads other
    knows_more other k =
        by_test (eqb n other)
        (λ q.
        record {
          defined = ap (ltb 0) (this_head other q) ∙ lt-ltb 0 at (omega arith) ∙ sym (defined_here e (own ++ E) other q);
          shown = λ d. ap (signature_at bs) (this_head other q) ∙ head_signature bs at definition within placed
              ∙ ap bytes_of (sym (signature_here e (own ++ E) other q));
        })
        (λ q.
        let old = collects.knows other k in
        record {
          defined = ap (ltb 0) (that_head other q) ∙ old.defined ∙ sym (defined_later e (own ++ E) other q);
          shown = λ d.
              ap (signature_at bs) (that_head other q)
              ∙ old.shown (sym (defined_later e (own ++ E) other q) ∙ d)
              ∙ ap bytes_of (sym (signature_later e (own ++ E) other q));
        })

    here_more : (other : ℕ) → other < 64 → leb (get_or heads other 0) block ≡ not (is_defined (e ∷ own) other)
    here_more other k =
        by_test (eqb n other)
        (λ q. cc (this_head other q, lt-leb at block later, defined_here e own other q))
        (λ q. cc (that_head other q, collects.here other k, defined_later e own other q))

    -- the head that is kept from before, by the mode of the definition
    before_by : {mode : Mode} → definition.mode ≡ mode → (test : Bool) → (eqb (mode_code mode) 1 || eqb (mode_code mode) 2) ≡ test
        → (elim test [ true ↦ at | false ↦ 0 ]) ≡ head_before bs heads block n
    before_by {mode} q test m =
        before_kept bs heads block n (sym (this_head n (eq-eqb n n refl))) (coded q) test
        (ap (λ (b : Bool). (b || eqb (mode_code mode) 1) || eqb (mode_code mode) 2) (lt-leb at block later) ∙ m)

    -- add: there was none
    added_before : definition.mode ≡ add → KnowsHead bs E (head_before bs heads block n) n
    added_before q =
        let new : eqb head 0 ≡ true =
        tested_sound (eqb head 0) NumberInUse
        (fault_new bs known_heads at block (head_nonterminal bs at definition within placed) (coded q) refl refl (eqb head 0) refl ∙ sound) in
        let both = (and-eq-true_iff (not (is_defined own n)) (not (is_defined E n))).0 (sym new_same ∙ new) in
        let none : is_defined E n ≡ false = not-true (is_defined E n) both.1 in
        let kept : 0 ≡ head_before bs heads block n = before_by q false refl in
        record { defined = ap (ltb 0) (sym kept) ∙ sym none; shown = λ d. absurd (true≢false (sym d ∙ none)) }

    -- extend and update: there was one, with the same signature
    changed_before : {mode : Mode} → definition.mode ≡ mode → (eqb (mode_code mode) 1 || eqb (mode_code mode) 2) ≡ true
        → KnowsHead bs E (head_before bs heads block n) n
    changed_before q m =
        let good : Bool = leb head block && ltb 0 head && same (signature_at bs head) (signature_at bs at) in
        let old : good ≡ true =
        tested_sound good BadExtension
        (fault_earlier bs known_heads at block (head_nonterminal bs at definition within placed) (coded q) refl m refl refl refl good refl ∙ sound) in
        let parts =
        (and-eq-true_iff (not (is_defined own n) && is_defined E n) (same_signature (signature_of E n) definition.signature)).0 (sym before_same ∙ old) in
        let there : is_defined E n ≡ true = ((and-eq-true_iff (not (is_defined own n)) (is_defined E n)).0 parts.0).1 in
        let kept : at ≡ head_before bs heads block n = before_by q true m in
        record {
          defined = ap (ltb 0) (sym kept) ∙ lt-ltb 0 at (omega arith) ∙ sym there;
          shown = λ d.
              ap (signature_at bs) (sym kept) ∙ head_signature bs at definition within placed
              ∙ sym (same_true (bytes_of (signature_of E n)) (bytes_of definition.signature) parts.1);
        }

    before_this : KnowsHead bs E (head_before bs heads block n) n
    before_this = by definition.mode refl
      where
        by : (mode : Mode) → definition.mode ≡ mode → KnowsHead bs E (head_before bs heads block n) n
        by add q = added_before q
        by extend q = changed_before q refl
        by update q = changed_before q refl

    before_more : (other : ℕ) → other < 64 → KnowsHead bs E (head_before bs heads block other) other
    before_more other k =
        by_test (eqb n other) (λ q. subst (λ m. KnowsHead bs E (head_before bs heads block m) m) (eqb-true n other q) before_this)
        (λ q. subst (λ h. KnowsHead bs E h other) (before_same_head bs known_heads heads block other (sym (that_head other q))) (collects.before other k))

    -- the heads show one entry more
    pub head_more : Collects bs E (entry_of definition ∷ own) block (with_head bs at known_heads)
    head_more =
        record { size = length-set known_heads (get_or bs (at + 3) 0) at ∙ collects.size; knows = knows_more; here = here_more; before = before_more }
