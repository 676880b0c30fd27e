-- Laws of the loop over the arguments of a call: templates one behind the other, up to the end of the bytes.
use Rattle.std.specs.Prelude.{Some, None}
use Prim.Native.Nat.{ℕ, suc, ◌+◌, ◌<◌, ◌≤◌}
use mathlib.Core.Path.{◌≡◌, refl, sym, ap, ◌∙◌, subst, subst⁻¹}
use mathlib.Core.Bool.{true}
use mathlib.Core.List.{List, [], ◌∷◌, ◌++◌, append-nil}
use native.Mathlib.Omega.{arith}
use lib.Dec.{ltb}
use lib.ListN.{length, get_or, drop, drop_of_length-le}
use lib.Seq.{drop-cons}
use Rattle.spellings.proofs.BytesLaws.{by_test}
use Rattle.grammar.specs.Sorts.{arity}
use Rattle.grammar.specs.SortTests.{is_constructor}
use Rattle.grammar.specs.Table.{Template, Templates, variable, none, more}
use Rattle.decoding.specs.Prefix.{ReadTemplates, fault, parsed, in_front, SplitTemplates, short, taken, take_templates, applied, constructed, byte_in_front}
use Rattle.decoding.specs.Prefix.{is_name_tag, templates_of}
use Rattle.decoding.specs.Prefix.{found}
use Rattle.decoding.proofs.PrefixLaws.{name_first, name_last, byte_first, variable_first, constructor_first, unknown_first}
use Rattle.expansion.specs.declared.State.{State}
use Rattle.templates.specs.declared.Making.{Making}
use Rattle.templates.specs.Given.{Built}
use Rattle.templates.specs.declared.Head.{Head}
use Rattle.templates.specs.declared.Head.TheVariants.{Leaf}
use Rattle.expansion.specs.Run.{Result, done, return, after, ◌>>=◌}
use Rattle.expansion.specs.Expansion.{Input, build, build_all}
use Rattle.templates.specs.Built.{Holds, with_made, Ahead, template_at, built, Behind, Builds, Lists}
use Rattle.templates.specs.Heads.{HeadValue, Heads}
use Rattle.templates.proofs.TemplateLaws.{regroup, first_built, template_is, others_are}
use Rattle.templates.proofs.BuildLaws.{leaf_built}

-- ------------------------------------------------------------------ bytes that are read have a first template

abbrev Begins : ReadTemplates → Type 0
Begins fault = Unit {0}
Begins (parsed none) = ⊥
Begins (parsed (more t ts)) = Unit {0}

begins_front : (template : Template) (read : ReadTemplates) → Begins (in_front template read)
begins_front template fault = tt
begins_front template (parsed ts) = tt

begins_applied : (code : ℕ) (split : SplitTemplates) → Begins (applied code split)
begins_applied code short = tt
begins_applied code (taken us vs) = tt

begins_constructed : (code : ℕ) (read : ReadTemplates) → Begins (constructed code read)
begins_constructed code fault = tt
begins_constructed code (parsed ts) = begins_applied code (take_templates (arity code) ts)

begins_byte : (byte : ℕ) (read : ReadTemplates) → Begins (byte_in_front byte read)
begins_byte byte read =
    by_test (ltb byte 0x10) (λ e. subst⁻¹ Begins (variable_first byte read e) (begins_front (variable byte) read))
    (λ e.
    by_test (is_constructor byte) (λ k. subst⁻¹ Begins (constructor_first byte read e k) (begins_constructed byte read))
    (λ k. subst⁻¹ Begins (unknown_first byte read e k) tt))

begins_name : (byte : ℕ) (bs : List ℕ) → is_name_tag byte ≡ true → Begins (templates_of (byte ∷ bs))
begins_name byte [] e = subst⁻¹ Begins (name_last byte e) tt
begins_name byte (n ∷ bs) e = subst⁻¹ Begins (name_first byte n bs e) (begins_front _ (templates_of bs))

begins_read : (byte : ℕ) (bs : List ℕ) → Begins (templates_of (byte ∷ bs))
begins_read byte bs =
    by_test (is_name_tag byte) (begins_name byte bs) (λ e. subst⁻¹ Begins (byte_first byte bs e) (begins_byte byte (templates_of bs)))

-- the first template, where bytes are left
abbrev pub First : List ℕ → ℕ → Templates → Type 0
First v at ts = (a : Ahead v at) × (ts ≡ more a.template a.others)

first_by : (bytes : List ℕ) (at : ℕ) (ts : Templates) → Begins (parsed ts) → templates_of (drop at bytes) ≡ parsed ts → First bytes at ts
first_by bytes at none s e = absurd s
first_by bytes at (more t ts) s e = (record { template = t; others = ts; read = e }, refl)

-- the first template ahead, and those behind it
pub first_of : (bytes : List ℕ) (at : ℕ) (ts : Templates) → at < length bytes → templates_of (drop at bytes) ≡ parsed ts → First bytes at ts
first_of bytes at ts h e =
    first_by bytes at ts
    (subst Begins e (rw (drop-cons bytes at 0 h) (begins_read (get_or bytes at 0) (drop (suc at) bytes))))
    e

-- ------------------------------------------------------------------ one by one

-- `given_count` values are listed, and the templates ahead give with them what all give
pub record Listing (bytes : List ℕ) (start : ℕ) (env : List ℕ) (m : Making) (cells₀ out cells : List ℕ) (at given_count count : ℕ) : Type 0 where
  -- each value took a byte at least
  pub small : given_count + start ≤ at
  -- there are no more values than bytes
  pub few : given_count ≤ length bytes
  -- the cells are as many as before
  pub as_long : length cells ≡ length cells₀
  -- the values listed
  pub given : List ℕ
  -- they stand in the array
  pub holds : Holds out given_count given
  -- the templates left
  pub ahead : Templates
  -- they are read at the offset
  pub read : templates_of (drop at bytes) ≡ parsed ahead
  -- the values listed and those of the templates left are what all templates give
  pub rest :
      (input : Input) (state : State) (values : List ℕ) → input.rows ≡ m.rows → Holds env m.count values
      → after (build_all ahead input values (with_made state count) cells) (λ ys. return (given ++ ys))
      ≡ build_all (found (templates_of (drop start bytes))) input values (with_made state m.made) cells₀

-- the same with as many cells made as there are
abbrev pub further : Making → ℕ → Making
further m count = record { count = m.count; rows = m.rows; made = count }

module _ {bytes : List ℕ} {start : ℕ} {env : List ℕ} {m : Making} {cells₀ out cells : List ℕ} {at given_count count : ℕ}
    (listing : Listing bytes start env m cells₀ out cells at given_count count) where
  module _ (less : at < length bytes) where
    -- a template stands ahead
    pub listing_first : First bytes at listing.ahead
    listing_first = first_of bytes at listing.ahead less listing.read

    listing_one : (result : Result ℕ) (input : Input) (state : State) (values : List ℕ) → input.rows ≡ m.rows → Holds env m.count values
        → result ≡ build (template_at bytes at) input values (with_made state count) cells
        → after (after result (λ x. build_all listing_first.0.others input values >>= λ ys. return (x ∷ ys))) (λ ys. return (listing.given ++ ys))
        ≡ build_all (found (templates_of (drop start bytes))) input values (with_made state m.made) cells₀
    listing_one result input state values e g h =
        cc (
          first_built (λ ys. return ys) listing.given input values listing_first.0.template listing_first.0.others result
              (with_made state count) cells
              (cc (template_is bytes at listing_first.0)),
          listing_first.1,
          listing.rest input state values e g,
        )

    -- what `build` ensures of one template
    module _ (cells' : List ℕ) (given_built : Built) (builds : Builds bytes at env (further m count) cells given_built cells') where
      -- no row is left: refusal 21
      pub listing_full : given_built ≡ None → (input : Input) (state : State) (values : List ℕ) → input.rows ≡ m.rows → Holds env m.count values
          → Lists state None out cells' (build_all (found (templates_of (drop start bytes))) input values (with_made state m.made) cells₀)
      listing_full er input state values e g =
          sym (listing_one (built state None cells') input state values e g (cc (builds.evaluates input state values e g)))

      -- one template more is built
      pub listing_next : {row after' made' : ℕ} → length cells' ≡ length cells → given_built ≡ Some (row, after', made') → (out' : List ℕ)
          → ((values : List ℕ) → Holds out given_count values → Holds out' (given_count + 1) (values ++ (row ∷ [])))
          → Listing bytes start env m cells₀ out' cells' after' (given_count + 1) made'
      listing_next {row} {after'} {made'} el er out' put =
          let q : Behind bytes at (Some (row, after', made')) = subst (Behind bytes at) er builds.behind in
          record {
            small = omega (arith, listing.small, q.0);
            few = omega (arith, listing.small);
            as_long = el ∙ listing.as_long;
            given = listing.given ++ (row ∷ []);
            holds = put listing.given listing.holds;
            ahead = listing_first.0.others;
            read = q.2 ∙ ap parsed (others_are bytes at listing_first.0);
            rest =
                λ I s M e g.
                regroup (λ ys. return ys) listing.given row (build_all listing_first.0.others I M (with_made s made') cells')
                ∙ listing_one (done row (with_made s made') cells') I s M e g
                (cc (builds.evaluates I s M e g));
          }

    -- what `head_at` ensures of a template that makes no cell
    module _ (head : Head) {row next : ℕ} (equal : head ≡ Leaf row next)
        (leads : (values : List ℕ) → Holds env m.count values → HeadValue bytes at values head) (heads : Heads bytes at head) where
      leaf : Builds bytes at env (further m count) cells (Some (row, next, count)) cells
      leaf = leaf_built bytes at (further m count) head equal leads heads cells

      -- its value is one more
      pub leaf_next : (out' : List ℕ) → ((values : List ℕ) → Holds out given_count values → Holds out' (given_count + 1) (values ++ (row ∷ [])))
          → Listing bytes start env m cells₀ out' cells next (given_count + 1) count
      leaf_next = listing_next cells (Some (row, next, count)) leaf refl refl

  -- all templates are built
  pub listing_end : length bytes ≤ at → (input : Input) (state : State) (values : List ℕ) → input.rows ≡ m.rows → Holds env m.count values
      → Lists state (Some (given_count, count)) out cells (build_all (found (templates_of (drop start bytes))) input values (with_made state m.made) cells₀)
  unfolding build_all templates_of
  listing_end h input state values e g =
      let d : drop at bytes ≡ [] = drop_of_length-le bytes {i = at} h in
      let f : parsed none ≡ parsed listing.ahead = sym (ap templates_of d) ∙ listing.read in
      let a : none ≡ listing.ahead = cc in
      record {
        values = listing.given;
        gives = cc (listing.rest input state values e g, append-nil listing.given);
        holds = listing.holds;
      }
