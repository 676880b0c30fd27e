-- What `check_reading` answers, by what it tests: a text passes all of it, or is refused for the first that fails.
use Prim.Native.Nat.{ℕ, ◌+◌}
use mathlib.Core.Path.{◌≡◌, refl}
use mathlib.Core.Bool.{Bool, true, false, not}
use Rattle.answers.specs.Refusals.{refusal}
use Rattle.answers.specs.Checked.{Checked, ok, bad, ◌>>=◌, ◌>>◌, need}
use Rattle.texts.specs.Reading.{Reading, Readings, unread, reading, is_small, unread_because, read_else, TextRead}

-- what it answers, where `first` tells that the text is tokens without a number, `strict` and `lenient` are its readings without and with words at a Binder,
-- `no_other` that every word is an outside name, and `fitting` that the sort fits
abbrev pub answer : Bool → Readings → Readings → Bool → Bool → ℕ → ℕ → Checked TextRead
answer first strict lenient no_other fitting used at =
    need first 26 at
    >> read_else strict (unread_because lenient) at
    >>= λ r.
    need (is_small r) 26 at
    >> need (not r.is_fresh) 28 at
    >> need no_other 9 at
    >> need fitting 11 at
    >> ok (record { template = r.template; used = used + r.made })

-- the causes of a refusal
pub data Cause (first : Bool) (strict lenient : Readings) (no_other fitting : Bool) : ℕ → Type 0 where
  cause_scan : first ≡ false → Cause first strict lenient no_other fitting 26
  cause_unread : first ≡ true → strict ≡ unread → lenient ≡ unread → Cause first strict lenient no_other fitting 26
  cause_lenient : (r : Reading) → first ≡ true → strict ≡ unread → lenient ≡ reading r → is_small r ≡ false → Cause first strict lenient no_other fitting 26
  cause_binder : (r : Reading) → first ≡ true → strict ≡ unread → lenient ≡ reading r → is_small r ≡ true → Cause first strict lenient no_other fitting 27
  cause_large : (r : Reading) → first ≡ true → strict ≡ reading r → is_small r ≡ false → Cause first strict lenient no_other fitting 26
  cause_fresh : (r : Reading) → first ≡ true → strict ≡ reading r → is_small r ≡ true → r.is_fresh ≡ true → Cause first strict lenient no_other fitting 28
  cause_word : (r : Reading) → first ≡ true → strict ≡ reading r → is_small r ≡ true → r.is_fresh ≡ false → no_other ≡ false
      → Cause first strict lenient no_other fitting 9
  cause_sort : (r : Reading) → first ≡ true → strict ≡ reading r → is_small r ≡ true → r.is_fresh ≡ false → no_other ≡ true → fitting ≡ false
      → Cause first strict lenient no_other fitting 11

-- What is answered: the strict reading, which is small, or a refusal that has a cause.
pub data Outcome (first : Bool) (strict lenient : Readings) (no_other fitting : Bool) (at : ℕ) (given_answer : Checked TextRead) : Type 0 where
  passes : (r : Reading) (read : TextRead) → first ≡ true → strict ≡ reading r → is_small r ≡ true → given_answer ≡ ok read
      → Outcome first strict lenient no_other fitting at given_answer
  refuses : (number : ℕ) → given_answer ≡ bad (refusal number at 0 0) → Cause first strict lenient no_other fitting number
      → Outcome first strict lenient no_other fitting at given_answer

module _ (used at : ℕ) where
  -- a text that is read, by what is tested behind its reading
  read_outcome : (r : Reading) (lenient : Readings) (small fresh no_other fitting : Bool) → is_small r ≡ small → r.is_fresh ≡ fresh
      → Outcome true (reading r) lenient no_other fitting at (answer true (reading r) lenient no_other fitting used at)
  read_outcome r lenient false fresh no_other fitting e f = refuses 26 (rw e refl) (cause_large r refl refl e)
  read_outcome r lenient true true no_other fitting e f = refuses 28 (rw (e, f) refl) (cause_fresh r refl refl e f)
  read_outcome r lenient true false false fitting e f = refuses 9 (rw (e, f) refl) (cause_word r refl refl e f refl)
  read_outcome r lenient true false true false e f = refuses 11 (rw (e, f) refl) (cause_sort r refl refl e f refl refl)
  read_outcome r lenient true false true true e f = passes r (record { template = r.template; used = used + r.made }) refl refl e (rw (e, f) refl)

  -- A text passes, or is refused for a cause.
  pub outcome : (first : Bool) (strict lenient : Readings) (no_other fitting : Bool)
      → Outcome first strict lenient no_other fitting at (answer first strict lenient no_other fitting used at)
  outcome false strict lenient no_other fitting = refuses 26 refl (cause_scan refl)
  outcome true unread unread no_other fitting = refuses 26 refl (cause_unread refl refl refl)
  outcome true unread (reading r) no_other fitting = go (is_small r) refl
    where
      go : (small : Bool) → is_small r ≡ small → Outcome true unread (reading r) no_other fitting at (answer true unread (reading r) no_other fitting used at)
      go true e = refuses 27 (rw (e, unread_because) refl) (cause_binder r refl refl refl e)
      go false e = refuses 26 (rw (e, unread_because) refl) (cause_lenient r refl refl refl e)
  outcome true (reading r) lenient no_other fitting = read_outcome r lenient (is_small r) r.is_fresh no_other fitting refl refl

  -- What has a cause that lies behind the strict reading is refused for it: a fresh name,
  pub refused_fresh : {first : Bool} {strict : Readings} (lenient : Readings) (no_other fitting : Bool) (r : Reading) → first ≡ true → strict ≡ reading r
      → is_small r ≡ true → r.is_fresh ≡ true → answer first strict lenient no_other fitting used at ≡ bad (refusal 28 at 0 0)
  refused_fresh lenient no_other fitting r a b e f = rw (a, b, e, f) refl

  -- a word that is no outside name,
  pub refused_word : {first no_other : Bool} {strict : Readings} (lenient : Readings) (fitting : Bool) (r : Reading) → first ≡ true → strict ≡ reading r
      → is_small r ≡ true → r.is_fresh ≡ false → no_other ≡ false → answer first strict lenient no_other fitting used at ≡ bad (refusal 9 at 0 0)
  refused_word lenient fitting r a b e f o = rw (a, b, e, f, o) refl

  -- or a sort that does not fit.
  pub refused_sort : {first no_other fitting : Bool} {strict : Readings} (lenient : Readings) (r : Reading) → first ≡ true → strict ≡ reading r
      → is_small r ≡ true → r.is_fresh ≡ false → no_other ≡ true → fitting ≡ false
      → answer first strict lenient no_other fitting used at ≡ bad (refusal 11 at 0 0)
  refused_sort lenient r a b e f o w = rw (a, b, e, f, o, w) refl
