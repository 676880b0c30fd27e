-- Answers as document 01's number and three values; 0 is acceptance. Document 01, "Causes, by number": "Returned values are three".
use Rattle.std.specs.Prelude.{ℕ, List}
use Rattle.answers.specs.declared.Refusal.{Refusal}
use Rattle.answers.specs.Refusals.{numbered}
use Rattle.vegzump_c.specs.declared.Reply.{Reply}
use Rattle.meaning.specs.Expand.{Expanded}

-- a reply holds a number and its values
abbrev pub reply : Refusal → Reply
reply r = record { number = r.number; a = r.a; b = r.b; c = r.c }

-- a reply, with all that was lent as it is at exit
pub data Replied : Type 0 where
  replied : Reply → List ℕ → List ℕ → Replied

-- the reply of an expansion
abbrev pub reply_of : Expanded → Replied
reply_of x = replied (reply (numbered x.answer)) x.cells x.text
