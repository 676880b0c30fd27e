-- A host's reply, beside what was lent.
use mathlib.Core.Path.{◌≡◌, ap, ◌∙◌}
use mathlib.Core.List.{List}
use Prim.Native.Nat.{ℕ}
use Rattle.answers.specs.Refusals.{Answer, numbered}
use Rattle.vegzump_c.specs.declared.Reply.{Reply}
use Rattle.meaning.specs.Expand.{Expanded, expanded}
use Rattle.vegzump_c.specs.Replies.{reply, replied, reply_of}

-- A reply made of an answer, beside the same cells and text.
pub beside : {given_reply : Reply} {answer : Answer} {cells text : List ℕ} {given_expanded : Expanded} → given_reply ≡ reply (numbered answer)
    → expanded answer cells text ≡ given_expanded → replied given_reply cells text ≡ reply_of given_expanded
beside {cells = cells} {text} e h = ap (λ (o : Reply). replied o cells text) e ∙ ap reply_of h
