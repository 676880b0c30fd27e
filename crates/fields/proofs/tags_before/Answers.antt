-- `tags_before`: by the tag, its set against the rule.
use mathlib.Core.Path.{refl}
use lib.Dec.{lit<}
use Rattle.kinds.specs.Kinds.{has_kind}
use Rattle.decoding.specs.Layout.{follows}
use Rattle.fields.proofs.FollowLaws.{is_same, agree, before_by, none_before}
use Rattle.fields.proofs.tags_before.Goals as goal

pub returns-in-1 : goal.returns-in-1
unfolding agree is_same has_kind follows
returns-in-1 c = before_by _ c.in-1.is (lit< tt) refl

pub returns-in-2 : goal.returns-in-2
unfolding agree is_same has_kind follows
returns-in-2 c = before_by _ c.in-2.is (lit< tt) refl

pub returns-in-3 : goal.returns-in-3
unfolding agree is_same has_kind follows
returns-in-3 c = before_by _ c.in-3.is (lit< tt) refl

pub returns-in-4 : goal.returns-in-4
unfolding agree is_same has_kind follows
returns-in-4 c = before_by _ c.in-4.is (lit< tt) refl

pub returns-in-5 : goal.returns-in-5
unfolding agree is_same has_kind follows
returns-in-5 c = before_by _ c.in-5.is (lit< tt) refl

pub returns-in-6 : goal.returns-in-6
unfolding agree is_same has_kind follows
returns-in-6 c = before_by _ c.in-6.is (lit< tt) refl

pub returns-in-7 : goal.returns-in-7
unfolding agree is_same has_kind follows
returns-in-7 c = before_by _ c.in-7.is (lit< tt) refl

pub returns-in-8 : goal.returns-in-8
unfolding agree is_same has_kind follows
returns-in-8 c = before_by _ c.in-8.is (lit< tt) refl

pub returns-in_default : goal.returns-in_default
returns-in_default c = none_before c.in_default.in_default-own.rest
