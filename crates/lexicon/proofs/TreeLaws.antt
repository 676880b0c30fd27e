-- Laws of the trees of spellings: what a search finds, and that one more spelling keeps them. They hold for any path that a spelling has.
use Prim.Native.Nat.{ℕ, zero, suc, ◌+◌, ◌-◌, ◌*◌, ◌/◌, ◌%◌, ◌<◌, ◌≤◌}
use mathlib.Core.Path.{◌≡◌, refl, sym, ap, ◌∙◌, subst}
use mathlib.Core.Bool.{Bool, true, false}
use mathlib.Core.List.{List, [], ◌∷◌, ◌++◌}
use native.Mathlib.Nat.{add-zero}
use native.Mathlib.Omega.{arith}
use lib.Bits.{bit_and, and_le_r}
use lib.Dec.{eqb, ltb}
use lib.ListN.{length, get_or, set, drop, replicate, length-set, length-append, get_or-append}
use lib.Seq.{get_or-set_same, get_or-set_other, get_or_at}
use borrow.Author.Tests.{eqb-true, eqb-false, ltb-true, ltb-false}
use Rattle.spellings.specs.Bytes.{same, index_of}
use Rattle.spellings.proofs.BytesLaws.{by_test, same_true, same_false, index_le, index_self, index_found, index_front, index_rest}
use Rattle.lexicon.specs.Trees.{hash_of, bytes_of, behind_hash, Window, Refilled}
use Rattle.lexicon.specs.Trees.{root_of, turns_of, branch_of, Leads, there, further, Linked, SearchTree, Planted, Extends, FreeFor, FoundAt}
use Rattle.lexicon.specs.Trees.{Searched, Linkable, links_with}
use Rattle.lexicon.specs.declared.trees.Spot.{Spot}
use Rattle.lexicon.specs.declared.trees.Spot.TheVariants.{Node, Free}
use Rattle.lexicon.specs.Places.{word_at, words_in}
use Rattle.lexicon.proofs.PlaceLaws.{words_length, word_same}
use Rattle.lexicon.proofs.PathLaws.{window_some, window_turn, window_next, hash_window}

-- ------------------------------------------------------------------ a search

-- where a search for `sought` stands
pub record Walking (mask : ℕ) (words : List (List ℕ)) (links sought : List ℕ) (slot turns : ℕ) : Type 0 where
  -- the link is one of the spellings' own
  pub below : slot < mask + 1 + length words * 2
  -- if `sought` is a spelling, the branches taken from here lead to its first node
  pub ahead : index_of sought words < length words → Leads links mask slot turns (index_of sought words)
  -- what the branches from here lead to, in these links or more, those from the root lead to
  pub back : (links' : List ℕ) (number : ℕ) → Extends links links' → Leads links' mask slot turns number
      → Leads links' mask (root_of mask sought) (turns_of sought) number

module _ {mask : ℕ} {words : List (List ℕ)} {links : List ℕ} (search_tree : SearchTree mask words links) (sought : List ℕ) where
  walking_start : Walking mask words links sought (root_of mask sought) (turns_of sought)
  walking_start =
      record { below = omega (arith, and_le_r (hash_of sought) mask); ahead = search_tree.leads sought; back = λ links' i x l. l }

  module _ (slot : ℕ) {found : ℕ} (equal : get_or links slot 0 ≡ suc found) where
    met_at : same (get_or words found []) sought ≡ true → FoundAt words sought found
    met_at f =
        let n : Linked mask words slot found = search_tree.linked slot found equal in
        record { index = cc (n.first, same_true (get_or words found []) sought f); inside = n.small }

    branch_behind : (turns : ℕ) → slot < branch_of mask found turns
    branch_behind turns = omega (arith, (search_tree.linked slot found equal).behind)

  module _ {slot turns : ℕ} (walking : Walking mask words links sought slot turns) where
    module _ {found : ℕ} (equal : get_or links slot 0 ≡ suc found) where
      -- the node that `sought` is found at is not this one
      onward : {turns number : ℕ} → (number ≡ found → ⊥) → Leads links mask slot turns number → Leads links mask (branch_of mask found turns) (turns / 2) number
      onward {turns} {number} no-this (there f) = absurd (no-this (omega (arith, sym f ∙ equal)))
      onward {turns} {number} no-this (further {j = j'} f l) =
          let z : j' ≡ found = omega (arith, sym f ∙ equal) in
          rw (z) at l

      walking_next : same (get_or words found []) sought ≡ false → Walking mask words links sought (branch_of mask found turns) (turns / 2)
      walking_next f =
          let n : Linked mask words slot found = search_tree.linked slot found equal in
          record {
            below = omega (arith, n.small);
            ahead =
                λ h.
                let differs : index_of sought words ≡ found → ⊥
                = λ z. same_false (get_or words found []) sought f (cc (index_found sought words h)) in
                onward differs (walking.ahead h);
            back = λ links' i x l. walking.back links' i x (further (x slot found equal) l);
          }

    walking_end : get_or links slot 0 ≡ 0 → FreeFor mask words links sought slot
    walking_end e =
        record {
          none = by_test (ltb (index_of sought words) (length words)) found
              (λ f. omega (arith, ltb-false (index_of sought words) (length words) f, index_le sought words));
          empty = e;
          below = walking.below;
          back = λ links' i x l. walking.back links' i x (there l);
        }
      where
        nowhere : {turns number : ℕ} → Leads links mask slot turns number → ⊥
        nowhere (there f) = omega (arith, sym f ∙ e)
        nowhere (further f l) = omega (arith, sym f ∙ e)

        found : ltb (index_of sought words) (length words) ≡ true → index_of sought words ≡ length words
        found f = absurd (nowhere (walking.ahead (ltb-true (index_of sought words) (length words) f)))

-- ------------------------------------------------------------------ one more spelling

leads_extended : {links links' : List ℕ} {mask slot turns number : ℕ} → Extends links links' → Leads links mask slot turns number
    → Leads links' mask slot turns number
leads_extended x (there {slot = slot} {i = i} e) = there (x slot i e)
leads_extended x (further {slot = slot} {j = j} e l) = further (x slot j e) (leads_extended x l)

-- a room of zeros links nothing
pub zeros : (count place : ℕ) → get_or (replicate {A = ℕ} count 0) place 0 ≡ 0
zeros zero place = refl
zeros (suc count) zero = refl
zeros (suc count) (suc place) = zeros count place

-- links that are all zero are the trees of no spelling
pub tree_none : (mask : ℕ) (links : List ℕ) → ((number : ℕ) → get_or links number 0 ≡ 0) → SearchTree mask [] links
tree_none mask links z =
    record { leads = λ s h. absurd (omega (arith, h)); linked = λ slot j e. absurd (omega (arith, sym (z slot) ∙ e)) }

module _ {mask : ℕ} {words : List (List ℕ)} {links : List ℕ} (search_tree : SearchTree mask words links) (sought : List ℕ) where
  longer : length (words ++ (sought ∷ [])) ≡ length words + 1
  longer = length-append words (sought ∷ [])

  -- a node stays what it is
  linked_more : (slot found : ℕ) → Linked mask words slot found → Linked mask (words ++ (sought ∷ [])) slot found
  linked_more slot found n =
      let g : get_or (words ++ (sought ∷ [])) found [] ≡ get_or words found [] = get_or-append words (sought ∷ []) [] found n.small in
      record {
        small = omega (arith, n.small, longer);
        first =
            cc (index_front (get_or words found []) words (sought ∷ []) (omega (arith, n.first, n.small)), n.first);
        behind = n.behind;
      }

  module _ (links' : List ℕ) (given_extends : Extends links links')
      (new : index_of sought words ≡ length words → Leads links' mask (root_of mask sought) (turns_of sought) (length words)) where
    leads_more : (word : List ℕ) → index_of word (words ++ (sought ∷ [])) < length (words ++ (sought ∷ []))
        → Leads links' mask (root_of mask word) (turns_of word) (index_of word (words ++ (sought ∷ [])))
    leads_more word h = by_test (ltb (index_of word words) (length words)) old other
      where
        old : ltb (index_of word words) (length words) ≡ true → Leads links' mask (root_of mask word) (turns_of word) (index_of word (words ++ (sought ∷ [])))
        old e =
            let l : index_of word words < length words = ltb-true (index_of word words) (length words) e in
            rw (index_front word words (sought ∷ []) l) (leads_extended given_extends (search_tree.leads word l))

        other : ltb (index_of word words) (length words) ≡ false
            → Leads links' mask (root_of mask word) (turns_of word) (index_of word (words ++ (sought ∷ [])))
        other e =
            let none : index_of word words ≡ length words = omega (arith, ltb-false (index_of word words) (length words) e, index_le word words) in
            let r : index_of word (words ++ (sought ∷ [])) ≡ length words + index_of word (sought ∷ []) = index_rest word words (sought ∷ []) none in
            let z : index_of word (sought ∷ []) ≡ 0 = omega (arith, r, longer, h) in
            let one : get_or (sought ∷ []) (index_of word (sought ∷ [])) [] ≡ word = index_found word (sought ∷ []) (omega arith) in
            let same_word : sought ≡ word = cc in
            rw (← same_word) (rw (index_rest sought words (sought ∷ []) (ap (λ (u : List ℕ). index_of u words) same_word ∙ none), index_self sought, add-zero)
            (new (ap (λ (u : List ℕ). index_of u words) same_word ∙ none)))

  -- one that stands there already needs no node
  pub tree_again : index_of sought words < length words → SearchTree mask (words ++ (sought ∷ [])) links
  tree_again h =
      record {
        leads = leads_more links (λ slot j e. e) (λ z. absurd (omega (arith, z)));
        linked = λ slot j e. linked_more slot j (search_tree.linked slot j e);
      }

  -- one that is new is linked where a search for it ends
  module _ {slot : ℕ} (free_for : FreeFor mask words links sought slot) (inside : slot < length links) where
    links₁ : List ℕ
    links₁ = set links slot (length words + 1)

    set_there : get_or links₁ slot 0 ≡ suc (length words)
    unfolding links₁
    set_there = get_or-set_same links slot (length words + 1) 0 inside ∙ omega arith

    set_other : (place : ℕ) → (place ≡ slot → ⊥) → get_or links₁ place 0 ≡ get_or links place 0
    unfolding links₁
    set_other place d = get_or-set_other links slot place (length words + 1) 0 d

    extends : Extends links links₁
    extends i j e =
        let differs : i ≡ slot → ⊥ = λ z. omega (arith, sym free_for.empty ∙ ap (λ (n : ℕ). get_or links n 0) (sym z) ∙ e) in
        set_other i differs ∙ e

    linked_new : (place number : ℕ) → get_or links₁ place 0 ≡ suc number → Linked mask (words ++ (sought ∷ [])) place number
    linked_new place number e =
        by_test (eqb place slot)
        (λ t.
        let z : place ≡ slot = eqb-true place slot t in
        let n : number ≡ length words = omega (arith, sym e ∙ ap (λ (n : ℕ). get_or links₁ n 0) z ∙ set_there) in
        let g : get_or (words ++ (sought ∷ [])) number [] ≡ sought = get_or_at words sought [] [] number (sym n) in
        record {
          small = omega (arith, longer);
          first =
              rw (g) refl ∙ index_rest sought words (sought ∷ []) free_for.none
              ∙ omega (arith, index_self sought, n);
          behind = omega (arith, free_for.below);
        })
        (λ t. linked_more place number (search_tree.linked place number (sym (set_other place (eqb-false place slot t)) ∙ e)))

    tree_new : SearchTree mask (words ++ (sought ∷ [])) links₁
    tree_new =
        record {
          leads = leads_more links₁ extends (λ z. free_for.back links₁ (length words) extends set_there);
          linked = linked_new;
        }

    -- a new spelling linked where its search ended is in the trees
    pub tree_more : {links' : List ℕ} → links' ≡ set links slot (length words + 1) → SearchTree mask (words ++ (sought ∷ [])) links'
    unfolding links₁
    tree_more e = rw e tree_new

  -- either way it is there afterwards
  pub tree_with : (spot : Spot) {links' : List ℕ} → Searched mask words links sought spot → Linkable links spot
      → links' ≡ links_with links spot (length words)
      → SearchTree mask (words ++ (sought ∷ [])) links'
  tree_with (Node i) f h e = rw e (tree_again (omega (arith, f.index, f.inside)))
  tree_with (Free slot) f h e = tree_more f h e

-- where a search ended there is room for a link
pub linkable : (mask : ℕ) (words : List (List ℕ)) (links sought : List ℕ) (spot : Spot) → Searched mask words links sought spot
    → mask + 1 + length words * 2 ≤ length links
    → Linkable links spot
linkable mask words links sought (Node i) f h = tt
linkable mask words links sought (Free slot) f h = omega (arith, f.below)

-- a link keeps the number of links
pub links_long : (links : List ℕ) (spot : Spot) (number : ℕ) → length (links_with links spot number) ≡ length links
links_long links (Node i) number = refl
links_long links (Free slot) number = length-set links slot (number + 1)

-- a free link as the code has it
module _ (links : List ℕ) {spot : Spot} {slot : ℕ} (equal : spot ≡ Free slot) where
  -- the free link is one of the room's
  pub free_inside : Linkable links spot → slot < length links
  free_inside h = subst (Linkable links) equal h

  -- storing the spelling's number there links it
  pub free_set : (number : ℕ) → set links slot (number + 1) ≡ links_with links spot number
  free_set number = sym (cc)

-- ------------------------------------------------------------------ a search by the bits ahead

-- a search for `sought` stands at a link, with the bits `turns` ahead and `more` behind them
pub record Following (mask : ℕ) (words : List (List ℕ)) (links sought : List ℕ) (more slot turns : ℕ) : Type 0 where
  -- the rest of the path
  pub path : ℕ
  -- its next bits are those ahead
  pub window : Window more turns path
  -- the search stands there
  pub walking : Walking mask words links sought slot path

-- at another spelling the search goes on by the branch that the next bit names
following_next : {mask : ℕ} {words : List (List ℕ)} {links sought : List ℕ} {more slot turns : ℕ} → SearchTree mask words links
    → Following mask words links sought more slot turns
    → 2 ≤ turns
    → {found : ℕ} → get_or links slot 0 ≡ suc found
    → same (get_or words found []) sought ≡ false
    → Following mask words links sought more (branch_of mask found turns) (turns / 2)
following_next {mask} {sought = sought} {turns = turns} search_tree f l {found} e d =
    let turn : f.path % 2 ≡ turns % 2 = window_turn f.window l in
    let next : branch_of mask found f.path ≡ branch_of mask found turns = ap (λ (b : ℕ). mask + 1 + found * 2 + b) turn in
    record {
      path = f.path / 2;
      window = window_next f.window l;
      walking = rw next at (walking_next search_tree sought f.walking e d);
    }

-- ------------------------------------------------------------------ the search as the code has it

-- a search stands at a link of the room
pub record Standing (text places links : List ℕ) (mask count slot link : ℕ) : Type 0 where
  -- the trees and their rooms
  pub planted : Planted text places links mask count
  -- `link` is the number stored at the link: 0, or a node and one
  pub here : link ≡ get_or links slot 0
  -- the link is one of the spellings' own
  pub below : slot < mask + 1 + count * 2

module _ {text places links : List ℕ} {mask count : ℕ} (planted : Planted text places links mask count) where
  -- a search begins at the root of a tree
  standing_root : (hash : ℕ) {slot link : ℕ} → slot ≡ bit_and hash mask → link ≡ get_or links slot 0 → Standing text places links mask count slot link
  standing_root hash es el = record { planted = planted; here = el; below = omega (arith, and_le_r hash mask) }

  walking_root : {sought : List ℕ} {hash slot : ℕ} → hash ≡ hash_of sought → slot ≡ bit_and hash mask
      → Walking mask (words_in text places count) links sought slot (turns_of sought)
  walking_root {sought} {slot = slot} eh es =
      let a : slot ≡ root_of mask sought = cc in
      rw a (walking_start planted.tree sought)

module _ {text places links : List ℕ} {mask count slot link : ℕ} (standing : Standing text places links mask count slot link) (more : 0 < link) where
  leads_here : get_or links slot 0 ≡ suc (link - 1)
  leads_here = omega (arith, standing.here)

  small : link - 1 < count
  small = omega (arith, (standing.planted.tree.linked slot (link - 1) leads_here).small, words_length count text places 0)

  -- the node has its place, and its branches their links
  pub place_inside : (link - 1) * 2 + 1 < length places
  place_inside = omega (arith, small, standing.planted.placed)

  -- the links of the node's branches are in the room
  pub branch_inside : mask + 1 + (link - 1) * 2 + 1 < length links
  branch_inside = omega (arith, small, standing.planted.linked)

  -- a branch's link stands behind the one that led to its node
  pub standing_behind : (turns : ℕ) → slot < branch_of mask (link - 1) turns
  standing_behind turns = branch_behind standing.planted.tree [] slot leads_here turns

  standing_next : (turns : ℕ) {slot' link' : ℕ} → slot' ≡ branch_of mask (link - 1) turns → link' ≡ get_or links slot' 0
      → Standing text places links mask count slot' link'
  standing_next turns e d = record { planted = standing.planted; here = d; below = omega (arith, small) }

  module _ (sought : List ℕ) {test : Bool} (equal : test ≡ same (word_at text places (link - 1)) sought) where
    compared : same (get_or (words_in text places count) (link - 1) []) sought ≡ test
    compared = word_same text places sought count (link - 1) small refl refl (sym equal)

    -- a node with the same spelling is where it stands first
    pub standing_found : test ≡ true → FoundAt (words_in text places count) sought (link - 1)
    standing_found t = met_at standing.planted.tree sought slot leads_here (compared ∙ t)

    standing_follows : test ≡ false → {ahead turns : ℕ} → Following mask (words_in text places count) links sought ahead slot turns → 2 ≤ turns
        → {slot' turns' : ℕ} → slot' ≡ branch_of mask (link - 1) turns → turns' ≡ turns / 2
        → Following mask (words_in text places count) links sought ahead slot' turns'
    standing_follows t f l a b = rw (a, b) (following_next standing.planted.tree f l leads_here (compared ∙ t))

-- a link of 0 is free for the spelling, which is in no tree
standing_end : {text places links sought : List ℕ} {mask count slot link ahead turns : ℕ} → Standing text places links mask count slot link → link ≤ 0
    → Following mask (words_in text places count) links sought ahead slot turns
    → FreeFor mask (words_in text places count) links sought slot
standing_end {sought = sought} standing h f = walking_end standing.planted.tree sought f.walking (omega (arith, standing.here))

positive : (number : ℕ) → (number ≡ 0 → ⊥) → 0 < number
positive zero d = absurd (d refl)
positive (suc number) d = omega arith

-- the search by the bits of the hash
pub record Seeking (text places links : List ℕ) (mask count : ℕ) (sought : List ℕ) (slot turns link : ℕ) : Type 0 where
  -- the search stands at a link of a tree
  pub standing : Standing text places links mask count slot link
  -- as long as there are bits ahead, they are those of the path
  pub follows : 0 < turns → Following mask (words_in text places count) links sought (behind_hash sought) slot turns

-- the search by the whole path
pub record Searching (text places links : List ℕ) (mask count : ℕ) (sought : List ℕ) (slot turns next link : ℕ) : Type 0 where
  -- the search stands at a link of a tree
  pub standing : Standing text places links mask count slot link
  -- `next` is no further than the end of the spelling
  pub within : next ≤ length sought
  -- the bits ahead are those of the path, and the bytes from `next` on come behind them
  pub following : Following mask (words_in text places count) links sought (bytes_of (drop next sought)) slot turns

module _ {text places links : List ℕ} {mask count : ℕ} (planted : Planted text places links mask count) {sought : List ℕ}
    {hash slot turns link : ℕ} (hashed : hash ≡ hash_of sought) (root : slot ≡ bit_and hash mask) (here : link ≡ get_or links slot 0) where
  -- at the root, with the bits of the hash ahead
  pub seeking_start : hash < 18446744073709551616 → turns ≡ hash / 17592186044416 + 1048576
      → Seeking text places links mask count sought slot turns link
  seeking_start l e =
      record {
        standing = standing_root planted hash root here;
        follows = λ h. record { path = turns_of sought; window = hash_window sought hashed l e; walking = walking_root planted hashed root };
      }

  -- at the root, with the bits of both hashes ahead
  pub searching_start : Window (bytes_of sought) turns (turns_of sought) → Searching text places links mask count sought slot turns 0 link
  searching_start w =
      record {
        standing = standing_root planted hash root here;
        within = omega arith;
        following = record { path = turns_of sought; window = w; walking = walking_root planted hashed root };
      }

module _ {text places links : List ℕ} {mask count : ℕ} {sought : List ℕ} {slot turns link : ℕ}
    (seeking : Seeking text places links mask count sought slot turns link) where
  -- a spelling that the bits tell to be new
  pub seeking_end : link ≤ 0 → (turns ≡ 0 → ⊥) → FreeFor mask (words_in text places count) links sought slot
  seeking_end h d = standing_end seeking.standing h (seeking.follows (positive turns d))

  -- one branch further
  pub seeking_next : (more : 0 < link) {test : Bool} → test ≡ same (word_at text places (link - 1)) sought → test ≡ false → {slot' turns' link' : ℕ}
      → slot' ≡ branch_of mask (link - 1) turns
      → turns' ≡ turns / 2
      → link' ≡ get_or links slot' 0
      → Seeking text places links mask count sought slot' turns' link'
  seeking_next more e t a b d =
      record {
        standing = standing_next seeking.standing more turns a d;
        follows =
            λ h.
            standing_follows seeking.standing more sought e t (seeking.follows (omega arith)) (omega arith) a b;
      }

module _ {text places links : List ℕ} {mask count : ℕ} {sought : List ℕ} {slot turns next link : ℕ}
    (searching : Searching text places links mask count sought slot turns next link) where
  -- where the path ends the spelling is new
  pub searching_end : link ≤ 0 → FreeFor mask (words_in text places count) links sought slot
  searching_end h = standing_end searching.standing h searching.following

  -- one branch further
  pub searching_next : (more : 0 < link) {test : Bool} → test ≡ same (word_at text places (link - 1)) sought → test ≡ false → {ahead next' : ℕ}
      → Refilled sought turns next ahead next'
      → {slot' turns' link' : ℕ} → slot' ≡ branch_of mask (link - 1) ahead
      → turns' ≡ ahead / 2
      → link' ≡ get_or links slot' 0
      → Searching text places links mask count sought slot' turns' next' link'
  searching_next more e t {ahead} r a b d =
      let f = searching.following in
      record {
        standing = standing_next searching.standing more ahead a d;
        within = r.within;
        following =
            standing_follows searching.standing more sought e t
            (record { path = f.path; window = r.path f.path f.window; walking = f.walking })
            (r.some (window_some f.window)) a b;
      }
