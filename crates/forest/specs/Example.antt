-- A small forest that meets the premises of the laws: two spaces that share a subtree, with a page that both map, and a
-- page and a blank that the first one maps alone. It is made from nothing, step by step, as the kernel would.
use Rattle.std.specs.Prelude.{◌≡◌, ◌≤◌, ◌+◌, ℕ, true, false, Some, None, [], ◌∷◌}
use Rattle.kn_base.specs.declared.key.Key.{Key}
use Rattle.kn_base.specs.declared.key.Key.TheVariants.{Null, Page, Segment}
use Rattle.unix_model.specs.Tables.{with_at}
use Rattle.forest.specs.Objects.{Object, PageObject, NodeObject, OfProcess}
use Rattle.forest.specs.Walks.{space_key, key_below, page_way, Mapping, map_of}
use Rattle.forest.specs.Forest.{Forest, Held, IsSpace, OwnWay, namings, in_hand}
use Rattle.forest.specs.Changes.{raised, with_count, with_key, with_taken, with_given, with_copy, filled, and_outside}
use Rattle.forest.specs.Calls.{ChangesMap, AddsSpace, DropsSpace}
use Rattle.forest.specs.Labels.{different, labels, shared_page, places_of}

-- sixteen nodes, of which none belongs to a tree
unfoldable pub nothing_yet : Forest
nothing_yet = record { nodes = 16; keys = λ place. Null; owner = λ object. None; count = λ object. 0 }

-- node 1 is the root of a space, which something outside names
unfoldable pub one_space : Forest
one_space = with_taken nothing_yet (NodeObject 1) OfProcess

unfoldable pub one_outside : Object → ℕ
one_outside = and_outside (λ object. 0) (space_key 1)

-- nodes 2 to 5 lead down to page number 65,536, which is digit 1 of the root, then digits 0
unfoldable pub way_2 : Forest
way_2 = with_copy one_space 17 2 4 OfProcess

unfoldable pub way_3 : Forest
way_3 = with_copy way_2 32 3 3 OfProcess

unfoldable pub way_4 : Forest
way_4 = with_copy way_3 48 4 2 OfProcess

unfoldable pub way_5 : Forest
way_5 = with_copy way_4 64 5 1 OfProcess

-- page 7 is mapped there
unfoldable pub page_taken : Forest
page_taken = with_taken way_5 (PageObject 7) OfProcess

abbrev pub page_7 : Key
page_7 = Page (record { 0 = 7 }) true

unfoldable pub one_page : Forest
one_page = with_key page_taken 80 page_7

-- node 6 is the root of a second space over the same children
unfoldable pub second_root : Forest
second_root = with_taken one_page (NodeObject 6) OfProcess

abbrev pub child : Key
child = Segment (record { 0 = 2 }) 4

unfoldable pub child_raised : Forest
child_raised = raised second_root child

unfoldable pub shared : Forest
shared = with_key child_raised 97 child

unfoldable pub both_outside : Object → ℕ
both_outside = and_outside one_outside (space_key 6)

-- nodes 7 to 10 lead the first space down to page number 0
unfoldable pub way_7 : Forest
way_7 = with_copy shared 16 7 4 OfProcess

unfoldable pub way_8 : Forest
way_8 = with_copy way_7 112 8 3 OfProcess

unfoldable pub way_9 : Forest
way_9 = with_copy way_8 128 9 2 OfProcess

unfoldable pub way_10 : Forest
way_10 = with_copy way_9 144 10 1 OfProcess

-- page 11 is mapped there, and a blank at page number 1
unfoldable pub private_taken : Forest
private_taken = with_taken way_10 (PageObject 11) OfProcess

abbrev pub page_11 : Key
page_11 = Page (record { 0 = 11 }) true

unfoldable pub private : Forest
private = with_key private_taken 160 page_11

abbrev pub blank : Key
blank = Page (record { 0 = 0 }) false

unfoldable pub example : Forest
example = with_key private 161 blank

-- what holds of the example
pub record ExampleHolds : Type 0 where
  pub held : Held example both_outside []
  pub first : IsSpace example [] 1
  pub second : IsSpace example [] 6
  pub own : OwnWay example 1 (page_way 0)
  pub own_page : map_of example.keys 1 0 ≡ Some (record { writable = true; page = 11 })
  pub blank_page : map_of example.keys 1 1 ≡ Some (record { writable = false; page = 0 })
  pub shared_first : map_of example.keys 1 65536 ≡ Some (record { writable = true; page = 7 })
  pub shared_second : map_of example.keys 6 65536 ≡ Some (record { writable = true; page = 7 })
  pub unmapped : map_of example.keys 6 0 ≡ None
  pub counted_twice : example.count (NodeObject 2) ≡ 2

-- the second space is released: its one key is taken out, its child is counted once less, and its root is given back
unfoldable pub key_out : Forest
key_out = with_key example 97 Null

unfoldable pub child_lowered : Forest
child_lowered = with_count key_out (NodeObject 2) 1

unfoldable pub dropped : Forest
dropped = with_given child_lowered (NodeObject 6)

-- page 11 is taken away by a call: its key goes from its place, and it is given back
unfoldable pub unmapped : Forest
unmapped = with_given (with_key example 160 Null) (PageObject 11)

-- node 10 is pruned, before page 11 is mapped in it
unfoldable pub pruned : Forest
pruned = with_given (with_key way_10 144 Null) (NodeObject 10)

-- what the laws say of the example
pub record ExampleShows : Type 0 where
  -- page 11 is mapped by the first space at page number 0 alone
  pub alone : (other page : ℕ) (found : Mapping) → IsSpace example [] other → map_of example.keys other page ≡ Some found → found.page ≡ 11
      → (other ≡ 1) × (page ≡ 0)
  -- it is taken away, and nothing else
  pub taken_away : map_of (with_at example.keys 160 Null) 1 ≡ with_at (map_of example.keys 1) 0 None
  pub other_stays : map_of (with_at example.keys 160 Null) 6 ≡ map_of example.keys 6
  -- node 10, before page 11 was mapped, could be detached again
  pub detached : map_of (with_at way_10.keys 144 Null) 1 ≡ map_of way_10.keys 1
  -- node 12 as one more root
  pub third_root : map_of (filled example.keys 12 (key_below example.keys (space_key 1))) 12 ≡ map_of example.keys 1
  -- the second space goes, and the first one keeps its map, with what they shared
  pub held_dropped : Held dropped one_outside []
  pub first_stays : map_of dropped.keys 1 ≡ map_of example.keys 1
  pub root_given : dropped.owner (NodeObject 6) ≡ None
  pub child_named : 1 ≤ namings dropped (NodeObject 2) + one_outside (NodeObject 2) + in_hand [] (NodeObject 2)
  -- two pages are taken
  pub two_pages : different (labels (shared_page example.keys) (places_of (1 ∷ 6 ∷ []))) ≡ 2
  -- and as calls: sharing, taking a page away, pruning, dropping a space
  pub call_shares : AddsSpace one_page shared 6 (map_of one_page.keys 1)
  pub call_unmaps : ChangesMap example unmapped 1 (with_at (map_of example.keys 1) 0 None)
  pub held_pruned : Held pruned both_outside []
  pub call_drops : DropsSpace example dropped 6
