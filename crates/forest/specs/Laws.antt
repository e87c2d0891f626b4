-- The laws of shared trees, each as one statement.
use Rattle.std.specs.Prelude.{◌≡◌, ◌≢◌, ◌<◌, ◌≤◌, ◌↔◌, ◌*◌, ◌/◌, ◌%◌, ◌^◌, ◌+◌, ℕ, Option, Some, None, IsSome, List, [], ◌∷◌, length}
use Rattle.kn_base.specs.declared.key.Key.{Key}
use Rattle.kn_base.specs.declared.key.Key.TheVariants.{Null, Segment}
use Rattle.unix_model.specs.Tables.{at, with_at, count_below, sum_below}
use Rattle.forest.specs.Objects.{Object, PageObject, NodeObject, Owner, named, with_object}
use Rattle.forest.specs.Walks.{key_below, IsWay, page_way, Mapping, mapping_of, map_of, place_of, space_key}
use Rattle.forest.specs.Forest.{Forest, Exact, Sound, IsSpace, OwnWay, EndsAt, NobodyNames, in_hand, namings, node_way, FitsBelow, FitsUnder, key_height, IsRoot, masked, IsFilled, NoneEmpty, NoneEmptyBut, Held, NoPageOutside, top_digit}
use Rattle.forest.specs.Changes.{raised, lowered, with_key, with_taken, with_given, and_outside, filled, with_fresh, with_copy, IsFree, MayStand, BelongsAt, WithRoot, KeepsRoot}
use Rattle.forest.specs.Descent.{MadeOwn, IsMadeOwn, IsPageChanged}
use Rattle.forest.specs.Release.{Release, Thins}
use Rattle.forest.specs.Labels.{IsIn, different, labels, TellsAlike, shared_page, IsProcessSpace, places_of, is_process}
use Rattle.forest.specs.Mapped.{mapped, pages_below}
use Rattle.forest.specs.Calls.{ChangesMap, AddsSpace, DropsSpace, IsOwn, IsWellFormed}

-- Keys of nodes that belong to no tree are masked out of a forest: writing one leaves the forest as it is, and writing
-- another one writes it there.
abbrev pub MaskedWrites : Type 0
MaskedWrites =
    (owner : Object → Option Owner) (keys : ℕ → Key) (place : ℕ) (key : Key)
    → (owner (NodeObject (place / 16)) ≡ None → masked owner (with_at keys place key) ≡ masked owner keys)
    × (IsSome (owner (NodeObject (place / 16))) → masked owner (with_at keys place key) ≡ with_at (masked owner keys) place key)

-- Nor does it matter whether a node without keys belongs to a tree, or a page.
abbrev pub MaskedOwners : Type 0
MaskedOwners =
    (owner : Object → Option Owner) (keys : ℕ → Key) (object : Object) (now : Option Owner)
    → ((place : ℕ) → NodeObject (place / 16) ≡ object → at keys place ≡ Null)
    → masked (with_object owner object now) keys ≡ masked owner keys

-- What a space reaches on a way of objects that are counted once is reached by no other space, and by this space on no
-- other way.
abbrev pub OwnIsAlone : Type 0
OwnIsAlone =
    (forest : Forest) (outside : Object → ℕ) (hand : List Key) (space other : ℕ) (way other_way : List ℕ) (object : Object)
    → Sound forest → Exact forest outside hand → IsSpace forest hand space → IsSpace forest hand other
    → IsWay way → IsWay other_way → OwnWay forest space way
    → EndsAt forest.keys space way object → EndsAt forest.keys other other_way object
    → (other ≡ space) × (other_way ≡ way)

-- So a page that is mapped on such a way is mapped nowhere else.
abbrev pub OwnPageIsAlone : Type 0
OwnPageIsAlone =
    (forest : Forest) (outside : Object → ℕ) (hand : List Key) (space other page other_page : ℕ) (found other_found : Mapping)
    → Sound forest → Exact forest outside hand → IsSpace forest hand space → IsSpace forest hand other
    → OwnWay forest space (page_way page) → found.page ≢ 0
    → map_of forest.keys space page ≡ Some found → map_of forest.keys other other_page ≡ Some other_found
    → other_found.page ≡ found.page → (other ≡ space) × (other_page ≡ page)

-- Raising a count puts a key in hand.
abbrev pub RaiseIsExact : Type 0
RaiseIsExact =
    (forest : Forest) (outside : Object → ℕ) (hand : List Key) (key : Key)
    → Exact forest outside hand → Exact (raised forest key) outside (key ∷ hand)

-- Lowering a count takes a key out of hand.
abbrev pub LowerIsExact : Type 0
LowerIsExact =
    (forest : Forest) (outside : Object → ℕ) (hand : List Key) (key : Key)
    → Exact forest outside (key ∷ hand) → Exact (lowered forest key) outside hand

-- A key that is written moves from hand to its place, and the one that stood there moves from its place to hand.
abbrev pub WriteIsExact : Type 0
WriteIsExact =
    (forest : Forest) (outside : Object → ℕ) (hand : List Key) (place : ℕ) (key : Key)
    → place < 16 * forest.nodes
    → Exact forest outside (key ∷ hand) → Exact (with_key forest place key) outside (at forest.keys place ∷ hand)

-- An object that nobody names is taken: its key is in hand.
abbrev pub TakeIsExact : Type 0
TakeIsExact =
    (forest : Forest) (outside : Object → ℕ) (hand : List Key) (key : Key) (object : Object) (owner : Owner)
    → named key ≡ Some object → NobodyNames forest.keys object → outside object ≡ 0 → in_hand hand object ≡ 0
    → Exact forest outside hand → Exact (with_taken forest object owner) outside (key ∷ hand)

-- An object is given back.
abbrev pub GiveIsExact : Type 0
GiveIsExact =
    (forest : Forest) (outside : Object → ℕ) (hand : List Key) (object : Object)
    → Exact forest outside hand → Exact (with_given forest object) outside hand

-- A key in hand is handed out of the forest, to a domain or a table, and back.
abbrev pub HandOutIsExact : Type 0
HandOutIsExact =
    (forest : Forest) (outside : Object → ℕ) (hand : List Key) (key : Key)
    → Exact forest outside (key ∷ hand) → Exact forest (and_outside outside key) hand

abbrev pub HandInIsExact : Type 0
HandInIsExact =
    (forest : Forest) (outside : Object → ℕ) (hand : List Key) (key : Key)
    → Exact forest (and_outside outside key) hand → Exact forest outside (key ∷ hand)

-- A fresh node put in the place of a node that it copies, or in an empty place: every other space keeps its map.
abbrev pub FreshKeepsMaps : Type 0
FreshKeepsMaps =
    (keys : ℕ → Key) (place fresh height : ℕ)
    → NobodyNames keys (NodeObject fresh) → place / 16 ≢ fresh → mapping_of (at keys place) ≡ None
    → (space : ℕ) → space ≢ fresh → map_of (with_fresh keys place fresh height) space ≡ map_of keys space

-- The key of a node without keys is taken from its place: every space keeps its map.
abbrev pub DetachKeepsMaps : Type 0
DetachKeepsMaps =
    (keys : ℕ → Key) (place node : ℕ)
    → named (at keys place) ≡ Some (NodeObject node)
    → ((digit : ℕ) → digit < 16 → at keys (place_of node digit) ≡ Null)
    → (space : ℕ) → map_of (with_at keys place Null) space ≡ map_of keys space

-- A fresh root with the first eight keys of another one has its map, and every other space keeps its own.
abbrev pub ShareKeepsMaps : Type 0
ShareKeepsMaps =
    (keys content : ℕ → Key) (fresh space : ℕ)
    → NobodyNames keys (NodeObject fresh) → space ≢ fresh
    → ((digit : ℕ) → digit < 8 → content digit ≡ at keys (place_of space digit))
    → (map_of (filled keys fresh content) fresh ≡ map_of keys space)
    × ((other : ℕ) → other ≢ fresh → map_of (filled keys fresh content) other ≡ map_of keys other)

-- The keys of a node that nobody names may be any: every other space keeps its map.
abbrev pub UnnamedKeepsMaps : Type 0
UnnamedKeepsMaps =
    (keys content : ℕ → Key) (node : ℕ)
    → NobodyNames keys (NodeObject node)
    → (space : ℕ) → space ≢ node → map_of (filled keys node content) space ≡ map_of keys space

-- Writing the key at the end of an own way changes this space's map at this page number, and nothing else. Written Null,
-- the page is mapped no more.
abbrev pub WriteChangesOneMap : Type 0
WriteChangesOneMap =
    (forest : Forest) (outside : Object → ℕ) (hand : List Key) (space page node : ℕ) (key : Key)
    → Sound forest → Exact forest outside hand → IsSpace forest hand space → page < 2 ^ 19
    → OwnWay forest space (node_way page) → EndsAt forest.keys space (node_way page) (NodeObject node)
    → (map_of (with_at forest.keys (place_of node (page % 16)) key) space ≡ with_at (map_of forest.keys space) page (mapping_of key))
    × ((other : ℕ) → IsSpace forest hand other → other ≢ space
    → map_of (with_at forest.keys (place_of node (page % 16)) key) other ≡ map_of forest.keys other)

-- One level down an own way: what stands there is copied, or a fresh node put where nothing stands, and the way is this
-- space's own for one digit more.
abbrev pub CopyMakesOwn : Type 0
CopyMakesOwn =
    (forest : Forest) (outside : Object → ℕ) (hand : List Key) (space node digit fresh height : ℕ) (way : List ℕ) (owner : Owner)
    → Sound forest → Exact forest outside hand → IsSpace forest hand space → IsFree forest outside hand (NodeObject fresh)
    → IsWay way → digit < 16 → OwnWay forest space way → EndsAt forest.keys space way (NodeObject node)
    → OwnWay (with_copy forest (place_of node digit) fresh height owner) space (digit ∷ way)
    × EndsAt (with_copy forest (place_of node digit) fresh height owner).keys space (digit ∷ way) (NodeObject fresh)

-- A way of at most four digits is made a space's own, level by level.
abbrev pub MakesWayOwn : Type 0
MakesWayOwn =
    (outside : Object → ℕ) (hand : List Key) (space : ℕ) (owner : Owner) (first last : Forest) (way : List ℕ) (taken : ℕ)
    → Held first outside hand → IsSpace first hand space → first.owner (NodeObject space) ≡ Some owner
    → IsWay way → length way ≤ 4 → top_digit way < 8
    → MadeOwn outside hand space owner first way last taken
    → IsMadeOwn outside hand space first last way taken

-- Releasing keeps counts exact, and leaves every other space its map and its root. No space is new.
abbrev pub ReleaseKeepsSpaces : Type 0
ReleaseKeepsSpaces =
    (old new : Forest) (outside : Object → ℕ) (old_hand new_hand : List Key)
    → Held old outside old_hand → Release old old_hand new new_hand
    → Held new outside new_hand
    × ((space : ℕ) → IsSpace old old_hand space → IsSpace new new_hand space × (map_of new.keys space ≡ map_of old.keys space))
    × ((space : ℕ) → IsSpace new new_hand space → KeepsRoot old new old_hand space)

-- Releasing gives back exactly what nothing names any more.
abbrev pub ReleaseGivesUnnamed : Type 0
ReleaseGivesUnnamed =
    (old new : Forest) (outside : Object → ℕ) (old_hand new_hand : List Key)
    → Held old outside old_hand → Release old old_hand new new_hand
    → (object : Object) → IsSome (old.owner object)
    → IsSome (new.owner object) ↔ (1 ≤ namings new object + outside object + in_hand new_hand object)

-- And each way in a space that was its own stays so.
abbrev pub ReleaseKeepsWays : Type 0
ReleaseKeepsWays =
    (old new : Forest) (outside : Object → ℕ) (old_hand new_hand : List Key) (space : ℕ) (way : List ℕ)
    → Held old outside old_hand → Release old old_hand new new_hand → IsSpace old old_hand space
    → IsWay way → OwnWay old space way → OwnWay new space way

-- Releasing goes down: a key that is taken out of a node stands lower than the node's own key.
abbrev pub ReleaseGoesDown : Type 0
ReleaseGoesDown =
    (keys : ℕ → Key) (key : Key) (digit : ℕ) (object : Object)
    → FitsBelow key (key_below keys key digit) → named (key_below keys key digit) ≡ Some object
    → key_height (key_below keys key digit) < key_height key

-- Releasing takes keys away and lowers counts.
abbrev pub ReleaseThins : Type 0
ReleaseThins = (old new : Forest) (old_hand new_hand : List Key) → Release old old_hand new new_hand → Thins old new

-- One release after another is a release.
abbrev pub ReleaseTrans : Type 0
ReleaseTrans =
    (old next new : Forest) (old_hand next_hand new_hand : List Key)
    → Release old old_hand next next_hand → Release next next_hand new new_hand → Release old old_hand new new_hand

-- Each object that belongs to a tree is reached by some space.
abbrev pub EverythingIsReached : Type 0
EverythingIsReached =
    (forest : Forest) (outside : Object → ℕ) (object : Object)
    → Held forest outside [] → NoPageOutside forest outside
    → IsSome (forest.owner object)
    → (space : ℕ) × (way : List ℕ) × IsSpace forest [] space × IsWay way × EndsAt forest.keys space way object

-- Each page that belongs to a tree is mapped by some space of its owner.
abbrev pub EveryPageIsMapped : Type 0
EveryPageIsMapped =
    (forest : Forest) (outside : Object → ℕ) (page : ℕ)
    → Held forest outside [] → NoPageOutside forest outside
    → IsSome (forest.owner (PageObject page))
    → (space : ℕ) × (number : ℕ) × IsSpace forest [] space × (forest.owner (NodeObject space) ≡ forest.owner (PageObject page))
    × (number < 2 ^ 19) × (shared_page forest.keys (space, number) ≡ Some page)

-- The number of pages that are taken as memory is the number of different pages, but for the page of zeros, in the maps of
-- the processes' spaces.
abbrev pub TakenIsDifferent : Type 0
TakenIsDifferent =
    (forest : Forest) (outside : Object → ℕ) (pages : ℕ) (spaces : List ℕ)
    → Held forest outside [] → NoPageOutside forest outside
    → ((page : ℕ) → IsSome (forest.owner (PageObject page)) → page < pages)
    → ((space : ℕ) → IsIn space spaces ↔ IsProcessSpace forest space)
    → count_below (λ page. is_process (forest.owner (PageObject page))) pages ≡ different (labels (shared_page forest.keys) (places_of spaces))

-- Two ways of labelling that tell the same places apart have equally many labels.
abbrev pub AlikeIsEquallyMany : Type 0
AlikeIsEquallyMany =
    (one two : ℕ × ℕ → Option ℕ) (places : List (ℕ × ℕ))
    → TellsAlike one two places → different (labels one places) ≡ different (labels two places)

-- The mapped pages of a space are those of its eight parts, and those below a node are those below its sixteen keys.
abbrev pub MappedIsSum : Type 0
MappedIsSum =
    (keys : ℕ → Key) (space : ℕ)
    → mapped keys space ≡ sum_below (λ digit. pages_below keys (at keys (place_of space digit)) 4) 8

-- All that holds of a forest goes on to hold while an object is taken, ..
abbrev pub TakeKeepsHeld : Type 0
TakeKeepsHeld =
    (forest : Forest) (outside : Object → ℕ) (hand : List Key) (key : Key) (object : Object) (owner : Owner)
    → Held forest outside hand → named key ≡ Some object → IsFree forest outside hand object
    → ((node : ℕ) → NodeObject node ≡ object → node < forest.nodes)
    → Held (with_taken forest object owner) outside (key ∷ hand)

-- .. a count is raised, ..
abbrev pub RaiseKeepsHeld : Type 0
RaiseKeepsHeld =
    (forest : Forest) (outside : Object → ℕ) (hand : List Key) (key : Key)
    → Held forest outside hand → ((object : Object) → named key ≡ Some object → IsSome (forest.owner object) × (outside object ≡ 0))
    → Held (raised forest key) outside (key ∷ hand)

-- .. a key is written where it may stand, ..
abbrev pub WriteKeepsHeld : Type 0
WriteKeepsHeld =
    (forest : Forest) (outside : Object → ℕ) (hand : List Key) (place : ℕ) (key : Key)
    → Held forest outside (key ∷ hand) → MayStand forest (key ∷ hand) place key → BelongsAt forest place key
    → Held (with_key forest place key) outside (at forest.keys place ∷ hand)

-- .. a key in hand is handed out, ..
abbrev pub HandOutKeepsHeld : Type 0
HandOutKeepsHeld =
    (forest : Forest) (outside : Object → ℕ) (hand : List Key) (key : Key) (object : Object)
    → Held forest outside (key ∷ hand) → named key ≡ Some object → forest.count object ≡ 1
    → ((node : ℕ) → NodeObject node ≡ object → IsRoot forest.keys node)
    → Held forest (and_outside outside key) hand

-- .. or back in hand, ..
abbrev pub HandInKeepsHeld : Type 0
HandInKeepsHeld =
    (forest : Forest) (outside : Object → ℕ) (hand : List Key) (key : Key) (object : Object)
    → Held forest (and_outside outside key) hand → named key ≡ Some object → outside object ≡ 0 → IsSome (forest.owner object)
    → Held forest outside (key ∷ hand)

-- .. and a node is copied, or put where none stood. Spaces stay spaces.
abbrev pub CopyKeepsHeld : Type 0
CopyKeepsHeld =
    (forest : Forest) (outside : Object → ℕ) (hand : List Key) (place fresh height : ℕ) (owner : Owner)
    → Held forest outside hand
    → IsFree forest outside hand (NodeObject fresh) → fresh < forest.nodes
    → forest.owner (NodeObject (place / 16)) ≡ Some owner → MayStand forest hand place (Segment (record { 0 = fresh }) height)
    → ((digit : ℕ) → digit < 16 → FitsUnder height (key_below forest.keys (at forest.keys place) digit))
    → ((object : Object) → named (at forest.keys place) ≡ Some object → 2 ≤ forest.count object)
    → Held (with_copy forest place fresh height owner) outside hand
    × ((space : ℕ) → IsSpace forest hand space ↔ IsSpace (with_copy forest place fresh height owner) hand space)

-- What holds of a forest looks at the outside only where something belongs to a tree.
abbrev pub HeldOutside : Type 0
HeldOutside =
    (forest : Forest) (outside other : Object → ℕ) (hand : List Key)
    → ((object : Object) → IsSome (forest.owner object) → other object ≡ outside object)
    → Held forest outside hand → Held forest other hand

-- A key that names no part of a tree is in hand, or isn't.
abbrev pub HeldNothing : Type 0
HeldNothing =
    (forest : Forest) (outside : Object → ℕ) (hand : List Key) (key : Key)
    → named key ≡ None → Held forest outside hand → Held forest outside (key ∷ hand)

-- At the end of an own way to a page, a page's key may stand, or none.
abbrev pub PageMayStand : Type 0
PageMayStand =
    (forest : Forest) (outside : Object → ℕ) (hand : List Key) (space page node : ℕ) (key : Key)
    → Held forest outside hand → IsSpace forest hand space
    → OwnWay forest space (node_way page) → EndsAt forest.keys space (node_way page) (NodeObject node)
    → FitsUnder 1 key → MayStand forest hand (place_of node (page % 16)) key

-- A page of a space is changed: the way to it is made this space's own, and a key in hand is written at its end. The key
-- that stood there is in hand.
abbrev pub ChangesOnePage : Type 0
ChangesOnePage =
    (outside : Object → ℕ) (hand : List Key) (space : ℕ) (owner : Owner) (first last : Forest) (page node : ℕ) (key : Key) (taken : ℕ)
    → Held first outside (key ∷ hand) → IsSpace first (key ∷ hand) space → first.owner (NodeObject space) ≡ Some owner
    → page < 2 ^ 19 → FitsUnder 1 key → ((object : Object) → named key ≡ Some object → first.owner object ≡ Some owner)
    → MadeOwn outside (key ∷ hand) space owner first (node_way page) last taken
    → EndsAt last.keys space (node_way page) (NodeObject node)
    → IsPageChanged outside (key ∷ hand) (at last.keys (place_of node (page % 16)) ∷ hand) space page key first last
    (with_key last (place_of node (page % 16)) key) taken

-- A node that has become empty is pruned: its key is taken from its place, and it is given back. All spaces stay, and keep
-- their maps and their roots, and none is new.
abbrev pub PruneKeepsMaps : Type 0
PruneKeepsMaps =
    (forest : Forest) (outside : Object → ℕ) (hand : List Key) (place node : ℕ)
    → Held forest outside hand → named (at forest.keys place) ≡ Some (NodeObject node) → forest.count (NodeObject node) ≡ 1
    → ((digit : ℕ) → digit < 16 → at forest.keys (place_of node digit) ≡ Null)
    → Held (with_given (with_key forest place Null) (NodeObject node)) outside hand
    × ((space : ℕ) → IsSpace forest hand space
    → IsSpace (with_given (with_key forest place Null) (NodeObject node)) hand space
    × (map_of (with_given (with_key forest place Null) (NodeObject node)).keys space ≡ map_of forest.keys space))
    × ((space : ℕ) → IsSpace (with_given (with_key forest place Null) (NodeObject node)) hand space
    → KeepsRoot forest (with_given (with_key forest place Null) (NodeObject node)) hand space)

-- A key of a tree is copied to an empty place of a fresh root in hand: what it names is counted once more.
abbrev pub ShareKeepsHeld : Type 0
ShareKeepsHeld =
    (forest : Forest) (outside : Object → ℕ) (hand : List Key) (from fresh digit : ℕ)
    → Held forest outside hand → 1 ≤ in_hand hand (NodeObject fresh) → NobodyNames forest.keys (NodeObject fresh)
    → forest.owner (NodeObject fresh) ≡ forest.owner (NodeObject (from / 16)) → digit < 16
    → at forest.keys (place_of fresh digit) ≡ Null
    → Held (with_key (raised forest (at forest.keys from)) (place_of fresh digit) (at forest.keys from)) outside hand

-- A call that changes a page of a space: with the new key in hand the way is made this space's own, the key is written, and
-- the key that stood there is released. This space's map changes at this page number, and nothing else.
abbrev pub CallChangesMap : Type 0
CallChangesMap =
    (outside : Object → ℕ) (space : ℕ) (owner : Owner) (old last new : Forest) (page node : ℕ) (key : Key) (taken : ℕ)
    → Held old outside (key ∷ []) → IsSpace old [] space → old.owner (NodeObject space) ≡ Some owner
    → page < 2 ^ 19 → FitsUnder 1 key → ((object : Object) → named key ≡ Some object → old.owner object ≡ Some owner)
    → MadeOwn outside (key ∷ []) space owner old (node_way page) last taken
    → EndsAt last.keys space (node_way page) (NodeObject node)
    → Release (with_key last (place_of node (page % 16)) key) (at last.keys (place_of node (page % 16)) ∷ []) new []
    → Held new outside [] × ChangesMap old new space (with_at (map_of old.keys space) page (mapping_of key)) × (taken ≤ 4)

-- A page found at the end of an own way is own.
abbrev pub OwnWayIsOwn : Type 0
OwnWayIsOwn =
    (forest : Forest) (outside : Object → ℕ) (space page : ℕ) (found : Mapping)
    → Held forest outside [] → IsSpace forest [] space → OwnWay forest space (page_way page)
    → map_of forest.keys space page ≡ Some found → found.page ≢ 0 → IsOwn forest space page found

-- And the way to an own page is this space's own.
abbrev pub OwnHasOwnWay : Type 0
OwnHasOwnWay =
    (forest : Forest) (outside : Object → ℕ) (space page : ℕ) (found : Mapping)
    → Held forest outside [] → IsSpace forest [] space → IsOwn forest space page found → OwnWay forest space (page_way page)

-- A call that releases a space, whose key is in hand.
abbrev pub CallDropsSpace : Type 0
CallDropsSpace =
    (outside : Object → ℕ) (space : ℕ) (old new : Forest)
    → Held old outside (space_key space ∷ []) → old.count (NodeObject space) ≡ 1
    → Release old (space_key space ∷ []) new []
    → Held new outside [] × DropsSpace old new space

-- Going down a way leaves no node empty but the last one, ..
abbrev pub DescentLeavesLastEmpty : Type 0
DescentLeavesLastEmpty =
    (outside : Object → ℕ) (hand : List Key) (space : ℕ) (owner : Owner) (first last : Forest) (way : List ℕ) (taken node : ℕ)
    → Held first outside hand → IsSpace first hand space → first.owner (NodeObject space) ≡ Some owner
    → IsWay way → length way ≤ 4 → top_digit way < 8
    → MadeOwn outside hand space owner first way last taken → EndsAt last.keys space way (NodeObject node)
    → NoneEmpty first.keys → NoneEmptyBut last.keys node

-- .. writing a page's key fills it, ..
abbrev pub WriteFills : Type 0
WriteFills =
    (keys : ℕ → Key) (node digit : ℕ) (key : Key)
    → NoneEmptyBut keys node → digit < 16 → FitsUnder 1 key → key ≢ Null → NoneEmpty (with_at keys (place_of node digit) key)

-- .. taking a key away may leave its node empty, ..
abbrev pub TakingAwayEmpties : Type 0
TakingAwayEmpties =
    (keys : ℕ → Key) (node digit : ℕ)
    → NoneEmpty keys → digit < 16 → NoneEmptyBut (with_at keys (place_of node digit) Null) node

-- .. and pruning an empty node may leave the one above it empty.
abbrev pub PruningEmptiesAbove : Type 0
PruningEmptiesAbove =
    (keys : ℕ → Key) (above digit node : ℕ)
    → NoneEmptyBut keys node → digit < 16
    → ((place : ℕ) → named (at keys place) ≡ Some (NodeObject node) → place ≡ place_of above digit)
    → NoneEmptyBut (with_at keys (place_of above digit) Null) above

-- Releasing leaves no node empty.
abbrev pub ReleaseLeavesNoneEmpty : Type 0
ReleaseLeavesNoneEmpty =
    (old new : Forest) (outside : Object → ℕ) (old_hand new_hand : List Key)
    → Held old outside old_hand → Release old old_hand new new_hand
    → NoneEmpty old.keys → NoneEmpty new.keys

-- A key of a node that isn't empty, written in a node that nobody names, as in a fresh root, leaves none empty.
abbrev pub WriteElsewhereKeepsFilled : Type 0
WriteElsewhereKeepsFilled =
    (keys : ℕ → Key) (place : ℕ) (key : Key)
    → NobodyNames keys (NodeObject (place / 16)) → named key ≢ Some (NodeObject (place / 16)) → NoneEmpty keys
    → ((node : ℕ) → named key ≡ Some (NodeObject node) → IsFilled keys node)
    → NoneEmpty (with_at keys place key)

-- A call that adds a space over the children of another one, and a call that adds an empty space. The one key of the new
-- space is handed out.
abbrev pub CallSharesSpace : Type 0
CallSharesSpace =
    (outside : Object → ℕ) (space fresh : ℕ) (old new : Forest) (content : ℕ → Key)
    → Sound old → Held new (and_outside outside (space_key fresh)) [] → WithRoot old new fresh content → space ≢ fresh
    → ((digit : ℕ) → digit < 8 → content digit ≡ at old.keys (place_of space digit))
    → AddsSpace old new fresh (map_of old.keys space)

abbrev pub CallAddsSpace : Type 0
CallAddsSpace =
    (outside : Object → ℕ) (fresh : ℕ) (old new : Forest) (content : ℕ → Key)
    → Sound old → Held new (and_outside outside (space_key fresh)) [] → WithRoot old new fresh content
    → ((digit : ℕ) → digit < 8 → content digit ≡ Null)
    → AddsSpace old new fresh (λ page. None)

-- Each space is well-formed where no node below a root is empty.
abbrev pub SpacesAreWellFormed : Type 0
SpacesAreWellFormed =
    (forest : Forest) (outside : Object → ℕ) (hand : List Key) (space : ℕ)
    → Held forest outside hand → NoneEmpty forest.keys → IsSpace forest hand space → IsWellFormed forest.keys space
