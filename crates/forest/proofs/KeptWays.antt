-- Ways that stay a space's own.
use Rattle.std.proofs.Common.{◌≡◌, ◌≢◌, ℕ, List, [], ◌∷◌, ap, ◌∙◌, arith}
use Rattle.kn_base.specs.declared.key.Key.{Key}
use Rattle.forest.specs.Objects.{Object, NodeObject, named}
use Rattle.forest.specs.Walks.{place_of, key_along, space_key, IsWay}
use Rattle.forest.specs.Forest.{Forest, Sound, IsSpace, OwnWay, EndsAt}
use Rattle.forest.specs.Changes.{WithRoot}
use Rattle.forest.specs.Laws.{ReleaseKeepsWays}
use Rattle.forest.proofs.WalkLaws.{step}
use Rattle.forest.proofs.OwnLaws.{owned_object}
use Rattle.forest.proofs.MapLaws.{untouched, not_the_node}
use Rattle.forest.proofs.CopyLaws.{once, counted_once, free_unnamed}
use Rattle.forest.proofs.ReleaseLaws.{release_keys, release_keeps_spaces, some_not_none}
use Rattle.forest.proofs.ThinLaws.{release_thins}

-- A way stays own where the keys along it stay, and what stands on it is counted once still.
pub way_kept : (old new : Forest) (space : ℕ)
    → ((way : List ℕ) → IsWay way → OwnWay old space way → key_along new.keys (space_key space) way ≡ key_along old.keys (space_key space) way)
    → ((digit : ℕ) (way : List ℕ) (object : Object) → IsWay (digit ∷ way) → OwnWay old space (digit ∷ way) → EndsAt old.keys space (digit ∷ way) object → old.count object ≡ 1 → new.count object ≡ 1)
    → (way : List ℕ) → IsWay way → OwnWay old space way → OwnWay new space way
way_kept old new space keys counts [] is own = tt
way_kept old new space keys counts (digit ∷ way) is own =
    let o = once old (key_along old.keys (space_key space) (digit ∷ way)) own.0 in (
      counted_once new (key_along new.keys (space_key space) (digit ∷ way)) o.object (ap named (keys (digit ∷ way) is own) ∙ o.names_it)
          (counts digit way o.object is own o.names_it o.counted),
      way_kept old new space keys counts way is.1 own.1,
    )

pub release_keeps_ways : ReleaseKeepsWays
release_keeps_ways old new outside old_hand new_hand space way held r is w own =
    let same = release_keys old new outside old_hand new_hand held.counts r space is in
    let now = (release_keeps_spaces old new outside old_hand new_hand held r).0 in
    let thin = release_thins old new old_hand new_hand r in
    way_kept old new space (λ v v_is v_own. same v v_is)
    (λ digit v object v_is v_own ends one.
    let s = step new.keys (key_along new.keys (space_key space) v) digit object (ap named (same (digit ∷ v) v_is) ∙ ends) in
    let alive = now.alive object (owned_object new now.sound (place_of s.node digit) object s.here) in
    let fewer = thin.counts object in
    omega arith)
    way w own

-- while a root is added
pub root_keeps_way : (old new : Forest) (fresh : ℕ) (content : ℕ → Key) → Sound old → WithRoot old new fresh content → (space : ℕ) → IsSpace old [] space
    → ((digit : ℕ) (way : List ℕ) (object : Object) → IsWay (digit ∷ way) → OwnWay old space (digit ∷ way) → EndsAt old.keys space (digit ∷ way) object → old.count object ≡ 1 → new.count object ≡ 1)
    → (way : List ℕ) → IsWay way → OwnWay old space way → OwnWay new space way
root_keeps_way old new fresh content sound root space is counts =
    let apart : space ≢ fresh = λ t. some_not_none (old.owner (NodeObject space)) is.owned (ap (λ n. old.owner (NodeObject n)) t ∙ root.was_free) in
    way_kept old new space
    (λ way w own. ap (λ (keys : ℕ → Key). key_along keys (space_key space) way) root.keys
    ∙ untouched old.keys content fresh (free_unnamed old sound (NodeObject fresh) root.was_free) (space_key space) (not_the_node space fresh apart) way w)
    counts
