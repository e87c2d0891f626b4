-- What else goes on to hold of trees: which keys stand in them, and how often their parts are named from outside.
use Rattle.std.proofs.Common.{◌≡◌, ◌≢◌, ◌≤◌, ◌-◌, ◌%◌, ℕ, Option, Some, List, length, ap, sym, subst, ◌∙◌, arith, ⊎_elim}
use Rattle.std.specs.Option.{is_some, IsSome}
use Rattle.kn_base.specs.declared.key.Key.{Key}
use Rattle.kn_base.specs.declared.key.Key.TheVariants.{Null, Segment}
use Rattle.unix_model.specs.Tables.{at, with_at}
use Rattle.unix_model.proofs.TableLaws.{at-with_at, at-with_at-other}
use Rattle.std.proofs.lemmas.Bool.{cases_eq}
use Rattle.forest.specs.Objects.{Object, NodeObject, Owner, with_object}
use Rattle.forest.specs.Walks.{place_of, key_below}
use Rattle.forest.specs.Forest.{Forest}
use Rattle.forest.specs.Changes.{with_fresh}
use Rattle.forest.specs.Descent.{MadeOwn, root, kept, copied}
use Rattle.forest.specs.Release.{Release, Thins}
use Rattle.forest.proofs.CopyHeld.{Copied, here, inside, elsewhere, copied_at}
use Rattle.forest.proofs.ExactLaws.{nobody_counted}
use Rattle.forest.proofs.HeldLaws.{other_object}
use Rattle.forest.proofs.ReleaseLaws.{is_or_not}
use Rattle.forest.proofs.ThinLaws.{release_thins}
use Rattle.kernel_forest.specs.Trees.{forest_of, IsTreeKey}
use Rattle.kernel_forest.specs.Laws.{RootIsSingle}

-- each key of these nodes is a key of a tree
abbrev pub AllTreeKeys : (ℕ → Key) → Type 0
AllTreeKeys keys = (place : ℕ) → IsTreeKey (at keys place)

below_tree : (keys : ℕ → Key) → AllTreeKeys keys → (upper : Key) (digit : ℕ) → IsTreeKey (key_below keys upper digit)
below_tree keys all (Segment node height) digit = all (place_of node.0 digit)
below_tree keys all _ digit = tt

fresh_in_trees : (keys : ℕ → Key) (place fresh height : ℕ) → AllTreeKeys keys → AllTreeKeys (with_fresh keys place fresh height)
fresh_in_trees keys place fresh height all p = go (copied_at keys place fresh height p)
  where
    go : Copied keys place fresh height p → IsTreeKey (at (with_fresh keys place fresh height) p)
    go (here t e) = subst IsTreeKey (sym e) tt
    go (inside t apart e) = subst IsTreeKey (sym e) (below_tree keys all (at keys place) (p % 16))
    go (elsewhere t apart e) = subst IsTreeKey (sym e) (all p)

pub made_in_trees : {outside : Object → ℕ} {hand : List Key} {space : ℕ} {owner : Owner} {first last : Forest} {way : List ℕ} {taken : ℕ}
    → MadeOwn outside hand space owner first way last taken → AllTreeKeys first.keys → AllTreeKeys last.keys
made_in_trees root all = all
made_in_trees (kept digit made once) all = made_in_trees made all
made_in_trees (copied {last = last} {way = way} digit node fresh made shared ends free within) all =
    fresh_in_trees last.keys (place_of node digit) fresh (4 - length way) (made_in_trees made all)

pub written_in_trees : (keys : ℕ → Key) (place : ℕ) (key : Key) → IsTreeKey key → AllTreeKeys keys → AllTreeKeys (with_at keys place key)
written_in_trees keys place key tree all p = ⊎_elim
    (λ (t : p ≡ place). subst IsTreeKey (sym (ap (at (with_at keys place key)) t ∙ at-with_at keys place key)) tree)
    (λ (t : p ≢ place). subst IsTreeKey (sym (at-with_at-other keys place p key t)) (all p))
    (cases_eq p place)

thinned_in_trees : (old new : Forest) → Thins old new → AllTreeKeys old.keys → AllTreeKeys new.keys
thinned_in_trees old new thin all p = ⊎_elim
    (λ (t : at new.keys p ≡ at old.keys p). subst IsTreeKey (sym t) (all p))
    (λ (t : at new.keys p ≡ Null). subst IsTreeKey (sym t) tt)
    (thin.keys p)

pub released_in_trees : (old new : Forest) (before after : List Key) → Release old before new after → AllTreeKeys old.keys → AllTreeKeys new.keys
released_in_trees old new before after release = thinned_in_trees old new (release_thins old new before after release)

-- what belongs to a tree is named from outside at most once
abbrev pub AllSingle : Forest → (Object → ℕ) → Type 0
AllSingle forest outside = (object : Object) → IsSome (forest.owner object) → outside object ≤ 1

fresh_single : (owner : Object → Option Owner) (outside : Object → ℕ) (fresh : Object) (to : Owner) → ((object : Object) → IsSome (owner object) → outside object ≤ 1) → outside fresh ≤ 1
    → (object : Object) → IsSome (with_object owner fresh (Some to) object) → outside object ≤ 1
fresh_single owner outside fresh to single one object some = ⊎_elim
    (λ (t : object ≡ fresh). subst (λ o. outside o ≤ 1) (sym t) one)
    (λ (t : object ≢ fresh). single object (ap is_some (sym (other_object owner fresh (Some to) object t)) ∙ some))
    (is_or_not object fresh)

pub taken_single : (forest : Forest) (outside : Object → ℕ) (fresh : Object) (to : Owner) → AllSingle forest outside → outside fresh ≤ 1
    → (object : Object) → IsSome (with_object forest.owner fresh (Some to) object) → outside object ≤ 1
taken_single forest outside fresh to single one = fresh_single forest.owner outside fresh to single one

pub made_single : {outside : Object → ℕ} {hand : List Key} {space : ℕ} {owner : Owner} {first last : Forest} {way : List ℕ} {taken : ℕ}
    → MadeOwn outside hand space owner first way last taken → AllSingle first outside → AllSingle last outside
made_single root single = single
made_single (kept digit made once) single = made_single made single
made_single {outside = outside} {owner = owner} (copied {last = last} digit node fresh made shared ends free within) single =
    let none = free.none_outside in
    let one : outside (NodeObject fresh) ≤ 1 = omega arith in
    fresh_single last.owner outside (NodeObject fresh) owner (made_single made single) one

-- so a root is counted once
pub root_once : RootIsSingle
root_once kernel outside hand space trees is =
    let counted = trees.held.exact.counted (NodeObject space) is.owned in
    let nobody = nobody_counted (forest_of kernel) (NodeObject space) is.unnamed in
    let none = is.not_in_hand in
    let alive = trees.held.alive (NodeObject space) is.owned in
    let one = trees.single (NodeObject space) is.owned in
    omega arith
