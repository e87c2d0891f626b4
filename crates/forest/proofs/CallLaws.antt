-- Calls on spaces, put together.
use Rattle.std.proofs.Common.{◌≡◌, ◌≢◌, ◌%◌, ℕ, Option, Some, None, List, [], ◌∷◌, refl, ◌∙◌, arith}
use Rattle.std.specs.Option.{IsSome}
use Rattle.kn_base.specs.declared.key.Key.{Key}
use Rattle.unix_model.specs.Tables.{at}
use Rattle.forest.specs.Objects.{NodeObject}
use Rattle.forest.specs.Walks.{place_of, space_key}
use Rattle.forest.specs.Forest.{Forest, IsSpace, FitsUnder}
use Rattle.forest.specs.Changes.{with_key}
use Rattle.forest.specs.Laws.{CallChangesMap, OwnWayIsOwn, CallDropsSpace}
use Rattle.forest.proofs.ExactLaws.{not_named, nobody_counted}
use Rattle.forest.proofs.OwnLaws.{own_page_is_alone}
use Rattle.forest.proofs.ReleaseLaws.{no_name, tail_space, last_key, front_owned, release_unnamed, release_keeps_spaces, release_gives_unnamed}
use Rattle.forest.proofs.ReachLaws.{nothing_in_hand}
use Rattle.forest.proofs.DescentLaws.{changes_one_page, leaf_names_page}

-- a key that names no node makes no difference to spaces
with_leaf : (forest : Forest) (hand : List Key) (key : Key) → FitsUnder 1 key → (space : ℕ) → IsSpace forest hand space → IsSpace forest (key ∷ hand) space
with_leaf forest hand key fits space is = record {
  owned = is.owned;
  unnamed = is.unnamed;
  not_in_hand = no_name key hand (NodeObject space) (not_named key (NodeObject space) (leaf_names_page key space fits)) ∙ is.not_in_hand;
}

pub call_changes_map : CallChangesMap
call_changes_map outside space owner old last new page node key taken held is_space space_owner below fits key_owner made ends release =
    let one = changes_one_page outside [] space owner old last page node key taken held (with_leaf old [] key fits space is_space) space_owner below fits key_owner made ends in
    let released = release_keeps_spaces (with_key last (place_of node (page % 16)) key) new outside (at last.keys (place_of node (page % 16)) ∷ []) [] one.held release in
    let between = λ (other : ℕ) (is : IsSpace old [] other). one.spaces other (with_leaf old [] key fits other is) in (
      released.0,
      record {
        stays = (released.1 space (between space is_space)).0;
        here = (released.1 space (between space is_space)).1 ∙ one.here;
        others = record {
          stay = λ other is apart. (released.1 other (between other is)).0;
          maps = λ other is apart. (released.1 other (between other is)).1 ∙ one.others other (with_leaf old [] key fits other is) apart;
        };
        roots = λ other is.
            let r = released.2 other is in
            let p = one.roots other r.was in
            record { was = tail_space old key [] other p.was; owner = r.owner ∙ p.owner; keeper = r.keeper ∙ p.keeper };
      },
      one.few,
    )

pub own_way_is_own : OwnWayIsOwn
own_way_is_own forest outside space page found held is_space own h real = record {
  mapped = h;
  real = real;
  alone = λ other number other_found is k same.
      own_page_is_alone forest outside [] space other page number found other_found held.sound held.exact is_space is own real h k same;
}

none_of : {X : Type 0} (o : Option X) → (IsSome o → ⊥) → o ≡ None
none_of None h = refl
none_of (Some x) h = absurd (h refl)

-- a space stays one where the root of another one is in hand
pub root_in_hand : (forest : Forest) (space other : ℕ) → IsSpace forest [] other → other ≢ space → IsSpace forest (space_key space ∷ []) other
root_in_hand forest space other is apart = record {
  owned = is.owned;
  unnamed = is.unnamed;
  not_in_hand = no_name (space_key space) [] (NodeObject other) (not_named (space_key space) (NodeObject other)
      (λ h. apart (let same : other ≡ space = cc in same))) ∙ is.not_in_hand;
}

pub call_drops_space : CallDropsSpace
call_drops_space outside space old new held once release =
    let released = release_keeps_spaces old new outside (space_key space ∷ []) [] held release in
    let last = last_key old outside (space_key space) [] held.counts (NodeObject space) refl once in (
      released.0,
      record {
        gone = none_of (new.owner (NodeObject space)) (λ some.
            let named_now = (release_gives_unnamed old new outside (space_key space ∷ []) [] held release (NodeObject space)
            (front_owned old outside (space_key space) [] held.counts (NodeObject space) refl)).0 some in
            let out = last.none_outside in
            let places = nobody_counted new (NodeObject space) (release_unnamed old new outside (space_key space ∷ []) [] held.counts release (NodeObject space) last.nobody) in
            let hand = nothing_in_hand (NodeObject space) in
            omega arith);
        others = record {
          stay = λ other is apart. (released.1 other (root_in_hand old space other is apart)).0;
          maps = λ other is apart. (released.1 other (root_in_hand old space other is apart)).1;
        };
        roots = λ other is.
            let r = released.2 other is in
            record { was = tail_space old (space_key space) [] other r.was; owner = r.owner; keeper = r.keeper };
      },
    )
