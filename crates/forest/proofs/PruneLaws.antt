-- Pruning a node that has become empty.
use Rattle.std.proofs.Common.{◌≡◌, ◌≢◌, ◌<◌, ◌/◌, ◌%◌, ℕ, Some, None, List, ◌∷◌, ap, sym, ◌∙◌, arith, ⊎_elim}
use Rattle.std.proofs.lemmas.Bool.{cases_eq}
use Rattle.kn_base.specs.declared.key.Key.{Key}
use Rattle.kn_base.specs.declared.key.Key.TheVariants.{Null}
use Rattle.unix_model.specs.Tables.{at, with_at}
use Rattle.unix_model.proofs.TableLaws.{at-with_at, at-with_at-other}
use Rattle.forest.specs.Objects.{Object, NodeObject, named}
use Rattle.forest.specs.Walks.{place_of}
use Rattle.forest.specs.Forest.{Forest, Held, IsSpace}
use Rattle.forest.specs.Changes.{with_key, with_given, MayStand}
use Rattle.forest.specs.Release.{Release, empty_node, done, more}
use Rattle.forest.specs.Laws.{PruneKeepsMaps}
use Rattle.forest.proofs.ExactLaws.{not_named, spaces_back}
use Rattle.forest.proofs.OwnLaws.{owned_node}
use Rattle.forest.proofs.MapLaws.{detach_keeps_maps}
use Rattle.forest.proofs.ReleaseLaws.{fits_null, no_name, taken_named, release_keeps_spaces}
use Rattle.forest.proofs.ReachLaws.{root_fits}
use Rattle.forest.proofs.HeldLaws.{raise_keeps_held}
use Rattle.forest.proofs.WriteHeld.{write_keeps_held}

module _ (forest : Forest) (outside : Object → ℕ) (hand : List Key) (place node : ℕ) (held : Held forest outside hand)
    (e : named (at forest.keys place) ≡ Some (NodeObject node)) (once : forest.count (NodeObject node) ≡ 1)
    (empty : (digit : ℕ) → digit < 16 → at forest.keys (place_of node digit) ≡ Null) where
  with_null : Held forest outside (Null ∷ hand)
  with_null = raise_keeps_held forest outside hand Null held (λ object h. absurd (let contra : None ≡ Some object = h in cc))

  split : place_of (place / 16) (place % 16) ≡ place
  split = omega arith

  may : MayStand forest (Null ∷ hand) place Null
  may = record {
    node_owned = owned_node forest held.sound place (NodeObject node) e;
    low = omega arith;
    fits = λ upper h. fits_null (at forest.keys upper);
    not_itself = λ h. cc;
    root = λ is.
        let fits = root_fits forest.keys (place / 16) (place % 16) (NodeObject node) (with_null.rooted (place / 16) is) (omega arith) (rw split e) in
        (fits.0, tt);
  }

  pub taken_out : Held (with_key forest place Null) outside (at forest.keys place ∷ hand)
  taken_out = write_keeps_held forest outside hand place Null with_null may
      (record { same_owner = λ object h. absurd (let contra : None ≡ Some object = h in cc); heights = λ digit below. tt })

  pub still_empty : (digit : ℕ) → digit < 16 → at (with_at forest.keys place Null) (place_of node digit) ≡ Null
  still_empty digit below = ⊎_elim
      (λ (t : place_of node digit ≡ place). ap (at (with_at forest.keys place Null)) t ∙ at-with_at forest.keys place Null)
      (λ (t : place_of node digit ≢ place). at-with_at-other forest.keys place (place_of node digit) Null t ∙ empty digit below)
      (cases_eq (place_of node digit) place)

  release : Release (with_key forest place Null) (at forest.keys place ∷ hand) (with_given (with_key forest place Null) (NodeObject node)) hand
  release = more (empty_node (at forest.keys place) node e once still_empty) done

  space_between : (space : ℕ) → IsSpace forest hand space → IsSpace (with_key forest place Null) (at forest.keys place ∷ hand) space
  space_between space is = record {
    owned = is.owned;
    unnamed = λ p h. is.unnamed p (taken_named forest.keys place p (NodeObject space) h);
    not_in_hand = no_name (at forest.keys place) hand (NodeObject space) (not_named (at forest.keys place) (NodeObject space) (is.unnamed place)) ∙ is.not_in_hand;
  }

pub prune_keeps_maps : PruneKeepsMaps
prune_keeps_maps forest outside hand place node held e once empty =
    let released = release_keeps_spaces (with_key forest place Null) (with_given (with_key forest place Null) (NodeObject node)) outside
    (at forest.keys place ∷ hand) hand (taken_out forest outside hand place node held e once empty) (release forest outside hand place node held e once empty) in (
      released.0,
      λ space is. (
        (released.1 space (space_between forest outside hand place node held e once empty space is)).0,
        detach_keeps_maps forest.keys place node e empty space,
      ),
      λ space is.
          let r = released.2 space is in
          let taken = taken_out forest outside hand place node held e once empty in
          let was = spaces_back forest (with_key forest place Null) outside hand (at forest.keys place ∷ hand) held.apart taken.exact taken.alive (λ object some out. some) space r.was in
          record {
            was = was;
            owner = r.owner;
            keeper = r.keeper ∙ at-with_at-other forest.keys place (place_of space 15) Null (λ t.
                let root = held.rooted space was in
                let contra : None ≡ Some (NodeObject node) = sym root.keeper ∙ ap (λ p. named (at forest.keys p)) t ∙ e in cc);
          },
    )
