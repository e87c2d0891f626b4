-- Adding a space.
use Rattle.std.proofs.Common.{◌≡◌, ◌≢◌, ◌<◌, ◌≤◌, ◌/◌, ◌%◌, ◌^◌, ℕ, true, false, Option, Some, None, List, [], ◌∷◌, refl, ap, sym, ◌∙◌, arith, ⊎_elim, nat_lt}
use Rattle.std.specs.Option.{is_some}
use Rattle.std.proofs.Math.Path.{fun_ext}
use Rattle.std.proofs.lemmas.Bool.{cases_eq, cases_lt, cases_Bool, ltb-true}
use Rattle.kn_base.specs.declared.key.Key.{Key}
use Rattle.kn_base.specs.declared.key.Key.TheVariants.{Null}
use Rattle.unix_model.specs.Tables.{at}
use Rattle.forest.specs.Objects.{Object, NodeObject, named}
use Rattle.forest.specs.Walks.{place_of, key_along, space_key, digits, Mapping, map_of, key_at_page}
use Rattle.forest.specs.Forest.{Forest, Sound, Held, IsSpace, NobodyNames}
use Rattle.forest.specs.Changes.{and_outside, filled, WithRoot, KeepsRoot}
use Rattle.forest.specs.Calls.{KeepsOthers, AddsSpace}
use Rattle.forest.specs.Laws.{CallSharesSpace, CallAddsSpace}
use Rattle.forest.proofs.CountLaws.{same_object-same}
use Rattle.forest.proofs.MapLaws.{at-filled, at-filled-other, page_parts, unnamed_keeps_maps, share_keeps_maps}
use Rattle.forest.proofs.CopyLaws.{free_unnamed}
use Rattle.forest.proofs.ReachLaws.{nothing_in_hand}

-- a root that is kept twice is kept
pub root_trans : (old mid new : Forest) (before between : List Key) (space : ℕ) → KeepsRoot old mid before space → KeepsRoot mid new between space → KeepsRoot old new before space
root_trans old mid new before between space first second = record { was = first.was; owner = second.owner ∙ first.owner; keeper = second.keeper ∙ first.keeper }

root_out : (outside : Object → ℕ) (fresh : ℕ) → 1 ≤ and_outside outside (space_key fresh) (NodeObject fresh)
unfolding and_outside
root_out outside fresh = rw (same_object-same (NodeObject fresh)) (omega arith)

module _ (outside : Object → ℕ) (fresh : ℕ) (old new : Forest) (content : ℕ → Key) (sound : Sound old)
    (held : Held new (and_outside outside (space_key fresh)) []) (c : WithRoot old new fresh content)
    (first : (digit : ℕ) → digit < 8 → (object : Object) → named (content digit) ≡ Some object → NobodyNames old.keys object → ⊥) where
  nobody : NobodyNames old.keys (NodeObject fresh)
  nobody = free_unnamed old sound (NodeObject fresh) c.was_free

  -- what no place named before no place names now
  nobody_now : (object : Object) → NobodyNames old.keys object → NobodyNames new.keys object
  nobody_now object none place h = ⊎_elim
      (λ (t : place / 16 ≡ fresh).
      let split : place_of fresh (place % 16) ≡ place = omega arith in
      let is : at (filled old.keys fresh content) place ≡ content (place % 16) =
      ap (at (filled old.keys fresh content)) (sym split) ∙ at-filled old.keys content fresh (place % 16) (omega arith) in
      let names_it : named (content (place % 16)) ≡ Some object = ap named (sym is) ∙ ap (λ keys. named (at keys place)) (sym c.keys) ∙ h in
      ⊎_elim
      (λ (u : place % 16 < 8). first (place % 16) u object names_it none)
      (λ (u : 8 ≤ place % 16).
      let contra : None ≡ Some object = sym (c.rest (place % 16) u (omega arith)) ∙ names_it in cc)
      (cases_lt (place % 16) 8))
      (λ (t : place / 16 ≢ fresh).
      none place (ap named (sym (at-filled-other old.keys content fresh place t)) ∙ ap (λ keys. named (at keys place)) (sym c.keys) ∙ h))
      (cases_eq (place / 16) fresh)

  others : KeepsOthers old new fresh
  others = record {
    stay = λ other is apart. record {
      owned = ap is_some (c.same_owners (NodeObject other) (λ e. apart (let same : other ≡ fresh = cc in same))) ∙ is.owned;
      unnamed = nobody_now (NodeObject other) is.unnamed;
      not_in_hand = is.not_in_hand;
    };
    maps = λ other is apart. ap (λ keys. map_of keys other) c.keys ∙ unnamed_keeps_maps old.keys content fresh nobody other apart;
  }

  roots : (other : ℕ) → IsSpace new [] other → other ≢ fresh → KeepsRoot old new [] other
  roots other is apart =
      let owner = c.same_owners (NodeObject other) (λ e. apart (let same : other ≡ fresh = cc in same)) in
      record {
        was = record {
          owned = ap is_some (sym owner) ∙ is.owned;
          unnamed = λ place h. ⊎_elim
              (λ (t : place / 16 ≡ fresh).
              let contra : None ≡ Some (NodeObject other) = sym (ap named (sound.masked place (ap (λ n. old.owner (NodeObject n)) t ∙ c.was_free))) ∙ h in cc)
              (λ (t : place / 16 ≢ fresh). is.unnamed place (ap (λ keys. named (at keys place)) c.keys ∙ ap named (at-filled-other old.keys content fresh place t) ∙ h))
              (cases_eq (place / 16) fresh);
          not_in_hand = is.not_in_hand;
        };
        owner = owner;
        keeper = ap (λ keys. at keys (place_of other 15)) c.keys
            ∙ at-filled-other old.keys content fresh (place_of other 15) (λ t. apart (let same : other ≡ fresh = omega arith in same));
      }

  added : (map : ℕ → Option Mapping) → map_of (filled old.keys fresh content) fresh ≡ map → AddsSpace old new fresh map
  added map e = record {
    fresh = c.was_free;
    is_space = record { owned = c.now_owned; unnamed = (held.apart (NodeObject fresh) (root_out outside fresh)).0; not_in_hand = nothing_in_hand (NodeObject fresh) };
    here = ap (λ keys. map_of keys fresh) c.keys ∙ e;
    others = others;
    roots = roots;
  }

pub call_shares_space : CallSharesSpace
call_shares_space outside space fresh old new content sound held c apart same =
    added outside fresh old new content sound held c
    (λ digit small object h none. none (place_of space digit) (ap named (sym (same digit small)) ∙ h))
    (map_of old.keys space)
    (share_keeps_maps old.keys content fresh space (free_unnamed old sound (NodeObject fresh) c.was_free) apart same).0

null_along : (keys : ℕ → Key) (way : List ℕ) → key_along keys Null way ≡ Null
null_along keys [] = refl
null_along keys (digit ∷ way) = rw (null_along keys way) refl

empty_map : (keys : ℕ → Key) (space : ℕ) → ((page : ℕ) → page < 2 ^ 19 → key_at_page keys space page ≡ Null) → map_of keys space ≡ (λ page. None)
unfolding map_of
empty_map keys space none = fun_ext (λ page. ⊎_elim
    (λ (e : nat_lt page (2 ^ 19) ≡ true). rw (e, none page (ltb-true page (2 ^ 19) e)) refl)
    (λ (e : nat_lt page (2 ^ 19) ≡ false). rw e refl)
    (cases_Bool (nat_lt page (2 ^ 19))))

pub call_adds_space : CallAddsSpace
call_adds_space outside fresh old new content sound held c empty =
    added outside fresh old new content sound held c
    (λ digit small object h none. let contra : None ≡ Some object = ap named (sym (empty digit small)) ∙ h in cc)
    (λ page. None)
    (empty_map (filled old.keys fresh content) fresh (λ page below.
    let digit : ℕ = page / 16 / 16 / 16 / 16 % 16 in
    page_parts (filled old.keys fresh content) fresh page
    ∙ ap (λ key. key_along (filled old.keys fresh content) key (digits 4 page))
    (at-filled old.keys content fresh (page / 16 / 16 / 16 / 16 % 16) (omega arith) ∙ empty (page / 16 / 16 / 16 / 16 % 16) (omega arith))
    ∙ null_along (filled old.keys fresh content) (digits 4 page)))
