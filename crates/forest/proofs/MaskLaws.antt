-- Keys of nodes that belong to no tree are masked out.
use Rattle.std.proofs.Common.{◌≡◌, ◌≢◌, ◌/◌, Bool, true, false, refl, sym, ◌∙◌, if◌then◌else◌, ⊎_elim}
use Rattle.std.specs.Option.{is_some}
use Rattle.std.proofs.Math.Path.{fun_ext}
use Rattle.std.proofs.lemmas.Bool.{cases_eq, eq-eqb, ne_eqb}
use Rattle.kn_base.specs.declared.key.Key.TheVariants.{Null}
use Rattle.unix_model.specs.Tables.{at, with_at}
use Rattle.forest.specs.Objects.{NodeObject, with_object}
use Rattle.forest.specs.Forest.{masked}
use Rattle.forest.specs.Laws.{MaskedWrites, MaskedOwners}
use Rattle.forest.proofs.HeldLaws.{other_object}
use Rattle.forest.proofs.ReleaseLaws.{is_or_not}

pub masked_writes : MaskedWrites
unfolding masked with_at
masked_writes owner keys place key = (
  λ none. fun_ext (λ p. ⊎_elim
      (λ (t : p ≡ place). rw (t, none) refl)
      (λ (t : p ≢ place). rw (ne_eqb p place t) refl)
      (cases_eq p place)),
  λ some. fun_ext (λ p. ⊎_elim
      (λ (t : p ≡ place). rw (t, some, eq-eqb place place refl) refl)
      (λ (t : p ≢ place). rw (ne_eqb p place t) refl)
      (cases_eq p place)),
)

if_same : {X : Type 0} (b : Bool) (x : X) → (if b then x else x) ≡ x
if_same true x = refl
if_same false x = refl

pub masked_owners : MaskedOwners
unfolding masked at
masked_owners owner keys object now empty = fun_ext (λ p. ⊎_elim
    (λ (t : NodeObject (p / 16) ≡ object).
    rw (empty p t) (if_same (is_some (with_object owner object now (NodeObject (p / 16)))) Null ∙ sym (if_same (is_some (owner (NodeObject (p / 16)))) Null)))
    (λ (t : NodeObject (p / 16) ≢ object). rw (other_object owner object now (NodeObject (p / 16)) t) refl)
    (is_or_not (NodeObject (p / 16)) object))
