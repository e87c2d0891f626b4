-- Whether a node has a key that isn't Null: place by place.
use Rattle.std.proofs.Common.{◌≡◌, ◌≢◌, ◌<◌, ◌+◌, ◌&&◌, ◌==◌, Some, ℕ, Bool, true, false, refl, ap, sym, ◌∙◌, arith, ⊎_elim}
use Rattle.std.proofs.lemmas.Bool.{cases_eq, cases_Bool}
use Rattle.kn_base.specs.declared.key.Key.{Key}
use Rattle.kn_base.specs.declared.key.Key.TheVariants.{Null, Page, Segment}
use Rattle.kn_base.specs.declared.key.NodeId.{NodeId}
use Rattle.forest.specs.Objects.{NodeObject, named}
use Rattle.forest.proofs.MapLaws.{page_no_node}

and_left : (one other : Bool) → (one && other) ≡ true → (one ≡ true) × (other ≡ true)
and_left true other e = (refl, e)
and_left false other e = cc

pub nulls_more : (keys : ℕ → Key) (digit : ℕ) (so_far here both : Bool) (key : Key) → (so_far ≡ true → (d : ℕ) → d < digit → keys d ≡ Null) → (here ≡ true → key ≡ Null) → key ≡ keys digit
    → both ≡ (so_far && here) → both ≡ true → (d : ℕ) → d < digit + 1 → keys d ≡ Null
nulls_more keys digit so_far here both key before null is all e d less =
    let parts = and_left so_far here (sym all ∙ e) in
    ⊎_elim
    (λ (t : d ≡ digit). ap keys t ∙ sym is ∙ null parts.1)
    (λ (t : d ≢ digit). before parts.0 d (omega arith))
    (cases_eq d digit)

pub filled_more : (keys : ℕ → Key) (digit : ℕ) (so_far here both : Bool) (key : Key) → (so_far ≡ false → (d : ℕ) × (d < digit) × (keys d ≢ Null)) → (here ≡ false → key ≢ Null) → key ≡ keys digit
    → both ≡ (so_far && here) → both ≡ false → (d : ℕ) × (d < digit + 1) × (keys d ≢ Null)
filled_more keys digit so_far here both key before other is all e = ⊎_elim
    (λ (t : so_far ≡ true).
    let now : here ≡ false = ap (λ b. b && here) (sym t) ∙ sym all ∙ e in
    (digit, omega arith, λ null. other now (is ∙ null)))
    (λ (t : so_far ≡ false). let some = before t in let below = some.1 in (some.0, omega arith, some.2))
    (cases_Bool so_far)

-- a key that is no node's names no node
pub no_node : (key : Key) → ((node : NodeId) (height : ℕ) → key ≡ Segment node height → ⊥) → (node : ℕ) → named key ≡ Some (NodeObject node) → ⊥
no_node (Segment node height) none n h = none node height refl
no_node (Page page writable) none n h = page_no_node page.0 n (page.0 == 0) h
no_node _ none n h = cc
