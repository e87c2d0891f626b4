-- Walks in keys, without counts: what is named by one place alone is reached on one way alone.
use Rattle.std.proofs.Common.{◌≡◌, ℕ, Some, List, [], ◌∷◌, refl, ap, sym, ◌∙◌, arith}
use Rattle.std.specs.Bool.{⊤}
use Rattle.kn_base.specs.declared.key.Key.{Key}
use Rattle.kn_base.specs.declared.key.Key.TheVariants.{Segment}
use Rattle.unix_model.specs.Tables.{at}
use Rattle.forest.specs.Objects.{Object, NodeObject, named}
use Rattle.forest.specs.Walks.{place_of, key_below, key_along, space_key, IsWay}
use Rattle.forest.specs.Forest.{NobodyNames, EndsAt}

-- at most one place names the object
abbrev pub Alone : (ℕ → Key) → Object → Type 0
Alone keys object = (p q : ℕ) → named (at keys p) ≡ Some object → named (at keys q) ≡ Some object → p ≡ q

-- each object below the root on the way is named by one place alone
abbrev pub AloneWay : (ℕ → Key) → ℕ → List ℕ → Type 0
AloneWay keys space [] = ⊤
AloneWay keys space (digit ∷ way) =
    ((object : Object) → EndsAt keys space (digit ∷ way) object → Alone keys object) × AloneWay keys space way

-- an object that a key of a node names: the node that was stepped through, and the place
pub record Step (keys : ℕ → Key) (upper : Key) (digit : ℕ) (object : Object) : Type 0 where
  pub node : ℕ
  pub upper_names : named upper ≡ Some (NodeObject node)
  pub here : named (at keys (place_of node digit)) ≡ Some object
  pub is : key_below keys upper digit ≡ at keys (place_of node digit)

pub step : (keys : ℕ → Key) (upper : Key) (digit : ℕ) (object : Object) → named (key_below keys upper digit) ≡ Some object → Step keys upper digit object
step keys (Segment node height) digit object h = record { node = node.0; upper_names = refl; here = h; is = refl }
step keys _ digit object h = cc

-- the central lemma: two ways to one object, where one of them goes through what is named by one place alone
pub central : (keys : ℕ → Key) (space other : ℕ) → NobodyNames keys (NodeObject space) → NobodyNames keys (NodeObject other)
    → (way other_way : List ℕ) → IsWay way → IsWay other_way → AloneWay keys space way
    → (object : Object) → EndsAt keys space way object → EndsAt keys other other_way object
    → (other ≡ space) × (other_way ≡ way)
central keys space other free other_free [] [] w v a object h k = (cc, refl)
central keys space other free other_free [] (e ∷ es) w v a object h k =
    let s = step keys (key_along keys (space_key other) es) e object k in
    let there : named (at keys (place_of s.node e)) ≡ Some (NodeObject space) = s.here ∙ sym h in
    absurd (free (place_of s.node e) there)
central keys space other free other_free (d ∷ ds) [] w v a object h k =
    let s = step keys (key_along keys (space_key space) ds) d object h in
    let there : named (at keys (place_of s.node d)) ≡ Some (NodeObject other) = s.here ∙ sym k in
    absurd (other_free (place_of s.node d) there)
central keys space other free other_free (d ∷ ds) (e ∷ es) w v a object h k =
    let s = step keys (key_along keys (space_key space) ds) d object h in
    let t = step keys (key_along keys (space_key other) es) e object k in
    let same : place_of s.node d ≡ place_of t.node e = a.0 object h (place_of s.node d) (place_of t.node e) s.here t.here in
    let d_below = w.0 in
    let e_below = v.0 in
    let nodes : t.node ≡ s.node = omega arith in
    let digits : e ≡ d = omega arith in
    let rest = central keys space other free other_free ds es w.1 v.1 a.1 (NodeObject s.node) s.upper_names (t.upper_names ∙ ap (λ n. Some (NodeObject n)) nodes) in
    (rest.0, cc)
