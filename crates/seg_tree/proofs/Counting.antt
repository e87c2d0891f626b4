-- How many pages stand below a key.
use Rattle.std.proofs.Common.{◌≡◌, ◌≢◌, ◌≤◌, ◌+◌, ◌-◌, ◌*◌, ℕ, zero, suc, Some, true, false, refl, ap, sym, arith, ⊎_elim, add-one, ◌∙◌}
use Rattle.std.specs.Option.{is_some, IsSome}
use Rattle.std.proofs.lemmas.Bool.{cases_Bool}
use Rattle.kn_base.specs.declared.key.Key.{Key}
use Rattle.kn_base.specs.declared.key.Key.TheVariants.{Null, Number, Page, Node, Segment, Start, Resume, Domain, Meter, Service}
use Rattle.kn_base.specs.declared.key.NodeId.{NodeId}
use Rattle.unix_model.specs.Tables.{at, sum_below}
use Rattle.forest.specs.Objects.{NodeObject, named}
use Rattle.forest.specs.Walks.{place_of, key_below, mapping_of}
use Rattle.forest.specs.Forest.{Forest, Sound}
use Rattle.forest.specs.Mapped.{mapped, pages_below}
use Rattle.forest.proofs.MappedLaws.{mapped_is_sum}
use Rattle.forest.proofs.OwnLaws.{owned_object}
use Rattle.forest.proofs.WalkLaws.{step}

-- at most so many pages stand so many levels below a key
most : ℕ → ℕ
most zero = 1
most (suc levels) = 16 * most levels

sum_most : (f : ℕ → ℕ) (n m : ℕ) → ((k : ℕ) → f k ≤ m) → sum_below f n ≤ n * m
unfolding sum_below
sum_most f zero m few = omega arith
sum_most f (suc n) m few = let rest = sum_most f n m few in let here = few n in omega arith

below_most : (keys : ℕ → Key) (key : Key) (levels : ℕ) → pages_below keys key levels ≤ most levels
unfolding most
below_most keys key zero = ⊎_elim
    (λ (t : is_some (mapping_of key) ≡ true). rw t (omega arith))
    (λ (t : is_some (mapping_of key) ≡ false). rw t (omega arith))
    (cases_Bool (is_some (mapping_of key)))
below_most keys key (suc levels) = sum_most (λ digit. pages_below keys (key_below keys key digit) levels) 16 (most levels) (λ digit. below_most keys (key_below keys key digit) levels)

few_most : (levels : ℕ) → levels ≤ 4 → most levels ≤ 65536
unfolding most
few_most zero low = omega arith
few_most (suc zero) low = omega arith
few_most (suc (suc zero)) low = omega arith
few_most (suc (suc (suc zero))) low = omega arith
few_most (suc (suc (suc (suc zero)))) low = omega arith
few_most (suc (suc (suc (suc (suc levels))))) low = absurd (omega arith)

pub below_few : (keys : ℕ → Key) (key : Key) (levels : ℕ) → levels ≤ 4 → pages_below keys key levels ≤ 65536
below_few keys key levels low = let a = below_most keys key levels in let b = few_most levels low in omega arith

sum_none : (f : ℕ → ℕ) (n : ℕ) → ((k : ℕ) → f k ≡ 0) → sum_below f n ≡ 0
unfolding sum_below
sum_none f zero none = refl
sum_none f (suc n) none = let rest = sum_none f n none in let here = none n in omega arith

pub sum_few : (f : ℕ → ℕ) (n : ℕ) → ((k : ℕ) → f k ≤ 65536) → sum_below f n ≤ n * 65536
sum_few f n few = sum_most f n 65536 few

pub none_so_far : (f : ℕ → ℕ) → 0 ≡ sum_below f 0
unfolding sum_below
none_so_far f = refl

pub one_more_part : (f : ℕ → ℕ) (n pages part : ℕ) → pages ≡ sum_below f n → part ≡ f n → pages + part ≡ sum_below f (n + 1)
unfolding sum_below
one_more_part f n pages part so_far here = rw (add-one n) (omega arith)

-- the key may be told in another way
pub pages_told : (keys : ℕ → Key) (key told : Key) (levels pages : ℕ) → key ≡ told → pages ≡ pages_below keys key levels → pages ≡ pages_below keys told levels
pages_told keys key told levels pages same is = is ∙ ap (λ k. pages_below keys k levels) same

pub pages_leaf : (keys : ℕ → Key) (key : Key) (levels pages : ℕ) → levels ≡ 0 → pages ≡ pages_below keys key 0 → pages ≡ pages_below keys key levels
pages_leaf keys key levels pages e is = is ∙ ap (pages_below keys key) (sym e)

pages_split : (keys : ℕ → Key) (key : Key) (levels : ℕ) → levels ≢ 0
    → pages_below keys key levels ≡ sum_below (λ digit. pages_below keys (key_below keys key digit) (levels - 1)) 16
pages_split keys key zero some = absurd (some refl)
pages_split keys key (suc levels) some =
    let e : suc levels - 1 ≡ levels = omega arith in
    ap (λ n. sum_below (λ digit. pages_below keys (key_below keys key digit) n) 16) (sym e)

-- all parts of a key that has levels below it, ..
pub pages_parts : (keys : ℕ → Key) (key : Key) (levels digit pages : ℕ) → levels ≢ 0 → digit ≡ 16
    → pages ≡ sum_below (λ d. pages_below keys (key_below keys key d) (levels - 1)) digit → pages ≡ pages_below keys key levels
pages_parts keys key levels digit pages some all is = is ∙ ap (sum_below (λ d. pages_below keys (key_below keys key d) (levels - 1))) all ∙ sym (pages_split keys key levels some)

-- .. and the eight of a space
pub mapped_parts : (keys : ℕ → Key) (space digit pages : ℕ) → digit ≡ 8 → pages ≡ sum_below (λ d. pages_below keys (at keys (place_of space d)) 4) digit → pages ≡ mapped keys space
mapped_parts keys space digit pages all is = is ∙ ap (sum_below (λ d. pages_below keys (at keys (place_of space d)) 4)) all ∙ sym (mapped_is_sum keys space)

-- a node that the key found there names belongs to a tree
pub below_owned : (forest : Forest) → Sound forest → (upper key : Key) (digit node : ℕ) → key ≡ key_below forest.keys upper digit → named key ≡ Some (NodeObject node) → IsSome (forest.owner (NodeObject node))
below_owned forest sound upper key digit node is h =
    let s = step forest.keys upper digit (NodeObject node) (ap named (sym is) ∙ h) in
    owned_object forest sound (place_of s.node digit) (NodeObject node) s.here

pub place_owned : (forest : Forest) → Sound forest → (key : Key) (place node : ℕ) → key ≡ at forest.keys place → named key ≡ Some (NodeObject node) → IsSome (forest.owner (NodeObject node))
place_owned forest sound key place node is h = owned_object forest sound place (NodeObject node) (ap named (sym is) ∙ h)

-- below Null no page stands, ..
nothing_below : (keys : ℕ → Key) (levels : ℕ) → pages_below keys Null levels ≡ 0
nothing_below keys zero = refl
nothing_below keys (suc levels) = sum_none (λ digit. pages_below keys (key_below keys Null digit) levels) 16 (λ digit. nothing_below keys levels)

-- .. nor below any key but that of a node
pub none_below : (keys : ℕ → Key) (key : Key) (levels : ℕ) → ((digit : ℕ) → key_below keys key digit ≡ Null) → levels ≢ 0 → pages_below keys key levels ≡ 0
none_below keys key zero ends some = absurd (some refl)
none_below keys key (suc levels) ends some =
    sum_none (λ digit. pages_below keys (key_below keys key digit) levels) 16 (λ digit. ap (λ below. pages_below keys below levels) (ends digit) ∙ nothing_below keys levels)

pub ends_below : (keys : ℕ → Key) (key : Key) → ((node : NodeId) (height : ℕ) → key ≢ Segment node height) → (digit : ℕ) → key_below keys key digit ≡ Null
ends_below keys Null other digit = refl
ends_below keys (Number body) other digit = refl
ends_below keys (Page page writable) other digit = refl
ends_below keys (Node node) other digit = refl
ends_below keys (Segment node height) other digit = absurd (other node height refl)
ends_below keys (Start root byte) other digit = refl
ends_below keys (Resume root count) other digit = refl
ends_below keys (Domain root) other digit = refl
ends_below keys (Meter slot) other digit = refl
ends_below keys (Service code) other digit = refl
