-- Which generation is taken.
use Rattle.std.proofs.Common.{◌≡◌, ℕ, ◌+◌, ◌%◌, ◌<◌, ◌^◌, Bool, true, false, ◌&&◌, Option, Some, None, refl, ap, arith, if◌then◌else◌}
use Rattle.std.specs.Prelude.{max}
use Rattle.std.proofs.lemmas.Bool.Decides.{nat_tests}
use Rattle.disk_layout.specs.Saved.{may_stand, chosen}

-- a test that was passed
pub when_some : (b : Bool) (s g : ℕ) → (if b then Some s else None) ≡ Some g → (b ≡ true) × (s ≡ g)
when_some true s g e = (refl, cc)
when_some false s g e = cc

pub both_true : (b c : Bool) → (b && c) ≡ true → (b ≡ true) × (c ≡ true)
both_true true c e = (refl, e)
both_true false c e = cc

pub stood : (area g : ℕ) → may_stand area g ≡ true → (0 < g) × (g < 2 ^ 63) × (g % 2 ≡ area)
stood area g e = (grind (arith, nat_tests), grind (arith, nat_tests), grind (arith, nat_tests))

pub stands : (area g : ℕ) → 0 < g → g < 2 ^ 63 → g % 2 ≡ area → may_stand area g ≡ true
stands area g some few even = grind (arith, nat_tests)

-- the area of the next generation isn't the one that is taken
pub drop_first : (first second : Option ℕ) (g : ℕ) → chosen first second ≡ Some g → (g + 1) % 2 ≡ 0 → chosen None second ≡ Some g
unfolding chosen
drop_first None second g e p = e
drop_first (Some x) None g e p =
    let w = when_some (may_stand 0 x) x g e in
    let s = stood 0 x w.0 in
    absurd (omega (arith, w.1, s.2))
drop_first (Some x) (Some y) g e p =
    let w = when_some (may_stand 0 x && may_stand 1 y) (max x y) g e in
    let b = both_true (may_stand 0 x) (may_stand 1 y) w.0 in
    let s = stood 0 x b.0 in
    let t = stood 1 y b.1 in
    let same : y ≡ g = omega (arith, w.1, s.2, t.2) in
    let right : may_stand 1 y ≡ true = b.1 in
    rw right (ap Some same)

pub drop_second : (first second : Option ℕ) (g : ℕ) → chosen first second ≡ Some g → (g + 1) % 2 ≡ 1 → chosen first None ≡ Some g
unfolding chosen
drop_second first None g e p = e
drop_second None (Some y) g e p =
    let w = when_some (may_stand 1 y) y g e in
    let s = stood 1 y w.0 in
    absurd (omega (arith, w.1, s.2))
drop_second (Some x) (Some y) g e p =
    let w = when_some (may_stand 0 x && may_stand 1 y) (max x y) g e in
    let b = both_true (may_stand 0 x) (may_stand 1 y) w.0 in
    let s = stood 0 x b.0 in
    let t = stood 1 y b.1 in
    let same : x ≡ g = omega (arith, w.1, s.2, t.2) in
    let right : may_stand 0 x ≡ true = b.0 in
    rw right (ap Some same)

-- once it is open it is taken
pub add_first : (second : Option ℕ) (g : ℕ) → chosen None second ≡ Some g → (g + 1) % 2 ≡ 0 → g + 1 < 2 ^ 63 → chosen (Some (g + 1)) second ≡ Some (g + 1)
unfolding chosen
add_first None g e p few =
    let b : may_stand 0 (g + 1) ≡ true = stands 0 (g + 1) (omega arith) few p in rw b refl
add_first (Some y) g e p few =
    let w = when_some (may_stand 1 y) y g e in
    let b : may_stand 0 (g + 1) ≡ true = stands 0 (g + 1) (omega arith) few p in
    let c : may_stand 1 y ≡ true = w.0 in
    let most : max (g + 1) y ≡ g + 1 = omega (arith, w.1) in
    rw (b, c) (ap Some most)

pub add_second : (first : Option ℕ) (g : ℕ) → chosen first None ≡ Some g → (g + 1) % 2 ≡ 1 → g + 1 < 2 ^ 63 → chosen first (Some (g + 1)) ≡ Some (g + 1)
unfolding chosen
add_second None g e p few =
    let b : may_stand 1 (g + 1) ≡ true = stands 1 (g + 1) (omega arith) few p in rw b refl
add_second (Some x) g e p few =
    let w = when_some (may_stand 0 x) x g e in
    let b : may_stand 1 (g + 1) ≡ true = stands 1 (g + 1) (omega arith) few p in
    let c : may_stand 0 x ≡ true = w.0 in
    let most : max x (g + 1) ≡ g + 1 = omega (arith, w.1) in
    rw (c, b) (ap Some most)

-- the generation that is taken is in range, and where it isn't 0 it is that of its area
pub chosen-few : (first second : Option ℕ) (g : ℕ) → chosen first second ≡ Some g → g < 2 ^ 63
unfolding chosen
chosen-few None None g e = let is : g ≡ 0 = cc in omega arith
chosen-few (Some x) None g e =
    let w = when_some (may_stand 0 x) x g e in
    let s = stood 0 x w.0 in
    omega (arith, w.1, s.1)
chosen-few None (Some y) g e =
    let w = when_some (may_stand 1 y) y g e in
    let s = stood 1 y w.0 in
    omega (arith, w.1, s.1)
chosen-few (Some x) (Some y) g e =
    let w = when_some (may_stand 0 x && may_stand 1 y) (max x y) g e in
    let b = both_true (may_stand 0 x) (may_stand 1 y) w.0 in
    let s = stood 0 x b.0 in
    let t = stood 1 y b.1 in
    omega (arith, w.1, s.1, t.1)
