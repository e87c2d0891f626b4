-- Copying home.
use Rattle.std.proofs.Common.{◌≡◌, ◌≢◌, ⊎_elim, ℕ, zero, suc, ◌+◌, ◌*◌, ◌<◌, ◌≤◌, Bool, true, false, ◌||◌, List, length, refl, sym, ◌∙◌, ap, subst, arith}
use Rattle.std.specs.Prelude.{◌==◌}
use Rattle.std.proofs.lemmas.List.{get_or_past}
use Rattle.std.proofs.lemmas.Bool.{cases_lt, cases_eq}
use Rattle.std.proofs.lemmas.Bool.Decides.{nat_tests}
use Rattle.kn_base.specs.Rows.{part_at, overwritten}
use Rattle.kn_base.proofs.RowLaws.{part_at-overwritten}
use Rattle.kn_disk.specs.Images.{Scarred, After, Elapses, LeavesOnly}
use Rattle.kn_disk.proofs.Scars.{scar-part_below, scar-part_above, scar-written}
use Rattle.kn_disk.proofs.RunLaws.{leaves-call, leaves-joined, leaves-wider}
use Rattle.disk_layout.specs.Sizes.{entry, content, contents_from, area_size, home_start, disk_size, area_in}
use Rattle.disk_layout.specs.Saved.{ascends, least}
use Rattle.disk_layout.specs.Position.{touched, HomeScarred}
use Rattle.disk_layout.specs.Runs.{Still}
use Rattle.disk_layout.proofs.HomeLaws.{ascends-last, entry_below}
use Rattle.migrate.specs.Moving.{Moving}

-- the entries of an area that ascend differ
entry_least : (blocks : ℕ) (area : List ℕ) (n i : ℕ) → ascends blocks area n ≡ true → i < n → entry area i < least area n
unfolding least
entry_least blocks area zero i e h = absurd (omega arith)
entry_least blocks area (suc n) i e h =
    let s = ascends-last blocks area n e in
    ⊎_elim (λ (l : i < n). omega (arith, entry_least blocks area n i s.0 l, s.1))
    (λ (l : n ≤ i). let same : i ≡ n = omega arith in rw same (omega arith))
    (cases_lt i n)

entries_differ : (blocks : ℕ) (area : List ℕ) (n i j : ℕ) → ascends blocks area n ≡ true → i < n → j < i → entry area j < entry area i
entries_differ blocks area zero i j e h l = absurd (omega arith)
entries_differ blocks area (suc n) i j e h l =
    let s = ascends-last blocks area n e in
    ⊎_elim (λ (inner : i < n). entries_differ blocks area n i j s.0 inner l)
    (λ (last : n ≤ i).
    let same : i ≡ n = omega arith in
    rw same (omega (arith, entry_least blocks area n j s.0 (omega arith), s.1)))
    (cases_lt i n)

-- an entry's block is touched
pub touched-entry : (area : List ℕ) (n i : ℕ) → i < n → touched area n (entry area i) ≡ true
unfolding touched
touched-entry area zero i h = absurd (omega arith)
touched-entry area (suc n) i h =
    ⊎_elim
    (λ (l : i < n). or_true (entry area n == entry area i) (touched area n (entry area i)) (touched-entry area n i l))
    (λ (l : n ≤ i).
    let same : i ≡ n = omega arith in
    rw same (let test : (entry area n == entry area n) ≡ true = grind (arith, nat_tests) in rw test refl))
    (cases_lt i n)
  where
    or_true : (b c : Bool) → c ≡ true → (b || c) ≡ true
    or_true true c e = refl
    or_true false c e = e

-- a home block of an entry is torn once more
pub home-joined : (blocks n : ℕ) (area base mid new : List ℕ) (e : ℕ) → HomeScarred blocks n area base mid → touched area n e ≡ true → Scarred (home_start blocks + 4096 * e) 4096 mid new → HomeScarred blocks n area base new
home-joined blocks n area base mid new e s t torn = record {
  size = torn.size ∙ s.size;
  front = λ k h. torn.below k (omega arith) ∙ s.front k h;
  others = λ b h f.
      ⊎_elim
      (λ (low : b < e).
      scar-part_below (home_start blocks + 4096 * e) 4096 mid new (home_start blocks + 4096 * b) 4096 torn (omega arith) ∙ s.others b h f)
      (λ (high : e ≤ b).
      ⊎_elim
      (λ (same : b ≡ e). let clash : touched area n b ≡ true = rw same t in absurd (differ (touched area n b) clash f))
      (λ (other : b ≢ e).
      scar-part_above (home_start blocks + 4096 * e) 4096 mid new (home_start blocks + 4096 * b) 4096 torn (omega arith) ∙ s.others b h f)
      (cases_eq b e))
      (cases_lt b e);
}
  where
    differ : (b : Bool) → b ≡ true → b ≡ false → ⊥
    differ b e f = cc

-- the area stays as it is
pub area-same : (blocks n start : ℕ) (area base now : List ℕ) → HomeScarred blocks n area base now → length base ≡ disk_size blocks → start + area_size blocks ≤ home_start blocks → area_in blocks start now ≡ area_in blocks start base
area-same blocks n start area base now s size place =
    scar-part_below (home_start blocks) (4096 * blocks) base now start (area_size blocks)
    (record {
      size = s.size;
      below = s.front;
      above = λ k h. get_or_past now k 0 (omega (arith, s.size)) ∙ sym (get_or_past base k 0 (omega arith));
    })
    place

-- one more block is home
pub moved-more : (blocks n start : ℕ) (base now new : List ℕ) (old_image image : List ℕ → Type 0) (i e : ℕ) (block : List ℕ) → i < n → Moving blocks n start base now old_image i → e ≡ entry (area_in blocks start now) i → block ≡ content (contents_from blocks) (area_in blocks start now) i → length block ≡ 4096 → new ≡ overwritten now (home_start blocks + 4096 * e) block → ((c : List ℕ) → image c → HomeScarred blocks n (area_in blocks start base) base c) → Moving blocks n start base new image (i + 1)
moved-more blocks n start base now new old_image image i e block h m number is whole written images =
    let area = area-same blocks n start (area_in blocks start base) base now m.now_is m.size m.place in
    let number_is : e ≡ entry (area_in blocks start base) i = number ∙ ap (λ (a : List ℕ). entry a i) area in
    let block_is : block ≡ content (contents_from blocks) (area_in blocks start base) i = is ∙ ap (λ (a : List ℕ). content (contents_from blocks) a i) area in
    let low : e < blocks = omega (arith, number_is, entry_below blocks (area_in blocks start base) n i m.sound h) in
    let long_enough : home_start blocks + 4096 * e + length block ≤ length now = omega (arith, m.now_is.size, m.size) in
    let t : touched (area_in blocks start base) n e ≡ true = ap (touched (area_in blocks start base) n) number_is ∙ touched-entry (area_in blocks start base) n i h in
    let torn : Scarred (home_start blocks + 4096 * e) 4096 now new =
    subst (Scarred (home_start blocks + 4096 * e) 4096 now) (sym written)
    (subst (λ k. Scarred (home_start blocks + 4096 * e) k now (overwritten now (home_start blocks + 4096 * e) block)) whole
    (scar-written now (home_start blocks + 4096 * e) block long_enough)) in
    record {
      size = m.size;
      place = m.place;
      sound = m.sound;
      images = images;
      now_is = home-joined blocks n (area_in blocks start base) base now new e m.now_is t torn;
      done = λ j l.
          ⊎_elim
          (λ (before : j < i).
          let differs = entries_differ blocks (area_in blocks start base) n i j m.sound h before in
          scar-part_below (home_start blocks + 4096 * e) 4096 now new (home_start blocks + 4096 * entry (area_in blocks start base) j) 4096 torn (omega arith)
          ∙ m.done j before)
          (λ (here : i ≤ j).
          let same : j ≡ i = omega arith in
          rw same
          (ap (λ k. part_at new (home_start blocks + 4096 * k) 4096) (sym number_is)
          ∙ ap (λ (c : List ℕ). part_at c (home_start blocks + 4096 * e) 4096) written
          ∙ part_at-overwritten now (home_start blocks + 4096 * e) block 4096 whole (omega (arith, long_enough)) ∙ block_is))
          (cases_lt j i);
    }

-- the calls that move a block
module _ {D : Type 0} (tells : Type 0) (contents : D → List ℕ) (moment : D → ℕ) (image : D → List ℕ → Type 0) (since : D → ℕ → List ℕ → Type 0) (blocks n start : ℕ) (base : List ℕ) (i : ℕ) (d0 : D) (m : Moving blocks n start base (contents d0) (image d0) i) where
  pub read_once : (d1 : D) → Still tells contents moment image since d0 d1 → LeavesOnly moment since (HomeScarred blocks n (area_in blocks start base) base) d0 d1
  read_once d1 s = leaves-wider moment image since (image d0) (HomeScarred blocks n (area_in blocks start base) base) d0 d1 m.images s.leaves

  pub read_twice : (d1 d2 : D) → Still tells contents moment image since d0 d1 → Still tells contents moment image since d1 d2 → LeavesOnly moment since (HomeScarred blocks n (area_in blocks start base) base) d0 d2
  read_twice d1 d2 s t =
      leaves-joined moment image since (HomeScarred blocks n (area_in blocks start base) base) d0 d1 d2 (read_once d1 s)
      (leaves-wider moment image since (image d1) (HomeScarred blocks n (area_in blocks start base) base) d1 d2 (λ c now. m.images c (s.images c now)) t.leaves)

  pub number-is : tells → (d1 : D) (e : ℕ) → i < n → Still tells contents moment image since d0 d1 → e ≡ entry (area_in blocks start (contents d0)) i → touched (area_in blocks start base) n e ≡ true
  number-is told d1 e h s is =
      ap (touched (area_in blocks start base) n) (is ∙ ap (λ (a : List ℕ). entry a i) (area-same blocks n start (area_in blocks start base) base (contents d0) m.now_is m.size m.place))
      ∙ touched-entry (area_in blocks start base) n i h

  pub image_written : (d1 d2 d3 : D) (e : ℕ) → touched (area_in blocks start base) n e ≡ true → Still tells contents moment image since d0 d1 → Still tells contents moment image since d1 d2 → ((c : List ℕ) → image d3 c → After (Scarred (home_start blocks + 4096 * e) 4096) (image d2) c) → (c : List ℕ) → image d3 c → HomeScarred blocks n (area_in blocks start base) base c
  image_written d1 d2 d3 e t s u images c now =
      let before = images c now in
      home-joined blocks n (area_in blocks start base) base before.0 c e (m.images before.0 (s.images before.0 (u.images before.0 before.1))) t before.2

  pub moved_leaves : (d1 d2 d3 : D) (e : ℕ) → touched (area_in blocks start base) n e ≡ true → Still tells contents moment image since d0 d1 → Still tells contents moment image since d1 d2 → Elapses moment image since d2 d3 → ((c : List ℕ) → image d3 c → After (Scarred (home_start blocks + 4096 * e) 4096) (image d2) c) → LeavesOnly moment since (HomeScarred blocks n (area_in blocks start base) base) d0 d3
  moved_leaves d1 d2 d3 e t s u time images =
      leaves-joined moment image since (HomeScarred blocks n (area_in blocks start base) base) d0 d2 d3 (read_twice d1 d2 s u)
      (leaves-call moment image since (HomeScarred blocks n (area_in blocks start base) base) d2 d3 time (image_written d1 d2 d3 e t s u images))

pub moving-size : (blocks n start : ℕ) (base now : List ℕ) (image : List ℕ → Type 0) (i : ℕ) → Moving blocks n start base now image i → length now ≡ disk_size blocks
moving-size blocks n start base now image i m = m.now_is.size ∙ m.size

pub moving-entry : (blocks n start : ℕ) (base now : List ℕ) (image : List ℕ → Type 0) (i : ℕ) → i < n → Moving blocks n start base now image i → entry (area_in blocks start now) i < blocks
moving-entry blocks n start base now image i h m =
    let same = ap (λ (a : List ℕ). entry a i) (area-same blocks n start (area_in blocks start base) base now m.now_is m.size m.place) in
    omega (arith, same, entry_below blocks (area_in blocks start base) n i m.sound h)
