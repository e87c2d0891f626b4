-- From what a position says of a disk to a migration, and back.
use Rattle.std.proofs.Common.{◌≡◌, ℕ, ◌+◌, ◌*◌, ◌%◌, ◌<◌, ◌≤◌, Bool, List, Some, refl, sym, ◌∙◌, ap, subst, arith, if◌then◌else◌}
use Rattle.std.specs.Prelude.{◌==◌}
use Rattle.kn_disk.specs.Images.{LeavesOnly}
use Rattle.kn_disk.proofs.RunLaws.{leaves-wider}
use Rattle.disk_layout.specs.Sizes.{blocks_for, contents_from, area_size, area_start, area_in, word, entry, content, home_block}
use Rattle.disk_layout.specs.Saved.{raw, label_in, blocks_named, pages_named, generation_of, blocks_of, area_at, entries_at, SameMachine}
use Rattle.disk_layout.specs.Position.{HomeScarred, StandsFor, Stands}
use Rattle.disk_layout.proofs.SizeLaws.{place_fits}
use Rattle.disk_layout.proofs.RawLaws.{raw-holds, machine-is, blocks-named}
use Rattle.disk_layout.proofs.HomeLaws.{same_machine, home-none}
use Rattle.migrate.specs.Moving.{Moving, IsMoving}
use Rattle.migrate.proofs.MoveLaws.{area-same}

begin_moving : (blocks g moved : ℕ) (contents : List ℕ) (image : List ℕ → Type 0) → blocks_named (label_in contents) ≡ Some blocks → StandsFor blocks g moved contents image → Moving blocks (entries_at blocks g contents) (area_start blocks (g % 2)) contents contents image moved
begin_moving blocks g moved contents image sized s = record {
  size = s.size;
  place = place_fits blocks g;
  sound = (raw-holds blocks g (blocks_of (raw contents)) contents sized (machine-is (raw contents) g s.holds)).sound;
  images = s.images;
  now_is = home-none blocks (entries_at blocks g contents) (area_at blocks g contents) contents;
  done = s.done;
}

home-between : (blocks n : ℕ) (area base a b : List ℕ) → HomeScarred blocks n area base a → HomeScarred blocks n area base b → HomeScarred blocks n area a b
home-between blocks n area base a b s t = record {
  size = t.size ∙ sym s.size;
  front = λ k h. t.front k h ∙ sym (s.front k h);
  others = λ k h f. t.others k h f ∙ sym (s.others k h f);
}

-- what a position says once more is moved
module _ (blocks g moved until : ℕ) (contents now : List ℕ) (image later : List ℕ → Type 0) (sized : blocks_named (label_in contents) ≡ Some blocks) (s : StandsFor blocks g moved contents image) (few : until ≤ entries_at blocks g contents) (m : Moving blocks (entries_at blocks g contents) (area_start blocks (g % 2)) contents now later until) where
  area : area_at blocks g now ≡ area_at blocks g contents
  area = area-same blocks (entries_at blocks g contents) (area_start blocks (g % 2)) (area_at blocks g contents) contents now m.now_is m.size m.place

  count : entries_at blocks g now ≡ entries_at blocks g contents
  count = ap (λ (a : List ℕ). if (g == 0) then 0 else word a 16) area

  same_now : SameMachine contents now
  same_now = same_machine blocks g moved contents image sized s now m.now_is

  end_moving : StandsFor blocks g until now later
  end_moving = record {
    holds = ap generation_of same_now.machine ∙ s.holds;
    size = m.now_is.size ∙ s.size;
    few = subst (λ n. until ≤ n) (sym count) few;
    done = subst (λ (a : List ℕ). (i : ℕ) → i < until → home_block blocks now (entry a i) ≡ content (contents_from blocks) a i) (sym area) m.done;
    images = λ c left.
        subst (λ (a : List ℕ). HomeScarred blocks (entries_at blocks g now) a now c) (sym area)
        (subst (λ n. HomeScarred blocks n (area_at blocks g contents) now c) (sym count)
        (home-between blocks (entries_at blocks g contents) (area_at blocks g contents) contents now c m.now_is (m.images c left)));
  }

-- The same for a position, and a place of code.
module _ (pages g entries moved : ℕ) (synced : Bool) (contents : List ℕ) (image : List ℕ → Type 0) (stands : Stands pages g entries moved synced contents image) (k start : ℕ) (e : k ≡ blocks_for pages) (s : start ≡ 4096 + g % 2 * area_size k) where
  sized : blocks_named (label_in contents) ≡ Some (blocks_for pages)
  sized = blocks-named (label_in contents) pages stands.named

  start_is : start ≡ area_start (blocks_for pages) (g % 2)
  start_is = s ∙ ap (λ n. 4096 + g % 2 * area_size n) e

  pub first : Moving k (entries_at (blocks_for pages) g contents) start contents contents image moved
  first =
      subst (λ n. Moving n (entries_at (blocks_for pages) g contents) start contents contents image moved) (sym e)
      (subst (λ n. Moving (blocks_for pages) (entries_at (blocks_for pages) g contents) n contents contents image moved) (sym start_is) (begin_moving (blocks_for pages) g moved contents image sized stands.disk))

  pub enough : (until : ℕ) → until ≤ entries → until ≤ entries_at (blocks_for pages) g contents
  enough until few = omega (arith, stands.counted)

  pub is_moving : (until : ℕ) → until ≤ entries → IsMoving k until start contents image moved
  is_moving until few = record { n = entries_at (blocks_for pages) g contents; base = contents; enough = enough until few; moving = first }

  scar_at : (c : List ℕ) → HomeScarred k (entries_at (blocks_for pages) g contents) (area_in k start contents) contents c → HomeScarred (blocks_for pages) (entries_at (blocks_for pages) g contents) (area_at (blocks_for pages) g contents) contents c
  scar_at c h =
      subst (λ n. HomeScarred (blocks_for pages) (entries_at (blocks_for pages) g contents) (area_in (blocks_for pages) n contents) contents c) start_is
      (subst (λ n. HomeScarred n (entries_at (blocks_for pages) g contents) (area_in n start contents) contents c) e h)

  pub same_after : (c : List ℕ) → HomeScarred k (entries_at (blocks_for pages) g contents) (area_in k start contents) contents c → SameMachine contents c
  same_after c h = same_machine (blocks_for pages) g moved contents image sized stands.disk c (scar_at c h)

  module _ (until : ℕ) (few : until ≤ entries) (now : List ℕ) (later : List ℕ → Type 0) (m : Moving k (entries_at (blocks_for pages) g contents) start contents now later until) where
    at_place : Moving (blocks_for pages) (entries_at (blocks_for pages) g contents) (area_start (blocks_for pages) (g % 2)) contents now later until
    at_place =
        subst (λ n. Moving (blocks_for pages) (entries_at (blocks_for pages) g contents) n contents now later until) start_is
        (subst (λ n. Moving n (entries_at (blocks_for pages) g contents) start contents now later until) e m)

    pub stands_after : Stands pages g entries until (until == entries) now later
    stands_after = record {
      named = ap pages_named (same_now (blocks_for pages) g moved until contents now image later sized stands.disk (enough until few) at_place).label ∙ stands.named;
      disk = end_moving (blocks_for pages) g moved until contents now image later sized stands.disk (enough until few) at_place;
      counted = stands.counted ∙ sym (count (blocks_for pages) g moved until contents now image later sized stands.disk (enough until few) at_place);
      told = refl;
    }

  pub leaves_same : {D : Type 0} (moment : D → ℕ) (images : D → List ℕ → Type 0) (since : D → ℕ → List ℕ → Type 0) (d0 d1 : D) → LeavesOnly moment since (HomeScarred k (entries_at (blocks_for pages) g contents) (area_in k start contents) contents) d0 d1 → LeavesOnly moment since (SameMachine contents) d0 d1
  leaves_same moment images since d0 d1 run = leaves-wider moment images since (HomeScarred k (entries_at (blocks_for pages) g contents) (area_in k start contents) contents) (SameMachine contents) d0 d1 same_after run

-- a sync
pub stands-synced : (pages g entries moved : ℕ) (synced : Bool) (contents now : List ℕ) (image later : List ℕ → Type 0) → Stands pages g entries moved synced contents image → now ≡ contents → ((c : List ℕ) → later c → image c) → Stands pages g entries moved synced now later
stands-synced pages g entries moved synced contents now image later s same fewer =
    subst (λ n. Stands pages g entries moved synced n later) (sym same)
    (record {
      named = s.named;
      disk = record { holds = s.disk.holds; size = s.disk.size; few = s.disk.few; done = s.disk.done; images = λ c left. s.disk.images c (fewer c left) };
      counted = s.counted;
      told = s.told;
    })

-- each image of a disk for which a position stands is the same machine
pub stands-same : (pages g entries moved : ℕ) (synced : Bool) (contents : List ℕ) (image : List ℕ → Type 0) → Stands pages g entries moved synced contents image → (c : List ℕ) → image c → SameMachine contents c
stands-same pages g entries moved synced contents image s c now =
    same_machine (blocks_for pages) g moved contents image (blocks-named (label_in contents) pages s.named) s.disk c (s.disk.images c now)
