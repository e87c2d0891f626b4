-- The steps of a commit, one after the other.
use Rattle.std.proofs.lemmas.Bool.{cases_eq}
use Rattle.std.proofs.Common.{Some, Bool, false, if◌then◌else◌, refl, ◌≢◌, ◌≡◌, ◌⊎◌, inl, inr, ⊎_elim, ℕ, ◌+◌, ◌-◌, ◌*◌, ◌%◌, ◌^◌, ◌<◌, ◌≤◌, List, length, sym, ◌∙◌, ap, subst, arith}
use Rattle.kn_disk.specs.Images.{Scarred, LeavesOnly}
use Rattle.kn_disk.proofs.Scars.{scar-wider}
use Rattle.obj_store.specs.Ram.{Ram}
use Rattle.kn_disk.specs.Images.{Inside, Only}
use Rattle.kn_disk.proofs.RunLaws.{leaves-joined, leaves-wider, leaves-inside, after-only}
use Rattle.std.specs.Prelude.{◌==◌}
use Rattle.std.proofs.lemmas.Bool.Decides.{nat_tests}
use Rattle.disk_layout.specs.Sizes.{area_size, area_in, word, disk_size, blocks_for}
use Rattle.disk_layout.specs.Saved.{raw, Machine, label_in, blocks_named, pages_named, home_of, blocks_of, area_at, entries_at, generation_of}
use Rattle.disk_layout.specs.Position.{HomeScarred, StandsFor, Stands}
use Rattle.disk_layout.proofs.SizeLaws.{size_above, place_fits}
use Rattle.disk_layout.proofs.RawLaws.{Holds, raw-holds, machine-is, next_start, label-scarred, blocks-named}
use Rattle.disk_layout.proofs.HomeLaws.{all_moved, home-none}
use Rattle.checkpoint.specs.Sizes.{HasSizes, pages_in}
use Rattle.checkpoint.specs.Commit.{MarkedSince, CanCommit, SavedOr}
use Rattle.checkpoint.specs.Filling.{Unopened, Opened, IsClosing, IsCommitting, HoldsBlocks}
use Rattle.checkpoint.proofs.GateLaws.{unopened-behind, opening, raw-committing, raw-opened}

closes : (blocks start : ℕ) (ram : Ram) (g : ℕ) (old new : List ℕ) → IsClosing start old new → IsCommitting blocks start ram g old new
closes blocks start ram g old new (inl same) = inl same
closes blocks start ram g old new (inr u) =
    let some = size_above blocks in
    inr (inl (record {
      inside = scar-wider start 1 start (area_size blocks) old new (omega arith) (omega arith) u.inside;
      closed = u.closed;
    }))

module _ {D : Type 0} (moment : D → ℕ) (image : D → List ℕ → Type 0) (since : D → ℕ → List ℕ → Type 0) (blocks start : ℕ) (ram : Ram) (g : ℕ) (old : List ℕ) where
  pub saved-closed : (d0 d1 : D) → LeavesOnly moment since (IsClosing start old) d0 d1 → LeavesOnly moment since (IsCommitting blocks start ram g old) d0 d1
  saved-closed d0 d1 run = leaves-wider moment image since (IsClosing start old) (IsCommitting blocks start ram g old) d0 d1 (closes blocks start ram g old) run

  pub behind : (closed new : List ℕ) → Unopened start 1 old closed → Scarred (start + 1) (area_size blocks - 1) closed new → Unopened start (area_size blocks) old new
  behind closed new u s = unopened-behind start (area_size blocks) old closed new (omega (arith, size_above blocks)) u s

  pub image-filled : (d1 d2 : D) (closed : List ℕ) → Unopened start 1 old closed → Only closed (image d1) → Inside moment image since (start + 1) (area_size blocks - 1) d1 d2 → (c : List ℕ) → image d2 c → Unopened start (area_size blocks) old c
  image-filled d1 d2 closed u only run c now =
      behind closed c u (after-only moment image since (start + 1) (area_size blocks - 1) closed d1 c only (run.images c now))

  pub saved-filled : (d0 d1 d2 : D) (closed : List ℕ) → LeavesOnly moment since (IsClosing start old) d0 d1 → Unopened start 1 old closed → Only closed (image d1) → Inside moment image since (start + 1) (area_size blocks - 1) d1 d2 → LeavesOnly moment since (IsCommitting blocks start ram g old) d0 d2
  saved-filled d0 d1 d2 closed before u only run =
      leaves-joined moment image since (IsCommitting blocks start ram g old) d0 d1 d2 (saved-closed d0 d1 before)
      (leaves-inside moment image since (IsCommitting blocks start ram g old) (start + 1) (area_size blocks - 1) closed d1 d2 only run
      (λ c s. inr (inl (behind closed c u s))))

  pub saved-opened : (d0 d1 d2 d3 : D) (closed full : List ℕ) → LeavesOnly moment since (IsClosing start old) d0 d1 → Unopened start 1 old closed → Only closed (image d1) → Inside moment image since (start + 1) (area_size blocks - 1) d1 d2 → image d2 full → start + area_size blocks ≤ length full → HoldsBlocks blocks (area_in blocks start full) ram g → LeavesOnly moment since (λ c. image d2 c ⊎ Scarred start 1 full c) d2 d3 → LeavesOnly moment since (IsCommitting blocks start ram g old) d0 d3
  saved-opened d0 d1 d2 d3 closed full before u only run is within holds after =
      leaves-joined moment image since (IsCommitting blocks start ram g old) d0 d2 d3
      (saved-filled d0 d1 d2 closed before u only run)
      (leaves-wider moment image since (λ c. image d2 c ⊎ Scarred start 1 full c) (IsCommitting blocks start ram g old) d2 d3
      (λ c. ⊎_elim
      (λ now. inr (inl (image-filled d1 d2 closed u only run c now)))
      (λ torn. opening blocks start ram g old full c within (image-filled d1 d2 closed u only run full is) holds torn))
      after)

-- The same in the words of machines: home has the blocks of the disk's machine.
record Ready (contents : List ℕ) (image : List ℕ → Type 0) (ram : Ram) (g : ℕ) : Type 0 where
  sized : blocks_named (label_in contents) ≡ Some (length ram.blocks)
  size : length contents ≡ disk_size (length ram.blocks)
  only : Only contents image
  holds : Holds (length ram.blocks) g (blocks_of (raw contents)) contents
  marked : MarkedSince (home_of (length ram.blocks) contents) ram

ready : (contents : List ℕ) (image : List ℕ → Type 0) (ram : Ram) (g entries moved : ℕ) (synced : Bool) → HasSizes ram → CanCommit ram g entries moved synced contents image → Ready contents image ram g
ready contents image ram g entries moved synced sizes can =
    let same : blocks_for (pages_in ram) ≡ length ram.blocks = sym sizes.all_blocks in
    let named : blocks_named (label_in contents) ≡ Some (length ram.blocks) = blocks-named (label_in contents) (pages_in ram) can.stands.named ∙ ap Some same in
    let disk : StandsFor (length ram.blocks) g moved contents image = subst (λ n. StandsFor n g moved contents image) same can.stands.disk in
    let count : moved ≡ entries_at (length ram.blocks) g contents = can.ended ∙ can.stands.counted ∙ ap (λ n. entries_at n g contents) same in
    let here : StandsFor (length ram.blocks) g (entries_at (length ram.blocks) g contents) contents image = subst (λ n. StandsFor (length ram.blocks) g n contents image) count disk in
    let holds : Holds (length ram.blocks) g (blocks_of (raw contents)) contents = raw-holds (length ram.blocks) g (blocks_of (raw contents)) contents named (machine-is (raw contents) g disk.holds) in
    record {
      sized = named;
      size = disk.size;
      only = can.only;
      holds = holds;
      marked = subst (λ home. MarkedSince home ram) (sym (all_moved (length ram.blocks) g (blocks_of (raw contents)) contents image holds here)) can.marked;
    }

pub zero_moved : (count : ℕ) → (count == 0) ≡ (0 == count)
zero_moved count =
    ⊎_elim (λ (e : count ≡ 0). rw e refl)
    (λ (e : count ≢ 0).
    let first : (count == 0) ≡ false = grind (arith, nat_tests) in
    let other : 0 ≢ count = λ f. e (sym f) in
    let second : (0 == count) ≡ false = grind (arith, nat_tests) in
    first ∙ sym second)
    (cases_eq count 0)

module _ (contents : List ℕ) (image : List ℕ → Type 0) (ram : Ram) (g entries moved : ℕ) (synced : Bool) (sizes : HasSizes ram) (can : CanCommit ram g entries moved synced contents image) where
  is_ready : Ready contents image ram g
  is_ready = ready contents image ram g entries moved synced sizes can

  same_place : (blocks start : ℕ) → blocks ≡ length ram.blocks → start ≡ 4096 + (g + 1) % 2 * area_size blocks → start ≡ next_start (length ram.blocks) g
  same_place blocks start e s = s ∙ ap (λ k. 4096 + (g + 1) % 2 * area_size k) e

  pub commit-fits : (blocks start : ℕ) → blocks ≡ length ram.blocks → start ≡ 4096 + (g + 1) % 2 * area_size blocks → start + area_size blocks ≤ length contents
  commit-fits blocks start e s =
      omega (arith, is_ready.size, place_fits (length ram.blocks) (g + 1), same_place blocks start e s, ap area_size e)

  commits : (g + 1 < 2 ^ 63) → (blocks start : ℕ) → blocks ≡ length ram.blocks → start ≡ 4096 + (g + 1) % 2 * area_size blocks → (c : List ℕ) → IsCommitting blocks start ram (g + 1) contents c → SavedOr contents (g + 1) ram.blocks c
  commits few blocks start e s c is =
      raw-committing (length ram.blocks) g (blocks_of (raw contents)) ram contents is_ready.sized is_ready.holds is_ready.marked few c
      (subst (λ k. IsCommitting k (next_start (length ram.blocks) g) ram (g + 1) contents c) e
      (subst (λ k. IsCommitting blocks k ram (g + 1) contents c) (same_place blocks start e s) is))

  opened : (blocks start : ℕ) → blocks ≡ length ram.blocks → start ≡ 4096 + (g + 1) % 2 * area_size blocks → (c : List ℕ) → Opened blocks start ram (g + 1) contents c → Opened (length ram.blocks) (next_start (length ram.blocks) g) ram (g + 1) contents c
  opened blocks start e s c is =
      subst (λ k. Opened k (next_start (length ram.blocks) g) ram (g + 1) contents c) e
      (subst (λ k. Opened blocks k ram (g + 1) contents c) (same_place blocks start e s) is)

  pub commit-saved : g < 2 ^ 63 - 1 → (blocks start : ℕ) → blocks ≡ length ram.blocks → start ≡ 4096 + (g + 1) % 2 * area_size blocks → (c : List ℕ) → Opened blocks start ram (g + 1) contents c → raw c ≡ Machine (g + 1) ram.blocks
  commit-saved few blocks start e s c is =
      raw-opened (length ram.blocks) g (blocks_of (raw contents)) ram contents is_ready.sized is_ready.holds is_ready.marked (omega arith) c (opened blocks start e s c is)

  pub commit-label : (blocks start : ℕ) → blocks ≡ length ram.blocks → start ≡ 4096 + (g + 1) % 2 * area_size blocks → (c : List ℕ) → Opened blocks start ram (g + 1) contents c → label_in c ≡ label_in contents
  commit-label blocks start e s c is = label-scarred (length ram.blocks) g contents c (opened blocks start e s c is).inside

  pub commit-stands : g < 2 ^ 63 - 1 → (blocks start : ℕ) → blocks ≡ length ram.blocks → start ≡ 4096 + (g + 1) % 2 * area_size blocks → (c : List ℕ) (later : List ℕ → Type 0) (count : ℕ) → Opened blocks start ram (g + 1) contents c → Only c later → count ≡ word (area_in blocks start c) 16 → Stands (pages_in ram) (g + 1) count 0 (count == 0) c later
  commit-stands few blocks start e s c later count is only counted =
      let o = opened blocks start e s c is in
      let test : (g + 1 == 0) ≡ false = grind (arith, nat_tests) in
      let there : count ≡ entries_at (length ram.blocks) (g + 1) c =
      counted ∙ ap (λ k. word (area_in blocks k c) 16) (same_place blocks start e s) ∙ ap (λ k. word (area_in k (next_start (length ram.blocks) g) c) 16) e
      ∙ ap (λ (b : Bool). if b then 0 else word (area_at (length ram.blocks) (g + 1) c) 16) (sym test) in
      record {
        named = ap pages_named (commit-label blocks start e s c is) ∙ can.stands.named;
        disk =
            subst (λ n. StandsFor n (g + 1) 0 c later) sizes.all_blocks
            (record {
              holds = ap generation_of (commit-saved few blocks start e s c is);
              size = o.inside.size ∙ is_ready.size;
              few = omega arith;
              done = λ i h. absurd (omega arith);
              images = λ d left. subst (HomeScarred (length ram.blocks) (entries_at (length ram.blocks) (g + 1) c) (area_at (length ram.blocks) (g + 1) c) c) (sym (only d left)) (home-none _ _ _ c);
            });
        counted = there ∙ ap (λ n. entries_at n (g + 1) c) sizes.all_blocks;
        told = zero_moved count;
      }

  module _ {D : Type 0} (moment : D → ℕ) (images : D → List ℕ → Type 0) (since : D → ℕ → List ℕ → Type 0) where
    pub commit-leaves : g < 2 ^ 63 - 1 → (blocks start : ℕ) → blocks ≡ length ram.blocks → start ≡ 4096 + (g + 1) % 2 * area_size blocks → (old new : D) → LeavesOnly moment since (IsCommitting blocks start ram (g + 1) contents) old new → LeavesOnly moment since (SavedOr contents (g + 1) ram.blocks) old new
    commit-leaves few blocks start e s old new run =
        leaves-wider moment images since (IsCommitting blocks start ram (g + 1) contents) (SavedOr contents (g + 1) ram.blocks) old new
        (commits (omega arith) blocks start e s) run

  pub as_it_was : (c : List ℕ) → image c → SavedOr contents (g + 1) ram.blocks c
  as_it_was c now = record { label = ap label_in (can.only c now); machine = inl (ap raw (can.only c now)) }
