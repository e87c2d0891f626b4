-- What a machine on a disk is like, and what changes in one area leave of it.
use Rattle.std.proofs.Common.{◌≡◌, ⊎_elim, ℕ, ◌+◌, ◌*◌, ◌%◌, ◌<◌, ◌≤◌, ◌^◌, Bool, true, false, ◌&&◌, List, Option, Some, None, length, drop, get_or, refl, sym, ◌∙◌, ap, subst, arith, if◌then◌else◌}
use Rattle.std.specs.Prelude.{◌==◌, nat_le}
use Rattle.std.proofs.lemmas.List.{get_or-take, get_or-drop}
use Rattle.std.proofs.lemmas.Bool.Decides.{nat_tests}
use Rattle.kn_base.specs.Rows.{part_at}
use Rattle.kn_disk.specs.Images.{Scarred}
use Rattle.kn_disk.proofs.Scars.{scar-part_below, scar-part_above}
use Rattle.disk_layout.specs.Sizes.{area_size, contents_from, area_start, home_start, word, long, area_in, blocks_for}
use Rattle.disk_layout.specs.declared.label.Label.{Label}
use Rattle.disk_layout.specs.declared.label.Label.TheVariants.{Absent, Wrong, Names}
use Rattle.disk_layout.specs.Saved.{Saved, NoMachine, Damaged, Machine, label_of, label_in, gate_of, gate_at, chosen, generation_in, area_at, entries_at, ascends, overlaid, home_of, blocks_in, machine_by, machine_of, machine_in, raw_by, raw, generation_of, blocks_of, blocks_named, pages_named}
use Rattle.disk_layout.proofs.SizeLaws.{size_above, halves, place_fits}
use Rattle.disk_layout.proofs.ChoiceLaws.{both_true, drop_first, drop_second, add_first, add_second}

raw-by_blocks : (l : Label) (blocks : ℕ) (image : List ℕ) → blocks_named l ≡ Some blocks → raw_by l image ≡ machine_in blocks image
raw-by_blocks Absent blocks image e = cc
raw-by_blocks Wrong blocks image e = cc
raw-by_blocks (Names pages quantum) blocks image e = let same : blocks_for pages ≡ blocks = cc in ap (λ n. machine_in n image) same

pub raw-sized : (blocks : ℕ) (image : List ℕ) → blocks_named (label_in image) ≡ Some blocks → raw image ≡ machine_in blocks image
unfolding raw
raw-sized blocks image e = raw-by_blocks (label_in image) blocks image e

pub blocks-named : (l : Label) (pages : ℕ) → pages_named l ≡ Some pages → blocks_named l ≡ Some (blocks_for pages)
blocks-named Absent pages e = cc
blocks-named Wrong pages e = cc
blocks-named (Names p quantum) pages e = let same : p ≡ pages = cc in ap (λ n. Some (blocks_for n)) same

-- The generation that is taken, its entries, which are right, and the blocks.
pub record Holds (blocks g : ℕ) (bl : List (List ℕ)) (image : List ℕ) : Type 0 where
  pub taken : generation_in blocks image ≡ Some g
  pub few : entries_at blocks g image ≤ blocks
  pub sound : ascends blocks (area_at blocks g image) (entries_at blocks g image) ≡ true
  pub over : overlaid (contents_from blocks) (area_at blocks g image) (entries_at blocks g image) (home_of blocks image) ≡ bl

when_machine : (b : Bool) (s : Saved) (g : ℕ) (bl : List (List ℕ)) → (if b then s else Damaged) ≡ Machine g bl → (b ≡ true) × (s ≡ Machine g bl)
when_machine true s g bl e = (refl, e)
when_machine false s g bl e = cc

is_machine : (n m : ℕ) (xs ys : List (List ℕ)) → Machine n xs ≡ Machine m ys → (n ≡ m) × (xs ≡ ys)
is_machine n m xs ys e = (cc, cc)

pub machine-holds : (blocks g : ℕ) (bl : List (List ℕ)) (image : List ℕ) → machine_in blocks image ≡ Machine g bl → Holds blocks g bl image
unfolding machine_in machine_by
machine-holds blocks g bl image e = by (generation_in blocks image) refl e
  where
    by : (taken : Option ℕ) → generation_in blocks image ≡ taken → machine_of blocks image taken ≡ Machine g bl → Holds blocks g bl image
    by None t m = cc
    by (Some h) t m =
        let n : ℕ = entries_at blocks h image in
        let area : List ℕ = area_at blocks h image in
        let over : List (List ℕ) = overlaid (contents_from blocks) area n (home_of blocks image) in
        let w = when_machine (nat_le n blocks && ascends blocks area n) (Machine h over) g bl m in
        let s = is_machine h g over bl w.1 in
        let b = both_true (nat_le n blocks) (ascends blocks area n) w.0 in
        let low : nat_le (entries_at blocks h image) blocks ≡ true = b.0 in
        subst (λ k. Holds blocks k bl image) s.0
        (record { taken = t; few = grind (arith, nat_tests); sound = b.1; over = s.1 })

pub holds-machine : (blocks g : ℕ) (bl : List (List ℕ)) (image : List ℕ) → Holds blocks g bl image → machine_in blocks image ≡ Machine g bl
unfolding machine_in machine_by
holds-machine blocks g bl image h =
    let low : nat_le (entries_at blocks g image) blocks ≡ true = (let few = h.few in grind (arith, nat_tests)) in
    let sound = h.sound in
    ap (machine_of blocks image) h.taken ∙ (rw (low, sound) (ap (Machine g) h.over))

pub raw-holds : (blocks g : ℕ) (bl : List (List ℕ)) (image : List ℕ) → blocks_named (label_in image) ≡ Some blocks → raw image ≡ Machine g bl → Holds blocks g bl image
raw-holds blocks g bl image sized e = machine-holds blocks g bl image (sym (raw-sized blocks image sized) ∙ e)

pub holds-raw : (blocks g : ℕ) (bl : List (List ℕ)) (image : List ℕ) → blocks_named (label_in image) ≡ Some blocks → Holds blocks g bl image → raw image ≡ Machine g bl
holds-raw blocks g bl image sized h = raw-sized blocks image sized ∙ holds-machine blocks g bl image h

-- a machine with its generation
pub machine-is : (s : Saved) (g : ℕ) → generation_of s ≡ Some g → s ≡ Machine g (blocks_of s)
machine-is NoMachine g e = cc
machine-is Damaged g e = cc
machine-is (Machine h blocks) g e = let same : h ≡ g = cc in ap (λ n. Machine n blocks) same

pub of-machine : (s : Saved) (g : ℕ) (bl : List (List ℕ)) → s ≡ Machine g bl → (generation_of s ≡ Some g) × (blocks_of s ≡ bl)
of-machine s g bl e = (ap generation_of e, ap blocks_of e)

-- the gate of an area, and what it says
pub gate_in : (image : List ℕ) (start size : ℕ) → 0 < size → get_or (part_at image start size) 0 0 ≡ get_or image start 0
gate_in image start size some =
    get_or-take size (drop start image) 0 0 some ∙ get_or-drop start image 0 0 ∙ ap (λ k. get_or image k 0) (omega arith)

pub gate-closed : (area : List ℕ) → (get_or area 0 0 ≡ 1 → ⊥) → gate_of area ≡ None
unfolding gate_of
gate-closed area closed = let test : (get_or area 0 0 == 1) ≡ false = grind (arith, nat_tests) in rw test refl

pub gate-open : (area : List ℕ) → get_or area 0 0 ≡ 1 → gate_of area ≡ Some (long area 8)
unfolding gate_of
gate-open area is = let test : (get_or area 0 0 == 1) ≡ true = grind (arith, nat_tests) in rw test refl

-- the area of the next generation
abbrev pub next_start : ℕ → ℕ → ℕ
next_start blocks g = area_start blocks ((g + 1) % 2)

other_half : (g : ℕ) → (g + 1) % 2 ≡ 0 → g % 2 ≡ 1
other_half g e = omega arith

other_one : (g : ℕ) → (g + 1) % 2 ≡ 1 → g % 2 ≡ 0
other_one g e = omega arith

-- the generation that is taken where only the gate of the next area has changed
pub generation-closed : (blocks g : ℕ) (old new : List ℕ) → generation_in blocks old ≡ Some g → gate_at blocks ((g + 1) % 2) new ≡ None → gate_at blocks (g % 2) new ≡ gate_at blocks (g % 2) old → generation_in blocks new ≡ Some g
generation-closed blocks g old new e closed same =
    ⊎_elim
    (λ (p : (g + 1) % 2 ≡ 0).
    let none : gate_at blocks 0 new ≡ None = ap (λ a. gate_at blocks a new) (sym p) ∙ closed in
    let kept : gate_at blocks 1 new ≡ gate_at blocks 1 old = subst (λ a. gate_at blocks a new ≡ gate_at blocks a old) (other_half g p) same in
    ap (λ x. chosen x (gate_at blocks 1 new)) none ∙ ap (chosen None) kept ∙ drop_first (gate_at blocks 0 old) (gate_at blocks 1 old) g e p)
    (λ (p : (g + 1) % 2 ≡ 1).
    let none : gate_at blocks 1 new ≡ None = ap (λ a. gate_at blocks a new) (sym p) ∙ closed in
    let kept : gate_at blocks 0 new ≡ gate_at blocks 0 old = subst (λ a. gate_at blocks a new ≡ gate_at blocks a old) (other_one g p) same in
    ap (λ x. chosen x (gate_at blocks 1 new)) kept ∙ ap (chosen (gate_at blocks 0 old)) none ∙ drop_second (gate_at blocks 0 old) (gate_at blocks 1 old) g e p)
    (halves (g + 1))

pub generation-opened : (blocks g : ℕ) (old new : List ℕ) → generation_in blocks old ≡ Some g → gate_at blocks ((g + 1) % 2) new ≡ Some (g + 1) → gate_at blocks (g % 2) new ≡ gate_at blocks (g % 2) old → g + 1 < 2 ^ 63 → generation_in blocks new ≡ Some (g + 1)
generation-opened blocks g old new e opened same few =
    ⊎_elim
    (λ (p : (g + 1) % 2 ≡ 0).
    let next : gate_at blocks 0 new ≡ Some (g + 1) = ap (λ a. gate_at blocks a new) (sym p) ∙ opened in
    let kept : gate_at blocks 1 new ≡ gate_at blocks 1 old = subst (λ a. gate_at blocks a new ≡ gate_at blocks a old) (other_half g p) same in
    ap (λ x. chosen x (gate_at blocks 1 new)) next ∙ ap (chosen (Some (g + 1))) kept
    ∙ add_first (gate_at blocks 1 old) g (drop_first (gate_at blocks 0 old) (gate_at blocks 1 old) g e p) p few)
    (λ (p : (g + 1) % 2 ≡ 1).
    let next : gate_at blocks 1 new ≡ Some (g + 1) = ap (λ a. gate_at blocks a new) (sym p) ∙ opened in
    let kept : gate_at blocks 0 new ≡ gate_at blocks 0 old = subst (λ a. gate_at blocks a new ≡ gate_at blocks a old) (other_one g p) same in
    ap (λ x. chosen x (gate_at blocks 1 new)) kept ∙ ap (chosen (gate_at blocks 0 old)) next
    ∙ add_second (gate_at blocks 0 old) g (drop_second (gate_at blocks 0 old) (gate_at blocks 1 old) g e p) p few)
    (halves (g + 1))

-- a scar in the area of the next generation leaves label, home and the area that is taken
module _ (blocks g : ℕ) (old new : List ℕ) (s : Scarred (next_start blocks g) (area_size blocks) old new) where
  pub label-scarred : label_in new ≡ label_in old
  label-scarred =
      ap (λ n. label_of n (part_at new 0 4096)) s.size
      ∙ ap (label_of (length old)) (scar-part_below (next_start blocks g) (area_size blocks) old new 0 4096 s (omega arith))

  pub home-scarred : home_of blocks new ≡ home_of blocks old
  home-scarred =
      ap (blocks_in blocks)
      (scar-part_above (next_start blocks g) (area_size blocks) old new (home_start blocks) (4096 * blocks) s (place_fits blocks (g + 1)))

  pub area-scarred : area_at blocks g new ≡ area_at blocks g old
  area-scarred =
      ⊎_elim
      (λ (p : (g + 1) % 2 ≡ 0).
      let q : g % 2 ≡ 1 = other_half g p in
      let t : Scarred (area_start blocks 0) (area_size blocks) old new = subst (λ a. Scarred (area_start blocks a) (area_size blocks) old new) p s in
      rw q (scar-part_above (area_start blocks 0) (area_size blocks) old new (area_start blocks 1) (area_size blocks) t (omega arith)))
      (λ (p : (g + 1) % 2 ≡ 1).
      let q : g % 2 ≡ 0 = other_one g p in
      let t : Scarred (area_start blocks 1) (area_size blocks) old new = subst (λ a. Scarred (area_start blocks a) (area_size blocks) old new) p s in
      rw q (scar-part_below (area_start blocks 1) (area_size blocks) old new (area_start blocks 0) (area_size blocks) t (omega arith)))
      (halves (g + 1))

  -- with its gate not open, the machine stays
  pub holds-unopened : (bl : List (List ℕ)) → Holds blocks g bl old → (get_or new (next_start blocks g) 0 ≡ 1 → ⊥) → Holds blocks g bl new
  holds-unopened bl h closed =
      let gate : gate_at blocks ((g + 1) % 2) new ≡ None =
      gate-closed (area_in blocks (next_start blocks g) new) (λ one. closed (sym (gate_in new (next_start blocks g) (area_size blocks) (omega (arith, size_above blocks))) ∙ one)) in
      let count : entries_at blocks g new ≡ entries_at blocks g old = ap (λ (a : List ℕ). if g == 0 then 0 else word a 16) area-scarred in
      record {
        taken = generation-closed blocks g old new h.taken gate (ap gate_of area-scarred);
        few = subst (λ n. n ≤ blocks) (sym count) h.few;
        sound = ap (λ (a : List ℕ). ascends blocks a (entries_at blocks g new)) area-scarred ∙ ap (ascends blocks (area_at blocks g old)) count ∙ h.sound;
        over =
            ap (λ (a : List ℕ). overlaid (contents_from blocks) a (entries_at blocks g new) (home_of blocks new)) area-scarred
            ∙ ap (λ n. overlaid (contents_from blocks) (area_at blocks g old) n (home_of blocks new)) count
            ∙ ap (overlaid (contents_from blocks) (area_at blocks g old) (entries_at blocks g old)) home-scarred ∙ h.over;
      }
