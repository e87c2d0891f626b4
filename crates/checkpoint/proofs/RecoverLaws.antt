-- What is recovered of the bytes of a disk.
use Rattle.std.proofs.Common.{◌≡◌, ℕ, ◌+◌, ◌*◌, ◌%◌, ◌^◌, ◌<◌, ◌≤◌, Bool, true, false, ◌&&◌, Option, Some, None, List, length, refl, sym, ◌∙◌, ap, subst, arith, if◌then◌else◌}
use Rattle.std.specs.Prelude.{◌==◌, nat_le, nat_lt}
use Rattle.std.proofs.lemmas.Bool.Decides.{nat_tests}
use Rattle.kn_disk.specs.Images.{Only}
use Rattle.disk_layout.specs.declared.label.Label.TheVariants.{Absent, Wrong, Names}
use Rattle.disk_layout.specs.Sizes.{blocks_for, area_size, area_in, contents_from, disk_size}
use Rattle.disk_layout.specs.Saved.{Saved, NoMachine, Damaged, Machine, raw, raw_by, opened, label_in, pages_named, generation_in, generation_of, area_at, entries_at, ascends, overlaid, home_of, machine_by, machine_of, machine_in}
use Rattle.disk_layout.specs.Position.{HomeScarred, Stands}
use Rattle.disk_layout.proofs.RawLaws.{raw-sized, blocks-named}
use Rattle.disk_layout.proofs.SizeLaws.{place_fits}
use Rattle.disk_layout.proofs.HomeLaws.{home-none}
use Rattle.disk_layout.proofs.LabelLaws.{label-size}
use Rattle.kn_base.specs.Rows.{part_at}
use Rattle.checkpoint.proofs.SaveLaws.{zero_moved}

pub opened-none : (s : Saved) → s ≡ NoMachine → opened s ≡ NoMachine
unfolding opened
opened-none s e = ap opened e

pub opened-damaged : (s : Saved) → s ≡ Damaged → opened s ≡ Damaged
unfolding opened
opened-damaged s e = ap opened e

opened-machine : (s : Saved) (g : ℕ) (bl : List (List ℕ)) → s ≡ Machine g bl → g < 2 ^ 62 → opened s ≡ Machine g bl
unfolding opened
opened-machine s g bl e low = let test : nat_lt g (2 ^ 62) ≡ true = grind (arith, nat_tests) in ap opened e ∙ (rw test refl)

-- what the label says
pub raw-absent : (image : List ℕ) → Absent ≡ label_in image → opened (raw image) ≡ NoMachine
unfolding raw
raw-absent image e = opened-none (raw image) (ap (λ l. raw_by l image) (sym e))

pub raw-wrong : (image : List ℕ) → Wrong ≡ label_in image → opened (raw image) ≡ Damaged
unfolding raw
raw-wrong image e = opened-damaged (raw image) (ap (λ l. raw_by l image) (sym e))

pub named-size : (image : List ℕ) (pages quantum : ℕ) → Names pages quantum ≡ label_in image → length image ≡ disk_size (blocks_for pages)
named-size image pages quantum e = label-size (length image) (part_at image 0 4096) pages quantum (sym e)

module _ (pages : ℕ) (image : List ℕ) (named : pages_named (label_in image) ≡ Some pages) where
  raw-taken : (taken : Option ℕ) → generation_in (blocks_for pages) image ≡ taken → raw image ≡ machine_of (blocks_for pages) image taken
  unfolding machine_in
  raw-taken taken e = raw-sized (blocks_for pages) image (blocks-named (label_in image) pages named) ∙ ap (machine_of (blocks_for pages) image) e

  -- no area can be taken
  pub none-taken : generation_in (blocks_for pages) image ≡ None → opened (raw image) ≡ Damaged
  none-taken e = opened-damaged (raw image) (raw-taken None e)

  -- a generation that is too late
  pub late-taken : (g : ℕ) → generation_in (blocks_for pages) image ≡ Some g → 2 ^ 62 ≤ g → opened (raw image) ≡ Damaged
  unfolding machine_by opened
  late-taken g e late =
      let test : nat_lt g (2 ^ 62) ≡ false = grind (arith, nat_tests) in
      ap opened (raw-taken (Some g) e)
      ∙ by (nat_le (entries_at (blocks_for pages) g image) (blocks_for pages) && ascends (blocks_for pages) (area_at (blocks_for pages) g image) (entries_at (blocks_for pages) g image)) test
    where
      by : (b : Bool) → nat_lt g (2 ^ 62) ≡ false → opened (if b then Machine g (overlaid (contents_from (blocks_for pages)) (area_at (blocks_for pages) g image) (entries_at (blocks_for pages) g image) (home_of (blocks_for pages) image)) else Damaged) ≡ Damaged
      by true test = rw test refl
      by false test = refl

  -- the area of a place of code
  module _ (g k start n : ℕ) (first : List ℕ) (e : k ≡ blocks_for pages) (s : start ≡ 4096 + g % 2 * area_size k) (taken : generation_in (blocks_for pages) image ≡ Some g) (same : first ≡ image) (count : n ≡ entries_at k g image) where
    count_is : n ≡ entries_at (blocks_for pages) g image
    count_is = count ∙ ap (λ b. entries_at b g image) e

    area_is : area_in k start first ≡ area_at (blocks_for pages) g image
    area_is =
        ap (area_in k start) same ∙ ap (λ b. area_in k b image) s
        ∙ ap (λ b. area_in b (4096 + g % 2 * area_size b) image) e

    pub many-entries : k < n → opened (raw image) ≡ Damaged
    unfolding machine_by
    many-entries many =
        let test : nat_le (entries_at (blocks_for pages) g image) (blocks_for pages) ≡ false =
        (let h : blocks_for pages < entries_at (blocks_for pages) g image = omega (arith, count_is, e) in grind (arith, nat_tests)) in
        opened-damaged (raw image) (raw-taken (Some g) taken ∙ (rw test refl))

    sound_is : (right : Bool) → right ≡ ascends k (area_in k start first) n → ascends (blocks_for pages) (area_at (blocks_for pages) g image) (entries_at (blocks_for pages) g image) ≡ right
    sound_is right e2 =
        sym
        (e2 ∙ ap (λ b. ascends b (area_in k start first) n) e ∙ ap (λ (a : List ℕ). ascends (blocks_for pages) a n) area_is
        ∙ ap (ascends (blocks_for pages) (area_at (blocks_for pages) g image)) count_is)

    pub wrong-entries : (right : Bool) → right ≡ ascends k (area_in k start first) n → right ≡ false → opened (raw image) ≡ Damaged
    unfolding machine_by
    wrong-entries right is wrong =
        let test : ascends (blocks_for pages) (area_at (blocks_for pages) g image) (entries_at (blocks_for pages) g image) ≡ false = sound_is right is ∙ wrong in
        opened-damaged (raw image)
        (raw-taken (Some g) taken ∙ by (nat_le (entries_at (blocks_for pages) g image) (blocks_for pages)) (ascends (blocks_for pages) (area_at (blocks_for pages) g image) (entries_at (blocks_for pages) g image)) test)
      where
        by : (a b : Bool) → b ≡ false → (if a && b then Machine g (overlaid (contents_from (blocks_for pages)) (area_at (blocks_for pages) g image) (entries_at (blocks_for pages) g image) (home_of (blocks_for pages) image)) else Damaged) ≡ Damaged
        by true b f = rw f refl
        by false b f = refl

    pub right-entries : (right : Bool) (bl : List (List ℕ)) → n ≤ k → right ≡ ascends k (area_in k start first) n → right ≡ true → bl ≡ overlaid (contents_from k) (area_in k start first) n (home_of k first) → raw image ≡ Machine g bl
    unfolding machine_by
    right-entries right bl few is right_is over =
        let low : nat_le (entries_at (blocks_for pages) g image) (blocks_for pages) ≡ true =
        (let h : entries_at (blocks_for pages) g image ≤ blocks_for pages = omega (arith, count_is, e) in grind (arith, nat_tests)) in
        let sound : ascends (blocks_for pages) (area_at (blocks_for pages) g image) (entries_at (blocks_for pages) g image) ≡ true = sound_is right is ∙ right_is in
        let blocks : bl ≡ overlaid (contents_from (blocks_for pages)) (area_at (blocks_for pages) g image) (entries_at (blocks_for pages) g image) (home_of (blocks_for pages) image) =
        over
        ∙ ap (λ b. overlaid (contents_from b) (area_in k start first) n (home_of b first)) e
        ∙ ap (λ (a : List ℕ). overlaid (contents_from (blocks_for pages)) a n (home_of (blocks_for pages) first)) area_is
        ∙ ap (λ m. overlaid (contents_from (blocks_for pages)) (area_at (blocks_for pages) g image) m (home_of (blocks_for pages) first)) count_is
        ∙ ap (λ c. overlaid (contents_from (blocks_for pages)) (area_at (blocks_for pages) g image) (entries_at (blocks_for pages) g image) (home_of (blocks_for pages) c)) same in
        raw-taken (Some g) taken ∙ (rw (low, sound) (ap (Machine g) (sym blocks)))

    pub opened-entries : (right : Bool) (bl : List (List ℕ)) → n ≤ k → right ≡ ascends k (area_in k start first) n → right ≡ true → bl ≡ overlaid (contents_from k) (area_in k start first) n (home_of k first) → g < 2 ^ 62 → opened (raw image) ≡ Machine g bl
    opened-entries right bl few is right_is over low = opened-machine (raw image) g bl (right-entries right bl few is right_is over) low

    pub stands-entries : (now : List ℕ) (later : List ℕ → Type 0) (bl : List (List ℕ)) → raw image ≡ Machine g bl → length image ≡ disk_size (blocks_for pages) → now ≡ image → Only image later → Stands pages g n 0 (n == 0) now later
    stands-entries now later bl holds size is only =
        subst (λ c. Stands pages g n 0 (n == 0) c later) (sym is)
        (record {
          named = named;
          disk = record {
            holds = ap generation_of holds;
            size = size;
            few = omega arith;
            done = λ i h. absurd (omega arith);
            images = λ c left. subst (HomeScarred (blocks_for pages) (entries_at (blocks_for pages) g image) (area_at (blocks_for pages) g image) image) (sym (only c left)) (home-none _ _ _ image);
          };
          counted = count_is;
          told = zero_moved n;
        })

pub place-in : (k start g : ℕ) (c : List ℕ) → start ≡ 4096 + g % 2 * area_size k → length c ≡ disk_size k → start + area_size k ≤ length c
place-in k start g c s size = omega (arith, place_fits k g)
