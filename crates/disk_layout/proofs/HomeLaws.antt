-- Home blocks, the blocks that entries lay over them, and what a migration may spoil of them.
use Rattle.std.proofs.Common.{◌≡◌, ◌≢◌, ⊎_elim, ℕ, zero, suc, ◌+◌, ◌*◌, ◌<◌, ◌≤◌, ◌%◌, true, false, ◌&&◌, List, [], Some, None, length, get_or, set, refl, sym, ◌∙◌, ap, subst, arith, rules, if◌then◌else◌}
use Rattle.std.specs.Prelude.{nat_lt, nat_le, ◌==◌}
use Rattle.std.specs.Int.{from_le_bytes, w32, w64}
use Rattle.std.proofs.lemmas.List.{places, same_lists, get_or_default, get_or_past, length-set, get_or-set_same, get_or-set_other}
use Rattle.std.proofs.lemmas.List.FromFn.{length-map-range_with_len, get_or-map-range_with_len}
use Rattle.std.proofs.lemmas.Bool.{cases_lt, cases_eq}
use Rattle.std.proofs.lemmas.Bool.Decides.{nat_tests}
use Rattle.kn_base.specs.Rows.{part_at}
use Rattle.kn_disk.proofs.Scars.{scar-part_below}
use Rattle.disk_layout.specs.Sizes.{contents_from, area_size, area_start, home_start, disk_size, word, area_in, entry, content, home_block, long}
use Rattle.disk_layout.specs.Saved.{raw, label_of, label_in, blocks_named, gate_of, gate_at, chosen, area_at, entries_at, least, ascends, overlaid, home_of, blocks_in, SameMachine}
use Rattle.disk_layout.specs.Position.{touched, HomeScarred, StandsFor}
use Rattle.disk_layout.proofs.SizeLaws.{size_above, place_fits}
use Rattle.disk_layout.proofs.ChoiceLaws.{both_true}
use Rattle.disk_layout.proofs.RawLaws.{Holds, raw-holds, holds-raw, machine-is, gate_in}

-- blocks that differ where entries lie over them alone
set_both : (e b : ℕ) (v : List ℕ) (xs ys : List (List ℕ)) → length xs ≡ length ys → (b ≢ e → get_or xs b [] ≡ get_or ys b []) → get_or (set xs e v) b [] ≡ get_or (set ys e v) b []
set_both e b v xs ys size h =
    ⊎_elim
    (λ (same : b ≡ e).
    ⊎_elim
    (λ (l : e < length xs).
    let m : e < length ys = omega arith in
    rw same (get_or-set_same xs e v [] l ∙ sym (get_or-set_same ys e v [] m)))
    (λ (l : length xs ≤ e).
    let p : length (set xs e v) ≤ b = omega (arith, length-set xs e v) in
    let q : length (set ys e v) ≤ b = omega (arith, length-set ys e v) in
    get_or_past (set xs e v) b [] p ∙ sym (get_or_past (set ys e v) b [] q))
    (cases_lt e (length xs)))
    (λ (other : b ≢ e). get_or-set_other xs e b v [] other ∙ h other ∙ sym (get_or-set_other ys e b v [] other))
    (cases_eq b e)

pub length-overlaid : (from n : ℕ) (area : List ℕ) (home : List (List ℕ)) → length (overlaid from area n home) ≡ length home
unfolding overlaid
length-overlaid from zero area home = refl
length-overlaid from (suc n) area home = length-set (overlaid from area n home) (entry area n) (content from area n) ∙ length-overlaid from n area home

untouched_more : (area : List ℕ) (n b : ℕ) → b ≢ entry area n → touched area n b ≡ false → touched area (suc n) b ≡ false
unfolding touched
untouched_more area n b other h =
    let test : (entry area n == b) ≡ false = (let flip : entry area n ≢ b = λ e. other (sym e) in grind (arith, nat_tests)) in rw (test, h) refl

overlaid-at : (from n : ℕ) (area : List ℕ) (xs ys : List (List ℕ)) (b : ℕ) → length xs ≡ length ys → (touched area n b ≡ false → get_or xs b [] ≡ get_or ys b []) → get_or (overlaid from area n xs) b [] ≡ get_or (overlaid from area n ys) b []
unfolding overlaid touched
overlaid-at from zero area xs ys b size h = h refl
overlaid-at from (suc n) area xs ys b size h =
    set_both (entry area n) b (content from area n) (overlaid from area n xs) (overlaid from area n ys)
    (length-overlaid from n area xs ∙ size ∙ sym (length-overlaid from n area ys))
    (λ other. overlaid-at from n area xs ys b size (λ t. h (untouched_more area n b other t)))

pub overlaid-torn : (from n : ℕ) (area : List ℕ) (xs ys : List (List ℕ)) → length xs ≡ length ys → ((b : ℕ) → b < length xs → touched area n b ≡ false → get_or xs b [] ≡ get_or ys b []) → overlaid from area n xs ≡ overlaid from area n ys
overlaid-torn from n area xs ys size h =
    let sizes = length-overlaid from n area xs ∙ size ∙ sym (length-overlaid from n area ys) in
    same_lists _ _ sizes
    (λ k d l.
    let lx : k < length xs = omega (arith, length-overlaid from n area xs) in
    let ly : k < length (overlaid from area n ys) = omega (arith, sizes) in
    get_or_default (overlaid from area n xs) k d [] l
    ∙ overlaid-at from n area xs ys k size (h k lx)
    ∙ get_or_default (overlaid from area n ys) k [] d ly)

-- the blocks at home
pub part-part : (xs : List ℕ) (start size at n : ℕ) → at + n ≤ size → part_at (part_at xs start size) at n ≡ part_at xs (start + at) n
part-part xs start size at n h = same_lists _ _ (search (rules, places)) (λ k d l. grind (arith, places))

pub length-home : (blocks : ℕ) (image : List ℕ) → length (home_of blocks image) ≡ blocks
unfolding blocks_in
length-home blocks image = length-map-range_with_len (λ b. part_at (part_at image (home_start blocks) (4096 * blocks)) (4096 * b) 4096) 0 blocks

pub home-at : (blocks : ℕ) (image : List ℕ) (b : ℕ) → b < blocks → get_or (home_of blocks image) b [] ≡ home_block blocks image b
unfolding blocks_in
home-at blocks image b h =
    get_or-map-range_with_len (λ b. part_at (part_at image (home_start blocks) (4096 * blocks)) (4096 * b) 4096) 0 blocks b b [] h (omega arith)
    ∙ part-part image (home_start blocks) (4096 * blocks) (4096 * b) 4096 (omega arith)

-- what is read in an area
pub area-read : (blocks start place at n : ℕ) (contents : List ℕ) → place ≡ start + at → at + n ≤ area_size blocks → part_at contents place n ≡ part_at (area_in blocks start contents) at n
area-read blocks start place at n contents e h =
    ap (λ p. part_at contents p n) e ∙ sym (part-part contents start (area_size blocks) at n h)

pub word-read_area : (blocks start place at : ℕ) (contents bytes : List ℕ) → bytes ≡ part_at contents place 4 → place ≡ start + at → at + 4 ≤ area_size blocks → word bytes 0 ≡ word (area_in blocks start contents) at
word-read_area blocks start place at contents bytes is e h =
    ap (λ (b : List ℕ). word b 0) (is ∙ area-read blocks start place at 4 contents e h)
    ∙ ap (from_le_bytes w32) (part-part (area_in blocks start contents) at 4 0 4 (omega arith) ∙ ap (λ k. part_at (area_in blocks start contents) k 4) (omega arith))

-- all before the home blocks stays
pub front-same : (blocks : ℕ) (old new : List ℕ) (n : ℕ) (area : List ℕ) → length old ≡ disk_size blocks → HomeScarred blocks n area old new → (from m : ℕ) → from + m ≤ home_start blocks → part_at new from m ≡ part_at old from m
front-same blocks old new n area size s from m h =
    scar-part_below (home_start blocks) (4096 * blocks) old new from m
    (record {
      size = s.size;
      below = s.front;
      above = λ k l. get_or_past new k 0 (omega (arith, s.size)) ∙ sym (get_or_past old k 0 (omega arith));
    })
    h

pub label-torn : (blocks : ℕ) (old new : List ℕ) (n : ℕ) (area : List ℕ) → length old ≡ disk_size blocks → HomeScarred blocks n area old new → label_in new ≡ label_in old
label-torn blocks old new n area size s =
    ap (λ k. label_of k (part_at new 0 4096)) s.size ∙ ap (label_of (length old)) (front-same blocks old new n area size s 0 4096 (omega arith))

-- home blocks that are torn under the entries of the area that is taken leave the machine
module _ (blocks g : ℕ) (bl : List (List ℕ)) (old new : List ℕ) (size : length old ≡ disk_size blocks) (h : Holds blocks g bl old) (s : HomeScarred blocks (entries_at blocks g old) (area_at blocks g old) old new) where
  front : (from n : ℕ) → from + n ≤ home_start blocks → part_at new from n ≡ part_at old from n
  front from n l = front-same blocks old new (entries_at blocks g old) (area_at blocks g old) size s from n l

  pub area-torn : area_at blocks g new ≡ area_at blocks g old
  area-torn = front (area_start blocks (g % 2)) (area_size blocks) (place_fits blocks g)

  pub count-torn : entries_at blocks g new ≡ entries_at blocks g old
  count-torn = ap (λ (a : List ℕ). if g == 0 then 0 else word a 16) area-torn

  over_torn : overlaid (contents_from blocks) (area_at blocks g old) (entries_at blocks g old) (home_of blocks new) ≡ overlaid (contents_from blocks) (area_at blocks g old) (entries_at blocks g old) (home_of blocks old)
  over_torn =
      overlaid-torn (contents_from blocks) (entries_at blocks g old) (area_at blocks g old) (home_of blocks new) (home_of blocks old)
      (length-home blocks new ∙ sym (length-home blocks old))
      (λ b l t.
      let m : b < blocks = omega (arith, length-home blocks new) in
      home-at blocks new b m ∙ s.others b m t ∙ sym (home-at blocks old b m))

  pub holds-torn : Holds blocks g bl new
  holds-torn = record {
    taken =
        ap (λ x. chosen x (gate_at blocks 1 new)) (ap gate_of (front (area_start blocks 0) (area_size blocks) (omega arith)))
        ∙ ap (chosen (gate_at blocks 0 old)) (ap gate_of (front (area_start blocks 1) (area_size blocks) (omega arith))) ∙ h.taken;
    few = subst (λ n. n ≤ blocks) (sym count-torn) h.few;
    sound = ap (λ (a : List ℕ). ascends blocks a (entries_at blocks g new)) area-torn ∙ ap (ascends blocks (area_at blocks g old)) count-torn ∙ h.sound;
    over =
        ap (λ (a : List ℕ). overlaid (contents_from blocks) a (entries_at blocks g new) (home_of blocks new)) area-torn
        ∙ ap (λ n. overlaid (contents_from blocks) (area_at blocks g old) n (home_of blocks new)) count-torn ∙ over_torn ∙ h.over;
  }

-- so a crash of a disk for which a position stands leaves the same machine
pub same_machine : (blocks g moved : ℕ) (contents : List ℕ) (image : List ℕ → Type 0) → blocks_named (label_in contents) ≡ Some blocks → StandsFor blocks g moved contents image → (c : List ℕ) → HomeScarred blocks (entries_at blocks g contents) (area_at blocks g contents) contents c → SameMachine contents c
same_machine blocks g moved contents image sized s c torn =
    let is = machine-is (raw contents) g s.holds in
    let label = label-torn blocks contents c (entries_at blocks g contents) (area_at blocks g contents) s.size torn in
    record {
      label = label;
      machine =
          holds-raw blocks g _ c (ap blocks_named label ∙ sized) (holds-torn blocks g _ contents c s.size (raw-holds blocks g _ contents sized is) torn) ∙ sym is;
    }

-- the entries of an area that ascend
pub ascends-last : (blocks : ℕ) (area : List ℕ) (n : ℕ) → ascends blocks area (suc n) ≡ true → (ascends blocks area n ≡ true) × (least area n ≤ entry area n) × (entry area n < blocks)
unfolding ascends
ascends-last blocks area n e =
    let a = both_true (ascends blocks area n) (nat_le (least area n) (entry area n) && nat_lt (entry area n) blocks) e in
    let b = both_true (nat_le (least area n) (entry area n)) (nat_lt (entry area n) blocks) a.1 in
    let le : nat_le (least area n) (entry area n) ≡ true = b.0 in
    let lt : nat_lt (entry area n) blocks ≡ true = b.1 in
    (a.0, grind (arith, nat_tests), grind (arith, nat_tests))

pub entry_below : (blocks : ℕ) (area : List ℕ) (n i : ℕ) → ascends blocks area n ≡ true → i < n → entry area i < blocks
entry_below blocks area zero i e h = absurd (omega arith)
entry_below blocks area (suc n) i e h =
    let s = ascends-last blocks area n e in
    ⊎_elim (λ (l : i < n). entry_below blocks area n i s.0 l)
    (λ (l : n ≤ i). let same : i ≡ n = omega arith in rw same s.2)
    (cases_lt i n)

-- where all is moved, home has the machine's blocks
set-same : (xs : List (List ℕ)) (e : ℕ) (v : List ℕ) → get_or xs e [] ≡ v → e < length xs → set xs e v ≡ xs
set-same xs e v h l =
    same_lists _ _ (length-set xs e v)
    (λ k d m.
    ⊎_elim
    (λ (same : k ≡ e). rw same (get_or-set_same xs e v d l ∙ sym h ∙ get_or_default xs e [] d l))
    (λ (other : k ≢ e). get_or-set_other xs e k v d other)
    (cases_eq k e))

overlaid-home : (from n : ℕ) (area : List ℕ) (home : List (List ℕ)) → ((i : ℕ) → i < n → entry area i < length home) → ((i : ℕ) → i < n → get_or home (entry area i) [] ≡ content from area i) → overlaid from area n home ≡ home
unfolding overlaid
overlaid-home from zero area home low h = refl
overlaid-home from (suc n) area home low h =
    ap (λ (l : List (List ℕ)). set l (entry area n) (content from area n)) (overlaid-home from n area home (λ i l. low i (omega arith)) (λ i l. h i (omega arith)))
    ∙ set-same home (entry area n) (content from area n) (h n (omega arith)) (low n (omega arith))

pub all_moved : (blocks g : ℕ) (bl : List (List ℕ)) (contents : List ℕ) (image : List ℕ → Type 0) → Holds blocks g bl contents → StandsFor blocks g (entries_at blocks g contents) contents image → home_of blocks contents ≡ bl
all_moved blocks g bl contents image r s =
    let low : (i : ℕ) → i < entries_at blocks g contents → entry (area_at blocks g contents) i < blocks =
    λ i l. entry_below blocks (area_at blocks g contents) (entries_at blocks g contents) i r.sound l in
    sym
    (overlaid-home (contents_from blocks) (entries_at blocks g contents) (area_at blocks g contents) (home_of blocks contents)
    (λ i l. omega (arith, length-home blocks contents, low i l))
    (λ i l. home-at blocks contents (entry (area_at blocks g contents) i) (low i l) ∙ s.done i l))
    ∙ r.over

-- nothing is spoilt
pub home-none : (blocks n : ℕ) (area bytes : List ℕ) → HomeScarred blocks n area bytes bytes
home-none blocks n area bytes = record { size = refl; front = λ k h. refl; others = λ b h t. refl }

-- the header of an area
pub front-read : (blocks start : ℕ) (contents : List ℕ) → part_at contents start 20 ≡ part_at (area_in blocks start contents) 0 20
front-read blocks start contents =
    ap (λ k. part_at contents k 20) (omega arith) ∙ sym (part-part contents start (area_size blocks) 0 20 (omega (arith, size_above blocks)))

pub gate-front : (blocks start : ℕ) (contents bytes : List ℕ) → bytes ≡ part_at (area_in blocks start contents) 0 20 → gate_of bytes ≡ gate_of (area_in blocks start contents)
unfolding gate_of
gate-front blocks start contents bytes e =
    ap gate_of e
    ∙ ap (λ b. if (b == 1) then Some (long (part_at (area_in blocks start contents) 0 20) 8) else None) (gate_in (area_in blocks start contents) 0 20 (omega arith))
    ∙ ap (λ n. if (get_or (area_in blocks start contents) 0 0 == 1) then Some (from_le_bytes w64 n) else None) (part-part (area_in blocks start contents) 0 20 8 8 (omega arith))

pub count-front : (blocks start : ℕ) (contents bytes : List ℕ) → bytes ≡ part_at (area_in blocks start contents) 0 20 → word bytes 16 ≡ word (area_in blocks start contents) 16
count-front blocks start contents bytes e =
    ap (λ (b : List ℕ). word b 16) e ∙ ap (from_le_bytes w32) (part-part (area_in blocks start contents) 0 20 16 4 (omega arith))
