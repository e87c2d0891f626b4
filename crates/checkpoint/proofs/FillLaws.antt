-- How an area is filled, entry by entry.
use Rattle.std.proofs.Common.{◌≡◌, ⊎_elim, ℕ, zero, suc, ◌+◌, ◌-◌, ◌*◌, ◌<◌, ◌≤◌, Bool, true, false, ◌&&◌, List, [], ◌++◌, length, take, drop, get_or, set, refl, sym, ◌∙◌, ap, subst, arith, rules, add-one}
use Rattle.std.specs.Prelude.{nat_le, nat_lt}
use Rattle.std.specs.Int.{from_le_bytes, w32, w64}
use Rattle.std.proofs.lemmas.List.{places, same_lists, take_all, drop_all, append-nil, get_or-set_same}
use Rattle.std.specs.List.{count_by}
use Rattle.std.proofs.lemmas.List.{get_or_past}
use Rattle.std.proofs.lemmas.List.Sums.{count_by_more_yes, count_by_more_no}
use Rattle.std.proofs.lemmas.Bool.{cases_lt, cases_eq}
use Rattle.std.proofs.lemmas.Bool.Decides.{nat_tests}
use Rattle.kn_base.specs.Rows.{part_at, overwritten}
use Rattle.kn_base.proofs.RowLaws.{part_at-overwritten, part_at-overwritten_below, part_at-overwritten_above, length-overwritten, length-part_at}
use Rattle.obj_store.specs.Ram.{Ram}
use Rattle.disk_layout.specs.Sizes.{entry, content, word, long, area_size, contents_from, area_in}
use Rattle.disk_layout.specs.Saved.{overlaid, least, ascends}
use Rattle.disk_layout.proofs.SizeLaws.{contents_behind, size_is, size_above}
use Rattle.checkpoint.specs.Commit.{marks}
use Rattle.checkpoint.specs.Filling.{Filled, Full, Goes, Saves, HoldsBlocks, marks_below}

-- two areas have the same first n entries and content blocks
pub record Agree (from n : ℕ) (old new : List ℕ) : Type 0 where
  pub entries : (i : ℕ) → i < n → part_at new (4096 + 4 * i) 4 ≡ part_at old (4096 + 4 * i) 4
  pub contents : (i : ℕ) → i < n → part_at new (from + 4096 * i) 4096 ≡ part_at old (from + 4096 * i) 4096

agree-fewer : (from n : ℕ) (old new : List ℕ) → Agree from (suc n) old new → Agree from n old new
agree-fewer from n old new a = record {
  entries = λ i h. a.entries i (omega arith);
  contents = λ i h. a.contents i (omega arith);
}

entry-agree : (from n : ℕ) (old new : List ℕ) → Agree from (suc n) old new → entry new n ≡ entry old n
entry-agree from n old new a = ap (from_le_bytes w32) (a.entries n (omega arith))

overlaid-agree : (from n : ℕ) (old new : List ℕ) (home : List (List ℕ)) → Agree from n old new → overlaid from new n home ≡ overlaid from old n home
unfolding overlaid
overlaid-agree from zero old new home a = refl
overlaid-agree from (suc n) old new home a =
    ap (λ (l : List (List ℕ)). set l (entry new n) (content from new n)) (overlaid-agree from n old new home (agree-fewer from n old new a))
    ∙ ap (λ e. set (overlaid from old n home) e (content from new n)) (entry-agree from n old new a)
    ∙ ap (λ c. set (overlaid from old n home) (entry old n) c) (a.contents n (omega arith))

least-agree : (from n : ℕ) (old new : List ℕ) → Agree from n old new → least new n ≡ least old n
unfolding least
least-agree from zero old new a = refl
least-agree from (suc n) old new a = ap (λ e. e + 1) (entry-agree from n old new a)

ascends-agree : (from blocks n : ℕ) (old new : List ℕ) → Agree from n old new → ascends blocks new n ≡ ascends blocks old n
unfolding ascends
ascends-agree from blocks zero old new a = refl
ascends-agree from blocks (suc n) old new a =
    ap (λ b. b && (nat_le (least new n) (entry new n) && nat_lt (entry new n) blocks)) (ascends-agree from blocks n old new (agree-fewer from n old new a))
    ∙ ap (λ l. ascends blocks old n && (nat_le l (entry new n) && nat_lt (entry new n) blocks)) (least-agree from n old new (agree-fewer from n old new a))
    ∙ ap (λ e. ascends blocks old n && (nat_le (least old n) e && nat_lt e blocks)) (entry-agree from n old new a)

module _ (from : ℕ) (home blocks : List (List ℕ)) where
  pub filled-agree : (n b : ℕ) (old new : List ℕ) → Agree from n old new → Filled from old home blocks n b → Filled from new home blocks n b
  filled-agree n b old new a f = record {
    few = f.few;
    next = rw (least-agree from n old new a) f.next;
    ascending = ascends-agree from (length blocks) n old new a ∙ f.ascending;
    over = overlaid-agree from n old new home a ∙ f.over;
  }

  pub filled-none : (area : List ℕ) → Filled from area home blocks 0 0
  unfolding overlaid least ascends
  filled-none area = record { few = omega arith; next = omega arith; ascending = refl; over = refl }

  one_more : (b : ℕ) → b < length blocks → length home ≡ length blocks → set (take b blocks ++ drop b home) b (get_or blocks b []) ≡ take (b + 1) blocks ++ drop (b + 1) home
  one_more b h e = same_lists _ _ (search (rules, places)) (λ k d l. grind (arith, places, get_or-set_same, cases_eq k b))

  one_kept : (b : ℕ) → b < length blocks → length home ≡ length blocks → get_or home b [] ≡ get_or blocks b [] → take b blocks ++ drop b home ≡ take (b + 1) blocks ++ drop (b + 1) home
  one_kept b h e same = same_lists _ _ (search (rules, places)) (λ k d l. grind (arith, places, cases_eq k b))

  pub filled-kept : (area : List ℕ) (n b : ℕ) → b < length blocks → length home ≡ length blocks → get_or home b [] ≡ get_or blocks b [] → Filled from area home blocks n b → Filled from area home blocks n (b + 1)
  filled-kept area n b h e same f = record {
    few = omega (arith, f.few);
    next = omega (arith, f.next);
    ascending = f.ascending;
    over = f.over ∙ one_kept b h e same;
  }

  more : (old new : List ℕ) (n b : ℕ) → b < length blocks → length home ≡ length blocks → Agree from n old new → entry new n ≡ b → content from new n ≡ get_or blocks b [] → Filled from old home blocks n b → Filled from new home blocks (suc n) (b + 1)
  unfolding overlaid least ascends
  more old new n b h e a is_entry is_content f =
      let g = filled-agree n b old new a f in
      record {
        few = omega (arith, f.few);
        next = omega (arith, is_entry);
        ascending =
            let first : ascends (length blocks) new n ≡ true = g.ascending in
            let second : nat_le (least new n) (entry new n) ≡ true = (let low : least new n ≤ entry new n = omega (arith, g.next, is_entry) in grind (arith, nat_tests)) in
            let third : nat_lt (entry new n) (length blocks) ≡ true = (let low : entry new n < length blocks = omega (arith, is_entry) in grind (arith, nat_tests)) in
            rw (first, second, third) refl;
        over =
            ap (λ (l : List (List ℕ)). set l (entry new n) (content from new n)) g.over
            ∙ ap (λ k. set (take b blocks ++ drop b home) k (content from new n)) is_entry
            ∙ ap (λ c. set (take b blocks ++ drop b home) b c) is_content
            ∙ one_more b h e;
      }

  pub filled-more : (old new : List ℕ) (n b : ℕ) → b < length blocks → length home ≡ length blocks → Agree from n old new → entry new n ≡ b → content from new n ≡ get_or blocks b [] → Filled from old home blocks n b → Filled from new home blocks (n + 1) (b + 1)
  filled-more old new n b h e a is_entry is_content f =
      subst (λ m. Filled from new home blocks m (b + 1)) (sym (add-one n)) (more old new n b h e a is_entry is_content f)

-- a part of a list, in which something is written
pub part_at-overwritten_inside : (xs : List ℕ) (start size at place : ℕ) (part : List ℕ) → place ≡ start + at → at + length part ≤ size → start + size ≤ length xs → part_at (overwritten xs place part) start size ≡ overwritten (part_at xs start size) at part
unfolding overwritten
part_at-overwritten_inside xs start size at place part e fits within =
    same_lists _ _ (search (rules, places)) (λ k d l. grind (arith, places))

-- a content block and an entry are written
module _ (from blocks : ℕ) (area block bytes : List ℕ) (n : ℕ) (behind : 4096 + 4 * blocks ≤ from) (fits : from + 4096 * blocks ≤ length area) (h : n < blocks) (whole : length block ≡ 4096) (four : length bytes ≡ 4) where
  with_block : List ℕ
  with_block = overwritten area (from + 4096 * n) block

  with_both : List ℕ
  with_both = overwritten with_block (4096 + 4 * n) bytes

  size_block : length with_block ≡ length area
  unfolding with_block
  size_block = length-overwritten area (from + 4096 * n) block (omega arith)

  agree-saved : Agree from n area with_both
  unfolding with_block with_both
  agree-saved = record {
    entries = λ i l.
        part_at-overwritten_below with_block (4096 + 4 * n) bytes (4096 + 4 * i) 4 (omega (arith, size_block)) (omega arith)
        ∙ part_at-overwritten_below area (from + 4096 * n) block (4096 + 4 * i) 4 (omega arith) (omega arith);
    contents = λ i l.
        part_at-overwritten_above with_block (4096 + 4 * n) bytes (from + 4096 * i) 4096 (omega (arith, size_block)) (omega arith)
        ∙ part_at-overwritten_below area (from + 4096 * n) block (from + 4096 * i) 4096 (omega arith) (omega arith);
  }

  entry-saved : entry with_both n ≡ from_le_bytes w32 bytes
  unfolding with_block with_both
  entry-saved = ap (from_le_bytes w32) (part_at-overwritten with_block (4096 + 4 * n) bytes 4 four (omega (arith, size_block)))

  content-saved : content from with_both n ≡ block
  unfolding with_block with_both
  content-saved =
      part_at-overwritten_above with_block (4096 + 4 * n) bytes (from + 4096 * n) 4096 (omega (arith, size_block)) (omega arith)
      ∙ part_at-overwritten area (from + 4096 * n) block 4096 whole (omega arith)

  pub filled-saved : (home bl : List (List ℕ)) (b : ℕ) → b < length bl → length home ≡ length bl → from_le_bytes w32 bytes ≡ b → block ≡ get_or bl b [] → Filled from area home bl n b → Filled from (overwritten (overwritten area (from + 4096 * n) block) (4096 + 4 * n) bytes) home bl (n + 1) (b + 1)
  unfolding with_block with_both
  filled-saved home bl b l e number is f =
      filled-more from home bl area with_both n b l e agree-saved (entry-saved ∙ number) (content-saved ∙ is) f

-- the header, or the gate, is written
agree-front : (from n : ℕ) (area part : List ℕ) (at : ℕ) → 4096 ≤ from → at + length part ≤ 4096 → at + length part ≤ length area → Agree from n area (overwritten area at part)
agree-front from n area part at behind front fits = record {
  entries = λ i l. part_at-overwritten_above area at part (4096 + 4 * i) 4 fits (omega arith);
  contents = λ i l. part_at-overwritten_above area at part (from + 4096 * i) 4096 fits (omega arith);
}

pub filled-front : (from : ℕ) (home bl : List (List ℕ)) (n b : ℕ) (area part : List ℕ) (at : ℕ) → 4096 ≤ from → at + length part ≤ 4096 → at + length part ≤ length area → Filled from area home bl n b → Filled from (overwritten area at part) home bl n b
filled-front from home bl n b area part at behind front fits f =
    filled-agree from home bl n b area (overwritten area at part) (agree-front from n area part at behind front fits) f

-- what a full area says
pub full-filled : (area : List ℕ) (home bl : List (List ℕ)) (g n : ℕ) → long area 8 ≡ g → word area 16 ≡ n → n ≤ length bl → length home ≡ length bl → Filled (contents_from (length bl)) area home bl n (length bl) → Full (length bl) area home g bl
full-filled area home bl g n generation count few e f =
    let all : take (length bl) bl ++ drop (length bl) home ≡ bl =
    ap (λ (l : List (List ℕ)). l ++ drop (length bl) home) (take_all (length bl) bl (omega arith))
    ∙ ap (λ (l : List (List ℕ)). bl ++ l) (drop_all (length bl) home (omega arith)) ∙ append-nil bl in
    record {
      next = generation;
      few = omega (arith, count, few);
      sound = ap (ascends (length bl) area) count ∙ f.ascending;
      over = ap (λ k. overlaid (contents_from (length bl)) area k home) count ∙ f.over ∙ all;
    }

-- a block and its entry in an area of a disk
pub saved-goes : (blocks start : ℕ) (old new : List ℕ) (ram : Ram) (n b : ℕ) (block bytes : List ℕ) → blocks ≡ length ram.blocks → b < blocks → n ≤ b → start + area_size blocks ≤ length old → length block ≡ 4096 → length bytes ≡ 4 → from_le_bytes w32 bytes ≡ b → block ≡ get_or ram.blocks b [] → area_in blocks start new ≡ overwritten (overwritten (area_in blocks start old) (contents_from blocks + 4096 * n) block) (4096 + 4 * n) bytes → Goes (contents_from blocks) (area_in blocks start old) (area_in blocks start new) ram n (n + 1) b
saved-goes blocks start old new ram n b block bytes e h l within whole four number is area home marked filled =
    let long_enough : contents_from blocks + 4096 * blocks ≤ length (area_in blocks start old) =
    omega (arith, length-part_at old start (area_size blocks) within, size_is blocks) in
    subst (λ (a : List ℕ). Filled (contents_from blocks) a home ram.blocks (n + 1) (b + 1)) (sym area)
    (filled-saved (contents_from blocks) blocks (area_in blocks start old) block bytes n (contents_behind blocks) long_enough (omega arith) whole four
    home ram.blocks b (omega arith) marked.size number is filled)

part_at-part : (xs : List ℕ) (place part : ℕ) (bytes : List ℕ) (at n : ℕ) → place + length bytes ≤ length xs → place ≤ at → at + n ≤ place + length bytes → part ≡ at - place → part_at (overwritten xs place bytes) at n ≡ part_at bytes part n
unfolding overwritten
part_at-part xs place part bytes at n h low high e = same_lists _ _ (search (rules, places)) (λ k d l. grind (arith, places))

-- an area that is full gets its header
pub holds-filled : (blocks start : ℕ) (old new : List ℕ) (ram : Ram) (g n : ℕ) (header : List ℕ) → blocks ≡ length ram.blocks → start + area_size blocks ≤ length old → n ≤ blocks → length header ≡ 12 → from_le_bytes w64 (part_at header 0 8) ≡ g → from_le_bytes w32 (part_at header 8 4) ≡ n → area_in blocks start new ≡ overwritten (area_in blocks start old) 8 header → Saves (contents_from blocks) (area_in blocks start old) ram n blocks → HoldsBlocks blocks (area_in blocks start new) ram g
holds-filled blocks start old new ram g n header e within few size generation count area saves home marked =
    let long_enough : 4096 ≤ length (area_in blocks start old) =
    omega (arith, length-part_at old start (area_size blocks) within, size_above blocks) in
    let written : List ℕ = overwritten (area_in blocks start old) 8 header in
    subst (λ (a : List ℕ). Full blocks a home g ram.blocks) (sym area)
    (subst (λ k. Full k written home g ram.blocks) (sym e)
    (full-filled written home ram.blocks g n
    (ap (from_le_bytes w64) (part_at-part (area_in blocks start old) 8 0 header 8 8 (omega arith) (omega arith) (omega arith) refl) ∙ generation)
    (ap (from_le_bytes w32) (part_at-part (area_in blocks start old) 8 8 header 16 4 (omega arith) (omega arith) (omega arith) refl) ∙ count)
    (omega arith) marked.size
    (filled-front (contents_from (length ram.blocks)) home ram.blocks n (length ram.blocks) (area_in blocks start old) header 8
    (omega (arith, contents_behind (length ram.blocks))) (omega arith) (omega arith)
    (subst (λ k. Filled (contents_from k) (area_in blocks start old) home ram.blocks n k) e (saves home marked)))))

-- the gate is no part of what an open area says
pub full-front : (blocks : ℕ) (area part : List ℕ) (home : List (List ℕ)) (g : ℕ) (bl : List (List ℕ)) → length part ≤ 8 → length part ≤ length area → Full blocks area home g bl → Full blocks (overwritten area 0 part) home g bl
full-front blocks area part home g bl short fits f =
    let new : List ℕ = overwritten area 0 part in
    let generation : long new 8 ≡ long area 8 = ap (from_le_bytes w64) (part_at-overwritten_above area 0 part 8 8 (omega arith) (omega arith)) in
    let count : word new 16 ≡ word area 16 = ap (from_le_bytes w32) (part_at-overwritten_above area 0 part 16 4 (omega arith) (omega arith)) in
    let agree : Agree (contents_from blocks) (word area 16) area new =
    agree-front (contents_from blocks) (word area 16) area part 0 (omega (arith, contents_behind blocks)) (omega arith) (omega arith) in
    record {
      next = generation ∙ f.next;
      few = omega (arith, count, f.few);
      sound = ap (ascends blocks new) count ∙ ascends-agree (contents_from blocks) blocks (word area 16) area new agree ∙ f.sound;
      over =
          ap (λ k. overlaid (contents_from blocks) new k home) count
          ∙ overlaid-agree (contents_from blocks) (word area 16) area new home agree ∙ f.over;
    }

-- marks are counted one by one
pub marks-more : (ram : Ram) (number n : ℕ) → n ≡ marks_below ram number → get_or ram.dirty number false ≡ true → n + 1 ≡ marks_below ram (number + 1)
marks-more ram number n e m =
    ⊎_elim
    (λ (l : number < length ram.dirty).
    ap (λ k. k + 1) e ∙ sym (count_by_more_yes (λ (mark : Bool). mark) ram.dirty number false l m))
    (λ (l : length ram.dirty ≤ number).
    let none : false ≡ true = sym (get_or_past ram.dirty number false l) ∙ m in cc)
    (cases_lt number (length ram.dirty))

pub marks-kept : (ram : Ram) (number n : ℕ) → n ≡ marks_below ram number → get_or ram.dirty number false ≡ false → n ≡ marks_below ram (number + 1)
marks-kept ram number n e m =
    ⊎_elim
    (λ (l : number < length ram.dirty). e ∙ sym (count_by_more_no (λ (mark : Bool). mark) ram.dirty number false l m))
    (λ (l : length ram.dirty ≤ number).
    e ∙ ap (count_by (λ (mark : Bool). mark)) (take_all number ram.dirty l ∙ sym (take_all (number + 1) ram.dirty (omega arith))))
    (cases_lt number (length ram.dirty))

pub all-marks : (ram : Ram) → length ram.dirty ≤ length ram.blocks → marks_below ram (length ram.blocks) ≡ marks ram
all-marks ram few = ap (count_by (λ (mark : Bool). mark)) (take_all (length ram.blocks) ram.dirty few)

pub ruleset marked = (marks-more, marks-kept)

pub counted-header : (blocks start : ℕ) (old new : List ℕ) (n : ℕ) (header : List ℕ) → start + area_size blocks ≤ length old → length header ≡ 12 → from_le_bytes w32 (part_at header 8 4) ≡ n → area_in blocks start new ≡ overwritten (area_in blocks start old) 8 header → n ≡ word (area_in blocks start new) 16
counted-header blocks start old new n header within size count area =
    let long_enough : 4096 ≤ length (area_in blocks start old) =
    omega (arith, length-part_at old start (area_size blocks) within, size_above blocks) in
    sym
    (ap (λ (a : List ℕ). word a 16) area
    ∙ ap (from_le_bytes w32) (part_at-part (area_in blocks start old) 8 8 header 16 4 (omega arith) (omega arith) (omega arith) refl) ∙ count)
