-- What a disk that was laid out holds once its gate is open.
use Rattle.std.proofs.Common.{◌≡◌, inl, inr, ⊎_elim, ℕ, ◌+◌, ◌*◌, ◌%◌, ◌<◌, ◌≤◌, Bool, true, false, ◌&&◌, Some, None, codes, List, [], ◌∷◌, length, get_or, refl, sym, ◌∙◌, ap, subst, arith, rules}
use Rattle.std.specs.Prelude.{◌==◌, nat_lt, nat_le, bytes_eq}
use Rattle.std.specs.Int.{from_le_bytes, w32}
use Rattle.std.proofs.lemmas.List.{places, same_lists, get_or_default, get_or_past}
use Rattle.std.proofs.lemmas.Bool.{cases_eq}
use Rattle.std.proofs.lemmas.Bool.Decides.{nat_tests}
use Rattle.std.specs.Cmp.Lexicographic.{bytes_decides}
use Rattle.kn_base.specs.Rows.{part_at, overwritten}
use Rattle.kn_base.proofs.RowLaws.{length-overwritten, get_or-overwritten_in, get_or-overwritten_above, part_at-overwritten}
use Rattle.kn_disk.specs.Images.{Scarred, resized}
use Rattle.kn_disk.proofs.Scars.{scar-written, scar-one, scar-part_below, scar-part_above}
use Rattle.disk_layout.specs.declared.label.Label.TheVariants.{Names}
use Rattle.disk_layout.specs.Sizes.{word, area_in, area_size, area_start, home_start, disk_size, blocks_for, pages_right, quantum_right}
use Rattle.disk_layout.specs.Saved.{Machine, raw, label_in, label_of, label_right, blocks_named, chosen, gate_of, gate_at, home_of, ascends, overlaid}
use Rattle.disk_layout.proofs.SizeLaws.{size_above}
use Rattle.disk_layout.proofs.RawLaws.{Holds, holds-raw, gate-closed, gate_in}
use Rattle.disk_layout.proofs.HomeLaws.{part-part, length-home, home-at}
use Rattle.checkpoint.specs.Format.{NoneOr, IsLabel, Laid, HomesLaid}
use Rattle.checkpoint.proofs.BlankLaws.{blank_raw}

eq_true : (x y : ℕ) → x ≡ y → (x == y) ≡ true
eq_true x y e = grind (arith, nat_tests)

le_true : (x y : ℕ) → x ≤ y → nat_le x y ≡ true
le_true x y e = grind (arith, nat_tests)

lt_false : (x y : ℕ) → y ≤ x → nat_lt x y ≡ false
lt_false x y e = grind (arith, nat_tests)

two : (a b : Bool) → a ≡ true → b ≡ true → (a && b) ≡ true
two a b e f = rw (e, f) refl

five : (a b c d e : Bool) → a ≡ true → b ≡ true → c ≡ true → d ≡ true → e ≡ true → (a && (b && (c && (d && e)))) ≡ true
five a b c d e ea eb ec ed ee = rw (ea, eb, ec, ed, ee) refl

pages_fit : (p : ℕ) → 64 ≤ p → p ≤ 16384 → p % 64 ≡ 0 → pages_right p ≡ true
pages_fit p low high even = grind (arith, nat_tests)

quantum_fits : (q : ℕ) → 1 ≤ q → q ≤ 10000 → quantum_right q ≡ true
quantum_fits q some few = grind (arith, nat_tests)

names_of : (size : ℕ) (label : List ℕ) → 4096 ≤ size → get_or label 0 0 ≡ 1 → label_right size label ≡ true → label_of size label ≡ Names (word label 12) (word label 16)
unfolding label_of
names_of size label long gate right =
    let a : nat_le 4096 size ≡ true = le_true 4096 size long in
    let b : (get_or label 0 0 == 1) ≡ true = eq_true (get_or label 0 0) 1 gate in
    rw (a, b, right) refl

module _ (blocks p q : ℕ) (bl : List (List ℕ)) (c new : List ℕ) (laid : Laid blocks p q bl c) (is : new ≡ overwritten c 0 (1 ∷ [])) (pages : blocks_for p ≡ blocks) (low : 64 ≤ p) (high : p ≤ 16384) (even : p % 64 ≡ 0) (some : 1 ≤ q) (few : q ≤ 10000) (count : length bl ≡ blocks) where
  long : 4096 ≤ length c
  long = omega (arith, laid.size)

  torn : Scarred 0 1 c new
  torn = subst (Scarred 0 1 c) (sym is) (scar-written c 0 (1 ∷ []) (omega (arith, long)))

  label : List ℕ
  label = part_at new 0 4096

  gate : get_or label 0 0 ≡ 1
  unfolding label
  gate = gate_in new 0 4096 (omega arith) ∙ ap (λ (b : List ℕ). get_or b 0 0) is ∙ get_or-overwritten_in c 0 (1 ∷ []) 0 0 (omega (arith, long)) (omega arith) (omega arith)

  -- a part of the label
  field : (at n : ℕ) → at + n ≤ 19 → part_at label (1 + at) n ≡ part_at (part_at c 1 19) at n
  unfolding label
  field at n h =
      part-part new 0 4096 (1 + at) n (omega arith)
      ∙ ap (λ k. part_at new k n) (omega arith)
      ∙ scar-part_above 0 1 c new (1 + at) n torn (omega arith)
      ∙ sym (part-part c 1 19 at n h)

  pub label-laid : label_in new ≡ Names p q
  unfolding label
  label-laid =
      let name : part_at label 1 7 ≡ 75 ∷ 69 ∷ 89 ∷ 78 ∷ 73 ∷ 88 ∷ 68 ∷ [] = field 0 7 (omega arith) ∙ laid.label.name in
      let version : word label 8 ≡ 1 = ap (from_le_bytes w32) (field 7 4 (omega arith)) ∙ laid.label.version in
      let pages_are : word label 12 ≡ p = ap (from_le_bytes w32) (field 11 4 (omega arith)) ∙ laid.label.pages in
      let quantum_is : word label 16 ≡ q = ap (from_le_bytes w32) (field 15 4 (omega arith)) ∙ laid.label.quantum in
      let size : length new ≡ disk_size (blocks_for (word label 12)) = torn.size ∙ laid.size ∙ ap disk_size (sym (ap blocks_for pages_are ∙ pages)) in
      names_of (length new) label (omega (arith, torn.size, long)) gate
      (five (bytes_eq (part_at label 1 7) (codes "KEYNIXD")) (word label 8 == 1) (pages_right (word label 12)) (quantum_right (word label 16)) (length new == disk_size (blocks_for (word label 12)))
      ((bytes_decides (part_at label 1 7) (codes "KEYNIXD")).1 name)
      (eq_true (word label 8) 1 version) (ap pages_right pages_are ∙ pages_fit p low high even) (ap quantum_right quantum_is ∙ quantum_fits q some few)
      (eq_true (length new) (disk_size (blocks_for (word label 12))) size))
      ∙ ap (λ n. Names n (word label 16)) pages_are ∙ ap (Names p) quantum_is

  sized : blocks_named (label_in new) ≡ Some blocks
  sized = ap blocks_named label-laid ∙ ap Some pages

  closed : (start : ℕ) → 1 ≤ start → get_or c start 0 ≡ 0 → gate_of (area_in blocks start new) ≡ None
  closed start h zero_is =
      gate-closed (part_at new start (area_size blocks))
      (λ one. absurd (omega (arith, gate_in new start (area_size blocks) (omega (arith, size_above blocks)), torn.above start (omega arith), zero_is, one)))

  homes : home_of blocks new ≡ bl
  homes =
      same_lists _ _ (length-home blocks new ∙ sym count)
      (λ k d l.
      let h : k < blocks = omega (arith, length-home blocks new) in
      let m : k < length bl = omega (arith, count) in
      get_or_default (home_of blocks new) k d [] l ∙ home-at blocks new k h
      ∙ scar-part_above 0 1 c new (home_start blocks + 4096 * k) 4096 torn (omega arith)
      ∙ laid.homes k h ∙ get_or_default bl k [] d m)

  holds : Holds blocks 0 bl new
  unfolding chosen ascends overlaid
  holds = record {
    taken =
        ap (λ x. chosen x (gate_at blocks 1 new)) (closed (area_start blocks 0) (omega arith) laid.first)
        ∙ ap (chosen None) (closed (area_start blocks 1) (omega arith) laid.second);
    few = omega arith;
    sound = refl;
    over = homes;
  }

  pub raw_laid : raw new ≡ Machine 0 bl
  raw_laid = holds-raw blocks 0 bl new sized holds

-- the gate of the label is torn
pub label-torn : (blocks p q : ℕ) (bl : List (List ℕ)) (c new : List ℕ) → Laid blocks p q bl c → blocks_for p ≡ blocks → 64 ≤ p → p ≤ 16384 → p % 64 ≡ 0 → 1 ≤ q → q ≤ 10000 → length bl ≡ blocks → Scarred 0 1 c new → NoneOr p q bl new
label-torn blocks p q bl c new laid pages low high even some few count torn =
    ⊎_elim
    (λ (one : get_or new 0 0 ≡ 1).
    let fits : 0 + 1 ≤ length c = omega (arith, laid.size) in
    let is : new ≡ overwritten c 0 (1 ∷ []) =
    scar-one 0 c new (overwritten c 0 (1 ∷ [])) torn (scar-written c 0 (1 ∷ []) fits)
    (one ∙ sym (get_or-overwritten_in c 0 (1 ∷ []) 0 0 fits (omega arith) (omega arith))) in
    inr (raw_laid blocks p q bl c new laid is pages low high even some few count, label-laid blocks p q bl c new laid is pages low high even some few count))
    (λ (other : get_or new 0 0 ≡ 1 → ⊥). inl (blank_raw new (inr other)))
    (cases_eq (get_or new 0 0) 1)

-- what the steps leave
zero_at : (n k : ℕ) → get_or (resized n (0 ∷ [])) k 0 ≡ 0
unfolding resized
zero_at n k = grind (arith, places)

pub laid-steps : (blocks p q : ℕ) (bl : List (List ℕ)) (label first mid c : List ℕ) → first ≡ resized (disk_size blocks) (0 ∷ []) → mid ≡ overwritten first 1 label → IsLabel label p q → HomesLaid blocks bl mid c blocks → length first ≡ disk_size blocks → Laid blocks p q bl c
laid-steps blocks p q bl label first mid c e written is homes size =
    let fits : 1 + length label ≤ length first = omega (arith, is.size, size) in
    let mid_size : length mid ≡ length first = ap length written ∙ length-overwritten first 1 label fits in
    let home : Scarred (home_start blocks) (4096 * blocks) mid c =
    record {
      size = homes.size;
      below = homes.front;
      above = λ k h. get_or_past c k 0 (omega (arith, homes.size, mid_size, size)) ∙ sym (get_or_past mid k 0 (omega (arith, mid_size, size)));
    } in
    let gate : (k : ℕ) → 20 ≤ k → k < home_start blocks → get_or c k 0 ≡ 0 =
    λ k low high.
    homes.front k high ∙ ap (λ (b : List ℕ). get_or b k 0) written
    ∙ get_or-overwritten_above first 1 label k 0 fits (omega (arith, is.size))
    ∙ ap (λ (b : List ℕ). get_or b k 0) e ∙ zero_at (disk_size blocks) k in
    record {
      size = homes.size ∙ mid_size ∙ size;
      label = subst (λ (l : List ℕ). IsLabel l p q)
          (sym
          (scar-part_below (home_start blocks) (4096 * blocks) mid c 1 19 home (omega (arith, size_above blocks))
          ∙ ap (λ (b : List ℕ). part_at b 1 19) written ∙ part_at-overwritten first 1 label 19 is.size (omega (arith, size))))
          is;
      first = gate (area_start blocks 0) (omega arith) (omega (arith, size_above blocks));
      second = gate (area_start blocks 1) (omega (arith, size_above blocks)) (omega (arith, size_above blocks));
      homes = homes.homes;
    }

pub length-resized : (n : ℕ) → length (resized n (0 ∷ [])) ≡ n
unfolding resized
length-resized n = search (rules, places)
