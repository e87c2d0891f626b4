-- What the first bytes of a disk say.
use Rattle.std.proofs.Common.{subst, ◌≡◌, ℕ, ◌+◌, ◌%◌, ◌<◌, ◌≤◌, Bool, true, false, ◌&&◌, List, codes, length, get_or, refl, sym, ◌∙◌, ap, arith, if◌then◌else◌}
use Rattle.std.specs.Prelude.{◌==◌, nat_le, bytes_eq}
use Rattle.std.specs.Int.{from_le_bytes, w32}
use Rattle.std.proofs.lemmas.Bool.Decides.{nat_tests}
use Rattle.kn_base.specs.Rows.{part_at}
use Rattle.disk_layout.specs.declared.label.Label.{Label}
use Rattle.disk_layout.specs.declared.label.Label.TheVariants.{Absent, Wrong, Names}
use Rattle.disk_layout.specs.Sizes.{word, pages_right, quantum_right, disk_size, blocks_for}
use Rattle.disk_layout.specs.Saved.{gate_open, label_of, label_right, is_present}
use Rattle.disk_layout.proofs.ChoiceLaws.{both_true}
use Rattle.disk_layout.proofs.RawLaws.{gate_in}
use Rattle.disk_layout.proofs.HomeLaws.{part-part}

short : (size : ℕ) → size < 4096 → nat_le 4096 size ≡ false
short size h = grind (arith, nat_tests)

long_enough : (size : ℕ) → 4096 ≤ size → nat_le 4096 size ≡ true
long_enough size h = grind (arith, nat_tests)

pub label-short : (size : ℕ) (label : List ℕ) → size < 4096 → Absent ≡ label_of size label
unfolding label_of
label-short size label h = rw (short size h) refl

pub present-short : (image : List ℕ) → length image < 4096 → false ≡ is_present image
unfolding is_present
present-short image h = rw (short (length image) h) refl

module _ (image : List ℕ) where
  field : (at n : ℕ) → at + n ≤ 20 → part_at (part_at image 0 20) at n ≡ part_at (part_at image 0 4096) at n
  field at n h = part-part image 0 20 at n h ∙ sym (part-part image 0 4096 at n (omega arith))

  gate : get_or (part_at image 0 20) 0 0 ≡ get_or (part_at image 0 4096) 0 0
  gate = gate_in image 0 20 (omega arith) ∙ sym (gate_in image 0 4096 (omega arith))

  pub label-front : (size : ℕ) → label_of size (part_at image 0 20) ≡ label_of size (part_at image 0 4096)
  unfolding label_of
  label-front size =
      ap (λ b. if (nat_le 4096 size && (b == 1)) then (if label_right size (part_at image 0 20) then Names (word (part_at image 0 20) 12) (word (part_at image 0 20) 16) else Wrong) else Absent) gate
      ∙ ap (λ f. by f (part_at (part_at image 0 20) 8 4) (part_at (part_at image 0 20) 12 4) (part_at (part_at image 0 20) 16 4)) (field 1 7 (omega arith))
      ∙ ap (λ f. by (part_at (part_at image 0 4096) 1 7) f (part_at (part_at image 0 20) 12 4) (part_at (part_at image 0 20) 16 4)) (field 8 4 (omega arith))
      ∙ ap (λ f. by (part_at (part_at image 0 4096) 1 7) (part_at (part_at image 0 4096) 8 4) f (part_at (part_at image 0 20) 16 4)) (field 12 4 (omega arith))
      ∙ ap (λ f. by (part_at (part_at image 0 4096) 1 7) (part_at (part_at image 0 4096) 8 4) (part_at (part_at image 0 4096) 12 4) f) (field 16 4 (omega arith))
    where
      by : List ℕ → List ℕ → List ℕ → List ℕ → Label
      by name version pages quantum =
          if (nat_le 4096 size && (get_or (part_at image 0 4096) 0 0 == 1))
          then
          (if bytes_eq name (codes "KEYNIXD")
          && ((from_le_bytes w32 version == 1)
          && (pages_right (from_le_bytes w32 pages) && (quantum_right (from_le_bytes w32 quantum) && (size == disk_size (blocks_for (from_le_bytes w32 pages))))))
          then Names (from_le_bytes w32 pages) (from_le_bytes w32 quantum) else Wrong)
          else Absent

  pub present-front : (bytes : List ℕ) → 4096 ≤ length image → bytes ≡ part_at image 0 20 → (get_or bytes 0 0 == 1) ≡ is_present image
  unfolding is_present
  present-front bytes h e =
      ap (λ (b : List ℕ). get_or b 0 0 == 1) e ∙ ap (λ b. b == 1) gate
      ∙ ap (λ (b : Bool). b && (get_or (part_at image 0 4096) 0 0 == 1)) (sym (long_enough (length image) h))

-- the numbers of a label that is right
pub numbers-right : (size : ℕ) (label : List ℕ) → label_right size label ≡ true → (64 ≤ word label 12) × (word label 12 ≤ 16384) × (word label 12 % 64 ≡ 0) × (1 ≤ word label 16) × (word label 16 ≤ 10000)
numbers-right size label e =
    let a = both_true (bytes_eq (part_at label 1 7) (codes "KEYNIXD")) ((word label 8 == 1) && (pages_right (word label 12) && (quantum_right (word label 16) && (size == disk_size (blocks_for (word label 12)))))) e in
    let b = both_true (word label 8 == 1) (pages_right (word label 12) && (quantum_right (word label 16) && (size == disk_size (blocks_for (word label 12))))) a.1 in
    let c = both_true (pages_right (word label 12)) (quantum_right (word label 16) && (size == disk_size (blocks_for (word label 12)))) b.1 in
    let d = both_true (quantum_right (word label 16)) (size == disk_size (blocks_for (word label 12))) c.1 in
    let p = pages-in (word label 12) c.0 in
    let q = quantum-in (word label 16) d.0 in
    (p.0, p.1, p.2, q.0, q.1)
  where
    pages-in : (p : ℕ) → pages_right p ≡ true → (64 ≤ p) × (p ≤ 16384) × (p % 64 ≡ 0)
    pages-in p e = (grind (arith, nat_tests), grind (arith, nat_tests), grind (arith, nat_tests))

    quantum-in : (q : ℕ) → quantum_right q ≡ true → (1 ≤ q) × (q ≤ 10000)
    quantum-in q e = (grind (arith, nat_tests), grind (arith, nat_tests))

pub numbers-read : (size p q : ℕ) (label : List ℕ) → label_right size label ≡ true → p ≡ word label 12 → q ≡ word label 16 → (64 ≤ p) × (p ≤ 16384) × (p % 64 ≡ 0) × (1 ≤ q) × (q ≤ 10000)
numbers-read size p q label e f g =
    subst (λ a. (64 ≤ a) × (a ≤ 16384) × (a % 64 ≡ 0) × (1 ≤ q) × (q ≤ 10000)) (sym f)
    (subst (λ b. (64 ≤ word label 12) × (word label 12 ≤ 16384) × (word label 12 % 64 ≡ 0) × (1 ≤ b) × (b ≤ 10000)) (sym g) (numbers-right size label e))

-- the length that a label asks for
pub label-size : (size : ℕ) (label : List ℕ) (pages quantum : ℕ) → label_of size label ≡ Names pages quantum → size ≡ disk_size (blocks_for pages)
unfolding label_of
label-size size label pages quantum e = by (gate_open size label) (label_right size label) refl e
  where
    last : (a b c d f : Bool) → (a && (b && (c && (d && f)))) ≡ true → f ≡ true
    last a b c d f e = (both_true d f (both_true c (d && f) (both_true b (c && (d && f)) (both_true a (b && (c && (d && f))) e).1).1).1).1

    by : (gate right : Bool) → label_right size label ≡ right → (if gate then (if right then Names (word label 12) (word label 16) else Wrong) else Absent) ≡ Names pages quantum → size ≡ disk_size (blocks_for pages)
    by false right is n = cc
    by true false is n = cc
    by true true is n =
        let same : word label 12 ≡ pages = cc in
        let test : (size == disk_size (blocks_for (word label 12))) ≡ true =
        last (bytes_eq (part_at label 1 7) (codes "KEYNIXD")) (word label 8 == 1) (pages_right (word label 12)) (quantum_right (word label 16)) (size == disk_size (blocks_for (word label 12))) is in
        let equal : size ≡ disk_size (blocks_for (word label 12)) = grind (arith, nat_tests) in
        equal ∙ ap (λ p. disk_size (blocks_for p)) same
