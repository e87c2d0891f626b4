-- What gates do.
use Rattle.std.proofs.Common.{Some, ◌≡◌, inl, inr, ⊎_elim, ℕ, ◌+◌, ◌-◌, ◌<◌, ◌≤◌, ◌^◌, ◌%◌, false, List, [], ◌∷◌, length, get_or, refl, sym, ◌∙◌, ap, subst, arith}
use Rattle.std.specs.Int.{from_le_bytes, w32}
use Rattle.std.proofs.lemmas.Bool.{cases_eq}
use Rattle.kn_base.specs.Rows.{overwritten}
use Rattle.kn_base.proofs.RowLaws.{get_or-overwritten_in, part_at-overwritten_above, length-part_at}
use Rattle.kn_disk.specs.Images.{Scarred}
use Rattle.kn_disk.proofs.Scars.{scar-none, scar-joined, scar-wider, scar-written, scar-one}
use Rattle.obj_store.specs.Ram.{Ram}
use Rattle.std.specs.Prelude.{◌==◌}
use Rattle.std.proofs.lemmas.Bool.Decides.{nat_tests}
use Rattle.disk_layout.specs.Sizes.{word, area_size, area_in, contents_from}
use Rattle.disk_layout.specs.Saved.{raw, Machine, label_in, blocks_named, home_of, gate_of, gate_at, area_at, entries_at, ascends, overlaid}
use Rattle.disk_layout.proofs.SizeLaws.{size_above}
use Rattle.disk_layout.proofs.RawLaws.{Holds, holds-raw, next_start, gate_in, gate-open, label-scarred, home-scarred, area-scarred, holds-unopened, generation-opened}
use Rattle.checkpoint.specs.Commit.{MarkedSince, SavedOr}
use Rattle.checkpoint.specs.Filling.{Unopened, Opened, IsClosing, IsCommitting, HoldsBlocks, Full}
use Rattle.checkpoint.proofs.FillLaws.{full-front, part_at-overwritten_inside}

-- a gate that was open is torn
pub closing : (start : ℕ) (old new : List ℕ) → get_or old start 0 ≡ 1 → Scarred start 1 old new → IsClosing start old new
closing start old new one torn =
    ⊎_elim
    (λ (same : get_or new start 0 ≡ 1). inl (scar-one start old new old torn (scar-none start 1 old) (same ∙ sym one)))
    (λ (other : get_or new start 0 ≡ 1 → ⊥). inr (record { inside = torn; closed = other }))
    (cases_eq (get_or new start 0) 1)

-- a gate that is written
gate-written : (start byte : ℕ) (old : List ℕ) → start < length old → get_or (overwritten old start (byte ∷ [])) start 0 ≡ byte
gate-written start byte old h =
    let first : start - start ≡ 0 = omega arith in
    get_or-overwritten_in old start (byte ∷ []) start 0 (omega arith) (omega arith) (omega arith)
    ∙ ap (λ k. get_or (byte ∷ []) k 0) first

pub closed-written : (start : ℕ) (old new : List ℕ) → start < length old → new ≡ overwritten old start (0 ∷ []) → Unopened start 1 old new
closed-written start old new h e = record {
  inside = subst (Scarred start 1 old) (sym e) (scar-written old start (0 ∷ []) (omega arith));
  closed = λ one. absurd (omega (arith, one, ap (λ b. get_or b start 0) e ∙ gate-written start 0 old h));
}

-- what is saved behind a closed gate
pub unopened-behind : (start size : ℕ) (old closed new : List ℕ) → 1 ≤ size → Unopened start 1 old closed → Scarred (start + 1) (size - 1) closed new → Unopened start size old new
unopened-behind start size old closed new some u s = record {
  inside =
      scar-joined start size old closed new (scar-wider start 1 start size old closed (omega arith) (omega arith) u.inside)
      (scar-wider (start + 1) (size - 1) start size closed new (omega arith) (omega arith) s);
  closed = λ one. u.closed (sym (s.below start (omega arith)) ∙ one);
}

-- the opening of a gate
pub opening : (blocks start : ℕ) (ram : Ram) (g : ℕ) (old full new : List ℕ) → start + area_size blocks ≤ length full → Unopened start (area_size blocks) old full → HoldsBlocks blocks (area_in blocks start full) ram g → Scarred start 1 full new → IsCommitting blocks start ram g old new
opening blocks start ram g old full new within u holds torn =
    let some = size_above blocks in
    let joined : Scarred start (area_size blocks) old new =
    scar-joined start (area_size blocks) old full new u.inside
    (scar-wider start 1 start (area_size blocks) full new (omega arith) (omega arith) torn) in
    ⊎_elim
    (λ (one : get_or new start 0 ≡ 1).
    let is : new ≡ overwritten full start (1 ∷ []) =
    scar-one start full new (overwritten full start (1 ∷ [])) torn (scar-written full start (1 ∷ []) (omega arith))
    (one ∙ sym (gate-written start 1 full (omega arith))) in
    let area : area_in blocks start new ≡ overwritten (area_in blocks start full) 0 (1 ∷ []) =
    ap (area_in blocks start) is ∙ part_at-overwritten_inside full start (area_size blocks) 0 start (1 ∷ []) (omega arith) (omega arith) within in
    inr (inr (record {
      inside = joined;
      gate = one;
      holds = λ home marked.
          subst (λ (a : List ℕ). Full blocks a home g ram.blocks) (sym area)
          (full-front blocks (area_in blocks start full) (1 ∷ []) home g ram.blocks (omega arith)
          (omega (arith, length-part_at full start (area_size blocks) within)) (holds home marked));
    })))
    (λ (other : get_or new start 0 ≡ 1 → ⊥). inr (inl (record { inside = joined; closed = other })))
    (cases_eq (get_or new start 0) 1)

pub opened-written : (blocks start : ℕ) (ram : Ram) (g : ℕ) (old full new : List ℕ) → start + area_size blocks ≤ length full → Unopened start (area_size blocks) old full → HoldsBlocks blocks (area_in blocks start full) ram g → new ≡ overwritten full start (1 ∷ []) → Opened blocks start ram g old new
opened-written blocks start ram g old full new within u holds is =
    let some = size_above blocks in
    let torn : Scarred start 1 full new = subst (Scarred start 1 full) (sym is) (scar-written full start (1 ∷ []) (omega arith)) in
    let area : area_in blocks start new ≡ overwritten (area_in blocks start full) 0 (1 ∷ []) =
    ap (area_in blocks start) is ∙ part_at-overwritten_inside full start (area_size blocks) 0 start (1 ∷ []) (omega arith) (omega arith) within in
    record {
      inside =
          scar-joined start (area_size blocks) old full new u.inside
          (scar-wider start 1 start (area_size blocks) full new (omega arith) (omega arith) torn);
      gate = ap (λ b. get_or b start 0) is ∙ gate-written start 1 full (omega arith);
      holds = λ home marked.
          subst (λ (a : List ℕ). Full blocks a home g ram.blocks) (sym area)
          (full-front blocks (area_in blocks start full) (1 ∷ []) home g ram.blocks (omega arith)
          (omega (arith, length-part_at full start (area_size blocks) within)) (holds home marked));
    }

-- in the words of machines
module _ (blocks g : ℕ) (bl : List (List ℕ)) (ram : Ram) (old : List ℕ) (sized : blocks_named (label_in old) ≡ Some blocks) (was : Holds blocks g bl old) (marked : MarkedSince (home_of blocks old) ram) (few : g + 1 < 2 ^ 63) where
  pub holds-opened : (new : List ℕ) → Opened blocks (next_start blocks g) ram (g + 1) old new → Holds blocks (g + 1) ram.blocks new
  holds-opened new o =
      let full = o.holds (home_of blocks old) marked in
      let home = home-scarred blocks g old new o.inside in
      let test : (g + 1 == 0) ≡ false = grind (arith, nat_tests) in
      let count : entries_at blocks (g + 1) new ≡ word (area_at blocks (g + 1) new) 16 = rw test refl in
      let gate : gate_at blocks ((g + 1) % 2) new ≡ Some (g + 1) =
      gate-open (area_in blocks (next_start blocks g) new) (gate_in new (next_start blocks g) (area_size blocks) (omega (arith, size_above blocks)) ∙ o.gate)
      ∙ ap Some full.next in
      record {
        taken = generation-opened blocks g old new was.taken gate (ap gate_of (area-scarred blocks g old new o.inside)) few;
        few = subst (λ n. n ≤ blocks) (sym count) full.few;
        sound = ap (ascends blocks (area_at blocks (g + 1) new)) count ∙ full.sound;
        over =
            ap (λ n. overlaid (contents_from blocks) (area_at blocks (g + 1) new) n (home_of blocks new)) count
            ∙ ap (overlaid (contents_from blocks) (area_at blocks (g + 1) new) (word (area_at blocks (g + 1) new) 16)) home ∙ full.over;
      }

  pub raw-opened : (new : List ℕ) → Opened blocks (next_start blocks g) ram (g + 1) old new → raw new ≡ Machine (g + 1) ram.blocks
  raw-opened new o = holds-raw blocks (g + 1) ram.blocks new (ap blocks_named (label-scarred blocks g old new o.inside) ∙ sized) (holds-opened new o)

  pub raw-committing : (new : List ℕ) → IsCommitting blocks (next_start blocks g) ram (g + 1) old new → SavedOr old (g + 1) ram.blocks new
  raw-committing new (inl same) = record { label = ap label_in same; machine = inl (ap raw same) }
  raw-committing new (inr (inl u)) =
      let label = label-scarred blocks g old new u.inside in
      record {
        label = label;
        machine =
            inl
            (holds-raw blocks g bl new (ap blocks_named label ∙ sized) (holds-unopened blocks g old new u.inside bl was u.closed)
            ∙ sym (holds-raw blocks g bl old sized was));
      }
  raw-committing new (inr (inr o)) = record { label = label-scarred blocks g old new o.inside; machine = inr (raw-opened new o) }

-- the number of entries stays when the gate is written
pub count-opened : (blocks start n : ℕ) (full new : List ℕ) → start + area_size blocks ≤ length full → n ≡ word (area_in blocks start full) 16 → new ≡ overwritten full start (1 ∷ []) → n ≡ word (area_in blocks start new) 16
count-opened blocks start n full new within e is =
    let some = size_above blocks in
    let area : area_in blocks start new ≡ overwritten (area_in blocks start full) 0 (1 ∷ []) =
    ap (area_in blocks start) is ∙ part_at-overwritten_inside full start (area_size blocks) 0 start (1 ∷ []) (omega arith) (omega arith) within in
    e
    ∙ sym
    (ap (λ (a : List ℕ). word a 16) area
    ∙ ap (from_le_bytes w32) (part_at-overwritten_above (area_in blocks start full) 0 (1 ∷ []) 16 4 (omega (arith, length-part_at full start (area_size blocks) within)) (omega arith)))
