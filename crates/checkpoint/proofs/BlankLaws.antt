-- What a disk without a machine may go through.
use Rattle.std.proofs.Common.{nat_le, ◌&&◌, ◌≡◌, ◌⊎◌, inl, inr, ⊎_elim, ℕ, ◌+◌, ◌*◌, ◌<◌, ◌≤◌, Bool, true, false, List, [], ◌∷◌, length, get_or, refl, sym, ◌∙◌, ap, subst, arith, rules}
use Rattle.std.specs.Prelude.{◌==◌}
use Rattle.std.proofs.lemmas.List.{places, same_lists}
use Rattle.std.proofs.lemmas.Bool.Decides.{nat_tests}
use Rattle.kn_base.specs.Rows.{part_at, overwritten}
use Rattle.kn_disk.specs.Images.{Scarred, Resized, resized}
use Rattle.disk_layout.specs.declared.label.Label.TheVariants.{Absent}
use Rattle.disk_layout.specs.Saved.{NoMachine, raw, raw_by, label_in, label_of, gate_open, is_present}
use Rattle.std.proofs.lemmas.Bool.{cases_lt}
use Rattle.kn_base.proofs.RowLaws.{part_at-overwritten}
use Rattle.kn_disk.proofs.Scars.{scar-written, scar-part_below}
use Rattle.disk_layout.specs.Sizes.{home_start, disk_size}
use Rattle.disk_layout.proofs.RawLaws.{gate_in}
use Rattle.kn_disk.proofs.RunLaws.{leaves-joined, leaves-wider, each-since}
use Rattle.disk_layout.specs.Runs.{Still}
use Rattle.checkpoint.specs.Format.{Blank, HomesLaid, FromSync}

gate_shut : (x : ℕ) → (x ≡ 1 → ⊥) → (x == 1) ≡ false
gate_shut x h = grind (arith, nat_tests)

short_enough : (x : ℕ) → x < 4096 → nat_le 4096 x ≡ false
short_enough x h = grind (arith, nat_tests)

and_false : (b : Bool) → (b && false) ≡ false
and_false true = refl
and_false false = refl

blank_gate : (c : List ℕ) → Blank c → gate_open (length c) (part_at c 0 4096) ≡ false
blank_gate c (inl short) = ap (λ (b : Bool). b && (get_or (part_at c 0 4096) 0 0 == 1)) (short_enough (length c) short)
blank_gate c (inr closed) =
    ap (λ b. nat_le 4096 (length c) && b) (gate_shut (get_or (part_at c 0 4096) 0 0) (λ one. closed (sym (gate_in c 0 4096 (omega arith)) ∙ one)))
    ∙ and_false (nat_le 4096 (length c))

-- no machine
blank_label : (c : List ℕ) → Blank c → label_in c ≡ Absent
unfolding label_of
blank_label c b = let test : gate_open (length c) (part_at c 0 4096) ≡ false = blank_gate c b in rw test refl

pub absent-blank : (c : List ℕ) → is_present c ≡ false → Blank c
unfolding is_present
absent-blank c e =
    ⊎_elim (λ (short : length c < 4096). inl short)
    (λ (long : 4096 ≤ length c).
    inr (λ one.
    let a : nat_le 4096 (length c) ≡ true = grind (arith, nat_tests) in
    let first : get_or (part_at c 0 4096) 0 0 ≡ 1 = gate_in c 0 4096 (omega arith) ∙ one in
    let b : (get_or (part_at c 0 4096) 0 0 == 1) ≡ true = grind (arith, nat_tests) in
    differ (gate_open (length c) (part_at c 0 4096)) (both a b) e))
    (cases_lt (length c) 4096)
  where
    both : {a b : Bool} → a ≡ true → b ≡ true → (a && b) ≡ true
    both {a} {b} e f = rw (e, f) refl

    differ : (b : Bool) → b ≡ true → b ≡ false → ⊥
    differ b e f = cc

pub blank_raw : (c : List ℕ) → Blank c → raw c ≡ NoMachine
unfolding raw
blank_raw c b = ap (λ l. raw_by l c) (blank_label c b)

-- a disk of one byte is blank, and writes behind the first byte leave it blank
pub blank_one : (c : List ℕ) → length c ≡ 1 → Blank c
blank_one c e = inl (omega arith)

pub blank-resized : (n : ℕ) (old c : List ℕ) → Blank old → Resized n old c → n ≡ 1 → Blank c
blank-resized n old c b (inl same) e = subst Blank (sym same) b
blank-resized n old c b (inr cut) e = inl (omega (arith, cut.size))

pub blank-longer : (n : ℕ) (c : List ℕ) → 1 ≤ n → Resized n (0 ∷ []) c → Blank c
blank-longer n c some (inl same) = inl (omega (arith, ap length same))
blank-longer n c some (inr cut) = inr (λ one. absurd (omega (arith, cut.front 0 (omega arith) (omega arith), one)))

pub blank-scarred : (at n : ℕ) (old c : List ℕ) → 1 ≤ at → Blank old → Scarred at n old c → Blank c
blank-scarred at n old c h (inl short) s = inl (omega (arith, s.size))
blank-scarred at n old c h (inr closed) s = inr (λ one. closed (sym (s.below 0 (omega arith)) ∙ one))

pub one-zero : (c : List ℕ) → length c ≡ 1 → overwritten c 0 (0 ∷ []) ≡ 0 ∷ []
unfolding overwritten
one-zero c e = same_lists _ _ (search (rules, places)) (λ k d l. grind (arith, places))

pub length-resized_one : (c : List ℕ) → length (resized 1 c) ≡ 1
unfolding resized
length-resized_one c = search (rules, places)

-- home blocks that are laid one after the other
pub laid-none : (blocks : ℕ) (bl : List (List ℕ)) (c : List ℕ) → HomesLaid blocks bl c c 0
laid-none blocks bl c = record { size = refl; front = λ k h. refl; homes = λ b h. absurd (omega arith) }

pub laid-more : (blocks : ℕ) (bl : List (List ℕ)) (first old new block : List ℕ) (n home : ℕ) → n < blocks → home ≡ home_start blocks → length first ≡ disk_size blocks → length block ≡ 4096 → block ≡ get_or bl n [] → new ≡ overwritten old (home + 4096 * n) block → HomesLaid blocks bl first old n → HomesLaid blocks bl first new (n + 1)
laid-more blocks bl first old new block n home h place size whole is e laid =
    let fits : home + 4096 * n + length block ≤ length old = omega (arith, laid.size) in
    let torn : Scarred (home + 4096 * n) 4096 old new =
    subst (Scarred (home + 4096 * n) 4096 old) (sym e) (subst (λ k. Scarred (home + 4096 * n) k old (overwritten old (home + 4096 * n) block)) whole (scar-written old (home + 4096 * n) block fits)) in
    record {
      size = torn.size ∙ laid.size;
      front = λ k l. torn.below k (omega arith) ∙ laid.front k l;
      homes = λ b l.
          ⊎_elim
          (λ (before : b < n). scar-part_below (home + 4096 * n) 4096 old new (home_start blocks + 4096 * b) 4096 torn (omega arith) ∙ laid.homes b before)
          (λ (here : n ≤ b).
          let same : b ≡ n = omega arith in
          rw same
          (ap (λ k. part_at new (k + 4096 * n) 4096) (sym place)
          ∙ ap (λ (c : List ℕ). part_at c (home + 4096 * n) 4096) e
          ∙ part_at-overwritten old (home + 4096 * n) block 4096 whole (omega arith) ∙ is))
          (cases_lt b n);
    }

-- each image since the call
module _ {D : Type 0} (tells : Type 0) (contents : D → List ℕ) (moment : D → ℕ) (image : D → List ℕ → Type 0) (since : D → ℕ → List ℕ → Type 0) (only_now : (d : D) (c : List ℕ) → since d (moment d) c → image d c) (P : List ℕ → Type 0) (old new : D) where
  pub each-still : Still tells contents moment image since old new → (c : List ℕ) → since new (moment old) c → image old c ⊎ P c
  each-still s c left = inl (each-since moment image since only_now (image old) old new (λ c now. now) s.leaves c left)

  pub each-sync : FromSync tells contents moment image since P old new → (c : List ℕ) → since new (moment old) c → image old c ⊎ P c
  each-sync f c left =
      each-since moment image since only_now (λ c. image old c ⊎ P c) old new (λ c now. inl now)
      (leaves-joined moment image since (λ c. image old c ⊎ P c) old f.synced new
      (leaves-wider moment image since (image old) (λ c. image old c ⊎ P c) old f.synced (λ c now. inl now) f.still.leaves)
      (leaves-wider moment image since P (λ c. image old c ⊎ P c) f.synced new (λ c p. inr p) f.leaves))
      c left
