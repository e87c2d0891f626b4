-- Looking for an open end of a pipe among the descriptions, in the order of their numbers.
use Rattle.std.proofs.Common.{◌≡◌, ℕ, zero, suc, ◌+◌, ◌-◌, ◌<◌, ◌≤◌, Bool, true, false, ◌||◌, ◌&&◌, Option, Some, None, zero-add, arith, refl, ap, ap₂, sym, ◌∙◌, inl, inr, ◌⊎◌}
use Rattle.std.proofs.lemmas.Bool.{cases_Bool}
use Rattle.std.specs.Prelude.{◌==◌, if◌then◌else◌}
use Rattle.unix_model.specs.Files.{Files, Description, reads_inode, writes_inode, description_names}
use Rattle.unix_model.specs.Tables.{at, any_below, count_below}
use Rattle.unix_model.proofs.TableLaws.{any_below-step, count_below-step, any_below-zero, count_below-zero}
use Rattle.unix_model.proofs.CountLaws.{one_if}
use Rattle.kernel_machine.proofs.Counting.{any-at}
use Rattle.kernel_machine.specs.Counts.{opens}
use Rattle.pipe_domain.specs.declared.ends.End.{End}
use Rattle.pipe_domain.specs.declared.ends.End.TheVariants.{Reading, Writing}
use Rattle.pipe_domain.specs.Ends.{end_of, has_end}

-- the description is this end of the pipe
abbrev pub is_end : End → ℕ → Option Description → Bool
is_end Reading pipe description = reads_inode pipe description
is_end Writing pipe description = writes_inode pipe description

-- Of the descriptions below a number none is this end, and so many of those from there on are open on the pipe.
pub record Looked (end : End) (pipe : ℕ) (descriptions : ℕ → Option Description) (number left : ℕ) : Type 0 where
  pub none : any_below (λ n. is_end end pipe (at descriptions n)) number ≡ false
  pub others : count_below (λ n. description_names pipe (at descriptions n)) number + left ≡ count_below (λ n. description_names pipe (at descriptions n)) 2048

pub looked-none : (end : End) (pipe : ℕ) (descriptions : ℕ → Option Description) (left : ℕ) → left ≡ opens descriptions pipe → Looked end pipe descriptions 0 left
unfolding opens
looked-none end pipe descriptions left counted = record {
  none = any_below-zero (λ n. is_end end pipe (at descriptions n));
  others = ap (λ (n : ℕ). n + left) (count_below-zero (λ n. description_names pipe (at descriptions n))) ∙ (zero-add left ∙ counted);
}

-- what an end is named by is open on the pipe
end-cases : (end : End) (pipe : ℕ) (description : Option Description) (found : Option Bool) → found ≡ end_of end pipe description
    → ((found ≡ None) × (description_names pipe description ≡ false) × (is_end end pipe description ≡ false))
    ⊎ ((b : Bool) × (found ≡ Some b) × (description_names pipe description ≡ true) × (is_end end pipe description ≡ b))
end-cases Reading pipe None found e = inl (e, refl, refl)
end-cases Writing pipe None found e = inl (e, refl, refl)
end-cases Reading pipe (Some description) found e = elim (cases_Bool (description.inode == pipe)) as (λ _. ((found ≡ None) × ((description.inode == pipe) ≡ false) × (((description.inode == pipe) && description.readable) ≡ false)) ⊎ ((b : Bool) × (found ≡ Some b) × ((description.inode == pipe) ≡ true) × (((description.inode == pipe) && description.readable) ≡ b))) [
  | inl here ↦ inr (description.readable, e ∙ ap (λ (t : Bool). if t then Some description.readable else None) here, here, ap (λ (t : Bool). t && description.readable) here)
  | inr other ↦ inl (e ∙ ap (λ (t : Bool). if t then Some description.readable else None) other, other, ap (λ (t : Bool). t && description.readable) other)
]
end-cases Writing pipe (Some description) found e = elim (cases_Bool (description.inode == pipe)) as (λ _. ((found ≡ None) × ((description.inode == pipe) ≡ false) × (((description.inode == pipe) && description.writable) ≡ false)) ⊎ ((b : Bool) × (found ≡ Some b) × ((description.inode == pipe) ≡ true) × (((description.inode == pipe) && description.writable) ≡ b))) [
  | inl here ↦ inr (description.writable, e ∙ ap (λ (t : Bool). if t then Some description.writable else None) here, here, ap (λ (t : Bool). t && description.writable) here)
  | inr other ↦ inl (e ∙ ap (λ (t : Bool). if t then Some description.writable else None) other, other, ap (λ (t : Bool). t && description.writable) other)
]

-- a description that isn't an end
not-named : (end : End) (pipe : ℕ) (description : Option Description) → description_names pipe description ≡ false → is_end end pipe description ≡ false
not-named Reading pipe None other = refl
not-named Writing pipe None other = refl
not-named Reading pipe (Some description) other = ap (λ (t : Bool). t && description.readable) other
not-named Writing pipe (Some description) other = ap (λ (t : Bool). t && description.writable) other

-- a test that holds of nothing more, counted, holds of nothing more at all
module _ (end : End) (pipe : ℕ) (descriptions : ℕ → Option Description) where
  abbrev pub names : ℕ → Bool
  names n = description_names pipe (at descriptions n)

  abbrev pub ends : ℕ → Bool
  ends n = is_end end pipe (at descriptions n)

  grows : (n k : ℕ) → count_below names n ≤ count_below names (n + k)
  grows n zero = let same : n + 0 ≡ n = omega arith in rw same (omega arith)
  grows n (suc k) =
      let step : count_below names (n + k + 1) ≡ count_below names (n + k) + one_if (names (n + k)) = count_below-step names (n + k) in
      let next : n + suc k ≡ n + k + 1 = omega arith in
      rw next (omega (arith, step, grows n k))

  quiet : (n k : ℕ) → any_below ends n ≡ false → count_below names n ≡ count_below names (n + k) → any_below ends (n + k) ≡ false
  quiet n zero none same = let e : n + 0 ≡ n = omega arith in rw e none
  quiet n (suc k) none same =
      let step : count_below names (n + k + 1) ≡ count_below names (n + k) + one_if (names (n + k)) = count_below-step names (n + k) in
      let next : n + suc k ≡ n + k + 1 = omega arith in
      let all : count_below names n ≡ count_below names (n + k + 1) = same ∙ ap (count_below names) next in
      elim (cases_Bool (names (n + k))) as (λ _. any_below ends (n + suc k) ≡ false) [
        | inl here ↦
            let one : one_if (names (n + k)) ≡ 1 = ap one_if here in
            absurd (omega (arith, all, step, one, grows n k))
        | inr other ↦
            let none_more : one_if (names (n + k)) ≡ 0 = ap one_if other in
            ap (any_below ends) next ∙ any_below-step ends (n + k)
            ∙ ap₂ (λ (x y : Bool). x || y) (quiet n k none (omega (arith, all, step, none_more, grows n k))) (not-named end pipe (at descriptions (n + k)) other)
      ]

  -- where no description is left that is open on the pipe, no end is
  pub looked-all : (number : ℕ) → number ≤ 2048 → Looked end pipe descriptions number 0 → any_below ends 2048 ≡ false
  looked-all number within looked =
      let past : number + (2048 - number) ≡ 2048 = omega (arith, within) in
      ap (any_below ends) (sym past) ∙ quiet number (2048 - number) looked.none (omega (arith, looked.others) ∙ ap (count_below names) (sym past))

  pub has-end : (files : Files) → files.descriptions ≡ descriptions → has_end end files pipe ≡ any_below ends 2048
  has-end files same = by_end end where
    by_end : (end : End) → has_end end files pipe ≡ any_below (λ n. is_end end pipe (at descriptions n)) 2048
    by_end Reading = ap (λ (d : ℕ → Option Description). any_below (λ n. reads_inode pipe (at d n)) 2048) same
    by_end Writing = ap (λ (d : ℕ → Option Description). any_below (λ n. writes_inode pipe (at d n)) 2048) same

  module _ (number left : ℕ) (looked : Looked end pipe descriptions number left) where
    step-none : is_end end pipe (at descriptions number) ≡ false → any_below ends (number + 1) ≡ false
    step-none other = any_below-step ends number ∙ ap₂ (λ (x y : Bool). x || y) looked.none other

    -- the next description isn't open on the pipe, ..
    pub looked-past : None ≡ end_of end pipe (at descriptions number) → Looked end pipe descriptions (number + 1) left
    looked-past told = elim (end-cases end pipe (at descriptions number) None told) as (λ _. Looked end pipe descriptions (number + 1) left) [
      | inl past ↦
          let none : one_if (names number) ≡ 0 = ap one_if past.1 in
          record { none = step-none past.2; others = omega (arith, count_below-step names number, none, looked.others) }
      | inr wrong ↦ let two : None ≡ Some wrong.0 = wrong.1 in cc
    ]

    -- .. it is another end of it, ..
    pub looked-beside : Some false ≡ end_of end pipe (at descriptions number) → 0 < left → Looked end pipe descriptions (number + 1) (left - 1)
    looked-beside told some = elim (end-cases end pipe (at descriptions number) (Some false) told) as (λ _. Looked end pipe descriptions (number + 1) (left - 1)) [
      | inl wrong ↦ let two : Some false ≡ None = wrong.0 in cc
      | inr beside ↦
          let one : one_if (names number) ≡ 1 = ap one_if beside.2 in
          let b : false ≡ beside.0 = (let two : Some false ≡ Some beside.0 = beside.1 in cc) in
          record { none = step-none (beside.3 ∙ sym b); others = omega (arith, count_below-step names number, one, looked.others, some) }
    ]

    -- .. or it is the one that was looked for.
    pub looked-found : Some true ≡ end_of end pipe (at descriptions number) → number < 2048 → any_below ends 2048 ≡ true
    looked-found told below = elim (end-cases end pipe (at descriptions number) (Some true) told) as (λ _. any_below ends 2048 ≡ true) [
      | inl wrong ↦ let two : Some true ≡ None = wrong.0 in cc
      | inr found ↦
          let b : true ≡ found.0 = (let two : Some true ≡ Some found.0 = found.1 in cc) in
          any-at ends 2048 number below (found.3 ∙ sym b)
    ]
