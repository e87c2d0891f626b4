-- The memory of a space after pages are mapped, and after they are made read-only.
use Rattle.std.proofs.Common.{◌≡◌, ◌<◌, ◌≤◌, ◌+◌, ◌*◌, ◌^◌, ℕ, suc, Bool, true, false, Option, Some, None, List, [], ◌∷◌, replicate, refl, ap, sym, ◌∙◌, arith, ⊎_elim}
use Rattle.std.proofs.Math.Path.{fun_ext}
use Rattle.std.proofs.lemmas.Bool.{cases_lt, lt-ltb, le-ltb}
use Rattle.std.specs.List.{list_any}
use Rattle.std.specs.Prelude.{All, option_map, not, nat_lt, nat_le, ◌&&◌, ◌||◌, if◌then◌else◌}
use Rattle.kn_base.specs.Memory as base
use Rattle.kernel_tables.specs.Kernel.{Kernel, memory_page}
use Rattle.unix_model.specs.declared.elf.Load.{Load}
use Rattle.unix_model.specs.Loading.{in_stack, page_mapped, page_writable, touches}
use Rattle.unix_model.specs.Memory.{Page, zero_page}
use Rattle.forest.specs.Walks.{Mapping, map_of}
use Rattle.kernel_forest.specs.Trees.{forest_of}
use Rattle.user_copy.specs.SpaceMemory.{memory_by, page_of, space_memory}
use Rattle.unix_exec.specs.Plans.{IsLow, MapsPlan, plan_map, plan_map_below}
use Rattle.std.specs.Option.{is_some}
use Rattle.unix_exec.specs.Seals.{AreNeededMapped, page_sealed, read_only, sealed_below, SealsPlan}
use Rattle.unix_exec.specs.Loaded.{mapped_memory, read_only_page, sealed_memory}

never : (b : Bool) → (b && false) ≡ false
never true = refl
never false = refl

-- no load has bytes past the last page
none_touches : (loads : List Load) (page : ℕ) → All IsLow loads → 2 ^ 19 ≤ page → list_any (touches page) loads ≡ false
none_touches [] page low far = refl
none_touches (load ∷ loads) page low far =
    let first = (low 0 load (omega arith)).low in
    rw (le-ltb (4096 * page) (load.at + load.memory_bytes) (omega arith))
    (ap (λ (b : Bool). b || list_any (touches page) loads) (never (nat_lt load.at (4096 * page + 4096)))
    ∙ none_touches loads page (λ k d inside. low (suc k) d (omega arith)) far)

past_mapped : (loads : List Load) (page : ℕ) → All IsLow loads → 2 ^ 19 ≤ page → page_mapped loads page ≡ false
past_mapped loads page low far =
    ap (λ (b : Bool). in_stack page || b) (none_touches loads page low far)
    ∙ ap (λ (b : Bool). (nat_le 0x7_FFF0 page && b) || false) (le-ltb page 0x8_0000 far)
    ∙ ap (λ (b : Bool). b || false) (never (nat_le 0x7_FFF0 page))

-- what a program needs is mapped once its plan is
pub needed_is : (map : ℕ → Option Mapping) (loads : List Load) → All IsLow loads → map ≡ plan_map_below loads (2 ^ 19) → AreNeededMapped map loads
unfolding plan_map_below
needed_is map loads low here page needed = ⊎_elim
    (λ (t : page < 2 ^ 19).
    ap (λ (m : ℕ → Option Mapping). is_some (m page)) here
    ∙ ap (λ (b : Bool). is_some (if b then plan_map loads page else None)) (lt-ltb page (2 ^ 19) t)
    ∙ ap (λ (b : Bool). let found : Option Mapping = if b then Some (record { writable = true; page = 0 }) else None in is_some found) needed)
    (λ (t : 2 ^ 19 ≤ page). absurd (let no : true ≡ false = sym needed ∙ past_mapped loads page low t in cc))
    (cases_lt page (2 ^ 19))

module _ (old new : Kernel) (space : ℕ) (loads : List Load) (low : All IsLow loads) where
  mapped_page : (zero : memory_page new 0 ≡ replicate 4096 0) (page : ℕ) → option_map (page_of (memory_page new)) (plan_map_below loads (2 ^ 19) page) ≡ (if page_mapped loads page then Some zero_page else None)
  unfolding plan_map_below zero_page
  mapped_page zero page = ⊎_elim
      (λ (t : page < 2 ^ 19).
      ap (λ (b : Bool). option_map (page_of (memory_page new)) (if b then plan_map loads page else None)) (lt-ltb page (2 ^ 19) t)
      ∙ one (page_mapped loads page))
      (λ (t : 2 ^ 19 ≤ page).
      ap (λ (b : Bool). option_map (page_of (memory_page new)) (if b then plan_map loads page else None)) (le-ltb page (2 ^ 19) t)
      ∙ sym (ap (λ (b : Bool). let found : Option Page = if b then Some zero_page else None in found) (past_mapped loads page low t)))
      (cases_lt page (2 ^ 19))
    where
      one : (needed : Bool) → option_map (page_of (memory_page new)) (if needed then Some (record { writable = true; page = 0 }) else None)
          ≡ (if needed then Some (record { writable = true; bytes = replicate 4096 0 }) else None)
      one true = ap (λ (bytes : List ℕ). let page : Page = record { writable = true; bytes = bytes } in Some page) zero
      one false = refl

  pub mapped_is : MapsPlan old new space loads (2 ^ 19) → old.page_zero ≡ base.zero_page → space_memory new space ≡ mapped_memory loads
  unfolding memory_by mapped_memory base.zero_page
  mapped_is maps zero =
      let here : memory_page new 0 ≡ replicate 4096 0 = ap (λ (k : Kernel). k.page_zero) maps.rest ∙ zero in
      ap (memory_by (memory_page new)) maps.here ∙ fun_ext (mapped_page here)

  sealed_page : (bytes : ℕ → List ℕ) (map : ℕ → Option Mapping) (page : ℕ)
      → option_map (page_of bytes) (sealed_below loads (2 ^ 19) map page)
      ≡ (if page_sealed loads page then option_map read_only_page (option_map (page_of bytes) (map page)) else option_map (page_of bytes) (map page))
  unfolding sealed_below
  sealed_page bytes map page = ⊎_elim
      (λ (t : page < 2 ^ 19).
      ap (λ (b : Bool). option_map (page_of bytes) (if b && page_sealed loads page then option_map read_only (map page) else map page)) (lt-ltb page (2 ^ 19) t)
      ∙ one (page_sealed loads page) (map page))
      (λ (t : 2 ^ 19 ≤ page).
      ap (λ (b : Bool). option_map (page_of bytes) (if b && page_sealed loads page then option_map read_only (map page) else map page)) (le-ltb page (2 ^ 19) t)
      ∙ sym (ap (λ (b : Bool). if b && not (page_writable loads page) then option_map read_only_page (option_map (page_of bytes) (map page)) else option_map (page_of bytes) (map page)) (past_mapped loads page low t)))
      (cases_lt page (2 ^ 19))
    where
      one : (sealed : Bool) (found : Option Mapping) → option_map (page_of bytes) (if sealed then option_map read_only found else found)
          ≡ (if sealed then option_map read_only_page (option_map (page_of bytes) found) else option_map (page_of bytes) found)
      one true (Some found) = refl
      one true None = refl
      one false found = refl

  pub sealed_is : SealsPlan old new space loads (2 ^ 19) → space_memory new space ≡ sealed_memory loads (space_memory old space)
  unfolding memory_by sealed_memory
  sealed_is seals =
      ap (λ (k : Kernel). memory_by (memory_page k) (map_of (forest_of new).keys space)) seals.rest
      ∙ ap (memory_by (memory_page old)) seals.here
      ∙ fun_ext (sealed_page (memory_page old) (map_of (forest_of old).keys space))
