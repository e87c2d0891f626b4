-- The loads of a table of program headers, header by header.
use Rattle.std.proofs.Common.{◌≡◌, ℕ, zero, suc, ◌+◌, ◌-◌, ◌*◌, ◌<◌, ◌≤◌, true, false, cond, ◌||◌, not, ◌==◌, List, [], ◌∷◌, ◌++◌, length, get_or, length-append, Result, Ok, Err, refl, sym, ◌∙◌, subst, arith, add-one, zero-add}
use Rattle.std.proofs.lemmas.Bool.{ltb-false, leb-false}
use Rattle.std.proofs.lemmas.Bool.Decides.{nat_tests}
use Rattle.std.proofs.lemmas.List.Elements.{All-nil, All-push}
use Rattle.std.proofs.lemmas.List.Quantifiers.{all_pairs_push}
use Rattle.std.proofs.lemmas.List.Folds.{list_any_at}
use Rattle.std.specs.List.{list_any}
use Rattle.unix_model.specs.declared.elf.TheConstants.{MOST_LOADS}
use Rattle.unix_model.specs.declared.elf.Load.{Load}
use Rattle.unix_model.specs.declared.elf.ElfFault.{ElfFault}
use Rattle.unix_model.specs.declared.elf.ElfFault.TheVariants.{NotStatic}
use Rattle.unix_model.specs.declared.elf.ProgramHeader.{ProgramHeader}
use Rattle.unix_model.specs.Limits.{loads_end}
use Rattle.unix_model.specs.Elf.{segment_of, load_tests, overlaps, loads_with, then_with, loads_of_first, program_header, first_of_tests}
use Rattle.elf_read.proofs.TestLemmas.{none_holds, first_of_tests-none, NoneHolds}
use Rattle.elf_read.specs.Accepted.{IsLoadable, AreLoadable}

-- the loads of no header, and of one header more
pub loads_of_first-zero : (bytes : List ℕ) (table : ℕ) → loads_of_first 0 bytes table ≡ Ok []
unfolding loads_of_first
loads_of_first-zero bytes table = refl

pub loads_of_first-more : (n : ℕ) (bytes : List ℕ) (table : ℕ) (loads : List Load) → loads_of_first n bytes table ≡ Ok loads → loads_of_first (n + 1) bytes table ≡ loads_with (length bytes) (program_header bytes (table + 32 * n)) loads
unfolding loads_of_first
loads_of_first-more n bytes table loads so_far = rw (add-one, so_far) refl

-- the same, where the header and its place were found on the way
pub loads_of_first-step : (n : ℕ) (bytes : List ℕ) (table file_length place : ℕ) (header : ProgramHeader) (loads : List Load) → Ok loads ≡ loads_of_first n bytes table → file_length ≡ length bytes → place ≡ table + 32 * n → header ≡ program_header bytes place → loads_of_first (n + 1) bytes table ≡ loads_with file_length header loads
loads_of_first-step n bytes table file_length place header loads so_far size at is =
    rw (is, at, size) (loads_of_first-more n bytes table loads (sym so_far))

-- a refusal stays, whatever headers follow
loads_of_first-refused_after : (more n : ℕ) (bytes : List ℕ) (table : ℕ) (fault : ElfFault) → loads_of_first n bytes table ≡ Err fault → loads_of_first (more + n) bytes table ≡ Err fault
unfolding loads_of_first
loads_of_first-refused_after zero n bytes table fault refused = rw (zero-add n) refused
loads_of_first-refused_after (suc more) n bytes table fault refused =
    let one_more : suc more + n ≡ suc (more + n) = omega arith in
    rw (one_more, loads_of_first-refused_after more n bytes table fault refused) refl

pub loads_of_first-refused : (n headers : ℕ) (bytes : List ℕ) (table : ℕ) (fault : ElfFault) → n ≤ headers → loads_of_first n bytes table ≡ Err fault → loads_of_first headers bytes table ≡ Err fault
loads_of_first-refused n headers bytes table fault within refused =
    let all : headers - n + n ≡ headers = omega arith in
    subst (λ m. loads_of_first m bytes table ≡ Err fault) all (loads_of_first-refused_after (headers - n) n bytes table fault refused)

-- a load that passes its tests
pub IsLoadable-tests : (file_length : ℕ) (load : Load) (loads : List Load) → 0 < load.memory_bytes → NoneHolds (load_tests file_length load loads) → IsLoadable file_length load
unfolding load_tests loads_end
IsLoadable-tests file_length load loads some none = record {
  in_file = ltb-false _ _ none.1.1.0;
  in_memory = ltb-false _ _ none.1.1.1.0;
  holds_file_bytes = ltb-false _ _ none.1.0;
  not_empty = some;
}

-- a load that overlaps none of these overlaps each of them not
none_overlap : (load : Load) (loads : List Load) → list_any (overlaps load) loads ≡ false → (k : ℕ) (d : Load) → k < length loads → overlaps load (get_or loads k d) ≡ false
none_overlap load loads none k d within =
    let at = list_any_at (overlaps load) loads k d within in
    elim (overlaps load (get_or loads k d)) as (λ b. (b ≡ true → list_any (overlaps load) loads ≡ true) → b ≡ false) [
      | true ↦ λ h. let one = h refl in cc
      | false ↦ λ _. refl
    ] at

-- the loads with one more that passes its tests
AreLoadable-push : (file_length : ℕ) (load : Load) (loads : List Load) → 0 < load.memory_bytes → NoneHolds (load_tests file_length load loads) → AreLoadable file_length loads → AreLoadable file_length (loads ++ load ∷ [])
unfolding load_tests
AreLoadable-push file_length load loads some none are = record {
  each = All-push (IsLoadable file_length) loads load are.each (IsLoadable-tests file_length load loads some none);
  apart = all_pairs_push (λ earlier later. overlaps later earlier ≡ false) loads load are.apart (none_overlap load loads none.1.1.1.1.0);
  few = omega (arith, leb-false MOST_LOADS (length loads) none.0, length-append loads (load ∷ []));
}

-- what is asked of the loads that header by header were let through
AreLoadable-with_tests : (file_length : ℕ) (load : Load) (loads longer : List Load) → 0 < load.memory_bytes → first_of_tests (load_tests file_length load loads) (Ok (loads ++ load ∷ [])) ≡ Ok longer → AreLoadable file_length loads → AreLoadable file_length longer
AreLoadable-with_tests file_length load loads longer some is are =
    let tests = load_tests file_length load loads in
    let none = none_holds tests (Ok (loads ++ load ∷ [])) longer is in
    let same : ◌≡◌ {A = Result (List Load) ElfFault} (Ok (loads ++ load ∷ [])) (Ok longer) = sym (first_of_tests-none tests (Ok (loads ++ load ∷ [])) none) ∙ is in
    let same_loads : loads ++ load ∷ [] ≡ longer = cc in
    subst (λ l. AreLoadable file_length l) same_loads (AreLoadable-push file_length load loads some none are)

pub not_empty : (kind memory_bytes : ℕ) → (not (kind == 1) || (memory_bytes == 0)) ≡ false → 0 < memory_bytes
not_empty kind memory_bytes h = grind (arith, nat_tests)

pub AreLoadable-loads_with : (file_length : ℕ) (header : ProgramHeader) (loads longer : List Load) → loads_with file_length header loads ≡ Ok longer → AreLoadable file_length loads → AreLoadable file_length longer
unfolding loads_with segment_of
AreLoadable-loads_with file_length header loads longer is are =
    let passed = not (header.kind == 1) || (header.memory_bytes == 0) in
    let tested = first_of_tests (load_tests file_length (segment_of header) loads) (Ok (loads ++ segment_of header ∷ [])) in
    elim ((header.kind == 2) || (header.kind == 3)) as (λ b. cond b (Err NotStatic) (cond passed (Ok loads) tested) ≡ Ok longer → AreLoadable file_length longer) [
      | true ↦ λ h. cc
      | false ↦ λ h. elim passed as (λ b. passed ≡ b → cond b (Ok loads) tested ≡ Ok longer → AreLoadable file_length longer) [
        | true ↦ λ _ e. let same_loads : loads ≡ longer = cc in subst (λ l. AreLoadable file_length l) same_loads are
        | false ↦ λ p e. AreLoadable-with_tests file_length (segment_of header) loads longer (not_empty header.kind header.memory_bytes p) e are
      ] refl h
    ] is

pub AreLoadable-loads_of_first : (n : ℕ) (bytes : List ℕ) (table : ℕ) (loads : List Load) → loads_of_first n bytes table ≡ Ok loads → AreLoadable (length bytes) loads
unfolding loads_of_first
AreLoadable-loads_of_first zero bytes table loads is =
    let same_loads : [] ≡ loads = cc in
    let none : AreLoadable (length bytes) [] = record {
      each = All-nil (IsLoadable (length bytes));
      apart = λ i j d below within. absurd (omega arith);
      few = omega arith;
    } in
    subst (λ l. AreLoadable (length bytes) l) same_loads none
AreLoadable-loads_of_first (suc n) bytes table loads is =
    let header = program_header bytes (table + 32 * n) in
    elim (loads_of_first n bytes table) as (λ r. loads_of_first n bytes table ≡ r → then_with (length bytes) header r ≡ Ok loads → AreLoadable (length bytes) loads) [
      | Ok before ↦ λ so_far h. AreLoadable-loads_with (length bytes) header before loads h (AreLoadable-loads_of_first n bytes table before so_far)
      | Err fault ↦ λ _ h. cc
    ] refl is
