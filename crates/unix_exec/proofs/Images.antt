-- The memory of a loaded program, by its pages and its bytes.
use Rattle.std.proofs.Common.{◌≡◌, ◌<◌, ◌≤◌, ◌+◌, ◌-◌, ℕ, suc, Bool, true, false, Option, Some, None, List, [], ◌∷◌, length, drop, length-drop, refl, ap, sym, ◌∙◌, arith, ⊎_elim}
use Rattle.std.proofs.Math.Path.{fun_ext}
use Rattle.std.proofs.Math.ListN.{get_or-eq_default}
use Rattle.std.proofs.lemmas.Bool.{cases_lt, lt-ltb, le-ltb}
use Rattle.std.proofs.lemmas.Bool.Decides.{nat_tests}
use Rattle.std.proofs.lemmas.List.{get_or-drop, get_or-take, length-take-le}
use Rattle.std.specs.Prelude.{All, AllPairs, option_map, slice_index, slice_index_or, not, ◌&&◌, if◌then◌else◌}
use Rattle.unix_model.specs.declared.elf.Load.{Load}
use Rattle.unix_model.specs.Elf.{overlaps}
use Rattle.unix_model.specs.Loading.{image, image_byte, in_file_part, load_byte, page_mapped, page_writable, stack_bytes, stack_pointer}
use Rattle.unix_model.specs.Memory.{Memory, Page, with_bytes, zero_page}
use Rattle.elf_read.specs.Accepted.{AreLoadable, IsLoadable}
use Rattle.unix_exec.specs.Loaded.{file_part, mapped_memory, read_only_page, sealed_memory, with_loads, LoadingLaw}
use Rattle.unix_exec.proofs.Strings.{IsPlaced, placed}
use Rattle.unix_exec.proofs.Written.{paged, tabulate_zeros, written, with_bytes_paged, written_below, written_past, written_in}

-- ---- mapped, and read-only

mapped_paged : (loads : List Load) → mapped_memory loads ≡ paged (page_mapped loads) (λ page. true) (λ address. 0)
unfolding mapped_memory paged zero_page
mapped_paged loads = fun_ext (λ page.
    ap (λ (bytes : List ℕ). let found : Option Page = if page_mapped loads page then Some (record { writable = true; bytes = bytes }) else None in found) (tabulate_zeros 4096))

seal_one : (mapped writable : Bool) (bytes : List ℕ)
    → (let found : Option Page = if mapped then Some (record { writable = true; bytes = bytes }) else None in if mapped && not writable then option_map read_only_page found else found)
    ≡ (if mapped then Some (record { writable = writable; bytes = bytes }) else None)
seal_one true true bytes = refl
seal_one true false bytes = refl
seal_one false writable bytes = refl

sealed_paged : (loads : List Load) (f : ℕ → ℕ) → sealed_memory loads (paged (page_mapped loads) (λ page. true) f) ≡ paged (page_mapped loads) (page_writable loads) f
unfolding sealed_memory paged
sealed_paged loads f = fun_ext (λ page. seal_one (page_mapped loads page) (page_writable loads page) _)

-- ---- the bytes of loads

abbrev loaded : List ℕ → List Load → (ℕ → ℕ) → ℕ → ℕ
loaded file [] f = f
loaded file (load ∷ loads) f = loaded file loads (written f load.at (file_part file load))

loads_paged : (mapped writable : ℕ → Bool) (file : List ℕ) (loads : List Load) (f : ℕ → ℕ)
    → with_loads file loads (paged mapped writable f) ≡ paged mapped writable (loaded file loads f)
unfolding with_loads
loads_paged mapped writable file [] f = refl
loads_paged mapped writable file (load ∷ loads) f =
    ap (with_loads file loads) (with_bytes_paged mapped writable f load.at (file_part file load))
    ∙ loads_paged mapped writable file loads (written f load.at (file_part file load))

-- the byte of the loads at an address, or another one where none has a byte of the file there
abbrev byte_or : List ℕ → List Load → ℕ → ℕ → ℕ
byte_or file [] address other = other
byte_or file (load ∷ loads) address other = if in_file_part address load then slice_index file (load.offset + (address - load.at)) else byte_or file loads address other

byte_or_zero : (file : List ℕ) (loads : List Load) (address : ℕ) → byte_or file loads address 0 ≡ load_byte file loads address
byte_or_zero file [] address = refl
byte_or_zero file (load ∷ loads) address =
    ap (λ (rest : ℕ). if in_file_part address load then slice_index file (load.offset + (address - load.at)) else rest) (byte_or_zero file loads address)

abbrev NoneHas : List Load → ℕ → Type 0
NoneHas loads address = (k : ℕ) (d : Load) → k < length loads → in_file_part address (slice_index_or loads k d) ≡ false

byte_or_other : (file : List ℕ) (loads : List Load) (address other : ℕ) → NoneHas loads address → byte_or file loads address other ≡ other
byte_or_other file [] address other none = refl
byte_or_other file (load ∷ loads) address other none =
    rw (none 0 load (omega arith)) (byte_or_other file loads address other (λ k d inside. none (suc k) d (omega arith)))

record IsInPart (address : ℕ) (load : Load) : Type 0 where
  pub low : load.at ≤ address
  pub high : address < load.at + load.file_bytes

in_part : (address : ℕ) (load : Load) → in_file_part address load ≡ true → IsInPart address load
in_part address load is = record { low = grind (arith, nat_tests); high = grind (arith, nat_tests) }

not_in_part : (address : ℕ) (load : Load) → in_file_part address load ≡ false → (load.at ≤ address → address < load.at + load.file_bytes → ⊥)
not_in_part address load is low high = grind (arith, nat_tests)

-- where one load has an address, no load apart from it does
apart_loads : (length_of : ℕ) (load other : Load) (address : ℕ) → IsLoadable length_of load → IsLoadable length_of other → overlaps other load ≡ false
    → in_file_part address load ≡ true → in_file_part address other ≡ false
unfolding overlaps
apart_loads length_of load other address is is_other apart here = go (in_file_part address other) refl
  where
    go : (has : Bool) → in_file_part address other ≡ has → in_file_part address other ≡ false
    go false e = e
    go true e =
        let a = (in_part address load here).low in
        let b = (in_part address load here).high in
        let c = (in_part address other e).low in
        let d = (in_part address other e).high in
        let m = is.holds_file_bytes in
        let n = is_other.holds_file_bytes in
        let first = lt-ltb other.at (load.at + load.memory_bytes) (omega arith) in
        let second = lt-ltb load.at (other.at + other.memory_bytes) (omega arith) in
        let both : overlaps other load ≡ true = rw (first, second) refl in
        let no : true ≡ false = sym both ∙ apart in cc

part_length : (file : List ℕ) (load : Load) → IsLoadable (length file) load → length (file_part file load) ≡ load.file_bytes
part_length file load is =
    length-take-le load.file_bytes (drop load.offset file) (let inside = is.in_file in let n = length-drop load.offset file in omega arith)

-- the byte of a load
part_byte : (file : List ℕ) (load : Load) (address : ℕ) → in_file_part address load ≡ true
    → slice_index (file_part file load) (address - load.at) ≡ slice_index file (load.offset + (address - load.at))
part_byte file load address here =
    let low = (in_part address load here).low in
    let high = (in_part address load here).high in
    get_or-take load.file_bytes (drop load.offset file) (address - load.at) 0 (omega arith) ∙ get_or-drop load.offset file (address - load.at) 0

outside_part : (file : List ℕ) (load : Load) (f : ℕ → ℕ) (address : ℕ) → IsLoadable (length file) load → in_file_part address load ≡ false
    → written f load.at (file_part file load) address ≡ f address
outside_part file load f address is off = ⊎_elim
    (λ (t : address < load.at). written_below f load.at (file_part file load) address t)
    (λ (t : load.at ≤ address). ⊎_elim
    (λ (s : address < load.at + load.file_bytes). absurd (not_in_part address load off t s))
    (λ (s : load.at + load.file_bytes ≤ address). written_past f load.at (file_part file load) address (let n = part_length file load is in omega arith))
    (cases_lt address (load.at + load.file_bytes)))
    (cases_lt address load.at)

inside_part : (file : List ℕ) (load : Load) (f : ℕ → ℕ) (address : ℕ) → IsLoadable (length file) load → in_file_part address load ≡ true
    → written f load.at (file_part file load) address ≡ slice_index file (load.offset + (address - load.at))
inside_part file load f address is here =
    let low = (in_part address load here).low in
    let high = (in_part address load here).high in
    let n = part_length file load is in
    written_in f load.at (file_part file load) address low (omega arith) ∙ part_byte file load address here

loaded_at : (file : List ℕ) (loads : List Load) (f : ℕ → ℕ) (address : ℕ) → All (IsLoadable (length file)) loads
    → AllPairs (λ load later. overlaps later load ≡ false) loads
    → loaded file loads f address ≡ byte_or file loads address (f address)
loaded_at file [] f address each apart = refl
loaded_at file (load ∷ loads) f address each apart =
    loaded_at file loads (written f load.at (file_part file load)) address (λ k d inside. each (suc k) d (omega arith)) (λ i j d below inside. apart (suc i) (suc j) d (omega arith) (omega arith))
    ∙ go (in_file_part address load) refl
  where
    is : IsLoadable (length file) load
    is = each 0 load (omega arith)

    others : in_file_part address load ≡ true → NoneHas loads address
    others here k d inside =
        apart_loads (length file) load (slice_index_or loads k d) address is (each (suc k) d (omega arith)) (apart 0 (suc k) d (omega arith) (omega arith)) here

    go : (has : Bool) → in_file_part address load ≡ has
        → byte_or file loads address (written f load.at (file_part file load) address) ≡ byte_or file (load ∷ loads) address (f address)
    go true e =
        byte_or_other file loads address (written f load.at (file_part file load) address) (others e)
        ∙ inside_part file load f address is e
        ∙ sym (rw e refl)
    go false e = ap (byte_or file loads address) (outside_part file load f address is e) ∙ sym (rw e refl)

-- no load has a byte as high as the stack
load_far : (file : List ℕ) (loads : List Load) (address : ℕ) → All (IsLoadable (length file)) loads → 0x7FFE_0000 ≤ address → load_byte file loads address ≡ 0
load_far file [] address each high = refl
load_far file (load ∷ loads) address each high = go (load_far file loads address (λ k d inside. each (suc k) d (omega arith)) high) (in_file_part address load) refl
  where
    go : load_byte file loads address ≡ 0 → (has : Bool) → in_file_part address load ≡ has → load_byte file (load ∷ loads) address ≡ 0
    go rest true e =
        let is = each 0 load (omega arith) in
        let low = is.in_memory in
        let few = is.holds_file_bytes in
        let below = (in_part address load e).high in
        absurd (omega arith)
    go rest false e = rw e rest

-- ---- all bytes

module _ (file : List ℕ) (loads : List Load) (strings : List (List ℕ)) (are : AreLoadable (length file) loads) (place : IsPlaced strings) where
  without_stack : (address : ℕ) → loaded file loads (λ place. 0) address ≡ load_byte file loads address
  without_stack address = loaded_at file loads (λ place. 0) address are.each are.apart ∙ byte_or_zero file loads address

  each_byte : (address : ℕ) → written (loaded file loads (λ place. 0)) (stack_pointer strings) (stack_bytes strings) address ≡ image_byte file loads strings address
  unfolding image_byte
  each_byte address =
      let ends : stack_pointer strings + length (stack_bytes strings) ≡ 2147483648 = place.ends in
      ⊎_elim
      (λ (t : address < stack_pointer strings).
      rw (lt-ltb address (stack_pointer strings) t)
      (written_below (loaded file loads (λ place. 0)) (stack_pointer strings) (stack_bytes strings) address t ∙ without_stack address))
      (λ (t : stack_pointer strings ≤ address). rw (le-ltb address (stack_pointer strings) t) (⊎_elim
      (λ (s : address < stack_pointer strings + length (stack_bytes strings)).
      written_in (loaded file loads (λ place. 0)) (stack_pointer strings) (stack_bytes strings) address t s)
      (λ (s : stack_pointer strings + length (stack_bytes strings) ≤ address).
      written_past (loaded file loads (λ place. 0)) (stack_pointer strings) (stack_bytes strings) address s
      ∙ without_stack address
      ∙ load_far file loads address are.each (omega arith)
      ∙ sym (get_or-eq_default (stack_bytes strings) 0 {n = address - stack_pointer strings} (omega arith)))
      (cases_lt address (stack_pointer strings + length (stack_bytes strings)))))
      (cases_lt address (stack_pointer strings))

image_paged : (file : List ℕ) (loads : List Load) (strings : List (List ℕ)) → paged (page_mapped loads) (page_writable loads) (image_byte file loads strings) ≡ image file loads strings
unfolding paged image
image_paged file loads strings = refl

pub loading_law : LoadingLaw
loading_law file loads strings bytes count are texts few short =
    let pointer = stack_pointer strings in
    let stack = stack_bytes strings in
    ap (λ (memory : Memory). sealed_memory loads (with_bytes (with_loads file loads memory) (stack_pointer strings) (stack_bytes strings))) (mapped_paged loads)
    ∙ ap (λ (memory : Memory). sealed_memory loads (with_bytes memory (stack_pointer strings) (stack_bytes strings))) (loads_paged (page_mapped loads) (λ page. true) file loads (λ place. 0))
    ∙ ap (sealed_memory loads) (with_bytes_paged (page_mapped loads) (λ page. true) (loaded file loads (λ place. 0)) (stack_pointer strings) (stack_bytes strings))
    ∙ sealed_paged loads (written (loaded file loads (λ place. 0)) (stack_pointer strings) (stack_bytes strings))
    ∙ ap (paged (page_mapped loads) (page_writable loads)) (fun_ext (each_byte file loads strings are (placed bytes count strings texts few short)))
    ∙ image_paged file loads strings
