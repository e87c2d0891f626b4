-- The registers and the memory of a program that is loaded are such.
use Rattle.std.proofs.Common.{◌≡◌, ℕ, zero, suc, ◌+◌, ◌-◌, ◌*◌, ◌%◌, ◌^◌, ◌<◌, ◌≤◌, Bool, true, false, List, [], ◌∷◌, ◌++◌, Some, None, Result, Ok, Err, arith, refl, sym, subst, ap, ◌∙◌, length, length-append}
use Rattle.std.proofs.Math.Nat.{div-mul-le_self}
use Rattle.std.proofs.lemmas.Bool.Decides.{nat_tests}
use Rattle.std.proofs.lemmas.List.{length-replicate, length-set}
use Rattle.std.proofs.lemmas.List.Elements.{All-append, All-head, All-nil, All-push, All-replicate, All-set, All-tail, All-weaker}
use Rattle.std.proofs.lemmas.List.Folds.{list_any_none}
use Rattle.std.specs.Int.{to_le_bytes, w32}
use Rattle.std.specs.List.{list_any}
use Rattle.std.specs.Prelude.{All, replicate, if◌then◌else◌, nat_lt, slice_index, slice_set}
use Rattle.unix_model.specs.declared.elf.ElfFault.{ElfFault}
use Rattle.unix_model.specs.declared.elf.Load.{Load}
use Rattle.unix_model.specs.Elf.{LoadPlan, file_header, file_tests, header_half, header_word, load_end, loads_of_first, plan_of, plan_with}
use Rattle.unix_model.specs.Limits.{loads_end, page_bytes, stack_end, user_pages}
use Rattle.unix_model.specs.Loading.{address_words, argument_words, image, image_byte, image_page, in_file_part, in_stack, load_byte, page_mapped, stack_bytes, stack_pointer, start_registers, string_bytes, strings_start, touches}
use Rattle.unix_model.specs.Memory.{Page}
use Rattle.unix_model.specs.Rules.{AreRegisters, IsBreak, IsByte, IsMemory, IsPage, IsWord}
use Rattle.unix_model.specs.Tables.{at, tabulate}
use Rattle.unix_laws.proofs.Basics.{some-differ, some-same}
use Rattle.elf_read.specs.Accepted.{IsLoadable, IsSound}
use Rattle.elf_read.proofs.PlanLemmas.{plans_are_sound}
use Rattle.elf_read.proofs.TestLemmas.{first_of_tests-none, none_holds}
use Rattle.unix_rules.proofs.Pages.{get-byte}
use Rattle.unix_rules.proofs.Words.{word-bytes}

-- ---- the stack

string-bytes-are : (strings : List (List ℕ)) → All (All IsByte) strings → All IsByte (string_bytes strings)
string-bytes-are [] all = All-nil IsByte
string-bytes-are (string ∷ strings) all =
    All-append IsByte (string ++ 0 ∷ []) (string_bytes strings) (All-push IsByte string 0 (All-head (All IsByte) string strings all) (omega arith))
    (string-bytes-are strings (All-tail (All IsByte) string strings all))

address-words-are : (address : ℕ) (strings : List (List ℕ)) → All IsByte (address_words address strings)
address-words-are address [] = All-nil IsByte
address-words-are address (string ∷ strings) =
    All-append IsByte (to_le_bytes w32 address) (address_words (address + length string + 1) strings) (word-bytes address) (address-words-are (address + length string + 1) strings)

argument-words-are : (strings : List (List ℕ)) → All IsByte (argument_words strings)
unfolding argument_words
argument-words-are strings =
    All-append IsByte (to_le_bytes w32 (length strings)) (address_words (strings_start strings) strings ++ replicate 8 0) (word-bytes (length strings))
    (All-append IsByte (address_words (strings_start strings) strings) (replicate 8 0) (address-words-are (strings_start strings) strings) (All-replicate IsByte 8 0 (omega arith)))

stack-bytes-are : (strings : List (List ℕ)) → All (All IsByte) strings → All IsByte (stack_bytes strings)
unfolding stack_bytes
stack-bytes-are strings all =
    let gap : ℕ = strings_start strings - length (argument_words strings) - stack_pointer strings in
    All-append IsByte (argument_words strings ++ replicate gap 0) (string_bytes strings)
    (All-append IsByte (argument_words strings) (replicate gap 0) (argument-words-are strings) (All-replicate IsByte gap 0 (omega arith))) (string-bytes-are strings all)

pointer-below : (strings : List (List ℕ)) → stack_pointer strings ≤ 2 ^ 31
unfolding stack_pointer strings_start stack_end
pointer-below strings = omega (arith, div-mul-le_self (strings_start strings - length (argument_words strings)) 16)

-- ---- pages

tabulated-size : (f : ℕ → ℕ) (n : ℕ) → length (tabulate f n) ≡ n
unfolding tabulate
tabulated-size f zero = refl
tabulated-size f (suc n) = simp length-append (omega (arith, tabulated-size f n))

tabulated-all : (P : ℕ → Type 0) (f : ℕ → ℕ) (n : ℕ) → ((k : ℕ) → P (f k)) → All P (tabulate f n)
unfolding tabulate
tabulated-all P f zero each = All-nil P
tabulated-all P f (suc n) each = All-push P (tabulate f n) (f n) (tabulated-all P f n each) (each n)

choose-byte : (test : Bool) (first second : ℕ) → IsByte first → IsByte second → IsByte (if test then first else second)
choose-byte true first second one two = one
choose-byte false first second one two = two

load-byte-is : (file : List ℕ) (loads : List Load) (address : ℕ) → All IsByte file → IsByte (load_byte file loads address)
load-byte-is file [] address all = omega arith
load-byte-is file (load ∷ loads) address all =
    choose-byte (in_file_part address load) (slice_index file (load.offset + (address - load.at))) (load_byte file loads address)
    (get-byte file all (load.offset + (address - load.at))) (load-byte-is file loads address all)

image-byte-is : (file : List ℕ) (loads : List Load) (strings : List (List ℕ)) (address : ℕ) → All IsByte file → All (All IsByte) strings → IsByte (image_byte file loads strings address)
unfolding image_byte
image-byte-is file loads strings address all texts =
    choose-byte (nat_lt address (stack_pointer strings)) (load_byte file loads address) (slice_index (stack_bytes strings) (address - stack_pointer strings))
    (load-byte-is file loads address all) (get-byte (stack_bytes strings) (stack-bytes-are strings texts) (address - stack_pointer strings))

image-page-is : (file : List ℕ) (loads : List Load) (strings : List (List ℕ)) (page : ℕ) → All IsByte file → All (All IsByte) strings → IsPage (image_page file loads strings page)
image-page-is file loads strings page all texts =
    let f : ℕ → ℕ = λ place. image_byte file loads strings (page_bytes * page + place) in
    record { size = tabulated-size f page_bytes; bytes = tabulated-all IsByte f page_bytes (λ place. image-byte-is file loads strings (page_bytes * page + place) all texts) }

untouched : (page : ℕ) (load : Load) → user_pages ≤ page → load_end load ≤ 0x7FFE_0000 → touches page load ≡ false
untouched page load past order = grind (arith, nat_tests)

unmapped : (loads : List Load) (page : ℕ) → user_pages ≤ page → All (λ load. load_end load ≤ 0x7FFE_0000) loads → page_mapped loads page ≡ false
unmapped loads page past all =
    let rest : list_any (touches page) loads ≡ false = list_any_none (touches page) loads (All-weaker (λ load. load_end load ≤ 0x7FFE_0000) (λ load. touches page load ≡ false) (λ load order. untouched page load past order) loads all) in
    let stack : in_stack page ≡ false = grind (arith, nat_tests) in
    rw stack rest

mapped-page : (file : List ℕ) (loads : List Load) (strings : List (List ℕ)) (number : ℕ) (mapped : Bool) (page : Page) → All IsByte file → All (All IsByte) strings
    → (if mapped then Some (image_page file loads strings number) else None) ≡ Some page → IsPage page
mapped-page file loads strings number true page all texts e = subst IsPage (some-same (image_page file loads strings number) page e) (image-page-is file loads strings number all texts)
mapped-page file loads strings number false page all texts e = some-differ page e

pub image-is : (file : List ℕ) (loads : List Load) (strings : List (List ℕ)) → All IsByte file → All (All IsByte) strings → All (λ load. load_end load ≤ 0x7FFE_0000) loads → IsMemory (image file loads strings)
unfolding image at
image-is file loads strings all texts ends =
    record {
      end = λ page past. ap (λ mapped. if mapped then Some (image_page file loads strings page) else None) (unmapped loads page past ends);
      pages = λ number page there. mapped-page file loads strings number (page_mapped loads number) page all texts there;
    }

-- ---- registers

pub registers-are : (entry : ℕ) (strings : List (List ℕ)) → IsWord entry → entry % 4 ≡ 0 → IsWord (length strings) → AreRegisters (start_registers entry strings)
unfolding start_registers
registers-are entry strings word aligned few =
    let first : List ℕ = slice_set (replicate 32 0) 2 (stack_pointer strings) in
    let second : List ℕ = slice_set first 10 (length strings) in
    record {
      count = length-set second 11 (stack_pointer strings + 4) ∙ length-set first 10 (length strings) ∙ length-set (replicate 32 0) 2 (stack_pointer strings) ∙ length-replicate {A = ℕ} 32 0;
      words =
          All-set IsWord second 11 (stack_pointer strings + 4) (omega (arith, pointer-below strings))
          (All-set IsWord first 10 (length strings) few (All-set IsWord (replicate 32 0) 2 (stack_pointer strings) (omega (arith, pointer-below strings)) (All-replicate IsWord 32 0 (omega arith))));
      zero_is_zero = refl;
      pc_word = word;
      pc_aligned = aligned;
    }

-- ---- a plan

half-is : (bytes : List ℕ) (place : ℕ) → All IsByte bytes → header_half bytes place < 2 ^ 16
unfolding header_half
half-is bytes place all = omega (arith, get-byte bytes all place, get-byte bytes all (place + 1))

word-is : (bytes : List ℕ) (place : ℕ) → All IsByte bytes → IsWord (header_word bytes place)
unfolding header_word
word-is bytes place all = omega (arith, half-is bytes place all, half-is bytes (place + 2) all)

entry-with : (entry : ℕ) (loads : Result (List Load) ElfFault) (plan : LoadPlan) → plan_with entry loads ≡ Ok plan → entry ≡ plan.entry
entry-with entry (Err fault) plan e = cc
entry-with entry (Ok []) plan e = cc
entry-with entry (Ok (load ∷ loads)) plan e = cc

pub entry-is : (file : List ℕ) (plan : LoadPlan) → plan_of file ≡ Ok plan → header_word file 24 ≡ plan.entry
unfolding plan_of file_header
entry-is file plan e =
    let tests = file_tests (length file) (file_header file) in
    let header = file_header file in
    let rest : Result LoadPlan ElfFault = plan_with header.entry (loads_of_first header.headers file header.table) in
    entry-with header.entry (loads_of_first header.headers file header.table) plan (sym (first_of_tests-none tests rest (none_holds tests rest plan e)) ∙ e)

pub record IsLoaded (file : List ℕ) (plan : LoadPlan) : Type 0 where
  pub entry : IsWord plan.entry
  pub aligned : plan.entry % 4 ≡ 0
  pub ends : All (λ load. load_end load ≤ 0x7FFE_0000) plan.loads
  pub break : IsBreak plan.break_start plan.break_start

pub plan-is : (file : List ℕ) (plan : LoadPlan) → All IsByte file → plan_of file ≡ Ok plan → IsLoaded file plan
unfolding loads_end
plan-is file plan all e =
    let sound : IsSound (length file) plan = plans_are_sound file plan e in
    record {
      entry = subst IsWord (entry-is file plan e) (word-is file 24 all);
      aligned = sound.aligned;
      ends = All-weaker (IsLoadable (length file)) (λ load. load_end load ≤ 0x7FFE_0000) (λ load is. is.in_memory) plan.loads sound.loadable.each;
      break = record { start_aligned = sound.break_past.boundary; order = omega arith; limit = sound.break_in_memory };
    }
