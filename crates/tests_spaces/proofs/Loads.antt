-- A program's space stays one while it is loaded.
use Rattle.std.proofs.Common.{◌≡◌, ◌≢◌, ◌<◌, ◌≤◌, ◌+◌, ◌-◌, ◌/◌, ◌^◌, ℕ, zero, suc, Bool, true, false, List, [], ◌∷◌, length, refl, ap, sym, ◌∙◌, arith, ⊎_elim}
use Rattle.std.specs.Prelude.{All, nat_le, nat_lt, ◌&&◌}
use Rattle.std.proofs.lemmas.Bool.{cases_lt, lt-leb, le-ltb}
use Rattle.kernel_tables.specs.Kernel.{Kernel}
use Rattle.space_bank.specs.Bank.{BankGood}
use Rattle.unix_model.specs.declared.elf.Load.{Load}
use Rattle.unix_model.specs.Loading.{in_stack, stack_bytes, stack_pointer}
use Rattle.unix_model.specs.Memory.{Memory, all_writable, is_writable}
use Rattle.forest.specs.Walks.{map_of}
use Rattle.kernel_forest.specs.Trees.{forest_of}
use Rattle.user_copy.specs.Writing.{PutsBytes}
use Rattle.user_copy.proofs.Bytes.{each_may}
use Rattle.unix_exec.specs.Plans.{IsLow, MapsPlan}
use Rattle.unix_exec.specs.Seals.{AreNeededMapped, SealsPlan}
use Rattle.unix_exec.specs.Start.{AreStrings, HasStackPages, IsStackWritable}
use Rattle.unix_exec.proofs.Strings.{placed}
use Rattle.tests_spaces.specs.Ready.{IsReady, IsTestSpace}
use Rattle.tests_spaces.specs.Loading.{IsLoading}
use Rattle.tests_spaces.proofs.Keeping.{put_keeps, still_alone, three_are_enough}

pub begun : (old new : Kernel) (space : ℕ) (loads : List Load) → IsReady old → IsTestSpace old space → BankGood new → All IsLow loads
    → MapsPlan old new space loads (2 ^ 19) → AreNeededMapped (map_of (forest_of new).keys space) loads → IsLoading new space loads
begun old new space loads ready is good low maps needed = record {
  ready = record { good = good; zero = ap (λ (k : Kernel). k.page_zero) maps.rest ∙ ready.zero; outside = ready.outside; trees = maps.trees ready.outside ready.trees };
  is = still_alone old new space maps.outside_now maps.stays is;
  low = low;
  mapped = needed;
  ways = maps.ways;
}

pub put_loading : (old new : Kernel) (space : ℕ) {address : ℕ} {bytes : List ℕ} (loads : List Load) → IsLoading old space loads → BankGood new → PutsBytes old new space address bytes → IsLoading new space loads
put_loading old new space loads loading good put = record {
  ready = record {
    good = good;
    zero = ap (λ (k : Kernel). k.page_zero) put.rest ∙ loading.ready.zero;
    outside = loading.ready.outside;
    trees = put.trees loading.ready.outside loading.ready.trees;
  };
  is = (put_keeps old new put).stay space loading.is;
  low = loading.low;
  mapped = λ page needed. put.mapped page (loading.mapped page needed);
  ways = λ page below needed. put.ways space page loading.is.is_space (loading.ways page below needed);
}

pub sealed_ready : (old new : Kernel) (space : ℕ) (loads : List Load) → IsLoading old space loads → BankGood new → SealsPlan old new space loads (2 ^ 19) → IsReady new
sealed_ready old new space loads loading good seals = record {
  good = good;
  zero = ap (λ (k : Kernel). k.page_zero) seals.rest ∙ loading.ready.zero;
  outside = loading.ready.outside;
  trees = seals.trees loading.ready.outside loading.ready.trees;
}

pub sealed_space : (old new : Kernel) (space : ℕ) (loads : List Load) → IsLoading old space loads → SealsPlan old new space loads (2 ^ 19) → IsTestSpace new space
sealed_space old new space loads loading seals = still_alone old new space seals.outside_now seals.stays loading.is

-- a page of the stack, by its number
stack_page : (page : ℕ) → in_stack page ≡ true → (524272 ≤ page) × (page < 524288)
stack_page page inside = (
  ⊎_elim
      (λ (t : page < 524272). absurd (let no : false ≡ true = sym (ap (λ b. b && nat_lt page 524288) (lt-leb 524272 page t)) ∙ inside in cc))
      (λ (t : 524272 ≤ page). t)
      (cases_lt page 524272),
  ⊎_elim
      (λ (t : page < 524288). t)
      (λ (t : 524288 ≤ page). absurd (let no : false ≡ true = sym (never (nat_le 524272 page)) ∙ sym (ap (λ b. nat_le 524272 page && b) (le-ltb page 524288 t)) ∙ inside in cc))
      (cases_lt page 524288),
)
  where
    never : (b : Bool) → (b && false) ≡ false
    never true = refl
    never false = refl

pub stack_writable : (memory : Memory) → all_writable memory 2147418112 65536 ≡ true → IsStackWritable memory
stack_writable memory may address inside =
    let page = stack_page (address / 4096) inside in
    let low = page.0 in
    let high = page.1 in
    let place : 2147418112 + (address - 2147418112) ≡ address = omega arith in
    sym (ap (is_writable memory) place) ∙ each_may memory 2147418112 65536 (address - 2147418112) may (omega arith)

-- three pages are enough for the start of a stack
pub stack_pages : (kernel : Kernel) (space : ℕ) (bytes : List ℕ) (count : ℕ) → count ≤ 16 → length bytes ≤ 4096 → kernel.machine.pages_taken + 3 ≤ kernel.size
    → (strings : List (List ℕ)) → AreStrings bytes count strings → HasStackPages kernel space strings
stack_pages kernel space bytes count few short room strings are taken counts =
    let most = (placed bytes count strings are few short).few in
    three_are_enough (forest_of kernel) space (stack_pointer strings) (length (stack_bytes strings)) kernel.machine.pages_taken kernel.size (omega arith) room taken counts

-- the two strings of the test
pub two_strings : AreStrings (99 ∷ 97 ∷ 116 ∷ 0 ∷ 45 ∷ 110 ∷ 0 ∷ []) 2 ((99 ∷ 97 ∷ 116 ∷ []) ∷ (45 ∷ 110 ∷ []) ∷ [])
two_strings = record { bytes_are = refl; number = refl; no_nul = each }
  where
    first : All (λ (byte : ℕ). byte ≢ 0) (99 ∷ 97 ∷ 116 ∷ [])
    first zero d inside = λ e. cc
    first (suc zero) d inside = λ e. cc
    first (suc (suc zero)) d inside = λ e. cc
    first (suc (suc (suc k))) d inside = absurd (omega arith)

    second : All (λ (byte : ℕ). byte ≢ 0) (45 ∷ 110 ∷ [])
    second zero d inside = λ e. cc
    second (suc zero) d inside = λ e. cc
    second (suc (suc k)) d inside = absurd (omega arith)

    each : All (All (λ (byte : ℕ). byte ≢ 0)) ((99 ∷ 97 ∷ 116 ∷ []) ∷ (45 ∷ 110 ∷ []) ∷ [])
    each zero d inside = first
    each (suc zero) d inside = second
    each (suc (suc k)) d inside = absurd (omega arith)
