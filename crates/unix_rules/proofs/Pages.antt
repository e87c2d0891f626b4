-- Memories that are such stay so: bytes that are read are bytes, and bytes that are written leave pages of the same size.
use Rattle.std.proofs.Common.{◌≡◌, ℕ, zero, suc, ◌+◌, ◌/◌, ◌%◌, ◌≤◌, List, [], ◌∷◌, ◌++◌, Option, Some, None, arith, refl, sym, subst, ap, ◌∙◌, inl, inr, get_or, length, length-append}
use Rattle.std.proofs.lemmas.Bool.{cases_lt}
use Rattle.std.proofs.lemmas.Bool.Decides.{eqb_tells}
use Rattle.std.proofs.lemmas.List.{get_or_past, length-set}
use Rattle.std.proofs.lemmas.List.Elements.{All-get_or, All-head, All-nil, All-push, All-set, All-tail}
use Rattle.std.specs.Prelude.{All, option_map, slice_index}
use Rattle.unix_model.specs.Limits.{page_bytes, user_pages}
use Rattle.unix_model.specs.Memory.{Memory, Page, and_byte, byte_at, bytes_at, page_with_byte, with_byte, with_bytes}
use Rattle.unix_model.specs.Rules.{IsByte, IsMemory, IsPage}
use Rattle.unix_model.specs.Tables.{at, with_at}
use Rattle.unix_model.proofs.TableLaws.{at-with_at, at-with_at-other}
use Rattle.unix_laws.proofs.Basics.{some-differ, some-same}

-- ---- what is read

pub get-byte : (bytes : List ℕ) → All IsByte bytes → (i : ℕ) → IsByte (get_or bytes i 0)
get-byte bytes are i = elim (cases_lt i (length bytes)) as (λ _. IsByte (get_or bytes i 0)) [
  | inl below ↦ All-get_or IsByte bytes i 0 below are
  | inr past ↦ let zero_is : get_or bytes i 0 ≡ 0 = get_or_past bytes i 0 past in omega (arith, zero_is)
]

page-byte : (found : Option Page) (place byte : ℕ) → ((page : Page) → found ≡ Some page → IsPage page) → option_map (λ (page : Page). slice_index page.bytes place) found ≡ Some byte → IsByte byte
page-byte None place byte pages e = some-differ byte e
page-byte (Some page) place byte pages e =
    let same : get_or page.bytes place 0 ≡ byte = cc in
    subst IsByte same (get-byte page.bytes (pages page refl).bytes place)

pub byte-read : (memory : Memory) (address byte : ℕ) → IsMemory memory → byte_at memory address ≡ Some byte → IsByte byte
unfolding byte_at
byte-read memory address byte is e = page-byte (at memory (address / page_bytes)) (address % page_bytes) byte (λ page there. is.pages (address / page_bytes) page there) e

-- bytes that are read, one after the other
pub record AreRead (n : ℕ) (read : List ℕ) : Type 0 where
  pub size : length read ≡ n
  pub bytes : All IsByte read

read-more : (n : ℕ) (found : Option (List ℕ)) (byte : Option ℕ) (bytes : List ℕ) → ((before : List ℕ) → found ≡ Some before → AreRead n before) → ((b : ℕ) → byte ≡ Some b → IsByte b)
    → and_byte found byte ≡ Some bytes → AreRead (suc n) bytes
read-more n None byte bytes rest last e = some-differ bytes e
read-more n (Some before) None bytes rest last e = some-differ bytes e
read-more n (Some before) (Some b) bytes rest last e =
    let same : before ++ b ∷ [] ≡ bytes = some-same (before ++ b ∷ []) bytes e in
    subst (AreRead (suc n)) same
    record {
      size = simp (length-append) (omega (arith, (rest before refl).size));
      bytes = All-push IsByte before b (rest before refl).bytes (last b refl);
    }

pub bytes-read : (memory : Memory) (address n : ℕ) (bytes : List ℕ) → IsMemory memory → bytes_at memory address n ≡ Some bytes → AreRead n bytes
unfolding bytes_at
bytes-read memory address zero bytes is e = subst (AreRead 0) (some-same [] bytes e) (record { size = refl; bytes = All-nil IsByte })
bytes-read memory address (suc n) bytes is e =
    read-more n (bytes_at memory address n) (byte_at memory (address + n)) bytes (λ before f. bytes-read memory address n before is f) (λ b f. byte-read memory (address + n) b is f) e

-- ---- what is written

-- a page that is put at a number of user memory
pub page-put : (memory : Memory) (number : ℕ) (found : Option Page) → IsMemory memory → ((page : Page) → found ≡ Some page → IsPage page) → (user_pages ≤ number → found ≡ None) → IsMemory (with_at memory number found)
page-put memory number found is pages past =
    record {
      end = λ n beyond. elim (eqb_tells n number) as (λ _. at (with_at memory number found) n ≡ None) [
        | inl same ↦ ap (at (with_at memory number found)) same.1 ∙ at-with_at memory number found ∙ past (omega (arith, beyond, same.1))
        | inr apart ↦ at-with_at-other memory number n found apart.1 ∙ is.end n beyond
      ];
      pages = λ n page there. elim (eqb_tells n number) as (λ _. IsPage page) [
        | inl same ↦ pages page (sym (at-with_at memory number found) ∙ ap (at (with_at memory number found)) (sym same.1) ∙ there)
        | inr apart ↦ is.pages n page (sym (at-with_at-other memory number n found apart.1) ∙ there)
      ];
    }

page-written : (place byte : ℕ) (page : Page) → IsByte byte → IsPage page → IsPage (page_with_byte place byte page)
page-written place byte page small is = record { size = length-set page.bytes place byte ∙ is.size; bytes = All-set IsByte page.bytes place byte small is.bytes }

written-in : (place byte : ℕ) (found : Option Page) (page : Page) → IsByte byte → ((before : Page) → found ≡ Some before → IsPage before) → option_map (page_with_byte place byte) found ≡ Some page → IsPage page
written-in place byte None page small pages e = some-differ page e
written-in place byte (Some before) page small pages e = subst IsPage (some-same (page_with_byte place byte before) page e) (page-written place byte before small (pages before refl))

pub byte-written : (memory : Memory) (address byte : ℕ) → IsMemory memory → IsByte byte → IsMemory (with_byte memory address byte)
unfolding with_byte
byte-written memory address byte is small =
    page-put memory (address / page_bytes) (option_map (page_with_byte (address % page_bytes) byte) (at memory (address / page_bytes))) is
    (λ page there. written-in (address % page_bytes) byte (at memory (address / page_bytes)) page small (λ before f. is.pages (address / page_bytes) before f) there)
    (λ past. ap (option_map (page_with_byte (address % page_bytes) byte)) (is.end (address / page_bytes) past))

pub bytes-written : (memory : Memory) (address : ℕ) (bytes : List ℕ) → IsMemory memory → All IsByte bytes → IsMemory (with_bytes memory address bytes)
unfolding with_bytes
bytes-written memory address [] is small = is
bytes-written memory address (byte ∷ bytes) is small =
    bytes-written (with_byte memory address byte) (address + 1) bytes (byte-written memory address byte is (All-head IsByte byte bytes small)) (All-tail IsByte byte bytes small)
