-- A page of the bank that is written once or twice.
use Rattle.std.proofs.Common.{◌≡◌, ℕ, ◌-◌, ◌<◌, List, [], length, ap, ap₂, sym, ◌∙◌}
use Rattle.std.proofs.lemmas.List.{set-set, get_or-set_same}
use Rattle.std.specs.Prelude.{slice_set}
use Rattle.kn_base.specs.Rows.{overwritten}
use Rattle.kernel_tables.specs.Kernel.{Kernel, bank_page, first_page, with_bank_page}

-- the bytes that are written may be told in another way
pub page-once : (old new : Kernel) (page : ℕ) (bytes others : List ℕ) → others ≡ bytes → new ≡ record old { bank = with_bank_page old page bytes } → new ≡ record old { bank = with_bank_page old page others }
page-once old new page bytes others same written = written ∙ ap (λ (told : List ℕ). let k : Kernel = record old { bank = with_bank_page old page told } in k) (sym same)

-- .. so may the pieces
pub in-pieces : (page : List ℕ) (place : ℕ) (front back ring : List ℕ) {first second : List ℕ} → front ≡ first → back ≡ second → ring ≡ overwritten (overwritten page place first) 0 second → ring ≡ overwritten (overwritten page place front) 0 back
in-pieces page place front back ring at_front at_back is = is ∙ sym (ap₂ (λ (first second : List ℕ). overwritten (overwritten page place first) 0 second) at_front at_back)

pub page-twice : (old mid new : Kernel) (page : ℕ) (first second : List ℕ) → page - first_page old.size < length old.bank
    → mid ≡ record old { bank = with_bank_page old page first } → new ≡ record mid { bank = with_bank_page mid page (overwritten (bank_page mid page) 0 second) }
    → new ≡ record old { bank = with_bank_page old page (overwritten first 0 second) }
page-twice old mid new page first second inside one two =
    two
    ∙ ap (λ (kernel : Kernel). let k : Kernel = record kernel { bank = with_bank_page kernel page (overwritten (bank_page kernel page) 0 second) } in k) one
    ∙ ap (λ (bank : List (List ℕ)). let k : Kernel = record old { bank = bank } in k)
    (set-set old.bank (page - first_page old.size) first (overwritten (bank_page (record old { bank = with_bank_page old page first }) page) 0 second)
    ∙ ap (λ (bytes : List ℕ). slice_set old.bank (page - first_page old.size) (overwritten bytes 0 second)) (get_or-set_same old.bank (page - first_page old.size) first [] inside))
