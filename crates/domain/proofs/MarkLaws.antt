-- Domains whose marks are taken away.
use Rattle.std.proofs.Common.{◌≡◌, ◌≢◌, ℕ, Bool, true, false, List, replicate, if◌then◌else◌, refl, sym, ap, ◌∙◌, ⊎_elim}
use Rattle.std.proofs.lemmas.Bool.{cases_eq}
use Rattle.unix_model.specs.Tables.{at, with_at}
use Rattle.unix_model.proofs.TableLaws.{at-with_at, at-with_at-other}
use Rattle.domain.specs.Domains.{Domain}
use Rattle.domain.specs.Marks.{is_marked, is_parked_on, unparked, released, woken, all_woken}

-- nothing but the marks changes
if_only : (test : Bool) (domain : Domain) → (if test then unparked domain else domain) ≡ record domain { marks = (if test then unparked domain else domain).marks }
if_only true domain = refl
if_only false domain = refl

pub woken_only : (word : ℕ) (domain : Domain) → woken word domain ≡ record domain { marks = (woken word domain).marks }
unfolding woken
woken_only word domain = if_only (is_parked_on word domain) domain

pub released_only : (domain : Domain) → released domain ≡ record domain { marks = (released domain).marks }
unfolding released
released_only domain = if_only (is_marked domain) domain

-- whoever is parked so has no marks then, and all others have those that they had
if_marks : (test : Bool) (domain : Domain) (P : List ℕ → Type 0) → (test ≡ true → P (replicate 3 0)) → (test ≡ false → P domain.marks) → P (if test then unparked domain else domain).marks
if_marks true domain P gone stays = gone refl
if_marks false domain P gone stays = stays refl

pub woken_marks : (word : ℕ) (domain : Domain) (P : List ℕ → Type 0) → (is_parked_on word domain ≡ true → P (replicate 3 0)) → (is_parked_on word domain ≡ false → P domain.marks)
    → P (woken word domain).marks
unfolding woken
woken_marks word domain P gone stays = if_marks (is_parked_on word domain) domain P gone stays

pub released_marks : (domain : Domain) (P : List ℕ → Type 0) → (is_marked domain ≡ true → P (replicate 3 0)) → (is_marked domain ≡ false → P domain.marks) → P (released domain).marks
unfolding released
released_marks domain P gone stays = if_marks (is_marked domain) domain P gone stays

pub all_woken_at : (word : ℕ) (domains : ℕ → Domain) (root : ℕ) → at (all_woken word domains) root ≡ woken word (at domains root)
unfolding all_woken at
all_woken_at word domains root = refl

-- a field that stays in one domain stays in all
pub stays : {X : Type 0} (domains : ℕ → Domain) (root : ℕ) (domain : Domain) (field : Domain → X) → field domain ≡ field (at domains root) → (other : ℕ) → field (at (with_at domains root domain) other) ≡ field (at domains other)
stays domains root domain field same other = ⊎_elim
    (λ (e : other ≡ root). ap (λ n. field (at (with_at domains root domain) n)) e ∙ ap field (at-with_at domains root domain) ∙ same ∙ ap (λ n. field (at domains n)) (sym e))
    (λ (apart : other ≢ root). ap field (at-with_at-other domains root other domain apart))
    (cases_eq other root)
