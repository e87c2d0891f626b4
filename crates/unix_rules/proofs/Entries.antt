-- Entries of directories: the tests of the definitions, and what they say.
use Rattle.std.proofs.Common.{◌≡◌, ◌≢◌, ◌⊎◌, ℕ, zero, suc, ◌<◌, Bool, true, false, List, [], ◌∷◌, Option, Some, None, refl, sym, subst, ap, ◌∙◌, inl, inr, get_or}
use Rattle.std.proofs.lemmas.Bool.{cases_Bool, cases_lt, eq-eqb}
use Rattle.std.specs.List.{list_any}
use Rattle.std.specs.Prelude.{IsSome, is_some, ◌||◌, bytes_eq}
use Rattle.unix_model.specs.Files.{Directory, Entry, File, Pipe, Console, Inode, directory_names, entry_names, has_names, inode_named, is_directory, is_linked, places_of}
use Rattle.unix_model.specs.Limits.{inode_count}
use Rattle.unix_model.specs.Rules.{EndsAt, entry_at}
use Rattle.unix_model.specs.Tables.{at}
use Rattle.std.proofs.lemmas.Slice.Eq.{bytes_eq-Decides}
use Rattle.unix_laws.proofs.Basics.{same-of, some-differ, some-same, true-false}
use Rattle.unix_laws.proofs.Counting.{Passes, any-passes, passes-any}
use Rattle.unix_rules.specs.FileRules.{HasEntry}

-- ---- lists of places

-- a place with an entry of this inode
record PlaceOf (places : List (Option Entry)) (number : ℕ) : Type 0 where
  place : ℕ
  entry : Entry
  there : get_or places place None ≡ Some entry
  names : entry.inode ≡ number

later-place : (first : Option Entry) (places : List (Option Entry)) (number : ℕ) → PlaceOf places number → PlaceOf (first ∷ places) number
later-place first places number at_place = record { place = suc at_place.place; entry = at_place.entry; there = at_place.there; names = at_place.names }

first-place : (first : Option Entry) (places : List (Option Entry)) (number : ℕ) → entry_names number first ≡ true → PlaceOf (first ∷ places) number
first-place None places number e = cc
first-place (Some entry) places number e = record { place = 0; entry = entry; there = refl; names = same-of entry.inode number e }

or-either : (first second : Bool) → (first || second) ≡ true → (first ≡ true) ⊎ (second ≡ true)
or-either true second e = inl refl
or-either false second e = inr e

any-place : (places : List (Option Entry)) (number : ℕ) → list_any (entry_names number) places ≡ true → PlaceOf places number
any-place [] number e = cc
any-place (first ∷ places) number e = elim (or-either (entry_names number first) (list_any (entry_names number) places) e) as (λ _. PlaceOf (first ∷ places) number) [
  | inl here ↦ first-place first places number here
  | inr rest ↦ later-place first places number (any-place places number rest)
]

or-left : (first second : Bool) → first ≡ true → (first || second) ≡ true
or-left true second e = refl
or-left false second e = cc

or-right : (first second : Bool) → second ≡ true → (first || second) ≡ true
or-right true second e = refl
or-right false second e = e

place-any : (places : List (Option Entry)) (place : ℕ) (entry : Entry) → get_or places place None ≡ Some entry → list_any (entry_names entry.inode) places ≡ true
place-any [] place entry e = some-differ entry e
place-any (first ∷ places) zero entry e =
    or-left (entry_names entry.inode first) (list_any (entry_names entry.inode) places) (ap (entry_names entry.inode) e ∙ eq-eqb entry.inode entry.inode refl)
place-any (first ∷ places) (suc place) entry e = or-right (entry_names entry.inode first) (list_any (entry_names entry.inode) places) (place-any places place entry e)

-- a list has an entry, or none
place-some : (places : List (Option Entry)) (place : ℕ) (entry : Entry) → get_or places place None ≡ Some entry → list_any is_some places ≡ true
place-some [] place entry e = some-differ entry e
place-some (first ∷ places) zero entry e = or-left (is_some first) (list_any is_some places) (ap is_some e)
place-some (first ∷ places) (suc place) entry e = or-right (is_some first) (list_any is_some places) (place-some places place entry e)

none-some : (places : List (Option Entry)) → ((place : ℕ) → get_or places place None ≡ None) → list_any is_some places ≡ false
none-some [] none = refl
none-some (None ∷ places) none = none-some places (λ place. none (suc place))
none-some (Some entry ∷ places) none = some-differ entry (sym (none 0))

-- ---- inodes

-- no place of it has an entry
abbrev pub IsEmpty : (ℕ → Option Inode) → ℕ → Type 0
IsEmpty inodes number = (place : ℕ) → entry_at inodes number place ≡ None

none-or-some : (found : Option Entry) → ((entry : Entry) → found ≡ Some entry → ⊥) → found ≡ None
none-or-some None no_entry = refl
none-or-some (Some entry) no_entry = absurd (no_entry entry refl)

pub no-names : (inodes : ℕ → Option Inode) (number : ℕ) → has_names (at inodes number) ≡ false → IsEmpty inodes number
no-names inodes number e place = none-or-some (entry_at inodes number place) (λ entry there. true-false (sym (place-some (places_of (at inodes number)) place entry there) ∙ e))

pub empty-names : (inodes : ℕ → Option Inode) (number : ℕ) → IsEmpty inodes number → has_names (at inodes number) ≡ false
empty-names inodes number empty = none-some (places_of (at inodes number)) empty

-- only a directory has entries
pub entry-directory : (found : Option Inode) (place : ℕ) (entry : Entry) → get_or (places_of found) place None ≡ Some entry → is_directory found ≡ true
entry-directory None place entry e = some-differ entry e
entry-directory (Some (File bytes)) place entry e = some-differ entry e
entry-directory (Some (Directory parent places)) place entry e = refl
entry-directory (Some (Pipe bytes)) place entry e = some-differ entry e
entry-directory (Some Console) place entry e = some-differ entry e

pub directory-some : (found : Option Inode) → is_directory found ≡ true → IsSome found
directory-some None e = cc
directory-some (Some inode) e = refl

pub below-count : (inodes : ℕ → Option Inode) (number : ℕ) → EndsAt inode_count inodes → IsSome (at inodes number) → number < inode_count
below-count inodes number end some = elim (cases_lt number inode_count) as (λ _. number < inode_count) [
  | inl below ↦ below
  | inr past ↦ absurd (true-false (sym some ∙ ap is_some (end number past)))
]

directory-any : (found : Option Inode) (place : ℕ) (entry : Entry) → get_or (places_of found) place None ≡ Some entry → directory_names entry.inode found ≡ true
directory-any None place entry e = some-differ entry e
directory-any (Some (File bytes)) place entry e = some-differ entry e
directory-any (Some (Directory parent places)) place entry e = place-any places place entry e
directory-any (Some (Pipe bytes)) place entry e = some-differ entry e
directory-any (Some Console) place entry e = some-differ entry e

any-directory : (found : Option Inode) (number : ℕ) → directory_names number found ≡ true → PlaceOf (places_of found) number
any-directory None number e = cc
any-directory (Some (File bytes)) number e = cc
any-directory (Some (Directory parent places)) number e = any-place places number e
any-directory (Some (Pipe bytes)) number e = cc
any-directory (Some Console) number e = cc

pub entry-linked : (inodes : ℕ → Option Inode) (number : ℕ) → EndsAt inode_count inodes → HasEntry inodes number → is_linked inodes number ≡ true
entry-linked inodes number end has =
    passes-any (λ n. directory_names number (at inodes n)) inode_count has.directory
    (below-count inodes has.directory end (directory-some (at inodes has.directory) (entry-directory (at inodes has.directory) has.place has.entry has.there)))
    (subst (λ n. directory_names n (at inodes has.directory) ≡ true) has.names (directory-any (at inodes has.directory) has.place has.entry has.there))

pub linked-entry : (inodes : ℕ → Option Inode) (number : ℕ) → is_linked inodes number ≡ true → HasEntry inodes number
linked-entry inodes number e =
    let found : (n : ℕ) × Passes (λ n. directory_names number (at inodes n)) inode_count n = any-passes (λ n. directory_names number (at inodes n)) inode_count e in
    let place : PlaceOf (places_of (at inodes found.0)) number = any-directory (at inodes found.0) number found.1.holds in
    record { directory = found.0; place = place.place; entry = place.entry; there = place.there; names = place.names }

pub no-entry-unlinked : (inodes : ℕ → Option Inode) (number : ℕ) → (HasEntry inodes number → ⊥) → is_linked inodes number ≡ false
no-entry-unlinked inodes number none = elim (cases_Bool (is_linked inodes number)) as (λ _. is_linked inodes number ≡ false) [
  | inl linked ↦ absurd (none (linked-entry inodes number linked))
  | inr not_so ↦ not_so
]

pub unlinked-no-entry : (inodes : ℕ → Option Inode) (number : ℕ) → EndsAt inode_count inodes → is_linked inodes number ≡ false → HasEntry inodes number → ⊥
unlinked-no-entry inodes number end e has = true-false (sym (entry-linked inodes number end has) ∙ e)

-- ---- what a name finds

pub record FoundName (places : List (Option Entry)) (name : List ℕ) (number : ℕ) : Type 0 where
  pub place : ℕ
  pub entry : Entry
  pub there : get_or places place None ≡ Some entry
  pub name_is : entry.name ≡ name
  pub names : entry.inode ≡ number

pub same-bytes : (first second : List ℕ) → bytes_eq first second ≡ true → first ≡ second
same-bytes first second e = (bytes_eq-Decides first second).0 e

pub found-name : (places : List (Option Entry)) (name : List ℕ) (number : ℕ) → inode_named places name ≡ Some number → FoundName places name number
found-name [] name number e = some-differ number e
found-name (None ∷ places) name number e =
    let rest : FoundName places name number = found-name places name number e in
    record { place = suc rest.place; entry = rest.entry; there = rest.there; name_is = rest.name_is; names = rest.names }
found-name (Some entry ∷ places) name number e = elim (cases_Bool (bytes_eq entry.name name)) as (λ _. FoundName (Some entry ∷ places) name number) [
  | inl same ↦ record { place = 0; entry = entry; there = refl; name_is = same-bytes entry.name name same; names = some-same entry.inode number (rw same at e) }
  | inr apart ↦
      let rest : FoundName places name number = found-name places name number (rw apart at e) in
      record { place = suc rest.place; entry = rest.entry; there = rest.there; name_is = rest.name_is; names = rest.names }
]

missed-rest : (first : Entry) (places : List (Option Entry)) (name : List ℕ) (place : ℕ) (entry : Entry) → bytes_eq first.name name ≡ false → get_or (Some first ∷ places) place None ≡ Some entry
    → ((n : ℕ) → get_or places n None ≡ Some entry → entry.name ≢ name) → entry.name ≢ name
missed-rest first places name zero entry differs is rest = λ same. true-false (sym ((bytes_eq-Decides first.name name).1 (ap (λ (x : Entry). x.name) (some-same first entry is) ∙ same)) ∙ differs)
missed-rest first places name (suc place) entry differs is rest = rest place is

-- where nothing is found no entry has the name
pub missed-name : (places : List (Option Entry)) (name : List ℕ) → inode_named places name ≡ None → (place : ℕ) (entry : Entry) → get_or places place None ≡ Some entry → entry.name ≢ name
missed-name [] name e place entry there = some-differ entry there
missed-name (None ∷ places) name e zero entry there = some-differ entry there
missed-name (None ∷ places) name e (suc place) entry there = missed-name places name e place entry there
missed-name (Some first ∷ places) name e place entry there = elim (cases_Bool (bytes_eq first.name name)) as (λ _. entry.name ≢ name) [
  | inl same ↦ some-differ first.inode (sym (rw same at e))
  | inr apart ↦ missed-rest first places name place entry apart there (λ n f. missed-name places name (rw apart at e) n entry f)
]
