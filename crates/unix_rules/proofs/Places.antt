-- Places of directories: an entry that comes, goes or changes is one place that changes.
use Rattle.std.proofs.Common.{◌≡◌, ◌≢◌, ◌⊎◌, ℕ, zero, suc, ◌+◌, ◌<◌, ◌≤◌, Bool, true, false, List, [], ◌∷◌, Option, Some, None, arith, refl, sym, ap, ◌∙◌, inl, inr, get_or, length}
use Rattle.std.proofs.lemmas.Bool.{cases_Bool}
use Rattle.std.proofs.lemmas.Bool.Decides.{eqb_tells, nat_tests}
use Rattle.std.specs.List.{list_all}
use Rattle.std.specs.Prelude.{is_some, nat_le, ◌&&◌, bytes_eq}
use Rattle.unix_model.specs.Files.{Directory, Entry, Files, Inode, inode_named, is_directory, is_full, parent_of, place_inode, places_of, with_entry, with_place, with_places}
use Rattle.unix_model.specs.Limits.{most_places}
use Rattle.unix_model.specs.Rules.{AreNames, IsName, entry_at, is_named_kind}
use Rattle.unix_model.specs.Tables.{at}
use Rattle.unix_model.proofs.TableLaws.{at-with_at-other}
use Rattle.unix_laws.proofs.Basics.{some-differ, some-same, true-false}
use Rattle.unix_rules.proofs.Changed.{here}
use Rattle.unix_rules.proofs.Entries.{same-bytes}
use Rattle.unix_rules.proofs.Walks.{directory-kind}
use Rattle.unix_rules.proofs.Trees.{IsPlace, SameEntries, SameKinds, SameParents, SameSome, SetsEntry, entry-reads}

pub record SetsPlace (before after : List (Option Entry)) (place : ℕ) (value : Option Entry) : Type 0 where
  pub set : get_or after place None ≡ value
  pub others : (k : ℕ) → k ≢ place → get_or after k None ≡ get_or before k None

-- a place before the others
sets-later : (first value : Option Entry) (before after : List (Option Entry)) (place : ℕ) → SetsPlace before after place value → SetsPlace (first ∷ before) (first ∷ after) (suc place) value
sets-later first value before after place sets = record { set = sets.set; others = other }
  where
    other : (k : ℕ) → k ≢ suc place → get_or (first ∷ after) k None ≡ get_or (first ∷ before) k None
    other zero apart = refl
    other (suc k) apart = sets.others k (λ same. apart (ap suc same))

sets-first : (first value : Option Entry) (places : List (Option Entry)) → SetsPlace (first ∷ places) (value ∷ places) 0 value
sets-first first value places = record { set = refl; others = other }
  where
    other : (k : ℕ) → k ≢ 0 → get_or (value ∷ places) k None ≡ get_or (first ∷ places) k None
    other zero apart = absurd (apart refl)
    other (suc k) apart = refl

sets-end : (value : Option Entry) → SetsPlace [] (value ∷ []) 0 value
sets-end value = record { set = refl; others = other }
  where
    other : (k : ℕ) → k ≢ 0 → get_or (value ∷ []) k None ≡ None
    other zero apart = absurd (apart refl)
    other (suc k) apart = refl

-- an entry that comes
pub record Comes (places : List (Option Entry)) (entry : Entry) : Type 0 where
  pub place : ℕ
  pub was : get_or places place None ≡ None
  pub sets : SetsPlace places (with_entry places entry) place (Some entry)

pub entry-comes : (places : List (Option Entry)) (entry : Entry) → Comes places entry
entry-comes [] entry = record { place = 0; was = refl; sets = sets-end (Some entry) }
entry-comes (None ∷ places) entry = record { place = 0; was = refl; sets = sets-first None (Some entry) places }
entry-comes (Some other ∷ places) entry =
    let rest : Comes places entry = entry-comes places entry in
    record { place = suc rest.place; was = rest.was; sets = sets-later (Some other) (Some entry) places (with_entry places entry) rest.place rest.sets }

-- an entry of a name that changes
pub record Turns (places : List (Option Entry)) (name : List ℕ) (changed : Option Entry) (number : ℕ) : Type 0 where
  pub place : ℕ
  pub entry : Entry
  pub was : get_or places place None ≡ Some entry
  pub name_is : entry.name ≡ name
  pub names : entry.inode ≡ number
  pub sets : SetsPlace places (with_place places name changed) place changed

pub entry-turns : (places : List (Option Entry)) (name : List ℕ) (changed : Option Entry) (number : ℕ) → inode_named places name ≡ Some number → Turns places name changed number
entry-turns [] name changed number e = some-differ number e
entry-turns (None ∷ places) name changed number e =
    let rest : Turns places name changed number = entry-turns places name changed number e in
    record { place = suc rest.place; entry = rest.entry; was = rest.was; name_is = rest.name_is; names = rest.names; sets = sets-later None changed places (with_place places name changed) rest.place rest.sets }
entry-turns (Some entry ∷ places) name changed number e = elim (cases_Bool (bytes_eq entry.name name)) as (λ _. Turns (Some entry ∷ places) name changed number) [
  | inl same ↦
      record {
        place = 0;
        entry = entry;
        was = refl;
        name_is = same-bytes entry.name name same;
        names = some-same entry.inode number (rw same at e);
        sets = rw same (sets-first (Some entry) changed places);
      }
  | inr apart ↦
      let rest : Turns places name changed number = entry-turns places name changed number (rw apart at e) in
      record {
        place = suc rest.place;
        entry = rest.entry;
        was = rest.was;
        name_is = rest.name_is;
        names = rest.names;
        sets = rw apart (sets-later (Some entry) changed places (with_place places name changed) rest.place rest.sets);
      }
]

-- ---- how many places

pub turned-length : (places : List (Option Entry)) (name : List ℕ) (changed : Option Entry) → length (with_place places name changed) ≡ length places
turned-length [] name changed = refl
turned-length (place ∷ places) name changed = elim (cases_Bool (is_some (place_inode name place))) as (λ _. length (with_place (place ∷ places) name changed) ≡ length (place ∷ places)) [
  | inl same ↦ rw same refl
  | inr apart ↦ rw apart (ap suc (turned-length places name changed))
]

come-length : (places : List (Option Entry)) (entry : Entry) → length (with_entry places entry) ≤ length places + 1
come-length [] entry = omega arith
come-length (None ∷ places) entry = omega arith
come-length (Some other ∷ places) entry = omega (arith, come-length places entry)

hole-length : (places : List (Option Entry)) (entry : Entry) → list_all is_some places ≡ false → length (with_entry places entry) ≡ length places
hole-length [] entry e = absurd (true-false e)
hole-length (None ∷ places) entry e = refl
hole-length (Some other ∷ places) entry e = ap suc (hole-length places entry e)

and-not : (first second : Bool) → (first && second) ≡ false → (first ≡ false) ⊎ (second ≡ false)
and-not true second e = inr e
and-not false second e = inl refl

pub came-length : (files : Files) (directory : ℕ) (entry : Entry) → is_full files directory ≡ false → length (places_of (at files.inodes directory)) ≤ 1024
    → length (with_entry (places_of (at files.inodes directory)) entry) ≤ 1024
unfolding most_places
came-length files directory entry e order =
    let places : List (Option Entry) = places_of (at files.inodes directory) in
    elim (and-not (nat_le 1024 (length places)) (list_all is_some places) e) as (λ _. length (with_entry places entry) ≤ 1024) [
      | inl few ↦ let less : length places < 1024 = fewer (length places) few in omega (arith, less, come-length places entry)
      | inr hole ↦ omega (arith, order, hole-length places entry hole)
    ]
  where
    fewer : (n : ℕ) → nat_le 1024 n ≡ false → n < 1024
    fewer n f = grind (arith, nat_tests)

-- ---- in the table of inodes

module _ (files : Files) (d : ℕ) (places : List (Option Entry)) where
  abbrev after : ℕ → Option Inode
  after = (with_places files d places).inodes

  abbrev new : Option Inode
  new = Some (Directory (parent_of (at files.inodes d)) places)

  places-here : (directory : ℕ) → directory ≡ d → at after directory ≡ new
  places-here directory same = here files.inodes directory d new same

  places-other : (directory : ℕ) → directory ≢ d → at after directory ≡ at files.inodes directory
  places-other directory apart = at-with_at-other files.inodes d directory new apart

  pub set-places : (p : ℕ) (value : Option Entry) → SetsPlace (places_of (at files.inodes d)) places p value → SetsEntry files.inodes after d p value
  set-places p value sets =
      record {
        set = ap (λ (found : Option Inode). get_or (places_of found) p None) (places-here d refl) ∙ sets.set;
        others = λ directory place apart. elim (eqb_tells directory d) as (λ _. entry_at after directory place ≡ entry_at files.inodes directory place) [
          | inl same ↦
              ap (λ (found : Option Inode). get_or (places_of found) place None) (places-here directory same.1)
              ∙ sets.others place (λ alike. apart (same.1, alike)) ∙ ap (λ n. entry_at files.inodes n place) (sym same.1)
          | inr other ↦ ap (λ (found : Option Inode). get_or (places_of found) place None) (places-other directory other.1)
        ];
      }

  module _ (is : is_directory (at files.inodes d) ≡ true) where
    -- what is read of a directory alone
    same-read : {X : Type 0} (read : Option Inode → X) (n : ℕ) → read new ≡ read (at files.inodes d) → read (at after n) ≡ read (at files.inodes n)
    same-read read n e = elim (eqb_tells n d) as (λ _. read (at after n) ≡ read (at files.inodes n)) [
      | inl same ↦ ap read (places-here n same.1) ∙ e ∙ ap (λ k. read (at files.inodes k)) (sym same.1)
      | inr apart ↦ ap read (places-other n apart.1)
    ]

    some-directory : (found : Option Inode) → is_directory found ≡ true → (is_some found ≡ true)
    some-directory None e = absurd (true-false (sym e))
    some-directory (Some inode) e = refl

    pub places-kinds : SameKinds files.inodes after
    places-kinds =
        record {
          directory = λ n. same-read is_directory n (sym is);
          kind = λ n. same-read is_named_kind n (sym (directory-kind (at files.inodes d) is));
        }

    pub places-some : SameSome files.inodes after
    places-some n = same-read is_some n (sym (some-directory (at files.inodes d) is))

    pub places-parents : SameParents files.inodes after
    places-parents n = same-read parent_of n refl

-- ---- names

pub names-set : (before after : ℕ → Option Inode) (d p : ℕ) (value : Option Entry) → SetsEntry before after d p value
    → ((entry : Entry) → value ≡ Some entry → IsName entry.name)
    → ((entry : Entry) → value ≡ Some entry → (place : ℕ) (other : Entry) → place ≢ p → entry_at before d place ≡ Some other → other.name ≢ entry.name)
    → AreNames before → AreNames after
names-set before after d p value sets good apart names =
    record {
      each = λ directory place entry e. each-of directory place entry (entry-reads before after d p value sets directory place entry e);
      differ = λ directory place other entry second e f same.
          differ-of directory place other entry second (entry-reads before after d p value sets directory place entry e) (entry-reads before after d p value sets directory other second f) same;
    }
  where
    each-of : (directory place : ℕ) (entry : Entry) → (IsPlace directory place d p × (value ≡ Some entry)) ⊎ ((IsPlace directory place d p → ⊥) × (entry_at before directory place ≡ Some entry)) → IsName entry.name
    each-of directory place entry (inl own) = good entry own.1
    each-of directory place entry (inr other) = names.each directory place entry other.1

    differ-of : (directory place other : ℕ) (entry second : Entry) → (IsPlace directory place d p × (value ≡ Some entry)) ⊎ ((IsPlace directory place d p → ⊥) × (entry_at before directory place ≡ Some entry))
        → (IsPlace directory other d p × (value ≡ Some second)) ⊎ ((IsPlace directory other d p → ⊥) × (entry_at before directory other ≡ Some second)) → entry.name ≡ second.name → place ≡ other
    differ-of directory place other entry second (inl own) (inl too) same = own.0.1 ∙ sym too.0.1
    differ-of directory place other entry second (inl own) (inr too) same =
        absurd (apart entry own.1 other second (λ alike. too.0 (own.0.0, alike)) (ap (λ n. entry_at before n other) (sym own.0.0) ∙ too.1) (sym same))
    differ-of directory place other entry second (inr own) (inl too) same =
        absurd (apart second too.1 place entry (λ alike. own.0 (too.0.0, alike)) (ap (λ n. entry_at before n place) (sym too.0.0) ∙ own.1) same)
    differ-of directory place other entry second (inr own) (inr too) same = names.differ directory place other entry second own.1 too.1 same

pub names-same : (before after : ℕ → Option Inode) → SameEntries before after → AreNames before → AreNames after
names-same before after entries names =
    record {
      each = λ directory place entry e. names.each directory place entry (sym (entries directory place) ∙ e);
      differ = λ directory place other entry second e f same. names.differ directory place other entry second (sym (entries directory place) ∙ e) (sym (entries directory other) ∙ f) same;
    }
