-- The tree of directories under each kind of change: the same entries, an entry more, an entry less, an inode less, and an
-- entry that moves.
use Rattle.std.proofs.Common.{◌≡◌, ◌≢◌, ◌⊎◌, ℕ, zero, suc, Bool, true, false, Option, Some, None, refl, sym, subst, ap, ◌∙◌, inl, inr, get_or}
use Rattle.std.proofs.lemmas.Bool.{cases_Bool, eq-eqb}
use Rattle.std.proofs.lemmas.Bool.Decides.{eqb_tells}
use Rattle.std.specs.Prelude.{is_some, ◌==◌, ◌||◌}
use Rattle.unix_model.specs.Files.{Console, Directory, Entry, File, Inode, Pipe, is_directory, is_linked, is_within, parent_of, places_of, root_inode}
use Rattle.unix_model.specs.Limits.{inode_count}
use Rattle.unix_model.specs.Rules.{EndsAt, IsTree, entry_at, is_named_kind}
use Rattle.unix_model.specs.Tables.{at, with_at}
use Rattle.unix_model.proofs.TableLaws.{at-with_at-other}
use Rattle.unix_laws.proofs.Basics.{some-differ, some-same, true-false}
use Rattle.unix_rules.proofs.Changed.{here}
use Rattle.unix_rules.proofs.Entries.{IsEmpty, empty-names, entry-directory, entry-linked, linked-entry, no-entry-unlinked, no-names, unlinked-no-entry}
use Rattle.unix_rules.specs.FileRules.{HasEntry, IsTied}

-- the tree, in the words of entries
pub record Tree (inodes : ℕ → Option Inode) : Type 0 where
  pub names : (directory place : ℕ) (entry : Entry) → entry_at inodes directory place ≡ Some entry → is_named_kind (at inodes entry.inode) ≡ true
  pub root_has_none : (directory place : ℕ) (entry : Entry) → entry_at inodes directory place ≡ Some entry → entry.inode ≢ root_inode
  pub parents : (directory place : ℕ) (entry : Entry) → entry_at inodes directory place ≡ Some entry → is_directory (at inodes entry.inode) ≡ true → parent_of (at inodes entry.inode) ≡ directory
  pub once : (directory place other : ℕ) (entry second : Entry) → entry_at inodes directory place ≡ Some entry → entry_at inodes directory other ≡ Some second
      → entry.inode ≡ second.inode → is_directory (at inodes entry.inode) ≡ true → place ≡ other
  pub below : (number : ℕ) → is_directory (at inodes number) ≡ true → HasEntry inodes number → (steps : ℕ) × (is_within inodes root_inode steps number ≡ true)
  pub empty : (number : ℕ) → is_directory (at inodes number) ≡ true → number ≢ root_inode → (HasEntry inodes number → ⊥) → IsEmpty inodes number

pub to-tree : (inodes : ℕ → Option Inode) → EndsAt inode_count inodes → IsTree inodes → Tree inodes
to-tree inodes end tree =
    record {
      names = tree.names;
      root_has_none = tree.root_has_none;
      parents = tree.parents;
      once = tree.once;
      below = λ number is has. tree.below_root number is (entry-linked inodes number end has);
      empty = λ number is apart none. no-names inodes number (tree.unnamed_empty number is apart (no-entry-unlinked inodes number none));
    }

pub from-tree : (inodes : ℕ → Option Inode) → EndsAt inode_count inodes → Tree inodes → IsTree inodes
from-tree inodes end tree =
    record {
      names = tree.names;
      root_has_none = tree.root_has_none;
      parents = tree.parents;
      once = tree.once;
      below_root = λ number is linked. tree.below number is (linked-entry inodes number linked);
      unnamed_empty = λ number is apart unlinked. empty-names inodes number (tree.empty number is apart (unlinked-no-entry inodes number end unlinked));
    }

-- an inode has an entry, or none
pub entry-or-none : (inodes : ℕ → Option Inode) (number : ℕ) → EndsAt inode_count inodes → HasEntry inodes number ⊎ (HasEntry inodes number → ⊥)
entry-or-none inodes number end = elim (cases_Bool (is_linked inodes number)) as (λ _. HasEntry inodes number ⊎ (HasEntry inodes number → ⊥)) [
  | inl linked ↦ inl (linked-entry inodes number linked)
  | inr unlinked ↦ inr (unlinked-no-entry inodes number end unlinked)
]

-- the directory of an entry is tied
pub holder-is : (inodes : ℕ → Option Inode) → EndsAt inode_count inodes → Tree inodes → (directory place : ℕ) (entry : Entry) → entry_at inodes directory place ≡ Some entry
    → (is_directory (at inodes directory) ≡ true) × IsTied inodes directory
holder-is inodes end tree directory place entry there =
    let is : is_directory (at inodes directory) ≡ true = entry-directory (at inodes directory) place entry there in
    elim (eqb_tells directory root_inode) as (λ _. (is_directory (at inodes directory) ≡ true) × IsTied inodes directory) [
      | inl same ↦ (is, inl same.1)
      | inr apart ↦ elim (entry-or-none inodes directory end) as (λ _. (is_directory (at inodes directory) ≡ true) × IsTied inodes directory) [
        | inl has ↦ (is, inr has)
        | inr none ↦ some-differ entry (sym (tree.empty directory is apart.1 none place) ∙ there)
      ]
    ]

tied-entry : (inodes : ℕ → Option Inode) (number : ℕ) → number ≢ root_inode → IsTied inodes number → HasEntry inodes number
tied-entry inodes number apart (inl root) = absurd (apart root)
tied-entry inodes number apart (inr has) = has

-- so is the parent of a directory that is
pub parent-is : (inodes : ℕ → Option Inode) → EndsAt inode_count inodes → Tree inodes → (number : ℕ) → (is_directory (at inodes number) ≡ true) × IsTied inodes number → number ≢ root_inode
    → (is_directory (at inodes (parent_of (at inodes number))) ≡ true) × IsTied inodes (parent_of (at inodes number))
parent-is inodes end tree number both apart =
    let has : HasEntry inodes number = tied-entry inodes number apart both.1 in
    let named_directory : is_directory (at inodes has.entry.inode) ≡ true = ap (λ n. is_directory (at inodes n)) has.names ∙ both.0 in
    let parent : parent_of (at inodes has.entry.inode) ≡ has.directory = tree.parents has.directory has.place has.entry has.there named_directory in
    let is : has.directory ≡ parent_of (at inodes number) = sym parent ∙ ap (λ n. parent_of (at inodes n)) has.names in
    subst (λ n. (is_directory (at inodes n) ≡ true) × IsTied inodes n) is (holder-is inodes end tree has.directory has.place has.entry has.there)

-- every directory that is tied has a way to the root
pub way-of : (inodes : ℕ → Option Inode) → Tree inodes → (number : ℕ) → (is_directory (at inodes number) ≡ true) × IsTied inodes number → (steps : ℕ) × (is_within inodes root_inode steps number ≡ true)
unfolding is_within
way-of inodes tree number both = by_tie number both.0 both.1
  where
    by_tie : (number : ℕ) → is_directory (at inodes number) ≡ true → IsTied inodes number → (steps : ℕ) × (is_within inodes root_inode steps number ≡ true)
    by_tie number is (inl root) = (zero, eq-eqb number root_inode root)
    by_tie number is (inr has) = tree.below number is has

-- ---- ways

or-rest : (first second : Bool) → first ≡ false → (first || second) ≡ true → second ≡ true
or-rest true second e f = cc
or-rest false second e f = f

or-second : (first second : Bool) → second ≡ true → (first || second) ≡ true
or-second true second e = refl
or-second false second e = e

pub step-more : (inodes : ℕ → Option Inode) (outer later n : ℕ) → is_within inodes outer later (parent_of (at inodes n)) ≡ true → is_within inodes outer (suc later) n ≡ true
unfolding is_within
step-more inodes outer later n e = or-second (n == outer) (is_within inodes outer later (parent_of (at inodes n))) e

-- a way over numbers that keep their parents, or have a way already
module _ (before after : ℕ → Option Inode) (W : ℕ → Type 0) (closed : (n : ℕ) → W n → n ≢ root_inode → W (parent_of (at before n)))
    (agree : (n : ℕ) → W n → n ≢ root_inode → ((later : ℕ) × (is_within after root_inode later n ≡ true)) ⊎ (parent_of (at after n) ≡ parent_of (at before n))) where
  on : (n : ℕ) → ((later : ℕ) × (is_within after root_inode later n ≡ true)) ⊎ (parent_of (at after n) ≡ parent_of (at before n))
      → (later : ℕ) × (is_within after root_inode later (parent_of (at before n)) ≡ true) → (later : ℕ) × (is_within after root_inode later n ≡ true)
  on n (inl found) rest = found
  on n (inr same) rest = (suc rest.0, step-more after root_inode rest.0 n (subst (λ k. is_within after root_inode rest.0 k ≡ true) (sym same) rest.1))

  pub way-kept : (steps n : ℕ) → W n → is_within before root_inode steps n ≡ true → (later : ℕ) × (is_within after root_inode later n ≡ true)
  unfolding is_within
  way-kept zero n w e = (zero, e)
  way-kept (suc steps) n w e = elim (eqb_tells n root_inode) as (λ _. (later : ℕ) × (is_within after root_inode later n ≡ true)) [
    | inl same ↦ (zero, same.0)
    | inr apart ↦ on n (agree n w apart.1) (way-kept steps (parent_of (at before n)) (closed n w apart.1) (or-rest (n == root_inode) (is_within before root_inode steps (parent_of (at before n))) apart.0 e))
  ]

-- ---- words for changes

pub record SameKinds (before after : ℕ → Option Inode) : Type 0 where
  pub directory : (n : ℕ) → is_directory (at after n) ≡ is_directory (at before n)
  pub kind : (n : ℕ) → is_named_kind (at after n) ≡ is_named_kind (at before n)

abbrev pub SameSome : (ℕ → Option Inode) → (ℕ → Option Inode) → Type 0
SameSome before after = (n : ℕ) → is_some (at after n) ≡ is_some (at before n)

abbrev pub SameParents : (ℕ → Option Inode) → (ℕ → Option Inode) → Type 0
SameParents before after = (n : ℕ) → parent_of (at after n) ≡ parent_of (at before n)

abbrev pub SameEntries : (ℕ → Option Inode) → (ℕ → Option Inode) → Type 0
SameEntries before after = (directory place : ℕ) → entry_at after directory place ≡ entry_at before directory place

abbrev pub IsPlace : (directory place d p : ℕ) → Type 0
IsPlace directory place d p = (directory ≡ d) × (place ≡ p)

-- one place of one directory has another entry
pub record SetsEntry (before after : ℕ → Option Inode) (d p : ℕ) (value : Option Entry) : Type 0 where
  pub set : entry_at after d p ≡ value
  pub others : (directory place : ℕ) → (IsPlace directory place d p → ⊥) → entry_at after directory place ≡ entry_at before directory place

pub which-place : (directory place d p : ℕ) → IsPlace directory place d p ⊎ (IsPlace directory place d p → ⊥)
which-place directory place d p = elim (eqb_tells directory d) as (λ _. IsPlace directory place d p ⊎ (IsPlace directory place d p → ⊥)) [
  | inl same ↦ elim (eqb_tells place p) as (λ _. IsPlace directory place d p ⊎ (IsPlace directory place d p → ⊥)) [
    | inl alike ↦ inl (same.1, alike.1)
    | inr apart ↦ inr (λ both. apart.1 both.1)
  ]
  | inr apart ↦ inr (λ both. apart.1 both.0)
]

pub at-place : (inodes : ℕ → Option Inode) (directory place d p : ℕ) → IsPlace directory place d p → entry_at inodes directory place ≡ entry_at inodes d p
at-place inodes directory place d p both = ap (λ n. entry_at inodes n place) both.0 ∙ ap (λ n. entry_at inodes d n) both.1

-- an entry of the new state is the one that was set, or one from before
pub entry-reads : (before after : ℕ → Option Inode) (d p : ℕ) (value : Option Entry) → SetsEntry before after d p value → (directory place : ℕ) (entry : Entry) → entry_at after directory place ≡ Some entry
    → (IsPlace directory place d p × (value ≡ Some entry)) ⊎ ((IsPlace directory place d p → ⊥) × (entry_at before directory place ≡ Some entry))
entry-reads before after d p value sets directory place entry e =
    elim (which-place directory place d p) as (λ _. (IsPlace directory place d p × (value ≡ Some entry)) ⊎ ((IsPlace directory place d p → ⊥) × (entry_at before directory place ≡ Some entry))) [
      | inl is ↦ inl (is, sym sets.set ∙ sym (at-place after directory place d p is) ∙ e)
      | inr apart ↦ inr (apart, sym (sets.others directory place apart) ∙ e)
    ]

-- ---- the same entries

pub tree-same : (before after : ℕ → Option Inode) → SameKinds before after → SameParents before after → SameEntries before after → EndsAt inode_count before → Tree before → Tree after
tree-same before after kinds parents entries end tree =
    record {
      names = λ directory place entry e. kinds.kind entry.inode ∙ tree.names directory place entry (sym (entries directory place) ∙ e);
      root_has_none = λ directory place entry e. tree.root_has_none directory place entry (sym (entries directory place) ∙ e);
      parents = λ directory place entry e is. parents entry.inode ∙ tree.parents directory place entry (sym (entries directory place) ∙ e) (sym (kinds.directory entry.inode) ∙ is);
      once = λ directory place other entry second e f same is.
          tree.once directory place other entry second (sym (entries directory place) ∙ e) (sym (entries directory other) ∙ f) same (sym (kinds.directory entry.inode) ∙ is);
      below = λ number is has.
          let both : (is_directory (at before number) ≡ true) × IsTied before number = (sym (kinds.directory number) ∙ is, inr (back number has)) in
          let way : (steps : ℕ) × (is_within before root_inode steps number ≡ true) = way-of before tree number both in
          way-kept before after (λ n. (is_directory (at before n) ≡ true) × IsTied before n) (λ n w apart. parent-is before end tree n w apart) (λ n w apart. inr (parents n)) way.0 number both way.1;
      empty = λ number is apart none place. entries number place ∙ tree.empty number (sym (kinds.directory number) ∙ is) apart (λ has. none (forth number has)) place;
    }
  where
    back : (number : ℕ) → HasEntry after number → HasEntry before number
    back number has = record { directory = has.directory; place = has.place; entry = has.entry; there = sym (entries has.directory has.place) ∙ has.there; names = has.names }

    forth : (number : ℕ) → HasEntry before number → HasEntry after number
    forth number has = record { directory = has.directory; place = has.place; entry = has.entry; there = entries has.directory has.place ∙ has.there; names = has.names }

-- ---- an entry more

pub record Grows (before after : ℕ → Option Inode) (d p : ℕ) (new : Entry) : Type 0 where
  pub sets : SetsEntry before after d p (Some new)
  pub was : entry_at before d p ≡ None
  pub directory_is : is_directory (at before d) ≡ true
  pub tied : IsTied before d
  pub plain : is_directory (at before new.inode) ≡ false
  pub directories : (n : ℕ) → n ≢ new.inode → is_directory (at after n) ≡ is_directory (at before n)
  pub kinds : (n : ℕ) → n ≢ new.inode → is_named_kind (at after n) ≡ is_named_kind (at before n)
  pub parents : (n : ℕ) → n ≢ new.inode → parent_of (at after n) ≡ parent_of (at before n)
  pub kind_is : is_named_kind (at after new.inode) ≡ true
  pub not_root : new.inode ≢ root_inode
  pub parent_is : is_directory (at after new.inode) ≡ true → parent_of (at after new.inode) ≡ d
  pub unnamed : is_directory (at after new.inode) ≡ true → HasEntry before new.inode → ⊥

module _ (before after : ℕ → Option Inode) (d p : ℕ) (new : Entry) (end : EndsAt inode_count before) (tree : Tree before) (g : Grows before after d p new) where
  abbrev Reads : (directory place : ℕ) → Entry → Type 0
  Reads directory place entry = (IsPlace directory place d p × (Some new ≡ Some entry)) ⊎ ((IsPlace directory place d p → ⊥) × (entry_at before directory place ≡ Some entry))

  reads : (directory place : ℕ) (entry : Entry) → entry_at after directory place ≡ Some entry → Reads directory place entry
  reads directory place entry e = entry-reads before after d p (Some new) g.sets directory place entry e

  kind-of : (directory place : ℕ) (entry : Entry) → Reads directory place entry → is_named_kind (at after entry.inode) ≡ true
  kind-of directory place entry (inl own) = ap (λ (x : Entry). is_named_kind (at after x.inode)) (sym (some-same new entry own.1)) ∙ g.kind_is
  kind-of directory place entry (inr other) = elim (eqb_tells entry.inode new.inode) as (λ _. is_named_kind (at after entry.inode) ≡ true) [
    | inl same ↦ ap (λ n. is_named_kind (at after n)) same.1 ∙ g.kind_is
    | inr apart ↦ g.kinds entry.inode apart.1 ∙ tree.names directory place entry other.1
  ]

  root-of : (directory place : ℕ) (entry : Entry) → Reads directory place entry → entry.inode ≢ root_inode
  root-of directory place entry (inl own) = λ same. g.not_root (ap (λ (x : Entry). x.inode) (some-same new entry own.1) ∙ same)
  root-of directory place entry (inr other) = tree.root_has_none directory place entry other.1

  -- an older entry of a directory isn't one of the new inode
  older-apart : (directory place : ℕ) (entry : Entry) → entry_at before directory place ≡ Some entry → is_directory (at after entry.inode) ≡ true → entry.inode ≢ new.inode
  older-apart directory place entry e is same =
      g.unnamed (ap (λ n. is_directory (at after n)) (sym same) ∙ is) (record { directory = directory; place = place; entry = entry; there = e; names = same })

  older-directory : (directory place : ℕ) (entry : Entry) → entry_at before directory place ≡ Some entry → is_directory (at after entry.inode) ≡ true → is_directory (at before entry.inode) ≡ true
  older-directory directory place entry e is = sym (g.directories entry.inode (older-apart directory place entry e is)) ∙ is

  parent-of : (directory place : ℕ) (entry : Entry) → Reads directory place entry → is_directory (at after entry.inode) ≡ true → parent_of (at after entry.inode) ≡ directory
  parent-of directory place entry (inl own) is =
      let same : new ≡ entry = some-same new entry own.1 in
      ap (λ (x : Entry). parent_of (at after x.inode)) (sym same) ∙ g.parent_is (ap (λ (x : Entry). is_directory (at after x.inode)) same ∙ is) ∙ sym own.0.0
  parent-of directory place entry (inr other) is =
      g.parents entry.inode (older-apart directory place entry other.1 is) ∙ tree.parents directory place entry other.1 (older-directory directory place entry other.1 is)

  once-of : (directory place other : ℕ) (entry second : Entry) → Reads directory place entry → Reads directory other second → entry.inode ≡ second.inode → is_directory (at after entry.inode) ≡ true → place ≡ other
  once-of directory place other entry second (inl own) (inl too) same is = own.0.1 ∙ sym too.0.1
  once-of directory place other entry second (inl own) (inr too) same is =
      absurd (older-apart directory other second too.1 (ap (λ n. is_directory (at after n)) (sym same) ∙ is) (sym same ∙ ap (λ (x : Entry). x.inode) (sym (some-same new entry own.1))))
  once-of directory place other entry second (inr own) (inl too) same is =
      absurd (older-apart directory place entry own.1 is (same ∙ ap (λ (x : Entry). x.inode) (sym (some-same new second too.1))))
  once-of directory place other entry second (inr own) (inr too) same is = tree.once directory place other entry second own.1 too.1 same (older-directory directory place entry own.1 is)

  abbrev W : ℕ → Type 0
  W n = (is_directory (at before n) ≡ true) × IsTied before n

  not-new : (n : ℕ) → W n → n ≢ new.inode
  not-new n w same = true-false (sym w.0 ∙ ap (λ k. is_directory (at before k)) same ∙ g.plain)

  way-after : (n : ℕ) → W n → (later : ℕ) × (is_within after root_inode later n ≡ true)
  way-after n w =
      let way : (steps : ℕ) × (is_within before root_inode steps n ≡ true) = way-of before tree n w in
      way-kept before after W (λ k v apart. parent-is before end tree k v apart) (λ k v apart. inr (g.parents k (not-new k v))) way.0 n w way.1

  has-before : (number : ℕ) → number ≢ new.inode → HasEntry after number → HasEntry before number
  has-before number apart has = was_so (reads has.directory has.place has.entry has.there)
    where
      was_so : Reads has.directory has.place has.entry → HasEntry before number
      was_so (inl own) = absurd (apart (sym has.names ∙ ap (λ (x : Entry). x.inode) (sym (some-same new has.entry own.1))))
      was_so (inr other) = record { directory = has.directory; place = has.place; entry = has.entry; there = other.1; names = has.names }

  pub has-after : (number : ℕ) → HasEntry before number → HasEntry after number
  has-after number has =
      let apart : IsPlace has.directory has.place d p → ⊥ = λ is. some-differ has.entry (sym (at-place before has.directory has.place d p is ∙ g.was) ∙ has.there) in
      record { directory = has.directory; place = has.place; entry = has.entry; there = g.sets.others has.directory has.place apart ∙ has.there; names = has.names }

  below-of : (number : ℕ) → is_directory (at after number) ≡ true → HasEntry after number → (steps : ℕ) × (is_within after root_inode steps number ≡ true)
  below-of number is has = elim (eqb_tells number new.inode) as (λ _. (steps : ℕ) × (is_within after root_inode steps number ≡ true)) [
    | inl same ↦
        let way : (steps : ℕ) × (is_within after root_inode steps d ≡ true) = way-after d (g.directory_is, g.tied) in
        let parent : parent_of (at after number) ≡ d = ap (λ n. parent_of (at after n)) same.1 ∙ g.parent_is (ap (λ n. is_directory (at after n)) (sym same.1) ∙ is) in
        (suc way.0, step-more after root_inode way.0 number (subst (λ k. is_within after root_inode way.0 k ≡ true) (sym parent) way.1))
    | inr apart ↦ way-after number (sym (g.directories number apart.1) ∙ is, inr (has-before number apart.1 has))
  ]

  pub new-has : HasEntry after new.inode
  new-has = record { directory = d; place = p; entry = new; there = g.sets.set; names = refl }

  not-d : (number : ℕ) → number ≢ root_inode → (HasEntry before number → ⊥) → number ≢ d
  not-d number apart none same = by_tie (subst (IsTied before) (sym same) g.tied)
    where
      by_tie : IsTied before number → ⊥
      by_tie (inl root) = apart root
      by_tie (inr has) = none has

  empty-of : (number : ℕ) → is_directory (at after number) ≡ true → number ≢ root_inode → (HasEntry after number → ⊥) → IsEmpty after number
  empty-of number is apart none place =
      let old : number ≢ new.inode = λ same. none (subst (HasEntry after) (sym same) new-has) in
      let none_before : HasEntry before number → ⊥ = λ has. none (has-after number has) in
      g.sets.others number place (λ both. not-d number apart none_before both.0) ∙ tree.empty number (sym (g.directories number old) ∙ is) apart none_before place

  pub tree-grows : Tree after
  tree-grows =
      record {
        names = λ directory place entry e. kind-of directory place entry (reads directory place entry e);
        root_has_none = λ directory place entry e. root-of directory place entry (reads directory place entry e);
        parents = λ directory place entry e is. parent-of directory place entry (reads directory place entry e) is;
        once = λ directory place other entry second e f same is. once-of directory place other entry second (reads directory place entry e) (reads directory other second f) same is;
        below = below-of;
        empty = empty-of;
      }

-- ---- an entry less

pub record Leaves (before after : ℕ → Option Inode) (d p : ℕ) (gone : Entry) : Type 0 where
  pub sets : SetsEntry before after d p None
  pub was : entry_at before d p ≡ Some gone
  pub kinds : SameKinds before after
  pub parents : SameParents before after
  pub empty : is_directory (at before gone.inode) ≡ true → IsEmpty before gone.inode

module _ (before after : ℕ → Option Inode) (d p : ℕ) (gone : Entry) (end : EndsAt inode_count before) (tree : Tree before) (l : Leaves before after d p gone) where
  old-entry : (directory place : ℕ) (entry : Entry) → entry_at after directory place ≡ Some entry → entry_at before directory place ≡ Some entry
  old-entry directory place entry e = was_so (entry-reads before after d p None l.sets directory place entry e)
    where
      was_so : (IsPlace directory place d p × (None ≡ Some entry)) ⊎ ((IsPlace directory place d p → ⊥) × (entry_at before directory place ≡ Some entry)) → entry_at before directory place ≡ Some entry
      was_so (inl own) = some-differ entry own.1
      was_so (inr other) = other.1

  old-has : (number : ℕ) → HasEntry after number → HasEntry before number
  old-has number has = record { directory = has.directory; place = has.place; entry = has.entry; there = old-entry has.directory has.place has.entry has.there; names = has.names }

  pub left-has : (number : ℕ) → HasEntry before number → HasEntry after number ⊎ (number ≡ gone.inode)
  left-has number has = elim (which-place has.directory has.place d p) as (λ _. HasEntry after number ⊎ (number ≡ gone.inode)) [
    | inl is ↦ inr (sym has.names ∙ ap (λ (x : Entry). x.inode) (some-same has.entry gone (sym has.there ∙ at-place before has.directory has.place d p is ∙ l.was)))
    | inr apart ↦ inl (record { directory = has.directory; place = has.place; entry = has.entry; there = l.sets.others has.directory has.place apart ∙ has.there; names = has.names })
  ]

  empty-still : (number place : ℕ) → entry_at before number place ≡ None → entry_at after number place ≡ None
  empty-still number place e = elim (which-place number place d p) as (λ _. entry_at after number place ≡ None) [
    | inl is ↦ at-place after number place d p is ∙ l.sets.set
    | inr apart ↦ l.sets.others number place apart ∙ e
  ]

  emptied : (number : ℕ) → is_directory (at before number) ≡ true → number ≢ root_inode → (HasEntry after number → ⊥) → HasEntry before number ⊎ (HasEntry before number → ⊥) → IsEmpty before number
  emptied number is apart none (inl has) = by_gone (left-has number has)
    where
      by_gone : HasEntry after number ⊎ (number ≡ gone.inode) → IsEmpty before number
      by_gone (inl still) = absurd (none still)
      by_gone (inr same) = subst (IsEmpty before) (sym same) (l.empty (ap (λ n. is_directory (at before n)) (sym same) ∙ is))
  emptied number is apart none (inr none_before) = tree.empty number is apart none_before

  pub tree-leaves : Tree after
  tree-leaves =
      record {
        names = λ directory place entry e. l.kinds.kind entry.inode ∙ tree.names directory place entry (old-entry directory place entry e);
        root_has_none = λ directory place entry e. tree.root_has_none directory place entry (old-entry directory place entry e);
        parents = λ directory place entry e is. l.parents entry.inode ∙ tree.parents directory place entry (old-entry directory place entry e) (sym (l.kinds.directory entry.inode) ∙ is);
        once = λ directory place other entry second e f same is.
            tree.once directory place other entry second (old-entry directory place entry e) (old-entry directory other second f) same (sym (l.kinds.directory entry.inode) ∙ is);
        below = λ number is has.
            let both : (is_directory (at before number) ≡ true) × IsTied before number = (sym (l.kinds.directory number) ∙ is, inr (old-has number has)) in
            let way : (steps : ℕ) × (is_within before root_inode steps number ≡ true) = way-of before tree number both in
            way-kept before after (λ n. (is_directory (at before n) ≡ true) × IsTied before n) (λ n w apart. parent-is before end tree n w apart) (λ n w apart. inr (l.parents n)) way.0 number both way.1;
        empty = λ number is apart none place.
            empty-still number place (emptied number (sym (l.kinds.directory number) ∙ is) apart none (entry-or-none before number end) place);
      }

-- ---- an inode less

module _ (before : ℕ → Option Inode) (gone : ℕ) (end : EndsAt inode_count before) (tree : Tree before) (apart_root : gone ≢ root_inode) (unnamed : HasEntry before gone → ⊥) where
  abbrev after : ℕ → Option Inode
  after = with_at before gone None

  stays : (n : ℕ) → n ≢ gone → at after n ≡ at before n
  stays n apart = at-with_at-other before gone n None apart

  none-there : (place : ℕ) (found : Bool) → is_directory (at before gone) ≡ found → entry_at before gone place ≡ None
  none-there place true is = tree.empty gone is apart_root unnamed place
  none-there place false is = no_directory (at before gone) is
    where
      no_directory : (found : Option Inode) → is_directory found ≡ false → get_or (places_of found) place None ≡ None
      no_directory None e = refl
      no_directory (Some (File bytes)) e = refl
      no_directory (Some (Directory parent places)) e = absurd (true-false e)
      no_directory (Some (Pipe bytes)) e = refl
      no_directory (Some Console) e = refl

  pub drop-entries : SameEntries before after
  drop-entries directory place = elim (eqb_tells directory gone) as (λ _. entry_at after directory place ≡ entry_at before directory place) [
    | inl same ↦
        ap (λ (found : Option Inode). get_or (places_of found) place None) (here before directory gone None same.1)
        ∙ sym (none-there place (is_directory (at before gone)) refl) ∙ ap (λ n. entry_at before n place) (sym same.1)
    | inr apart ↦ ap (λ (found : Option Inode). get_or (places_of found) place None) (stays directory apart.1)
  ]

  entry-apart : (directory place : ℕ) (entry : Entry) → entry_at before directory place ≡ Some entry → entry.inode ≢ gone
  entry-apart directory place entry e same = unnamed (record { directory = directory; place = place; entry = entry; there = e; names = same })

  old : (directory place : ℕ) (entry : Entry) → entry_at after directory place ≡ Some entry → entry_at before directory place ≡ Some entry
  old directory place entry e = sym (drop-entries directory place) ∙ e

  kept-inode : (directory place : ℕ) (entry : Entry) → entry_at after directory place ≡ Some entry → at after entry.inode ≡ at before entry.inode
  kept-inode directory place entry e = stays entry.inode (entry-apart directory place entry (old directory place entry e))

  pub drop-has : (number : ℕ) → HasEntry after number → HasEntry before number
  drop-has number has = record { directory = has.directory; place = has.place; entry = has.entry; there = old has.directory has.place has.entry has.there; names = has.names }

  pub has-drop : (number : ℕ) → HasEntry before number → HasEntry after number
  has-drop number has = record { directory = has.directory; place = has.place; entry = has.entry; there = drop-entries has.directory has.place ∙ has.there; names = has.names }

  not-gone : (n : ℕ) → IsTied before n → n ≢ gone
  not-gone n (inl root) same = apart_root (sym same ∙ root)
  not-gone n (inr has) same = unnamed (subst (HasEntry before) same has)

  pub tree-drops : Tree after
  tree-drops =
      record {
        names = λ directory place entry e. ap is_named_kind (kept-inode directory place entry e) ∙ tree.names directory place entry (old directory place entry e);
        root_has_none = λ directory place entry e. tree.root_has_none directory place entry (old directory place entry e);
        parents = λ directory place entry e is.
            ap parent_of (kept-inode directory place entry e) ∙ tree.parents directory place entry (old directory place entry e) (ap is_directory (sym (kept-inode directory place entry e)) ∙ is);
        once = λ directory place other entry second e f same is.
            tree.once directory place other entry second (old directory place entry e) (old directory other second f) same (ap is_directory (sym (kept-inode directory place entry e)) ∙ is);
        below = λ number is has.
            let before_has : HasEntry before number = drop-has number has in
            let both : (is_directory (at before number) ≡ true) × IsTied before number = (ap is_directory (sym (stays number (not-gone number (inr before_has)))) ∙ is, inr before_has) in
            let way : (steps : ℕ) × (is_within before root_inode steps number ≡ true) = way-of before tree number both in
            way-kept before after (λ n. (is_directory (at before n) ≡ true) × IsTied before n) (λ n w apart. parent-is before end tree n w apart) (λ n w apart. inr (ap parent_of (stays n (not-gone n w.1)))) way.0 number both way.1;
        empty = λ number is apart none place.
            drop-entries number place ∙ tree.empty number (ap is_directory (sym (stays number (not-dropped number is))) ∙ is) apart (λ has. none (has-drop number has)) place;
      }
    where
      not-dropped : (number : ℕ) → is_directory (at after number) ≡ true → number ≢ gone
      not-dropped number is same = true-false (sym is ∙ ap is_directory (here before number gone None same))
