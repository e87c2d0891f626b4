-- A walk that succeeds ends in a directory that is tied to the root.
use Rattle.std.proofs.Common.{◌≡◌, ◌≢◌, ◌⊎◌, ℕ, ◌≤◌, Bool, true, false, List, [], ◌∷◌, Option, Some, None, Ok, arith, refl, sym, subst, ap, ◌∙◌, inl, inr, length}
use Rattle.std.proofs.lemmas.Bool.{cases_Bool}
use Rattle.std.proofs.lemmas.Bool.Decides.{eqb_tells, nat_tests}
use Rattle.std.proofs.lemmas.List.Elements.{All-head, All-tail, All-weaker}
use Rattle.std.proofs.lemmas.Slice.Eq.{bytes_eq-Decides}
use Rattle.std.specs.List.{slice_split}
use Rattle.std.specs.Prelude.{All, bytes_eq, codes, nat_lt, ◌==◌, ◌&&◌, ◌||◌, slice_index}
use Rattle.unix_model.specs.declared.calls.Errno.TheVariants.{Enametoolong, Enoent, Enotdir}
use Rattle.unix_model.specs.Files.{Console, Directory, Entry, File, Files, Inode, Pipe, inode_named, is_directory, is_linked, parent_of, places_of, root_inode}
use Rattle.unix_model.specs.Paths.{Spot, inode_at, is_dots, is_no_directory, is_root, is_slash, is_slashed, named, start_directory, start_spot, stepped, walked, walked_from, walked_in}
use Rattle.unix_model.specs.Rules.{AreInodes, IsName, IsNameByte, IsTree, entry_at, is_named_kind}
use Rattle.unix_model.specs.Tables.{at}
use Rattle.unix_laws.proofs.Basics.{apart-of, some-differ, some-same, true-false}
use Rattle.unix_laws.proofs.Lines.{Tells, tells-nothing, tells-of, through, needs, asks, bars, either}
use Rattle.unix_rules.proofs.Entries.{FoundName, entry-directory, found-name, linked-entry, no-names}
use Rattle.unix_rules.proofs.Texts.{InPart, IsTextByte, parts-hold}
use Rattle.unix_rules.specs.FileRules.{IsTied, Stands, WalksStand}

pub directory-kind : (found : Option Inode) → is_directory found ≡ true → is_named_kind found ≡ true
directory-kind None e = cc
directory-kind (Some (File bytes)) e = refl
directory-kind (Some (Directory parent places)) e = refl
directory-kind (Some (Pipe bytes)) e = cc
directory-kind (Some Console) e = cc

-- what is found is a file or a directory, and tied to the root
pub record IsFound (inodes : ℕ → Option Inode) (number : ℕ) : Type 0 where
  pub kind : is_named_kind (at inodes number) ≡ true
  pub tied : IsTied inodes number

-- the last name of a walk, and what stands there; a walk without a name stands where it began
pub record IsLast (P : ℕ → Type 0) (files : Files) (spot : Spot) : Type 0 where
  pub some : 1 ≤ length spot.name
  pub few : length spot.name ≤ 27
  pub bytes : All (InPart P is_slash) spot.name
  pub inode_is : spot.inode ≡ inode_at files spot.directory spot.name

abbrev pub IsStart : Spot → Type 0
IsStart spot = (length spot.name ≡ 0) × (spot.inode ≡ Some spot.directory)

pub record IsWalk (P : ℕ → Type 0) (files : Files) (spot : Spot) : Type 0 where
  pub stands : Stands files.inodes spot
  pub last : IsStart spot ⊎ IsLast P files spot

module _ (P : ℕ → Type 0) (files : Files) (inodes : AreInodes files.inodes) (tree : IsTree files.inodes) where
  root-found : IsFound files.inodes root_inode
  root-found = record { kind = directory-kind (at files.inodes root_inode) inodes.root; tied = inl refl }

  -- a directory with an entry is tied
  holder-tied : (directory place : ℕ) (entry : Entry) → entry_at files.inodes directory place ≡ Some entry → IsTied files.inodes directory
  holder-tied directory place entry there = elim (eqb_tells directory root_inode) as (λ _. IsTied files.inodes directory) [
    | inl same ↦ inl same.1
    | inr apart ↦ elim (cases_Bool (is_linked files.inodes directory)) as (λ _. IsTied files.inodes directory) [
      | inl linked ↦ inr (linked-entry files.inodes directory linked)
      | inr unlinked ↦
          let is : is_directory (at files.inodes directory) ≡ true = entry-directory (at files.inodes directory) place entry there in
          some-differ entry (sym (no-names files.inodes directory (tree.unnamed_empty directory is apart.1 unlinked) place) ∙ there)
    ]
  ]

  pub holder-found : (directory place : ℕ) (entry : Entry) → entry_at files.inodes directory place ≡ Some entry → IsFound files.inodes directory
  holder-found directory place entry there =
      record { kind = directory-kind (at files.inodes directory) (entry-directory (at files.inodes directory) place entry there); tied = holder-tied directory place entry there }

  -- the parent of a directory that is tied
  pub parent-found : (directory : ℕ) → is_directory (at files.inodes directory) ≡ true → IsTied files.inodes directory → IsFound files.inodes (parent_of (at files.inodes directory))
  parent-found directory is (inl root) =
      subst (IsFound files.inodes) (sym (ap (λ n. parent_of (at files.inodes n)) root ∙ inodes.root_parent)) root-found
  parent-found directory is (inr has) =
      let is_named : is_directory (at files.inodes has.entry.inode) ≡ true = ap (λ n. is_directory (at files.inodes n)) has.names ∙ is in
      let parent : parent_of (at files.inodes has.entry.inode) ≡ has.directory = tree.parents has.directory has.place has.entry has.there is_named in
      subst (IsFound files.inodes) (sym (ap (λ n. parent_of (at files.inodes n)) (sym has.names) ∙ parent)) (holder-found has.directory has.place has.entry has.there)

  name-found : (directory : ℕ) (name : List ℕ) (number : ℕ) → inode_named (places_of (at files.inodes directory)) name ≡ Some number → IsFound files.inodes number
  name-found directory name number e =
      let found : FoundName (places_of (at files.inodes directory)) name number = found-name (places_of (at files.inodes directory)) name number e in
      record {
        kind = ap (λ n. is_named_kind (at files.inodes n)) (sym found.names) ∙ tree.names directory found.place found.entry found.there;
        tied = inr record { directory = directory; place = found.place; entry = found.entry; there = found.there; names = found.names };
      }

  at-found : (directory : ℕ) (name : List ℕ) (number : ℕ) → is_directory (at files.inodes directory) ≡ true → IsTied files.inodes directory → inode_at files directory name ≡ Some number
      → IsFound files.inodes number
  unfolding inode_at
  at-found directory name number is tied e = elim (cases_Bool (bytes_eq name (codes "."))) as (λ _. IsFound files.inodes number) [
    | inl dot ↦
        let same : directory ≡ number = some-same directory number (rw dot at e) in
        subst (IsFound files.inodes) same (record { kind = directory-kind (at files.inodes directory) is; tied = tied })
    | inr no_dot ↦ elim (cases_Bool (bytes_eq name (codes ".."))) as (λ _. IsFound files.inodes number) [
      | inl dots ↦
          let same : parent_of (at files.inodes directory) ≡ number = some-same (parent_of (at files.inodes directory)) number (rw (no_dot, dots) at e) in
          subst (IsFound files.inodes) same (parent-found directory is tied)
      | inr no_dots ↦ name-found directory name number (rw (no_dot, no_dots) at e)
    ]
  ]

  -- ---- step by step

  abbrev Holds : Spot → Type 0
  Holds spot = IsWalk P files spot

  name-holds : (spot : Spot) (part : List ℕ) → 1 ≤ length part → All (InPart P is_slash) part → Holds spot → Tells Holds (named files spot part)
  name-holds spot part some bytes walk =
      needs (Tells Holds) (tells-nothing Holds) Enoent spot.inode _ (λ directory held.
      asks (Tells Holds) (tells-nothing Holds) Enotdir (is_directory (at files.inodes directory)) _ (λ is.
      bars (Tells Holds) (tells-nothing Holds) Enametoolong (nat_lt 27 (length part)) _ (λ few.
      record {
        stands = record {
          in_directory = is;
          tied = walk.stands.found_tied directory held;
          kind = λ number e. (at-found directory part number is (walk.stands.found_tied directory held) e).kind;
          found_tied = λ number e. (at-found directory part number is (walk.stands.found_tied directory held) e).tied;
        };
        last = inr record { some = some; few = few-of (length part) few; bytes = bytes; inode_is = refl };
      })))
    where
      few-of : (n : ℕ) → nat_lt 27 n ≡ false → n ≤ 27
      few-of n e = grind (arith, nat_tests)

  step-holds : (spot : Spot) (part : List ℕ) → All (InPart P is_slash) part → Holds spot → Tells Holds (stepped files spot part)
  step-holds spot part bytes walk =
      either (Tells Holds) (tells-nothing Holds) (length part == 0) (Ok spot) (named files spot part) (λ none. walk) (λ some. name-holds spot part (some-of (length part) some) bytes walk)
    where
      some-of : (n : ℕ) → n == 0 ≡ false → 1 ≤ n
      some-of n e = let apart : n ≢ 0 = apart-of n 0 e in omega (arith, apart)

  from-holds : (spot : Spot) (parts : List (List ℕ)) → All (All (InPart P is_slash)) parts → Holds spot → Tells Holds (walked_from files spot parts)
  from-holds spot [] all walk = walk
  from-holds spot (part ∷ parts) all walk =
      through (Tells Holds) (tells-nothing Holds) (stepped files spot part) (λ next. walked_from files next parts) (λ next e.
      from-holds next parts (All-tail (All (InPart P is_slash)) part parts all)
      (tells-of Holds (stepped files spot part) next (step-holds spot part (All-head (All (InPart P is_slash)) part parts all) walk) e))

  start-holds : Holds (start_spot root_inode)
  start-holds =
      record {
        stands = record {
          in_directory = inodes.root;
          tied = inl refl;
          kind = λ number e. ap (λ n. is_named_kind (at files.inodes n)) (sym (some-same root_inode number e)) ∙ root-found.kind;
          found_tied = λ number e. inl (sym (some-same root_inode number e));
        };
        last = inl (refl, refl);
      }

  walk-in-holds : (start : ℕ) (path : List ℕ) → root_inode ≡ start → All P path → Tells Holds (walked_in files start path)
  unfolding walked_in
  walk-in-holds start path begins all =
      through (Tells Holds) (tells-nothing Holds) (walked_from files (start_spot start) (slice_split is_slash path)) _ (λ spot e.
      bars (Tells Holds) (tells-nothing Holds) Enotdir (is_slashed path && is_no_directory files spot.inode) _ (λ may.
      tells-of Holds (walked_from files (start_spot start) (slice_split is_slash path)) spot
      (from-holds (start_spot start) (slice_split is_slash path) (parts-hold P is_slash path all) (subst (λ n. Holds (start_spot n)) begins start-holds)) e))

  start-root : (path : List ℕ) (start : ℕ) → start_directory path ≡ Ok start → root_inode ≡ start
  start-root path start e =
      tells-of (λ n. root_inode ≡ n) (start_directory path) start
      (asks (Tells (λ n. root_inode ≡ n)) (tells-nothing (λ n. root_inode ≡ n)) Enoent (is_slash (slice_index path 0)) (Ok root_inode) (λ slash. refl)) e

  pub walk-is : (path : List ℕ) (spot : Spot) → All P path → walked files path ≡ Ok spot → IsWalk P files spot
  unfolding walked
  walk-is path spot all e =
      tells-of Holds (walked files path) spot
      (through (Tells Holds) (tells-nothing Holds) (start_directory path) (λ start. walked_in files start path) (λ start f. walk-in-holds start path (start-root path start f) all)) e

pub walks_stand : WalksStand
walks_stand files path spot inodes tree e = (walk-is (λ byte. Unit {0}) files inodes tree path spot (λ k d below. tt) e).stands

-- ---- the last name

-- a name that is given: such a name, and what is found is what the directory has of that name
pub record IsGiven (files : Files) (spot : Spot) : Type 0 where
  pub name : IsName spot.name
  pub inode_is : spot.inode ≡ inode_named (places_of (at files.inodes spot.directory)) spot.name

text-byte : (byte : ℕ) → InPart IsTextByte is_slash byte → IsNameByte byte
text-byte byte holds = (holds.0.0, apart-of byte 0 holds.0.1, apart-of byte 47 holds.1)

not-code : (name code : List ℕ) → bytes_eq name code ≡ false → name ≢ code
not-code name code e same = true-false (sym ((bytes_eq-Decides name code).1 same) ∙ e)

given-of : (files : Files) (spot : Spot) → IsLast IsTextByte files spot → bytes_eq spot.name (codes ".") ≡ false → bytes_eq spot.name (codes "..") ≡ false → IsGiven files spot
unfolding inode_at
given-of files spot last dot dots =
    record {
      name = record { some_bytes = last.some; few_bytes = last.few; bytes = All-weaker (InPart IsTextByte is_slash) IsNameByte text-byte spot.name last.bytes; is_not_dot = not-code spot.name (codes ".") dot; is_not_dots = not-code spot.name (codes "..") dots };
      inode_is = last.inode_is ∙ rw (dot, dots) refl;
    }

or-none : (first second : Bool) → (first || second) ≡ false → (first ≡ false) × (second ≡ false)
or-none true second e = cc
or-none false second e = (refl, e)

given-last : (files : Files) (spot : Spot) → is_root spot ≡ false → is_dots spot ≡ false → IsStart spot ⊎ IsLast IsTextByte files spot → IsGiven files spot
unfolding is_dots
given-last files spot named_so plain (inl start) = absurd (apart-of (length spot.name) 0 named_so start.0)
given-last files spot named_so plain (inr last) =
    let both : (bytes_eq spot.name (codes ".") ≡ false) × (bytes_eq spot.name (codes "..") ≡ false) = or-none (bytes_eq spot.name (codes ".")) (bytes_eq spot.name (codes "..")) plain in
    given-of files spot last both.0 both.1

-- a path with a name that is neither `.` nor `..`
pub given-name : (files : Files) (spot : Spot) → IsWalk IsTextByte files spot → is_root spot ≡ false → is_dots spot ≡ false → IsGiven files spot
given-name files spot walk named_so plain = given-last files spot named_so plain walk.last

-- and one at which nothing stands
at-none : (files : Files) (directory : ℕ) (name : List ℕ) → inode_at files directory name ≡ None → (bytes_eq name (codes ".") ≡ false) × (bytes_eq name (codes "..") ≡ false)
unfolding inode_at
at-none files directory name e = elim (cases_Bool (bytes_eq name (codes "."))) as (λ _. (bytes_eq name (codes ".") ≡ false) × (bytes_eq name (codes "..") ≡ false)) [
  | inl dot ↦ some-differ directory (sym (rw dot at e))
  | inr no_dot ↦ elim (cases_Bool (bytes_eq name (codes ".."))) as (λ _. (bytes_eq name (codes ".") ≡ false) × (bytes_eq name (codes "..") ≡ false)) [
    | inl dots ↦ some-differ (parent_of (at files.inodes directory)) (sym (rw (no_dot, dots) at e))
    | inr no_dots ↦ (no_dot, no_dots)
  ]
]

pub new-name : (files : Files) (spot : Spot) → IsWalk IsTextByte files spot → spot.inode ≡ None → IsGiven files spot
new-name files spot walk none = by_last walk.last
  where
    by_last : IsStart spot ⊎ IsLast IsTextByte files spot → IsGiven files spot
    by_last (inl start) = some-differ spot.directory (sym none ∙ start.1)
    by_last (inr last) =
        let both : (bytes_eq spot.name (codes ".") ≡ false) × (bytes_eq spot.name (codes "..") ≡ false) = at-none files spot.directory spot.name (sym last.inode_is ∙ none) in
        given-of files spot last both.0 both.1

-- an inode that is found and no directory has a name of its own
at-plain : (files : Files) (directory : ℕ) (name : List ℕ) (number : ℕ) → is_directory (at files.inodes directory) ≡ true → is_directory (at files.inodes (parent_of (at files.inodes directory))) ≡ true
    → inode_at files directory name ≡ Some number → is_directory (at files.inodes number) ≡ false → (bytes_eq name (codes ".") ≡ false) × (bytes_eq name (codes "..") ≡ false)
unfolding inode_at
at-plain files directory name number is parent_is e plain = elim (cases_Bool (bytes_eq name (codes "."))) as (λ _. (bytes_eq name (codes ".") ≡ false) × (bytes_eq name (codes "..") ≡ false)) [
  | inl dot ↦ absurd (true-false (sym is ∙ ap (λ n. is_directory (at files.inodes n)) (some-same directory number (rw dot at e)) ∙ plain))
  | inr no_dot ↦ elim (cases_Bool (bytes_eq name (codes ".."))) as (λ _. (bytes_eq name (codes ".") ≡ false) × (bytes_eq name (codes "..") ≡ false)) [
    | inl dots ↦ absurd (true-false (sym parent_is ∙ ap (λ n. is_directory (at files.inodes n)) (some-same (parent_of (at files.inodes directory)) number (rw (no_dot, dots) at e)) ∙ plain))
    | inr no_dots ↦ (no_dot, no_dots)
  ]
]

-- the parent of a directory that is tied is a directory
pub parent-directory : (files : Files) → AreInodes files.inodes → IsTree files.inodes → (directory : ℕ) → is_directory (at files.inodes directory) ≡ true → IsTied files.inodes directory
    → is_directory (at files.inodes (parent_of (at files.inodes directory))) ≡ true
parent-directory files inodes tree directory is (inl root) =
    ap (λ n. is_directory (at files.inodes n)) (ap (λ n. parent_of (at files.inodes n)) root ∙ inodes.root_parent) ∙ inodes.root
parent-directory files inodes tree directory is (inr has) =
    let is_named : is_directory (at files.inodes has.entry.inode) ≡ true = ap (λ n. is_directory (at files.inodes n)) has.names ∙ is in
    let parent : parent_of (at files.inodes has.entry.inode) ≡ has.directory = tree.parents has.directory has.place has.entry has.there is_named in
    ap (λ n. is_directory (at files.inodes n)) (ap (λ n. parent_of (at files.inodes n)) (sym has.names) ∙ parent) ∙ entry-directory (at files.inodes has.directory) has.place has.entry has.there

plain-last : (files : Files) (spot : Spot) (number : ℕ) → AreInodes files.inodes → IsTree files.inodes → Stands files.inodes spot → spot.inode ≡ Some number → is_directory (at files.inodes number) ≡ false
    → IsStart spot ⊎ IsLast IsTextByte files spot → IsGiven files spot
plain-last files spot number inodes tree stands e plain (inl start) =
    absurd (true-false (sym stands.in_directory ∙ ap (λ n. is_directory (at files.inodes n)) (some-same spot.directory number (sym start.1 ∙ e)) ∙ plain))
plain-last files spot number inodes tree stands e plain (inr last) =
    let both : (bytes_eq spot.name (codes ".") ≡ false) × (bytes_eq spot.name (codes "..") ≡ false) =
    at-plain files spot.directory spot.name number stands.in_directory (parent-directory files inodes tree spot.directory stands.in_directory stands.tied) (sym last.inode_is ∙ e) plain in
    given-of files spot last both.0 both.1

pub plain-name : (files : Files) (spot : Spot) (number : ℕ) → AreInodes files.inodes → IsTree files.inodes → IsWalk IsTextByte files spot → spot.inode ≡ Some number → is_directory (at files.inodes number) ≡ false
    → IsGiven files spot
plain-name files spot number inodes tree walk e plain = plain-last files spot number inodes tree walk.stands e plain walk.last

-- where nothing stands, the directory doesn't have the name
missed-last : (P : ℕ → Type 0) (files : Files) (spot : Spot) → spot.inode ≡ None → IsStart spot ⊎ IsLast P files spot → inode_named (places_of (at files.inodes spot.directory)) spot.name ≡ None
unfolding inode_at
missed-last P files spot none (inl start) = some-differ spot.directory (sym none ∙ start.1)
missed-last P files spot none (inr last) =
    let both : (bytes_eq spot.name (codes ".") ≡ false) × (bytes_eq spot.name (codes "..") ≡ false) = at-none files spot.directory spot.name (sym last.inode_is ∙ none) in
    rw (both.0, both.1) at (sym last.inode_is ∙ none)

pub new-missed : (P : ℕ → Type 0) (files : Files) (spot : Spot) → IsWalk P files spot → spot.inode ≡ None → inode_named (places_of (at files.inodes spot.directory)) spot.name ≡ None
new-missed P files spot walk none = missed-last P files spot none walk.last
