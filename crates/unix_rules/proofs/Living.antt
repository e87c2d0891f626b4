-- Which inodes are there, and what drops one; and what rules of inodes and descriptions say of tables that change.
use Rattle.std.proofs.Common.{◌≡◌, ◌≢◌, ◌⊎◌, ℕ, ◌<◌, ◌≤◌, Bool, true, false, Option, Some, None, arith, refl, sym, subst, ap, ◌∙◌, inl, inr}
use Rattle.std.proofs.lemmas.Bool.{cases_Bool, cases_lt, eq-eqb}
use Rattle.std.proofs.lemmas.Bool.Decides.{eqb_tells, nat_tests}
use Rattle.std.specs.Prelude.{IsSome, is_some, nat_lt, ◌||◌}
use Rattle.unix_model.specs.Files.{Console, Description, Files, Inode, console_inode, description_names, is_directory, is_kept, is_linked, is_open, parent_of, root_inode, with_inode_dropped}
use Rattle.unix_model.specs.Limits.{description_count, inode_count}
use Rattle.unix_model.specs.Rules.{AreDescriptions, AreInodes, AreKept, AreNames, EndsAt, IsDescription, IsInode}
use Rattle.unix_model.specs.Tables.{at, with_at}
use Rattle.unix_model.proofs.TableLaws.{at-with_at-other}
use Rattle.unix_laws.proofs.Basics.{same-of, some-differ, true-false}
use Rattle.unix_laws.proofs.Counting.{Passes, any-passes, passes-any}
use Rattle.unix_rules.proofs.Changed.{cut-reads, here, put-reads}
use Rattle.unix_rules.proofs.Entries.{entry-linked, linked-entry}
use Rattle.unix_rules.proofs.Places.{names-same}
use Rattle.unix_rules.proofs.Trees.{SameKinds, SameSome, Tree, drop-entries, has-drop, tree-drops}
use Rattle.unix_rules.specs.FileRules.{HasEntry}

-- ---- what lives

-- a description is open on the inode
pub record IsOpened (descriptions : ℕ → Option Description) (inode : ℕ) : Type 0 where
  pub number : ℕ
  pub description : Description
  pub there : at descriptions number ≡ Some description
  pub names : description.inode ≡ inode

abbrev pub IsLiving : Files → ℕ → Type 0
IsLiving files inode = (inode < 2) ⊎ (HasEntry files.inodes inode ⊎ IsOpened files.descriptions inode)

-- all inodes live, but perhaps one
abbrev pub LiveBut : Files → ℕ → Type 0
LiveBut files but = (inode : ℕ) → inode ≢ but → IsSome (at files.inodes inode) → IsLiving files inode

abbrev pub AllLive : Files → Type 0
AllLive files = (inode : ℕ) → IsSome (at files.inodes inode) → IsLiving files inode

some-below : {X : Type 0} (table : ℕ → Option X) (limit number : ℕ) (x : X) → EndsAt limit table → at table number ≡ Some x → number < limit
some-below table limit number x end there = elim (cases_lt number limit) as (λ _. number < limit) [
  | inl below ↦ below
  | inr past ↦ some-differ x (sym (end number past) ∙ there)
]

names-of : (found : Option Description) (inode : ℕ) → description_names inode found ≡ true → (description : Description) × (found ≡ Some description) × (description.inode ≡ inode)
names-of None inode e = absurd (true-false (sym e))
names-of (Some description) inode e = (description, refl, same-of description.inode inode e)

opened-is : (descriptions : ℕ → Option Description) (inode : ℕ) → is_open descriptions inode ≡ true → IsOpened descriptions inode
opened-is descriptions inode e =
    let found : (n : ℕ) × Passes (λ n. description_names inode (at descriptions n)) description_count n = any-passes (λ n. description_names inode (at descriptions n)) description_count e in
    let named : (description : Description) × (at descriptions found.0 ≡ Some description) × (description.inode ≡ inode) = names-of (at descriptions found.0) inode found.1.holds in
    record { number = found.0; description = named.0; there = named.1; names = named.2 }

is-opened : (descriptions : ℕ → Option Description) (inode : ℕ) → EndsAt description_count descriptions → IsOpened descriptions inode → is_open descriptions inode ≡ true
is-opened descriptions inode end is =
    passes-any (λ n. description_names inode (at descriptions n)) description_count is.number (some-below descriptions description_count is.number is.description end is.there)
    (ap (description_names inode) is.there ∙ eq-eqb is.description.inode inode is.names)

below-two : (n : ℕ) → nat_lt n 2 ≡ true → n < 2
below-two n e = grind (arith, nat_tests)

from-two : (n : ℕ) → nat_lt n 2 ≡ false → 2 ≤ n
from-two n e = grind (arith, nat_tests)

two-below : (n : ℕ) → n < 2 → nat_lt n 2 ≡ true
two-below n e = grind (arith, nat_tests)

pub kept-lives : (files : Files) (inode : ℕ) → is_kept files inode ≡ true → IsLiving files inode
kept-lives files inode e = elim (cases_Bool (nat_lt inode 2)) as (λ _. IsLiving files inode) [
  | inl first ↦ inl (below-two inode first)
  | inr past ↦ elim (cases_Bool (is_linked files.inodes inode)) as (λ _. IsLiving files inode) [
    | inl linked ↦ inr (inl (linked-entry files.inodes inode linked))
    | inr unlinked ↦ inr (inr (opened-is files.descriptions inode (rw (past, unlinked) at e)))
  ]
]

pub lives-kept : (files : Files) (inode : ℕ) → EndsAt inode_count files.inodes → EndsAt description_count files.descriptions → IsLiving files inode → is_kept files inode ≡ true
lives-kept files inode end ends (inl first) = rw (two-below inode first) refl
lives-kept files inode end ends (inr (inl has)) = rw (entry-linked files.inodes inode end has) (linked-kept (nat_lt inode 2))
  where
    linked-kept : (first : Bool) → (first || true || is_open files.descriptions inode) ≡ true
    linked-kept true = refl
    linked-kept false = refl
lives-kept files inode end ends (inr (inr is)) = rw (is-opened files.descriptions inode ends is) (open-kept (nat_lt inode 2) (is_linked files.inodes inode))
  where
    open-kept : (first second : Bool) → (first || second || true) ≡ true
    open-kept true second = refl
    open-kept false true = refl
    open-kept false false = refl

pub all-live : (files : Files) → AreKept files → AllLive files
unfolding AreKept
all-live files kept inode some = kept-lives files inode (kept inode some)

pub are-kept : (files : Files) → EndsAt inode_count files.inodes → EndsAt description_count files.descriptions → AllLive files → AreKept files
unfolding AreKept
are-kept files end ends live inode some = lives-kept files inode end ends (live inode some)

-- ---- rules of the files, but for which inodes are there

pub record Ruled (files : Files) : Type 0 where
  pub inodes : AreInodes files.inodes
  pub names : AreNames files.inodes
  pub tree : Tree files.inodes
  pub descriptions : AreDescriptions files

-- an inode that is put
pub inodes-put : (inodes : ℕ → Option Inode) (number : ℕ) (new : Inode) → AreInodes inodes → number < inode_count → IsInode new → number ≢ console_inode → new ≢ Console
    → (number ≡ root_inode → (is_directory (Some new) ≡ true) × (parent_of (Some new) ≡ root_inode)) → AreInodes (with_at inodes number (Some new))
inodes-put inodes number new are below is apart no_console root =
    record {
      end = λ n past. at-with_at-other inodes number n (Some new) (λ same. absurd (omega (arith, same, past, below))) ∙ are.end n past;
      each = λ n inode there. each-of n inode (put-reads inodes number n new inode there);
      console = at-with_at-other inodes number console_inode (Some new) (λ same. apart (sym same)) ∙ are.console;
      one_console = λ n there. console-of n (put-reads inodes number n new Console there);
      root = elim (eqb_tells root_inode number) as (λ _. is_directory (at (with_at inodes number (Some new)) root_inode) ≡ true) [
        | inl same ↦ ap is_directory (here inodes root_inode number (Some new) same.1) ∙ (root (sym same.1)).0
        | inr other ↦ ap is_directory (at-with_at-other inodes number root_inode (Some new) other.1) ∙ are.root
      ];
      root_parent = elim (eqb_tells root_inode number) as (λ _. parent_of (at (with_at inodes number (Some new)) root_inode) ≡ root_inode) [
        | inl same ↦ ap parent_of (here inodes root_inode number (Some new) same.1) ∙ (root (sym same.1)).1
        | inr other ↦ ap parent_of (at-with_at-other inodes number root_inode (Some new) other.1) ∙ are.root_parent
      ];
    }
  where
    each-of : (n : ℕ) (inode : Inode) → ((n ≡ number) × (new ≡ inode)) ⊎ ((n ≢ number) × (at inodes n ≡ Some inode)) → IsInode inode
    each-of n inode (inl own) = subst IsInode own.1 is
    each-of n inode (inr other) = are.each n inode other.1

    console-of : (n : ℕ) → ((n ≡ number) × (new ≡ Console)) ⊎ ((n ≢ number) × (at inodes n ≡ Some Console)) → n ≡ console_inode
    console-of n (inl own) = absurd (no_console own.1)
    console-of n (inr other) = are.one_console n other.1

inodes-cut : (inodes : ℕ → Option Inode) (number : ℕ) → AreInodes inodes → 2 ≤ number → AreInodes (with_at inodes number None)
inodes-cut inodes number are past =
    record {
      end = λ n beyond. elim (eqb_tells n number) as (λ _. at (with_at inodes number None) n ≡ None) [
        | inl same ↦ here inodes n number None same.1
        | inr apart ↦ at-with_at-other inodes number n None apart.1 ∙ are.end n beyond
      ];
      each = λ n inode there. are.each n inode (cut-reads inodes number n inode there).1;
      console = at-with_at-other inodes number console_inode None (λ same. absurd (omega (arith, same, past))) ∙ are.console;
      one_console = λ n there. are.one_console n (cut-reads inodes number n Console there).1;
      root = ap is_directory (at-with_at-other inodes number root_inode None (λ same. absurd (omega (arith, same, past)))) ∙ are.root;
      root_parent = ap parent_of (at-with_at-other inodes number root_inode None (λ same. absurd (omega (arith, same, past)))) ∙ are.root_parent;
    }

-- descriptions over inodes of the same kinds
pub description-same : (before after : ℕ → Option Inode) (description : Description) → is_some (at after description.inode) ≡ is_some (at before description.inode)
    → is_directory (at after description.inode) ≡ is_directory (at before description.inode) → IsDescription before description → IsDescription after description
description-same before after description some directory is =
    record {
      inode = some ∙ is.inode;
      mode = is.mode;
      offset = is.offset;
      directory_mode = λ e. is.directory_mode (sym directory ∙ e);
      directory_offset = λ e. is.directory_offset (sym directory ∙ e);
    }

pub descriptions-same : (before after : Files) → before.descriptions ≡ after.descriptions → SameSome before.inodes after.inodes → SameKinds before.inodes after.inodes → AreDescriptions before → AreDescriptions after
descriptions-same before after same somes kinds are =
    record {
      end = subst (EndsAt description_count) same are.end;
      each = λ number description there.
          description-same before.inodes after.inodes description (somes description.inode) (kinds.directory description.inode)
          (are.each number description (ap (λ (d : ℕ → Option Description). at d number) same ∙ there));
    }

-- ---- an inode that is dropped unless it lives

pub record RuledAll (files : Files) : Type 0 where
  pub ruled : Ruled files
  pub live : AllLive files

module _ (files : Files) (gone : ℕ) (ruled : Ruled files) (live : LiveBut files gone) where
  abbrev cut : Files
  cut = record files { inodes = with_at files.inodes gone None }

  kept-all : IsLiving files gone → AllLive files
  kept-all lives inode some = elim (eqb_tells inode gone) as (λ _. IsLiving files inode) [
    | inl same ↦ subst (IsLiving files) (sym same.1) lives
    | inr apart ↦ live inode apart.1 some
  ]

  module _ (unkept : is_kept files gone ≡ false) where
    not-living : IsLiving files gone → ⊥
    not-living lives = true-false (sym (lives-kept files gone ruled.inodes.end ruled.descriptions.end lives) ∙ unkept)

    past-two : 2 ≤ gone
    past-two = elim (cases_lt gone 2) as (λ _. 2 ≤ gone) [
      | inl first ↦ absurd (not-living (inl first))
      | inr past ↦ past
    ]

    not-root : gone ≢ root_inode
    not-root same = absurd (omega (arith, same, past-two))

    unnamed : HasEntry files.inodes gone → ⊥
    unnamed has = not-living (inr (inl has))

    cut-ruled : Ruled cut
    cut-ruled =
        record {
          inodes = inodes-cut files.inodes gone ruled.inodes past-two;
          names = names-same files.inodes cut.inodes (drop-entries files.inodes gone ruled.inodes.end ruled.tree not-root unnamed) ruled.names;
          tree = tree-drops files.inodes gone ruled.inodes.end ruled.tree not-root unnamed;
          descriptions = record {
            end = ruled.descriptions.end;
            each = λ number description there.
                let apart : description.inode ≢ gone = λ same. not-living (inr (inr (record { number = number; description = description; there = there; names = same }))) in
                let same_inode : at cut.inodes description.inode ≡ at files.inodes description.inode = at-with_at-other files.inodes gone description.inode None apart in
                description-same files.inodes cut.inodes description (ap is_some same_inode) (ap is_directory same_inode) (ruled.descriptions.each number description there);
          };
        }

    cut-lives : (inode : ℕ) → IsLiving files inode → IsLiving cut inode
    cut-lives inode (inl first) = inl first
    cut-lives inode (inr (inl has)) = inr (inl (has-drop files.inodes gone ruled.inodes.end ruled.tree not-root unnamed inode has))
    cut-lives inode (inr (inr is)) = inr (inr is)

    cut-live : AllLive cut
    cut-live inode some =
        let apart : inode ≢ gone = λ same. true-false (sym some ∙ ap is_some (here files.inodes inode gone None same)) in
        cut-lives inode (live inode apart (ap is_some (sym (at-with_at-other files.inodes gone inode None apart)) ∙ some))

  pub dropped-ruled : RuledAll (with_inode_dropped files gone)
  dropped-ruled = elim (cases_Bool (is_kept files gone)) as (λ _. RuledAll (with_inode_dropped files gone)) [
    | inl kept ↦ rw kept record { ruled = ruled; live = kept-all (kept-lives files gone kept) }
    | inr unkept ↦ rw unkept record { ruled = cut-ruled unkept; live = cut-live unkept }
  ]
