-- Single changes of the files, each of which keeps their rules.
use Rattle.std.proofs.Common.{◌≡◌, ◌≢◌, ◌⊎◌, ℕ, ◌%◌, ◌<◌, Bool, true, false, List, Option, Some, None, arith, refl, sym, subst, ap, ◌∙◌, inl, inr, get_or}
use Rattle.std.proofs.lemmas.Bool.Decides.{eqb_tells}
use Rattle.std.specs.Prelude.{is_some}
use Rattle.unix_model.specs.Files.{Console, Description, Directory, Entry, File, Files, Inode, Pipe, console_inode, is_directory, parent_of, places_of, root_inode, with_description, with_description_freed, with_inode}
use Rattle.unix_model.specs.Limits.{description_count, offset_end, place_bytes}
use Rattle.unix_model.specs.Rules.{AreInodes, IsDescription, IsInode, is_named_kind}
use Rattle.unix_model.specs.Tables.{at, with_at}
use Rattle.unix_model.proofs.TableLaws.{at-with_at, at-with_at-other}
use Rattle.unix_laws.proofs.Basics.{some-differ, some-same, true-false}
use Rattle.unix_rules.proofs.Changed.{apart-by, cut-reads, here, put-reads}
use Rattle.unix_rules.proofs.Entries.{below-count}
use Rattle.unix_rules.proofs.Living.{IsLiving, IsOpened, Ruled, RuledAll, descriptions-same, dropped-ruled, inodes-put}
use Rattle.unix_rules.proofs.Places.{names-same}
use Rattle.unix_rules.proofs.Trees.{SameEntries, SameKinds, tree-same}

-- ---- other contents

-- what the rules of names read of two inodes is the same, and neither is a directory or the console
pub record Like (old new : Inode) : Type 0 where
  pub places : places_of (Some new) ≡ places_of (Some old)
  pub old_plain : is_directory (Some old) ≡ false
  pub new_plain : is_directory (Some new) ≡ false
  pub kind : is_named_kind (Some new) ≡ is_named_kind (Some old)
  pub parent : parent_of (Some new) ≡ parent_of (Some old)
  pub old_apart : old ≢ Console
  pub new_apart : new ≢ Console

no-console : (inode : Inode) → is_named_kind (Some inode) ≡ true → inode ≢ Console
no-console inode e same = true-false (sym e ∙ ap (λ (i : Inode). is_named_kind (Some i)) same)

is_pipe : Inode → Bool
is_pipe (Pipe bytes) = true
is_pipe (File bytes) = false
is_pipe (Directory parent places) = false
is_pipe Console = false

pipe-apart : (bytes : List ℕ) → Pipe bytes ≢ Console
unfolding is_pipe
pipe-apart bytes same = true-false (ap is_pipe same)

pub like-files : (bytes other : List ℕ) → Like (File bytes) (File other)
like-files bytes other =
    record { places = refl; old_plain = refl; new_plain = refl; kind = refl; parent = refl; old_apart = no-console (File bytes) refl; new_apart = no-console (File other) refl }

pub like-pipes : (bytes other : List ℕ) → Like (Pipe bytes) (Pipe other)
like-pipes bytes other = record { places = refl; old_plain = refl; new_plain = refl; kind = refl; parent = refl; old_apart = pipe-apart bytes; new_apart = pipe-apart other }

module _ (files : Files) (n : ℕ) (old new : Inode) (there : at files.inodes n ≡ Some old) (like : Like old new) (is : IsInode new) where
  abbrev rewritten : ℕ → Option Inode
  rewritten = with_at files.inodes n (Some new)

  read-same : {X : Type 0} (read : Option Inode → X) (k : ℕ) → read (Some new) ≡ read (Some old) → read (at rewritten k) ≡ read (at files.inodes k)
  read-same read k e = elim (eqb_tells k n) as (λ _. read (at rewritten k) ≡ read (at files.inodes k)) [
    | inl same ↦ ap read (here files.inodes k n (Some new) same.1) ∙ e ∙ ap read (sym there ∙ ap (at files.inodes) (sym same.1))
    | inr apart ↦ ap read (at-with_at-other files.inodes n k (Some new) apart.1)
  ]

  entries-rewritten : SameEntries files.inodes rewritten
  entries-rewritten directory place = read-same (λ found. get_or (places_of found) place None) directory (ap (λ (l : List (Option Entry)). get_or l place None) like.places)

  kinds-rewritten : SameKinds files.inodes rewritten
  kinds-rewritten = record { directory = λ k. read-same is_directory k (like.new_plain ∙ sym like.old_plain); kind = λ k. read-same is_named_kind k like.kind }

  not-root : AreInodes files.inodes → n ≢ root_inode
  not-root are same = true-false (sym are.root ∙ ap (λ k. is_directory (at files.inodes k)) (sym same) ∙ ap is_directory there ∙ like.old_plain)

  not-console : AreInodes files.inodes → n ≢ console_inode
  not-console are same = like.old_apart (some-same old Console (sym there ∙ ap (at files.inodes) same ∙ are.console))

  lives-rewritten : (inode : ℕ) → IsLiving files inode → IsLiving (with_inode files n new) inode
  lives-rewritten inode (inl first) = inl first
  lives-rewritten inode (inr (inl has)) = inr (inl (record { directory = has.directory; place = has.place; entry = has.entry; there = entries-rewritten has.directory has.place ∙ has.there; names = has.names }))
  lives-rewritten inode (inr (inr opened)) = inr (inr opened)

  pub rewrite-ruled : RuledAll files → RuledAll (with_inode files n new)
  rewrite-ruled all =
      record {
        ruled = record {
          inodes = inodes-put files.inodes n new all.ruled.inodes (below-count files.inodes n all.ruled.inodes.end (ap is_some there)) is (not-console all.ruled.inodes) like.new_apart
              (λ same. absurd (not-root all.ruled.inodes same));
          names = names-same files.inodes rewritten entries-rewritten all.ruled.names;
          tree = tree-same files.inodes rewritten kinds-rewritten (λ k. read-same parent_of k like.parent) entries-rewritten all.ruled.inodes.end all.ruled.tree;
          descriptions = descriptions-same files (with_inode files n new) refl (λ k. read-same is_some k refl) kinds-rewritten all.ruled.descriptions;
        };
        live = λ inode some. lives-rewritten inode (all.live inode (sym (read-same is_some inode refl) ∙ some));
      }

-- ---- another offset

module _ (files : Files) (number offset : ℕ) (description : Description) (there : at files.descriptions number ≡ Some description) (below : offset < offset_end)
    (aligned : is_directory (at files.inodes description.inode) ≡ true → offset % place_bytes ≡ 0) where
  abbrev moved : Description
  moved = record description { offset = offset }

  abbrev sought : Files
  sought = with_description files number moved

  moved-is : IsDescription files.inodes description → IsDescription files.inodes moved
  moved-is is = record { inode = is.inode; mode = is.mode; offset = below; directory_mode = is.directory_mode; directory_offset = aligned }

  opened-sought : (inode : ℕ) → IsOpened files.descriptions inode → IsOpened sought.descriptions inode
  opened-sought inode is = elim (eqb_tells is.number number) as (λ _. IsOpened sought.descriptions inode) [
    | inl same ↦
        let one : is.description ≡ description = some-same is.description description (sym is.there ∙ ap (at files.descriptions) same.1 ∙ there) in
        record { number = number; description = moved; there = at-with_at files.descriptions number (Some moved); names = ap (λ (d : Description). d.inode) (sym one) ∙ is.names }
    | inr apart ↦ record { number = is.number; description = is.description; there = at-with_at-other files.descriptions number is.number (Some moved) apart.1 ∙ is.there; names = is.names }
  ]

  lives-sought : (inode : ℕ) → IsLiving files inode → IsLiving sought inode
  lives-sought inode (inl first) = inl first
  lives-sought inode (inr (inl has)) = inr (inl has)
  lives-sought inode (inr (inr opened)) = inr (inr (opened-sought inode opened))

  pub seek-ruled : RuledAll files → RuledAll sought
  seek-ruled all =
      record {
        ruled = record {
          inodes = all.ruled.inodes;
          names = all.ruled.names;
          tree = all.ruled.tree;
          descriptions = record {
            end = λ k past. at-with_at-other files.descriptions number k (Some moved) (λ same. some-differ description (sym (all.ruled.descriptions.end k past) ∙ ap (at files.descriptions) same ∙ there)) ∙ all.ruled.descriptions.end k past;
            each = λ k d is. each-of k d (put-reads files.descriptions number k moved d is);
          };
        };
        live = λ inode some. lives-sought inode (all.live inode some);
      }
    where
      each-of : (k : ℕ) (d : Description) → ((k ≡ number) × (moved ≡ d)) ⊎ ((k ≢ number) × (at files.descriptions k ≡ Some d)) → IsDescription files.inodes d
      each-of k d (inl own) = subst (IsDescription files.inodes) own.1 (moved-is (all.ruled.descriptions.each number description there))
      each-of k d (inr other) = all.ruled.descriptions.each k d other.1

-- ---- a description more

module _ (files : Files) (number : ℕ) (new : Description) (free : at files.descriptions number ≡ None) (below : number < description_count) (is : IsDescription files.inodes new) where
  abbrev more : Files
  more = with_description files number new

  pub lives-more : (inode : ℕ) → IsLiving files inode → IsLiving more inode
  lives-more inode (inl first) = inl first
  lives-more inode (inr (inl has)) = inr (inl has)
  lives-more inode (inr (inr opened)) =
      inr (inr (record {
        number = opened.number;
        description = opened.description;
        there = at-with_at-other files.descriptions number opened.number (Some new) (apart-by files.descriptions opened.number number opened.description opened.there free) ∙ opened.there;
        names = opened.names;
      }))

  pub opened-now : IsOpened more.descriptions new.inode
  opened-now = record { number = number; description = new; there = at-with_at files.descriptions number (Some new); names = refl }

  pub open-ruled : Ruled files → Ruled more
  open-ruled ruled =
      record {
        inodes = ruled.inodes;
        names = ruled.names;
        tree = ruled.tree;
        descriptions = record {
          end = λ k past. at-with_at-other files.descriptions number k (Some new) (λ same. absurd (omega (arith, same, past, below))) ∙ ruled.descriptions.end k past;
          each = λ k d there. each-of k d (put-reads files.descriptions number k new d there);
        };
      }
    where
      each-of : (k : ℕ) (d : Description) → ((k ≡ number) × (new ≡ d)) ⊎ ((k ≢ number) × (at files.descriptions k ≡ Some d)) → IsDescription files.inodes d
      each-of k d (inl own) = subst (IsDescription files.inodes) own.1 is
      each-of k d (inr other) = ruled.descriptions.each k d other.1

-- ---- a description less

module _ (files : Files) (number : ℕ) where
  abbrev less : Files
  less = record files { descriptions = with_at files.descriptions number None }

  less-ruled : Ruled files → Ruled less
  less-ruled ruled =
      record {
        inodes = ruled.inodes;
        names = ruled.names;
        tree = ruled.tree;
        descriptions = record {
          end = λ k past. elim (eqb_tells k number) as (λ _. at less.descriptions k ≡ None) [
            | inl same ↦ here files.descriptions k number None same.1
            | inr apart ↦ at-with_at-other files.descriptions number k None apart.1 ∙ ruled.descriptions.end k past
          ];
          each = λ k d there. ruled.descriptions.each k d (cut-reads files.descriptions number k d there).1;
        };
      }

  lives-less : (description : Description) (inode : ℕ) → at files.descriptions number ≡ Some description → inode ≢ description.inode → IsLiving files inode → IsLiving less inode
  lives-less description inode there apart (inl first) = inl first
  lives-less description inode there apart (inr (inl has)) = inr (inl has)
  lives-less description inode there apart (inr (inr opened)) =
      let other : opened.number ≢ number = λ same.
      apart (sym opened.names ∙ ap (λ (d : Description). d.inode) (some-same opened.description description (sym opened.there ∙ ap (at files.descriptions) same ∙ there))) in
      inr (inr (record { number = opened.number; description = opened.description; there = at-with_at-other files.descriptions number opened.number None other ∙ opened.there; names = opened.names }))

  pub free-ruled : (found : Option Description) → at files.descriptions number ≡ found → RuledAll files → RuledAll (with_description_freed files number found)
  free-ruled None there all = all
  free-ruled (Some description) there all =
      dropped-ruled less description.inode (less-ruled all.ruled) (λ inode apart some. lives-less description inode there apart (all.live inode some))
