-- Changes of names, each of which keeps the rules of files: a new pipe, a new file or directory, a link, a name that goes.
use Rattle.std.proofs.Common.{◌≡◌, ◌≢◌, ℕ, ◌<◌, ◌≤◌, Bool, true, false, List, [], Option, Some, None, arith, refl, sym, subst, ap, ◌∙◌, inl, inr, get_or, length}
use Rattle.std.proofs.lemmas.Bool.Decides.{eqb_tells, nat_tests}
use Rattle.std.specs.List.{list_all}
use Rattle.std.specs.Prelude.{is_none, is_some, nat_le, ◌&&◌, ◌||◌}
use Rattle.unix_model.specs.FileCalls.{pipe_end}
use Rattle.unix_model.specs.Files.{Console, Description, Directory, Entry, File, Files, Inode, Pipe, console_inode, free_inode, inode_named, is_directory, is_full, parent_of, places_of, root_inode, with_description, with_entry, with_inode, with_name, with_place, with_places, without_name}
use Rattle.unix_model.specs.Limits.{description_count, inode_count, most_places}
use Rattle.unix_model.specs.NameCalls.{removed}
use Rattle.unix_model.specs.Paths.{Spot}
use Rattle.unix_model.specs.Rules.{AreDescriptions, AreInodes, IsDescription, IsInode, IsName, entry_at, is_named_kind}
use Rattle.unix_model.specs.Tables.{at, with_at}
use Rattle.unix_model.proofs.TableLaws.{at-with_at, at-with_at-other}
use Rattle.unix_laws.proofs.Basics.{and-both, none-is, some-differ, some-same, true-false}
use Rattle.unix_laws.proofs.Counting.{Passes, least-passes}
use Rattle.unix_rules.proofs.Changed.{here}
use Rattle.unix_rules.proofs.Entries.{IsEmpty, below-count, directory-some, missed-name}
use Rattle.unix_rules.proofs.Living.{AllLive, IsLiving, IsOpened, LiveBut, Ruled, RuledAll, description-same, descriptions-same, dropped-ruled, inodes-put}
use Rattle.unix_rules.proofs.Places.{Comes, Turns, came-length, entry-comes, entry-turns, names-same, names-set, places-kinds, places-parents, places-some, set-places, turned-length}
use Rattle.unix_rules.proofs.Steps.{lives-more, open-ruled, opened-now}
use Rattle.unix_rules.proofs.Trees.{Grows, Leaves, SameEntries, SameKinds, SetsEntry, has-after, left-has, new-has, tree-grows, tree-leaves, tree-same}
use Rattle.unix_rules.specs.FileRules.{HasEntry, IsTied}

-- ---- directories

parent-of : (found : Option Inode) → ((inode : Inode) → found ≡ Some inode → IsInode inode) → parent_of found < inode_count
parent-of None is = omega arith
parent-of (Some (File bytes)) is = omega arith
parent-of (Some (Directory parent places)) is = (is (Directory parent places) refl).0
parent-of (Some (Pipe bytes)) is = omega arith
parent-of (Some Console) is = omega arith

pub parent-below : (inodes : ℕ → Option Inode) → AreInodes inodes → (n : ℕ) → parent_of (at inodes n) < inode_count
parent-below inodes are n = parent-of (at inodes n) (λ inode there. are.each n inode there)

length-of : (found : Option Inode) → ((inode : Inode) → found ≡ Some inode → IsInode inode) → length (places_of found) ≤ most_places
length-of None is = omega arith
length-of (Some (File bytes)) is = omega arith
length-of (Some (Directory parent places)) is = (is (Directory parent places) refl).1
length-of (Some (Pipe bytes)) is = omega arith
length-of (Some Console) is = omega arith

pub length-below : (inodes : ℕ → Option Inode) → AreInodes inodes → (n : ℕ) → length (places_of (at inodes n)) ≤ most_places
length-below inodes are n = length-of (at inodes n) (λ inode there. are.each n inode there)

pub directory-apart : (parent : ℕ) (places : List (Option Entry)) → Directory parent places ≢ Console
directory-apart parent places same = true-false (ap (λ (i : Inode). is_directory (Some i)) same)

pub not-console : (inodes : ℕ → Option Inode) (n : ℕ) → AreInodes inodes → is_directory (at inodes n) ≡ true → n ≢ console_inode
not-console inodes n are is same = true-false (sym is ∙ ap is_directory (ap (at inodes) same ∙ are.console))

-- a directory gets other places, and perhaps another parent
pub directory-put : (inodes : ℕ → Option Inode) (d parent : ℕ) (places : List (Option Entry)) → AreInodes inodes → is_directory (at inodes d) ≡ true → parent < inode_count → length places ≤ most_places
    → (d ≡ root_inode → parent ≡ root_inode) → AreInodes (with_at inodes d (Some (Directory parent places)))
directory-put inodes d parent places are is below few root =
    inodes-put inodes d (Directory parent places) are (below-count inodes d are.end (directory-some (at inodes d) is)) (below, few) (not-console inodes d are is) (directory-apart parent places) (λ same. (refl, root same))

pub places-put : (files : Files) (d : ℕ) (places : List (Option Entry)) → AreInodes files.inodes → is_directory (at files.inodes d) ≡ true → length places ≤ most_places → AreInodes (with_places files d places).inodes
places-put files d places are is few =
    directory-put files.inodes d (parent_of (at files.inodes d)) places are is (parent-below files.inodes are d) few (λ same. ap (λ n. parent_of (at files.inodes n)) same ∙ are.root_parent)

-- ---- a number that was free

pub record IsFree (inodes : ℕ → Option Inode) (number : ℕ) : Type 0 where
  pub none : at inodes number ≡ None
  pub below : number < inode_count
  pub past : 2 ≤ number

past-two : (n : ℕ) → nat_le 2 n ≡ true → 2 ≤ n
past-two n e = grind (arith, nat_tests)

pub free-is : (inodes : ℕ → Option Inode) (number : ℕ) → free_inode inodes ≡ Some number → IsFree inodes number
unfolding free_inode
free-is inodes number e =
    let least : Passes (λ n. nat_le 2 n && is_none (at inodes n)) inode_count number = least-passes (λ n. nat_le 2 n && is_none (at inodes n)) inode_count number e in
    let both : (nat_le 2 number ≡ true) × (is_none (at inodes number) ≡ true) = and-both (nat_le 2 number) (is_none (at inodes number)) least.holds in
    record { none = none-is (at inodes number) both.1; below = least.below; past = past-two number both.0 }

module _ (files : Files) (n : ℕ) (new : Inode) (free : IsFree files.inodes n) (no_places : places_of (Some new) ≡ []) (is : IsInode new) (apart : new ≢ Console) where
  abbrev fresh : Files
  fresh = with_inode files n new

  fresh-here : at fresh.inodes n ≡ Some new
  fresh-here = at-with_at files.inodes n (Some new)

  fresh-other : (k : ℕ) → k ≢ n → at fresh.inodes k ≡ at files.inodes k
  fresh-other k other = at-with_at-other files.inodes n k (Some new) other

  entries-fresh : SameEntries files.inodes fresh.inodes
  entries-fresh directory place = elim (eqb_tells directory n) as (λ _. entry_at fresh.inodes directory place ≡ entry_at files.inodes directory place) [
    | inl same ↦
        ap (λ (found : Option Inode). get_or (places_of found) place None) (here files.inodes directory n (Some new) same.1)
        ∙ ap (λ (l : List (Option Entry)). get_or l place None) no_places
        ∙ ap (λ (found : Option Inode). get_or (places_of found) place None) (sym free.none ∙ ap (at files.inodes) (sym same.1))
    | inr other ↦ ap (λ (found : Option Inode). get_or (places_of found) place None) (fresh-other directory other.1)
  ]

  inodes-fresh : AreInodes files.inodes → AreInodes fresh.inodes
  inodes-fresh are =
      inodes-put files.inodes n new are free.below is (λ same. absurd (omega (arith, same, free.past))) apart (λ same. absurd (omega (arith, same, free.past)))

  -- no description is open on it yet
  old-description : AreDescriptions files → (number : ℕ) (description : Description) → at files.descriptions number ≡ Some description → description.inode ≢ n
  old-description are number description there same = true-false (sym (are.each number description there).inode ∙ ap is_some (ap (at files.inodes) same ∙ free.none))

  descriptions-fresh : AreDescriptions files → AreDescriptions fresh
  descriptions-fresh are =
      record {
        end = are.end;
        each = λ number description there.
            let same : at fresh.inodes description.inode ≡ at files.inodes description.inode = fresh-other description.inode (old-description are number description there) in
            description-same files.inodes fresh.inodes description (ap is_some same) (ap is_directory same) (are.each number description there);
      }

  lives-fresh : (inode : ℕ) → IsLiving files inode → IsLiving fresh inode
  lives-fresh inode (inl first) = inl first
  lives-fresh inode (inr (inl has)) = inr (inl (record { directory = has.directory; place = has.place; entry = has.entry; there = entries-fresh has.directory has.place ∙ has.there; names = has.names }))
  lives-fresh inode (inr (inr opened)) = inr (inr opened)

  live-fresh : AllLive files → LiveBut fresh n
  live-fresh live inode other some = lives-fresh inode (live inode (ap is_some (sym (fresh-other inode other)) ∙ some))

  -- what is read of what was there alone
  read-fresh : {X : Type 0} (read : Option Inode → X) (k : ℕ) → read (Some new) ≡ read None → read (at fresh.inodes k) ≡ read (at files.inodes k)
  read-fresh read k e = elim (eqb_tells k n) as (λ _. read (at fresh.inodes k) ≡ read (at files.inodes k)) [
    | inl same ↦ ap read (here files.inodes k n (Some new) same.1) ∙ e ∙ ap read (sym free.none ∙ ap (at files.inodes) (sym same.1))
    | inr other ↦ ap read (fresh-other k other.1)
  ]

-- ---- a pipe

pipe-no_console : Pipe [] ≢ Console
pipe-no_console same = cc

module _ (files : Files) (n reader writer : ℕ) (free : IsFree files.inodes n) (no_reader : at files.descriptions reader ≡ None) (no_writer : at files.descriptions writer ≡ None) (apart : writer ≢ reader)
    (reader_below : reader < description_count) (writer_below : writer < description_count) (all : RuledAll files) where
  is-pipe : IsInode (Pipe [])
  is-pipe = (omega arith, λ k d below. absurd (omega (arith, below)))

  abbrev piped : Files
  piped = with_inode files n (Pipe [])

  piped-ruled : Ruled piped
  piped-ruled =
      record {
        inodes = inodes-fresh files n (Pipe []) free refl is-pipe pipe-no_console all.ruled.inodes;
        names = names-same files.inodes piped.inodes (entries-fresh files n (Pipe []) free refl is-pipe pipe-no_console) all.ruled.names;
        tree =
            tree-same files.inodes piped.inodes
            (record { directory = λ k. read-fresh files n (Pipe []) free refl is-pipe pipe-no_console is_directory k refl; kind = λ k. read-fresh files n (Pipe []) free refl is-pipe pipe-no_console is_named_kind k refl })
            (λ k. read-fresh files n (Pipe []) free refl is-pipe pipe-no_console parent_of k refl) (entries-fresh files n (Pipe []) free refl is-pipe pipe-no_console) all.ruled.inodes.end all.ruled.tree;
        descriptions = descriptions-fresh files n (Pipe []) free refl is-pipe pipe-no_console all.ruled.descriptions;
      }

  end-is : (inodes : ℕ → Option Inode) (writes : Bool) → at inodes n ≡ Some (Pipe []) → IsDescription inodes (pipe_end n writes)
  end-is inodes writes there =
      record {
        inode = ap is_some there;
        mode = modes writes;
        offset = omega arith;
        directory_mode = λ e. absurd (true-false (sym e ∙ ap is_directory there));
        directory_offset = λ e. refl;
      }
    where
      modes : (writes : Bool) → ((pipe_end n writes).readable || (pipe_end n writes).writable) ≡ true
      modes true = refl
      modes false = refl

  abbrev half : Files
  half = with_description piped reader (pipe_end n false)

  here-pipe : at piped.inodes n ≡ Some (Pipe [])
  here-pipe = at-with_at files.inodes n (Some (Pipe []))

  still-free : at half.descriptions writer ≡ None
  still-free = at-with_at-other files.descriptions reader writer (Some (pipe_end n false)) apart ∙ no_writer

  pub pipe-ruled : RuledAll (with_description half writer (pipe_end n true))
  pipe-ruled =
      record {
        ruled = open-ruled half writer (pipe_end n true) still-free writer_below (end-is half.inodes true here-pipe) (open-ruled piped reader (pipe_end n false) no_reader reader_below (end-is piped.inodes false here-pipe) piped-ruled);
        live = λ inode some. elim (eqb_tells inode n) as (λ _. IsLiving (with_description half writer (pipe_end n true)) inode) [
          | inl same ↦ inr (inr (subst (IsOpened (with_description half writer (pipe_end n true)).descriptions) (sym same.1) (opened-now half writer (pipe_end n true) still-free writer_below (end-is half.inodes true here-pipe))))
          | inr other ↦
              lives-more half writer (pipe_end n true) still-free writer_below (end-is half.inodes true here-pipe) inode
              (lives-more piped reader (pipe_end n false) no_reader reader_below (end-is piped.inodes false here-pipe) inode (live-fresh files n (Pipe []) free refl is-pipe pipe-no_console all.live inode other.1 some))
        ];
      }

-- ---- a name for a new inode

module _ (files : Files) (d n : ℕ) (name : List ℕ) (new : Inode) (free : IsFree files.inodes n) (no_places : places_of (Some new) ≡ []) (is : IsInode new) (apart : new ≢ Console)
    (kind : is_named_kind (Some new) ≡ true) (parent : is_directory (Some new) ≡ true → parent_of (Some new) ≡ d) (in_directory : is_directory (at files.inodes d) ≡ true) (tied : IsTied files.inodes d)
    (good : IsName name) (missed : inode_named (places_of (at files.inodes d)) name ≡ None) (fits : is_full files d ≡ false) (all : RuledAll files) where
  abbrev first : Files
  first = with_inode files n new

  abbrev new_entry : Entry
  new_entry = record { name = name; inode = n }

  abbrev last : Files
  last = with_name first d name n

  d-apart : d ≢ n
  d-apart same = true-false (sym in_directory ∙ ap is_directory (ap (at files.inodes) same ∙ free.none))

  d-same : at first.inodes d ≡ at files.inodes d
  d-same = at-with_at-other files.inodes n d (Some new) d-apart

  first-directory : is_directory (at first.inodes d) ≡ true
  first-directory = ap is_directory d-same ∙ in_directory

  abbrev old_places : List (Option Entry)
  old_places = places_of (at first.inodes d)

  comes : Comes old_places new_entry
  comes = entry-comes old_places new_entry

  entries : SameEntries files.inodes first.inodes
  entries = entries-fresh files n new free no_places is apart

  sets-first : SetsEntry first.inodes last.inodes d comes.place (Some new_entry)
  sets-first = set-places first d (with_entry old_places new_entry) comes.place (Some new_entry) comes.sets

  sets-all : SetsEntry files.inodes last.inodes d comes.place (Some new_entry)
  sets-all = record { set = sets-first.set; others = λ directory place other. sets-first.others directory place other ∙ entries directory place }

  kinds-last : SameKinds first.inodes last.inodes
  kinds-last = places-kinds first d (with_entry old_places new_entry) first-directory

  other-first : (k : ℕ) → k ≢ n → at first.inodes k ≡ at files.inodes k
  other-first k other = at-with_at-other files.inodes n k (Some new) other

  new-here : at first.inodes n ≡ Some new
  new-here = at-with_at files.inodes n (Some new)

  unnamed : HasEntry files.inodes n → ⊥
  unnamed has = true-false (sym (all.ruled.tree.names has.directory has.place has.entry has.there) ∙ ap is_named_kind (ap (at files.inodes) has.names ∙ free.none))

  grows : Grows files.inodes last.inodes d comes.place new_entry
  grows =
      record {
        sets = sets-all;
        was = sym (entries d comes.place) ∙ comes.was;
        directory_is = in_directory;
        tied = tied;
        plain = ap is_directory free.none;
        directories = λ k other. kinds-last.directory k ∙ ap is_directory (other-first k other);
        kinds = λ k other. kinds-last.kind k ∙ ap is_named_kind (other-first k other);
        parents = λ k other. places-parents first d (with_entry old_places new_entry) first-directory k ∙ ap parent_of (other-first k other);
        kind_is = kinds-last.kind n ∙ ap is_named_kind new-here ∙ kind;
        not_root = λ same. absurd (omega (arith, same, free.past));
        parent_is = λ e. places-parents first d (with_entry old_places new_entry) first-directory n ∙ ap parent_of new-here ∙ parent (sym (kinds-last.directory n ∙ ap is_directory new-here) ∙ e);
        unnamed = λ e has. unnamed has;
      }

  fits-first : length (with_entry old_places new_entry) ≤ most_places
  unfolding most_places
  fits-first =
      came-length first d new_entry (ap (λ (found : Option Inode). nat_le 1024 (length (places_of found)) && list_all is_some (places_of found)) d-same ∙ fits)
      (length-below first.inodes (inodes-fresh files n new free no_places is apart all.ruled.inodes) d)

  other-names : (place : ℕ) (other : Entry) → entry_at first.inodes d place ≡ Some other → other.name ≢ name
  other-names place other there =
      missed-name old_places name (ap (λ (found : Option Inode). inode_named (places_of found) name) d-same ∙ missed) place other there

  some-last : (k : ℕ) → is_some (at last.inodes k) ≡ is_some (at first.inodes k)
  some-last = places-some first d (with_entry old_places new_entry) first-directory

  last-lives : (inode : ℕ) → IsLiving files inode → IsLiving last inode
  last-lives inode (inl two) = inl two
  last-lives inode (inr (inl has)) = inr (inl (has-after files.inodes last.inodes d comes.place new_entry all.ruled.inodes.end all.ruled.tree grows inode has))
  last-lives inode (inr (inr opened)) = inr (inr opened)

  pub made-ruled : RuledAll last
  made-ruled =
      record {
        ruled = record {
          inodes = places-put first d (with_entry old_places new_entry) (inodes-fresh files n new free no_places is apart all.ruled.inodes) first-directory fits-first;
          names =
              names-set first.inodes last.inodes d comes.place (Some new_entry) sets-first (λ entry e. subst (λ (x : Entry). IsName x.name) (some-same new_entry entry e) good)
              (λ entry e place other differs there same. other-names place other there (same ∙ ap (λ (x : Entry). x.name) (sym (some-same new_entry entry e)))) (names-same files.inodes first.inodes entries all.ruled.names);
          tree = tree-grows files.inodes last.inodes d comes.place new_entry all.ruled.inodes.end all.ruled.tree grows;
          descriptions = descriptions-same first last refl some-last kinds-last (descriptions-fresh files n new free no_places is apart all.ruled.descriptions);
        };
        live = λ inode some. elim (eqb_tells inode n) as (λ _. IsLiving last inode) [
          | inl same ↦ inr (inl (subst (HasEntry last.inodes) (sym same.1) (new-has files.inodes last.inodes d comes.place new_entry all.ruled.inodes.end all.ruled.tree grows)))
          | inr other ↦ last-lives inode (all.live inode (ap is_some (sym (other-first inode other.1)) ∙ sym (some-last inode) ∙ some))
        ];
      }

-- ---- a name more

module _ (files : Files) (d linked : ℕ) (name : List ℕ) (kind : is_named_kind (at files.inodes linked) ≡ true) (plain : is_directory (at files.inodes linked) ≡ false)
    (in_directory : is_directory (at files.inodes d) ≡ true) (tied : IsTied files.inodes d)
    (good : IsName name) (missed : inode_named (places_of (at files.inodes d)) name ≡ None) (fits : is_full files d ≡ false) (all : RuledAll files) where
  abbrev link_entry : Entry
  link_entry = record { name = name; inode = linked }

  abbrev grown : Files
  grown = with_name files d name linked

  abbrev was_places : List (Option Entry)
  was_places = places_of (at files.inodes d)

  link-comes : Comes was_places link_entry
  link-comes = entry-comes was_places link_entry

  link-sets : SetsEntry files.inodes grown.inodes d link-comes.place (Some link_entry)
  link-sets = set-places files d (with_entry was_places link_entry) link-comes.place (Some link_entry) link-comes.sets

  link-kinds : SameKinds files.inodes grown.inodes
  link-kinds = places-kinds files d (with_entry was_places link_entry) in_directory

  link-grows : Grows files.inodes grown.inodes d link-comes.place link_entry
  link-grows =
      record {
        sets = link-sets;
        was = link-comes.was;
        directory_is = in_directory;
        tied = tied;
        plain = plain;
        directories = λ k other. link-kinds.directory k;
        kinds = λ k other. link-kinds.kind k;
        parents = λ k other. places-parents files d (with_entry was_places link_entry) in_directory k;
        kind_is = link-kinds.kind linked ∙ kind;
        not_root = λ same. true-false (sym all.ruled.inodes.root ∙ ap (λ k. is_directory (at files.inodes k)) (sym same) ∙ plain);
        parent_is = λ e. absurd (true-false (sym e ∙ link-kinds.directory linked ∙ plain));
        unnamed = λ e has. true-false (sym e ∙ link-kinds.directory linked ∙ plain);
      }

  link-lives : (inode : ℕ) → IsLiving files inode → IsLiving grown inode
  link-lives inode (inl two) = inl two
  link-lives inode (inr (inl has)) = inr (inl (has-after files.inodes grown.inodes d link-comes.place link_entry all.ruled.inodes.end all.ruled.tree link-grows inode has))
  link-lives inode (inr (inr opened)) = inr (inr opened)

  link-few : length (with_entry was_places link_entry) ≤ most_places
  unfolding most_places
  link-few = came-length files d link_entry fits (length-below files.inodes all.ruled.inodes d)

  link-some : (k : ℕ) → is_some (at grown.inodes k) ≡ is_some (at files.inodes k)
  link-some = places-some files d (with_entry was_places link_entry) in_directory

  pub link-ruled : RuledAll grown
  link-ruled =
      record {
        ruled = record {
          inodes = places-put files d (with_entry was_places link_entry) all.ruled.inodes in_directory link-few;
          names =
              names-set files.inodes grown.inodes d link-comes.place (Some link_entry) link-sets (λ entry e. subst (λ (x : Entry). IsName x.name) (some-same link_entry entry e) good)
              (λ entry e place other differs there same. missed-name was_places name missed place other there (same ∙ ap (λ (x : Entry). x.name) (sym (some-same link_entry entry e)))) all.ruled.names;
          tree = tree-grows files.inodes grown.inodes d link-comes.place link_entry all.ruled.inodes.end all.ruled.tree link-grows;
          descriptions = descriptions-same files grown refl link-some link-kinds all.ruled.descriptions;
        };
        live = λ inode some. link-lives inode (all.live inode (sym (link-some inode) ∙ some));
      }

-- ---- a name less

module _ (files : Files) (spot : Spot) (gone : ℕ) (in_directory : is_directory (at files.inodes spot.directory) ≡ true) (found : inode_named (places_of (at files.inodes spot.directory)) spot.name ≡ Some gone)
    (empty : is_directory (at files.inodes gone) ≡ true → IsEmpty files.inodes gone) (all : RuledAll files) where
  abbrev d : ℕ
  d = spot.directory

  abbrev held_places : List (Option Entry)
  held_places = places_of (at files.inodes d)

  abbrev without : Files
  without = without_name files d spot.name

  turns : Turns held_places spot.name None gone
  turns = entry-turns held_places spot.name None gone found

  cut-sets : SetsEntry files.inodes without.inodes d turns.place None
  cut-sets = set-places files d (with_place held_places spot.name None) turns.place None turns.sets

  cut-kinds : SameKinds files.inodes without.inodes
  cut-kinds = places-kinds files d (with_place held_places spot.name None) in_directory

  cut-some : (k : ℕ) → is_some (at without.inodes k) ≡ is_some (at files.inodes k)
  cut-some = places-some files d (with_place held_places spot.name None) in_directory

  leaves : Leaves files.inodes without.inodes d turns.place turns.entry
  leaves =
      record {
        sets = cut-sets;
        was = turns.was;
        kinds = cut-kinds;
        parents = places-parents files d (with_place held_places spot.name None) in_directory;
        empty = λ e. subst (IsEmpty files.inodes) (sym turns.names) (empty (ap (λ k. is_directory (at files.inodes k)) (sym turns.names) ∙ e));
      }

  left-lives : (inode : ℕ) → inode ≢ gone → IsLiving files inode → IsLiving without inode
  left-lives inode apart (inl two) = inl two
  left-lives inode apart (inr (inl has)) = elim (left-has files.inodes without.inodes d turns.place turns.entry all.ruled.inodes.end all.ruled.tree leaves inode has) as (λ _. IsLiving without inode) [
    | inl still ↦ inr (inl still)
    | inr same ↦ absurd (apart (same ∙ turns.names))
  ]
  left-lives inode apart (inr (inr opened)) = inr (inr opened)

  cut-few : length (with_place held_places spot.name None) ≤ most_places
  cut-few = subst (λ k. k ≤ most_places) (sym (turned-length held_places spot.name None)) (length-below files.inodes all.ruled.inodes d)

  pub removed-ruled : RuledAll (removed files spot gone)
  removed-ruled =
      dropped-ruled without gone
      record {
        inodes = places-put files d (with_place held_places spot.name None) all.ruled.inodes in_directory cut-few;
        names = names-set files.inodes without.inodes d turns.place None cut-sets (λ entry e. some-differ entry e) (λ entry e. some-differ entry e) all.ruled.names;
        tree = tree-leaves files.inodes without.inodes d turns.place turns.entry all.ruled.inodes.end all.ruled.tree leaves;
        descriptions = descriptions-same files without refl cut-some cut-kinds all.ruled.descriptions;
      }
      (λ inode apart some. left-lives inode apart (all.live inode (sym (cut-some inode) ∙ some)))
