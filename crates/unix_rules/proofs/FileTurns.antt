-- Every turn keeps the rules of files.
use Rattle.std.proofs.Common.{◌≡◌, ◌≢◌, ℕ, zero, suc, ◌+◌, ◌-◌, ◌*◌, ◌/◌, ◌%◌, ◌<◌, ◌≤◌, Bool, true, false, List, [], ◌∷◌, ◌++◌, take, drop, replicate, Option, Some, None, Ok, arith, refl, sym, subst, ap, ◌∙◌, inl, inr, length, length-append, length-drop, length-take}
use Rattle.std.proofs.lemmas.Bool.{cases_Bool}
use Rattle.std.proofs.lemmas.Bool.Decides.{nat_tests}
use Rattle.std.proofs.lemmas.List.{length-replicate}
use Rattle.std.proofs.lemmas.List.Elements.{All-append, All-drop, All-nil, All-replicate, All-take}
use Rattle.std.specs.Prelude.{All, IsSome, is_none, is_some, nat_le, nat_lt, ◌==◌, ◌&&◌, ◌||◌, not}
use Rattle.unix_model.specs.Calls.{Calls}
use Rattle.unix_model.specs.Effect.{text_of}
use Rattle.unix_model.specs.Enter.{has_flag}
use Rattle.unix_model.specs.FileCalls.{looked_at, overwritten, resized, with_contents, with_offset, with_pipe, with_resized, with_written}
use Rattle.unix_model.specs.Files.{Console, Description, Directory, Entry, File, Files, Inode, Pipe, file_bytes, free_description, free_inode, has_names, is_directory, is_within, next_description, parent_of, places_of, with_description, with_inode}
use Rattle.unix_model.specs.Limits.{description_count, inode_count, most_file_bytes, most_places, offset_end, pipe_bytes, place_bytes}
use Rattle.unix_model.specs.NameCalls.{ToOpen, is_same, opening, opens_to_change, opens_to_write, removed, with_made, with_opened, with_truncated}
use Rattle.unix_model.specs.Paths.{Spot, walked}
use Rattle.unix_model.specs.Process.{Process, SentCall, descriptor, without_descriptor}
use Rattle.unix_model.specs.ProcessCalls.{is_ending, with_killed}
use Rattle.unix_model.specs.Rules.{AreSent, IsByte, IsDescription, IsInode, IsTree, is_named_kind}
use Rattle.unix_model.specs.State.{Unix, Opened, has_descriptor, opened, opened_inode, with_description_released, with_descriptor_closed, with_process}
use Rattle.unix_model.specs.Tables.{at}
use Rattle.unix_model.proofs.TableLaws.{at-with_at, at-with_at-other}
use Rattle.unix_laws.proofs.Basics.{and-both, apart-of, none-is, not-apart, same-of, some-differ, some-same, true-false}
use Rattle.unix_laws.proofs.Changes.{Changes, settles, exits, forks, loads, reaps, kills, dups, closes, dups_to, pipes, reads_file, seeks, lists, takes_pipe, puts_pipe, writes_file, resizes, opens, makes_directory, removes_directory, unlinks, links, renames, Making, makes, Opening, finds, creates, Renaming, onto, anew}
use Rattle.unix_laws.proofs.Counting.{Passes, least-passes}
use Rattle.unix_laws.proofs.Tested.{opened-is}
use Rattle.unix_laws.proofs.TurnChanges.{TurnChanges, after-turn, drops, effects, ends, enters, idles, returns, runs}
use Rattle.unix_rules.proofs.Entries.{below-count, directory-some, no-names}
use Rattle.unix_rules.proofs.Living.{RuledAll, all-live, are-kept}
use Rattle.unix_rules.proofs.NameSteps.{directory-apart, free-is, length-below, link-ruled, made-ruled, pipe-ruled, removed-ruled}
use Rattle.unix_rules.proofs.RenameSteps.{anew-ruled, onto-ruled}
use Rattle.unix_rules.proofs.SentWords.{HasWords, sent-words}
use Rattle.unix_rules.proofs.Steps.{free-ruled, like-files, like-pipes, lives-more, open-ruled, rewrite-ruled, seek-ruled}
use Rattle.unix_rules.proofs.Texts.{IsTextByte, text-holds}
use Rattle.unix_rules.proofs.Trees.{from-tree, to-tree}
use Rattle.unix_rules.proofs.Walks.{IsGiven, IsWalk, given-name, new-name, plain-name, walk-is}
use Rattle.unix_rules.specs.FileRules.{AreFiles, FilesKept}
use Rattle.unix_rules.specs.ProcessRules.{Each, HasBody}

-- ---- the rules in the words of the definitions

pub to-ruled : (files : Files) → AreFiles files → RuledAll files
to-ruled files are =
    record {
      ruled = record { inodes = are.inodes; names = are.names; tree = to-tree files.inodes are.inodes.end are.tree; descriptions = are.descriptions };
      live = all-live files are.kept;
    }

pub from-ruled : (files : Files) → RuledAll files → AreFiles files
from-ruled files all =
    record {
      inodes = all.ruled.inodes;
      names = all.ruled.names;
      tree = from-tree files.inodes all.ruled.inodes.end all.ruled.tree;
      kept = are-kept files all.ruled.inodes.end all.ruled.descriptions.end all.live;
      descriptions = all.ruled.descriptions;
    }

-- ---- descriptions

released-ruled : (state : Unix) (number : ℕ) → RuledAll state.files → RuledAll (with_description_released state number).files
released-ruled state number all = elim (cases_Bool (has_descriptor state.processes number)) as (λ _. RuledAll (with_description_released state number).files) [
  | inl kept ↦ rw kept all
  | inr gone ↦ rw gone (free-ruled state.files number (at state.files.descriptions number) refl all)
]

closed-ruled : (unix : Unix) (slot : ℕ) (process : Process) (number : ℕ) (found : Option ℕ) → RuledAll unix.files → RuledAll (with_descriptor_closed unix slot process number found).files
closed-ruled unix slot process number None all = all
closed-ruled unix slot process number (Some description) all = released-ruled (with_process unix slot (without_descriptor process number)) description all

killed-ruled : (unix : Unix) (target signal : ℕ) (found : Option Process) → RuledAll unix.files → RuledAll (with_killed unix target signal found).files
killed-ruled unix target signal None all = all
killed-ruled unix target signal (Some held) all = elim (cases_Bool (is_ending held.phase)) as (λ _. RuledAll (with_killed unix target signal (Some held)).files) [
  | inl ending ↦ rw ending all
  | inr goes ↦ rw goes all
]

-- a free number
free-number : (descriptions : ℕ → Option Description) (number : ℕ) → free_description descriptions ≡ Some number → (number < description_count) × (at descriptions number ≡ None)
unfolding free_description
free-number descriptions number e =
    let least : Passes (λ n. is_none (at descriptions n)) description_count number = least-passes (λ n. is_none (at descriptions n)) description_count number e in
    (least.below, none-is (at descriptions number) least.holds)

next-number : (descriptions : ℕ → Option Description) (reader writer : ℕ) → next_description descriptions reader ≡ Some writer → (writer < description_count) × (writer ≢ reader) × (at descriptions writer ≡ None)
unfolding next_description
next-number descriptions reader writer e =
    let least : Passes (λ n. not (n == reader) && is_none (at descriptions n)) description_count writer = least-passes (λ n. not (n == reader) && is_none (at descriptions n)) description_count writer e in
    let both : (not (writer == reader) ≡ true) × (is_none (at descriptions writer) ≡ true) = and-both (not (writer == reader)) (is_none (at descriptions writer)) least.holds in
    (least.below, not-apart writer reader both.0, none-is (at descriptions writer) both.1)

-- ---- bytes

overwritten-length : (bytes written : List ℕ) (place most : ℕ) → length bytes ≤ most → place + length written ≤ most → length (overwritten bytes place written) ≤ most
unfolding overwritten
overwritten-length bytes written place most few fits = simp (length-append, length-take, length-replicate, length-drop) (omega (arith, few, fits))

overwritten-bytes : (bytes written : List ℕ) (place : ℕ) → All IsByte bytes → All IsByte written → All IsByte (overwritten bytes place written)
unfolding overwritten
overwritten-bytes bytes written place all new =
    All-append IsByte (take place bytes ++ replicate (place - length bytes) 0 ++ written) (drop (place + length written) bytes)
    (All-append IsByte (take place bytes ++ replicate (place - length bytes) 0) written
    (All-append IsByte (take place bytes) (replicate (place - length bytes) 0) (All-take IsByte place bytes all) (All-replicate IsByte (place - length bytes) 0 (omega arith))) new)
    (All-drop IsByte (place + length written) bytes all)

resized-length : (bytes : List ℕ) (size : ℕ) → length (resized bytes size) ≡ size
unfolding resized
resized-length bytes size = simp (length-append, length-take, length-replicate) (omega arith)

resized-bytes : (bytes : List ℕ) (size : ℕ) → All IsByte bytes → All IsByte (resized bytes size)
unfolding resized
resized-bytes bytes size all = All-append IsByte (take size bytes) (replicate (size - length bytes) 0) (All-take IsByte size bytes all) (All-replicate IsByte (size - length bytes) 0 (omega arith))

not-less : (i j : ℕ) → nat_lt i j ≡ false → j ≤ i
not-less i j e = grind (arith, nat_tests)

not-most : (i j : ℕ) → nat_le i j ≡ false → j < i
not-most i j e = grind (arith, nat_tests)

looked-few : (n : ℕ) (places : List (Option Entry)) → looked_at n places ≤ length places
looked-few zero places = omega arith
looked-few (suc n) [] = omega arith
looked-few (suc n) (None ∷ places) = omega (arith, looked-few (suc n) places)
looked-few (suc n) (Some entry ∷ places) = omega (arith, looked-few n places)

read-length : (count offset : ℕ) (bytes : List ℕ) → offset + length (take count (drop offset bytes)) ≤ offset + (length bytes - offset)
read-length count offset bytes = simp (length-take, length-drop) (omega arith)

-- ---- a call

file-is : (found : Option Inode) (bytes : List ℕ) → file_bytes found ≡ Some bytes → found ≡ Some (File bytes)
file-is None bytes e = some-differ bytes e
file-is (Some (File held)) bytes e = ap (λ (b : List ℕ). Some (File b)) (some-same held bytes e)
file-is (Some (Directory parent places)) bytes e = some-differ bytes e
file-is (Some (Pipe held)) bytes e = some-differ bytes e
file-is (Some Console) bytes e = some-differ bytes e

-- a file or a directory that isn't a directory
plain-file : (found : Option Inode) → is_named_kind found ≡ true → is_directory found ≡ false → (bytes : List ℕ) × (found ≡ Some (File bytes))
plain-file None kind plain = absurd (true-false (sym kind))
plain-file (Some (File bytes)) kind plain = (bytes, refl)
plain-file (Some (Directory parent places)) kind plain = absurd (true-false plain)
plain-file (Some (Pipe bytes)) kind plain = absurd (true-false (sym kind))
plain-file (Some Console) kind plain = absurd (true-false (sym kind))

kind-some : (found : Option Inode) → is_named_kind found ≡ true → IsSome found
kind-some None kind = absurd (true-false (sym kind))
kind-some (Some inode) kind = refl

and-second : (first second : Bool) → (first && second) ≡ false → first ≡ true → second ≡ false
and-second true second e f = e
and-second false second e f = absurd (true-false (sym f))

not-second : (first second : Bool) → (first && not second) ≡ false → first ≡ true → second ≡ true
not-second true true e f = refl
not-second true false e f = absurd (true-false e)
not-second false second e f = absurd (true-false (sym f))

and-first : (first second : Bool) → (first && second) ≡ false → second ≡ true → first ≡ false
and-first true second e f = absurd (true-false (sym f ∙ e))
and-first false second e f = refl

or-third : (first second third : Bool) → third ≡ true → (first || second || third) ≡ true
or-third true second third e = refl
or-third false true third e = refl
or-third false false third e = e

or-first : (first second third : Bool) → (first || second || third) ≡ false → first ≡ false
or-first true second third e = absurd (true-false e)
or-first false second third e = refl

pub none-of : (found : Option ℕ) → is_some found ≡ false → found ≡ None
none-of None e = refl
none-of (Some n) e = absurd (true-false e)

not-both : (first second : Bool) → first ≡ true → second ≡ true → (not first || not second) ≡ false
not-both first second e f = rw (e, f) refl

-- ---- a new name

pub made-new : (unix : Unix) → RuledAll unix.files → (spot : Spot) (number : ℕ) (new : Inode) → IsWalk IsTextByte unix.files spot → spot.inode ≡ None → Making unix spot new number → places_of (Some new) ≡ [] → IsInode new
    → new ≢ Console → is_named_kind (Some new) ≡ true → (is_directory (Some new) ≡ true → parent_of (Some new) ≡ spot.directory) → RuledAll (with_made unix spot number new).files
made-new unix all spot number new walk none (makes given free place room) no_places is apart kind parent =
    let name : IsGiven unix.files spot = new-name unix.files spot walk none in
    made-ruled unix.files spot.directory given spot.name new (free-is unix.files.inodes given free) no_places is apart kind parent walk.stands.in_directory walk.stands.tied name.name (sym name.inode_is ∙ none) place all

pub directory-new : (unix : Unix) → RuledAll unix.files → (spot : Spot) (number : ℕ) → IsWalk IsTextByte unix.files spot → spot.inode ≡ None → Making unix spot (Directory spot.directory []) number
    → RuledAll (with_made unix spot number (Directory spot.directory [])).files
unfolding most_places
directory-new unix all spot number walk none making_so =
    made-new unix all spot number (Directory spot.directory []) walk none making_so refl
    (below-count unix.files.inodes spot.directory all.ruled.inodes.end (directory-some (at unix.files.inodes spot.directory) walk.stands.in_directory), omega arith) (directory-apart spot.directory []) refl (λ e. refl)

file-apart : (bytes : List ℕ) → File bytes ≢ Console
file-apart bytes same = true-false (ap (λ (i : Inode). is_named_kind (Some i)) same)

pub file-new : (unix : Unix) → RuledAll unix.files → (spot : Spot) (number : ℕ) (bytes : List ℕ) → IsInode (File bytes) → IsWalk IsTextByte unix.files spot → spot.inode ≡ None → Making unix spot (File bytes) number
    → RuledAll (with_made unix spot number (File bytes)).files
file-new unix all spot number bytes is walk none making_so = made-new unix all spot number (File bytes) walk none making_so refl is (file-apart bytes) refl (λ e. absurd (true-false (sym e)))

module _ (unix : Unix) (slot : ℕ) (mine : Process) (sent : SentCall) (has : HasWords sent) (all : RuledAll unix.files) where
  abbrev files : Files
  files = unix.files

  tree : IsTree files.inodes
  tree = from-tree files.inodes all.ruled.inodes.end all.ruled.tree

  walk-of : (path : ℕ) (spot : Spot) → walked files (text_of sent path) ≡ Ok spot → IsWalk IsTextByte files spot
  walk-of path spot e = walk-is IsTextByte files all.ruled.inodes tree (text_of sent path) spot (text-holds sent path has.bytes) e

  held-is : (number : ℕ) (file : Opened) → opened unix mine number ≡ Some file → at files.descriptions file.number ≡ Some file.description
  held-is number file held = (opened-is unix mine number file held).there

  description-of : (number : ℕ) (file : Opened) → opened unix mine number ≡ Some file → IsDescription files.inodes file.description
  description-of number file held = all.ruled.descriptions.each file.number file.description (held-is number file held)

  inode-of : (n : ℕ) (inode : Inode) → at files.inodes n ≡ Some inode → IsInode inode
  inode-of n inode there = all.ruled.inodes.each n inode there

  -- another offset
  seek-of : (number offset : ℕ) (file : Opened) → opened unix mine number ≡ Some file → offset < offset_end → (is_directory (opened_inode unix file) ≡ true → offset % place_bytes ≡ 0)
      → RuledAll (with_offset files file offset)
  seek-of number offset file held below aligned = seek-ruled files file.number offset file.description (held-is number file held) below aligned all

  read-of : (number count : ℕ) (file : Opened) (bytes : List ℕ) → opened unix mine number ≡ Some file → opened_inode unix file ≡ Some (File bytes)
      → RuledAll (with_offset files file (file.description.offset + length (take count (drop file.description.offset bytes))))
  unfolding most_file_bytes
  read-of number count file bytes held is =
      let few : length bytes ≤ 4194304 = (inode-of file.description.inode (File bytes) is).0 in
      let below : file.description.offset < 2147483648 = (description-of number file held).offset in
      seek-of number (file.description.offset + length (take count (drop file.description.offset bytes))) file held (omega (arith, few, below, read-length count file.description.offset bytes))
      (λ directory. absurd (true-false (sym directory ∙ ap is_directory is)))

  list-of : (number count : ℕ) (file : Opened) → opened unix mine number ≡ Some file → is_directory (opened_inode unix file) ≡ true
      → RuledAll (with_offset files file (file.description.offset + place_bytes * looked_at count (drop (file.description.offset / place_bytes) (places_of (opened_inode unix file)))))
  unfolding most_places
  list-of number count file held directory =
      let places : List (Option Entry) = places_of (opened_inode unix file) in
      let offset : ℕ = file.description.offset in
      let few : length places ≤ 1024 = length-below files.inodes all.ruled.inodes file.description.inode in
      let below : offset < 2147483648 = (description-of number file held).offset in
      let whole : offset % 32 ≡ 0 = (description-of number file held).directory_offset directory in
      let looked : looked_at count (drop (offset / 32) places) ≤ length (drop (offset / 32) places) = looked-few count (drop (offset / 32) places) in
      let rest : length (drop (offset / 32) places) ≡ length places - offset / 32 = length-drop (offset / 32) places in
      seek-of number (offset + 32 * looked_at count (drop (offset / 32) places)) file held (omega (arith, few, below, whole, looked, rest)) (λ e. omega (arith, whole))

  seeks-of : (number place : ℕ) (file : Opened) → opened unix mine number ≡ Some file → (is_directory (opened_inode unix file) && not (place % place_bytes == 0)) ≡ false → nat_le offset_end place ≡ false
      → RuledAll (with_offset files file place)
  seeks-of number place file held aligned below =
      seek-of number place file held (not-most offset_end place below) (λ directory. same-of (place % place_bytes) 0 (not-second (is_directory (opened_inode unix file)) (place % place_bytes == 0) aligned directory))

  -- other contents
  takes-of : (count : ℕ) (file : Opened) (bytes : List ℕ) → opened_inode unix file ≡ Some (Pipe bytes) → RuledAll (with_contents files file (Pipe (drop count bytes)))
  takes-of count file bytes is =
      let before : IsInode (Pipe bytes) = inode-of file.description.inode (Pipe bytes) is in
      rewrite-ruled files file.description.inode (Pipe bytes) (Pipe (drop count bytes)) is (like-pipes bytes (drop count bytes)) (omega (arith, before.0, length-drop count bytes), All-drop IsByte count bytes before.1) all

  puts-of : (file : Opened) (bytes written : List ℕ) → All IsByte written → opened_inode unix file ≡ Some (Pipe bytes) → nat_lt pipe_bytes (length bytes + length written) ≡ false
      → RuledAll (with_contents files file (Pipe (bytes ++ written)))
  puts-of file bytes written new is fits =
      let before : IsInode (Pipe bytes) = inode-of file.description.inode (Pipe bytes) is in
      rewrite-ruled files file.description.inode (Pipe bytes) (Pipe (bytes ++ written)) is (like-pipes bytes (bytes ++ written))
      (omega (arith, length-append bytes written, not-less pipe_bytes (length bytes + length written) fits), All-append IsByte bytes written before.1 new) all

  part-fits : (place : ℕ) (written : List ℕ) → place < 4194304 → place + length (take (4194304 - place) written) ≤ 4194304
  part-fits place written below = omega (arith, length-take (4194304 - place) written, below)

  writes-of : (number place : ℕ) (file : Opened) (bytes written : List ℕ) → All IsByte written → opened unix mine number ≡ Some file → opened_inode unix file ≡ Some (File bytes) → nat_le most_file_bytes place ≡ false
      → RuledAll (with_written unix file bytes place (take (most_file_bytes - place) written)).files
  unfolding most_file_bytes
  writes-of number place file bytes written new held is below =
      let part : List ℕ = take (4194304 - place) written in
      let before : IsInode (File bytes) = inode-of file.description.inode (File bytes) is in
      let fits : place + length part ≤ 4194304 = part-fits place written (not-most 4194304 place below) in
      let after : Files = with_contents files file (File (overwritten bytes place part)) in
      seek-ruled after file.number (place + length part) file.description (held-is number file held) (omega (arith, fits))
      (λ directory. absurd (true-false (sym directory ∙ ap is_directory (at-with_at files.inodes file.description.inode (Some (File (overwritten bytes place part)))))))
      (rewrite-ruled files file.description.inode (File bytes) (File (overwritten bytes place part)) is (like-files bytes (overwritten bytes place part))
      (overwritten-length bytes part place 4194304 before.0 fits, overwritten-bytes bytes part place before.1 (All-take IsByte (4194304 - place) written new)) all)

  resizes-of : (size : ℕ) (file : Opened) (bytes : List ℕ) → file_bytes (opened_inode unix file) ≡ Some bytes → nat_lt most_file_bytes size ≡ false → RuledAll (with_resized unix file bytes size).files
  resizes-of size file bytes held few =
      let is : opened_inode unix file ≡ Some (File bytes) = file-is (opened_inode unix file) bytes held in
      let before : IsInode (File bytes) = inode-of file.description.inode (File bytes) is in
      rewrite-ruled files file.description.inode (File bytes) (File (resized bytes size)) is (like-files bytes (resized bytes size))
      (subst (λ n. n ≤ most_file_bytes) (sym (resized-length bytes size)) (not-less most_file_bytes size few), resized-bytes bytes size before.1) all

  -- a pipe
  pipes-of : (reader writer number : ℕ) → free_description files.descriptions ≡ Some reader → next_description files.descriptions reader ≡ Some writer → free_inode files.inodes ≡ Some number
      → RuledAll (with_pipe unix number reader writer).files
  pipes-of reader writer number free next free_i =
      let one : (reader < description_count) × (at files.descriptions reader ≡ None) = free-number files.descriptions reader free in
      let two : (writer < description_count) × (writer ≢ reader) × (at files.descriptions writer ≡ None) = next-number files.descriptions reader writer next in
      pipe-ruled files number reader writer (free-is files.inodes number free_i) one.1 two.2 two.1 one.0 two.0 all

  empty-file : IsInode (File [])
  unfolding most_file_bytes
  empty-file = (omega arith, All-nil IsByte)

  file-made : (spot : Spot) (number : ℕ) → IsWalk IsTextByte files spot → spot.inode ≡ None → Making unix spot (File []) number → RuledAll (with_made unix spot number (File [])).files
  file-made spot number walk none making_so = file-new unix all spot number [] empty-file walk none making_so

  -- a description of what is opened
  opening-is : (inodes : ℕ → Option Inode) (flags number : ℕ) → IsSome (at inodes number) → (is_directory (at inodes number) ≡ true → opens_to_change flags ≡ false) → IsDescription inodes (opening flags number)
  opening-is inodes flags number some changes =
      record {
        inode = some;
        mode = modes (flags % 4) (omega arith);
        offset = omega arith;
        directory_mode = λ e. or-first (opens_to_write flags) (has_flag flags 16) (has_flag flags 64) (changes e);
        directory_offset = λ e. refl;
      }
    where
      modes : (n : ℕ) → n < 4 → (not (n == 1) || not (n == 0)) ≡ true
      modes zero few = refl
      modes (suc zero) few = refl
      modes (suc (suc n)) few = grind (arith, nat_tests)

  opened-of : (after : Files) (number inode flags : ℕ) → after.descriptions ≡ files.descriptions → free_description files.descriptions ≡ Some number → IsDescription after.inodes (opening flags inode) → RuledAll after
      → RuledAll (with_description after number (opening flags inode))
  opened-of after number inode flags same free is ruled =
      let one : (number < description_count) × (at files.descriptions number ≡ None) = free-number files.descriptions number free in
      let none : at after.descriptions number ≡ None = ap (λ (d : ℕ → Option Description). at d number) same ∙ one.1 in
      record {
        ruled = open-ruled after number (opening flags inode) none one.0 is ruled.ruled;
        live = λ k some. lives-more after number (opening flags inode) none one.0 is k (ruled.live k some);
      }

  truncated-of : (flags found number : ℕ) → is_named_kind (at files.inodes found) ≡ true → (is_directory (at files.inodes found) && opens_to_change flags) ≡ false → free_description files.descriptions ≡ Some number
      → RuledAll (with_description (with_truncated unix flags found).files number (opening flags found))
  truncated-of flags found number kind reads free = elim (cases_Bool (has_flag flags 64)) as (λ _. RuledAll (with_description (with_truncated unix flags found).files number (opening flags found))) [
    | inl cuts ↦
        let changes : opens_to_change flags ≡ true = or-third (opens_to_write flags) (has_flag flags 16) (has_flag flags 64) cuts in
        let file : (bytes : List ℕ) × (at files.inodes found ≡ Some (File bytes)) = plain-file (at files.inodes found) kind (and-first (is_directory (at files.inodes found)) (opens_to_change flags) reads changes) in
        let there : at (with_inode files found (File [])).inodes found ≡ Some (File []) = at-with_at files.inodes found (Some (File [])) in
        rw cuts (opened-of (with_inode files found (File [])) number found flags refl free
        (opening-is (with_inode files found (File [])).inodes flags found (ap is_some there) (λ e. absurd (true-false (sym e ∙ ap is_directory there))))
        (rewrite-ruled files found (File file.0) (File []) file.1 (like-files file.0 []) empty-file all))
    | inr keeps ↦
        rw keeps (opened-of files number found flags refl free
        (opening-is files.inodes flags found (kind-some (at files.inodes found) kind) (λ e. and-second (is_directory (at files.inodes found)) (opens_to_change flags) reads e)) all)
  ]

  made-there : (spot : Spot) (number : ℕ) → IsWalk IsTextByte files spot → Making unix spot (File []) number → at (with_made unix spot number (File [])).files.inodes number ≡ Some (File [])
  made-there spot number walk (makes given free place room) =
      at-with_at-other (with_inode files given (File [])).inodes spot.directory given _ (λ same. true-false (sym walk.stands.in_directory ∙ ap is_directory (ap (at files.inodes) (sym same) ∙ (free-is files.inodes given free).none)))
      ∙ at-with_at files.inodes given (Some (File []))

  opens-of : (flags number : ℕ) (spot : Spot) (new : ToOpen) → IsWalk IsTextByte files spot → free_description files.descriptions ≡ Some number → Opening unix flags spot new
      → RuledAll (with_opened new.state number (opening flags new.inode)).files
  opens-of flags number spot new walk free (finds found is reads) = truncated-of flags found number (walk.stands.kind found is) reads free
  opens-of flags number spot new walk free (creates given none making_so) =
      let there : at (with_made unix spot given (File [])).files.inodes given ≡ Some (File []) = made-there spot given walk making_so in
      opened-of (with_made unix spot given (File [])).files number given flags refl free
      (opening-is (with_made unix spot given (File [])).files.inodes flags given (ap is_some there) (λ e. absurd (true-false (sym e ∙ ap is_directory there)))) (file-made spot given walk none making_so)

  -- a name that goes
  removed-of : (spot : Spot) (gone : ℕ) → IsWalk IsTextByte files spot → IsGiven files spot → spot.inode ≡ Some gone → (is_directory (at files.inodes gone) ≡ true → has_names (at files.inodes gone) ≡ false)
      → RuledAll (removed files spot gone)
  removed-of spot gone walk name is names =
      removed-ruled files spot gone walk.stands.in_directory (sym name.inode_is ∙ is) (λ directory. no-names files.inodes gone (names directory)) all

  -- a name that moves
  renames-of : (from to : Spot) (named : ℕ) (after : Files) → IsWalk IsTextByte files from → IsGiven files from → from.inode ≡ Some named → IsWalk IsTextByte files to → IsGiven files to → is_same named to.inode ≡ false
      → (is_directory (at files.inodes named) && is_within files.inodes named inode_count to.directory) ≡ false → Renaming unix from to named after → RuledAll after
  renames-of from to named after walk name is walk2 name2 apart within (onto other there first second third) =
      onto-ruled files from to named all (sym name.inode_is ∙ is) walk2.stands.in_directory walk2.stands.tied name2.name within other (sym name2.inode_is ∙ there)
      (apart-of other named (ap (is_same named) (sym there) ∙ apart)) third
  renames-of from to named after walk name is walk2 name2 apart within (anew none place room) =
      anew-ruled files from to named all (sym name.inode_is ∙ is) walk2.stands.in_directory walk2.stands.tied name2.name within (sym name2.inode_is ∙ none) place

  change-files : (state : Unix) → Changes unix slot mine sent state → RuledAll state.files
  change-files state (settles phase answer) = all
  change-files state (exits word) = all
  change-files state (forks place free pid room) = all
  change-files state (loads inode file plan held planned room) = all
  change-files state (reaps wanted ended phase least answer) = all
  change-files state (kills pid target signal given_so is apart) = killed-ruled unix target signal (at unix.processes target) all
  change-files state (dups number lowest file held low) = all
  change-files state (closes number) = closed-ruled unix slot mine number (descriptor mine number) all
  change-files state (dups_to number to file held apart) = closed-ruled unix slot mine to (descriptor mine to) all
  change-files state (pipes first second reader writer number phase low next free free2 free_i room answer) = pipes-of reader writer number free free2 free_i
  change-files state (reads_file number count file bytes phase held is answer) = read-of number count file bytes held is
  change-files state (seeks number place file held stream aligned below) = seeks-of number place file held aligned below
  change-files state (lists number count file phase held directory answer) = list-of number count file held directory
  change-files state (takes_pipe number count file bytes phase held is answer) = takes-of count file bytes is
  change-files state (puts_pipe number file bytes written given_so held is full) = puts-of file bytes written (subst (All IsByte) (sym given_so) has.bytes) is full
  change-files state (writes_file number place file bytes written given_so held is below room) = writes-of number place file bytes written (subst (All IsByte) (sym given_so) has.bytes) held is below
  change-files state (resizes number size file bytes held is below room) = resizes-of size file bytes is below
  change-files state (opens path flags number lowest spot new low free walk opening_so) = opens-of flags number spot new (walk-of path spot walk) free opening_so
  change-files state (makes_directory path spot number walk free making_so) = directory-new unix all spot number (walk-of path spot walk) (none-of spot.inode free) making_so
  change-files state (removes_directory path spot gone walk root dots is directory names) =
      removed-of spot gone (walk-of path spot walk) (given-name files spot (walk-of path spot walk) root dots) is (λ e. names)
  change-files state (unlinks path spot gone walk is file) =
      removed-of spot gone (walk-of path spot walk) (plain-name files spot gone all.ruled.inodes tree (walk-of path spot walk) is file) is (λ e. absurd (true-false (sym e ∙ file)))
  change-files state (links old new from to linked walk is file walk2 free place room) =
      let w : IsWalk IsTextByte files to = walk-of new to walk2 in
      let none : to.inode ≡ None = none-of to.inode free in
      let name : IsGiven files to = new-name files to w none in
      link-ruled files to.directory linked to.name ((walk-of old from walk).stands.kind linked is) file w.stands.in_directory w.stands.tied name.name (sym name.inode_is ∙ none) place all
  change-files state (renames old new from to named after walk root dots is walk2 root2 dots2 apart within renaming_so) =
      renames-of from to named after (walk-of old from walk) (given-name files from (walk-of old from walk) root dots) is (walk-of new to walk2) (given-name files to (walk-of new to walk2) root2 dots2) apart within renaming_so

turn-files : (calls : Calls) (unix : Unix) (slot : ℕ) → AreSent calls unix → Each HasBody unix.processes → RuledAll unix.files → (state : Unix) → TurnChanges unix slot state → RuledAll state.files
turn-files calls unix slot sent_so bodies all state idles = all
turn-files calls unix slot sent_so bodies all state (runs mine there phase) = all
turn-files calls unix slot sent_so bodies all state (enters mine after there phase entering) = all
turn-files calls unix slot sent_so bodies all state (effects mine sent after there phase changes) =
    change-files unix slot mine sent (sent-words calls unix slot mine sent sent_so (bodies slot mine there).registers_are (bodies slot mine there).memory_is there phase) all after changes
turn-files calls unix slot sent_so bodies all state (returns mine value address bytes there phase) = all
turn-files calls unix slot sent_so bodies all state (drops mine word lowest there phase low) = closed-ruled unix slot mine lowest (descriptor mine lowest) all
turn-files calls unix slot sent_so bodies all state (ends mine word there phase low) = all

pub files_kept : FilesKept
files_kept calls unix slot input sent_so bodies are =
    after-turn (λ state. AreFiles state.files) calls unix slot input (λ state changes. from-ruled state.files (turn-files calls unix slot sent_so bodies (to-ruled unix.files are) state changes))
