-- The laws of single calls.
use Rattle.std.proofs.Common.{◌≡◌, ◌≢◌, ℕ, ◌+◌, ◌-◌, ◌≤◌, false, List, [], ◌∷◌, ◌++◌, take, drop, length, replicate, Option, Some, None, Ok, Err, arith, refl, sym, subst, ap, ◌∙◌, length-append, length-take, append_assoc}
use Rattle.std.proofs.lemmas.Bool.Decides.{nat_tests}
use Rattle.std.proofs.lemmas.List.{length-replicate, take-append-drop}
use Rattle.std.proofs.lemmas.Slice.Eq.{bytes_eq-Decides}
use Rattle.std.proofs.Math.Seq.{drop-append_seam, take-append_seam}
use Rattle.std.specs.Prelude.{◌==◌, ◌&&◌, is_none, nat_le, nat_lt}
use Rattle.unix_model.specs.declared.calls.Errno.{Errno}
use Rattle.unix_model.specs.declared.calls.Errno.TheVariants.{Eagain, Efbig, Enomem, Enospc, Epipe}
use Rattle.unix_model.specs.Effect.{Line, Waits, Goes, replies_with}
use Rattle.unix_model.specs.FileCalls.{overwritten, with_contents, with_offset, with_written, write_place}
use Rattle.unix_model.specs.Files.{Entry, File, Pipe, has_reader, has_writer, inode_named, place_inode}
use Rattle.unix_model.specs.Limits.{most_file_bytes, pid_end, pipe_bytes, slot_count}
use Rattle.unix_model.specs.Process.{Process, answered, answered_with, in_phase}
use Rattle.unix_model.specs.ProcessCalls.{child, forked}
use Rattle.unix_model.specs.Room.{has_room}
use Rattle.unix_model.specs.State.{Unix, Opened, free_slot, with_files, with_phase}
use Rattle.unix_model.specs.Tables.{at, with_at, option_or}
use Rattle.unix_model.proofs.TableLaws.{at-with_at, at-with_at-other}
use Rattle.unix_laws.proofs.Basics.{some-differ, none-is}
use Rattle.unix_laws.proofs.Counting.{Passes, least-passes}
use Rattle.unix_laws.proofs.Lines.{asks, bars, either, needs}
use Rattle.unix_laws.specs.CallLaws.{PipeTakesAtEnd, GivesPiece, PipeGivesFront, WriteThenRead, WritesPart, WrittenIsRead, NewNameGoes, HasChild, ForkLeavesChild}

-- a property of the state, where the line gives this one
abbrev If : (Unix → Type 0) → Unix → Line → Type 0
If P state line = line ≡ Ok (Goes state) → P state

if-refused : (P : Unix → Type 0) (state : Unix) (errno : Errno) → If P state (Err errno)
if-refused P state errno e = absurd (no errno e)
  where
    no : (errno : Errno) → Err errno ≡ Ok (Goes state) → ⊥
    no errno f = cc

if-waits : (P : Unix → Type 0) (state : Unix) → If P state (Ok Waits)
if-waits P state e = absurd (cc)

if-goes : (P : Unix → Type 0) (state given : Unix) → P given → If P state (Ok (Goes given))
if-goes P state given holds e = let same : given ≡ state = cc in subst P same holds

not-less : (i j : ℕ) → nat_lt i j ≡ false → j ≤ i
not-less i j e = grind (arith, nat_tests)

pub pipe_takes_at_end : PipeTakesAtEnd
pipe_takes_at_end unix state slot process file bytes written =
    let P : Unix → Type 0 = λ s. (at s.files.inodes file.description.inode ≡ Some (Pipe (bytes ++ written))) × (length (bytes ++ written) ≤ pipe_bytes) in
    asks (If P state) (if-refused P state) Epipe (has_reader unix.files file.description.inode) _ (λ reader.
    either (If P state) (if-refused P state) (nat_lt pipe_bytes (length bytes + length written)) (Ok Waits) _ (λ full. if-waits P state)
    (λ few. if-goes P state (with_phase (with_files unix (with_contents unix.files file (Pipe (bytes ++ written)))) slot process (answered (length written)))
    (at-with_at unix.files.inodes file.description.inode (Some (Pipe (bytes ++ written))), omega (arith, length-append bytes written, not-less pipe_bytes (length bytes + length written) few))))

pub pipe_gives_front : PipeGivesFront
pipe_gives_front unix state slot process input file address count bytes =
    let P : Unix → Type 0 = λ s. GivesPiece s slot process file address count bytes in
    let after : Unix = with_phase (with_files unix (with_contents unix.files file (Pipe (drop count bytes)))) slot process (answered_with (length (take count bytes)) address (take count bytes)) in
    either (If P state) (if-refused P state) ((length bytes == 0) && has_writer unix.files file.description.inode) (Ok Waits) (Ok (Goes after)) (λ empty. if-waits P state)
    (λ some. if-goes P state after
    record {
      piece = take count bytes;
      left = drop count bytes;
      whole = take-append-drop count bytes;
      size = length-take count bytes;
      given = at-with_at unix.processes slot (Some (in_phase process (answered_with (length (take count bytes)) address (take count bytes))));
      stays = at-with_at unix.files.inodes file.description.inode (Some (Pipe (drop count bytes)));
    })

-- the bytes before the place, with a gap
front-size : (bytes : List ℕ) (place : ℕ) → length (take place bytes ++ replicate (place - length bytes) 0) ≡ place
front-size bytes place = simp (length-append, length-take, length-replicate) (omega arith)

drop-front : (front rest : List ℕ) (place : ℕ) → length front ≡ place → drop place (front ++ rest) ≡ rest
drop-front front rest place e = ap (λ n. drop n (front ++ rest)) (sym e) ∙ drop-append_seam front rest

take-front : (front rest : List ℕ) (place : ℕ) → length front ≡ place → take place (front ++ rest) ≡ front
take-front front rest place e = ap (λ n. take n (front ++ rest)) (sym e) ∙ take-append_seam front rest

pub written_is_read : WrittenIsRead
unfolding overwritten
written_is_read bytes written place =
    let front : List ℕ = take place bytes ++ replicate (place - length bytes) 0 in
    let rest : List ℕ = drop (place + length written) bytes in (
      ap (λ whole. take (length written) (drop place whole)) (append_assoc front written rest)
          ∙ ap (take (length written)) (drop-front front (written ++ rest) place (front-size bytes place)) ∙ take-append_seam written rest,
      λ inside.
          ap (take place) (append_assoc front written rest ∙ append_assoc (take place bytes) (replicate (place - length bytes) 0) (written ++ rest))
          ∙ take-front (take place bytes) (replicate (place - length bytes) 0 ++ (written ++ rest)) place (omega (arith, length-take place bytes)),
    )

written-parts : (unix : Unix) (slot : ℕ) (process : Process) (file : Opened) (bytes written : List ℕ)
    → WritesPart (with_phase (with_written unix file bytes (write_place file.description bytes) (take (most_file_bytes - write_place file.description bytes) written)) slot process (answered (length (take (most_file_bytes - write_place file.description bytes) written))))
    slot process file bytes written
written-parts unix slot process file bytes written =
    let place : ℕ = write_place file.description bytes in
    let part : List ℕ = take (most_file_bytes - place) written in
    record {
      part = part;
      part_is = refl;
      contents = at-with_at unix.files.inodes file.description.inode (Some (File (overwritten bytes place part)));
      answered_so = at-with_at unix.processes slot (Some (in_phase process (answered (length part))));
      reads = λ reader other taker input again address same.
          ap (λ piece. replies_with (with_files reader (with_offset reader.files again (again.description.offset + length piece))) other taker (length piece) address piece)
          (ap (λ n. take (length part) (drop n (overwritten bytes place part))) same ∙ (written_is_read bytes part place).0);
    }

pub write_then_read : WriteThenRead
write_then_read unix state slot process file bytes written =
    let place : ℕ = write_place file.description bytes in
    let part : List ℕ = take (most_file_bytes - place) written in
    let P : Unix → Type 0 = λ s. WritesPart s slot process file bytes written in
    bars (If P state) (if-refused P state) Efbig (nat_le most_file_bytes place) _ (λ below.
    asks (If P state) (if-refused P state) Enospc (has_room (with_written unix file bytes place part)) _ (λ room.
    if-goes P state (with_phase (with_written unix file bytes place part) slot process (answered (length part))) (written-parts unix slot process file bytes written)))

-- an entry has its name
names-itself : (entry : Entry) → place_inode entry.name (Some entry) ≡ Some entry.inode
names-itself entry = rw ((bytes_eq-Decides entry.name entry.name).1 refl) refl

none-of-two : (first second : Option ℕ) → option_or first second ≡ None → (first ≡ None) × (second ≡ None)
none-of-two None second e = (refl, e)
none-of-two (Some n) second e = cc

pub new_name_goes : NewNameGoes
new_name_goes [] entry name absent = rw (names-itself entry) refl
new_name_goes (None ∷ places) entry name absent = rw (names-itself entry) refl
new_name_goes (Some other ∷ places) entry name absent =
    let both : (place_inode entry.name (Some other) ≡ None) × (inode_named places entry.name ≡ None) = none-of-two (place_inode entry.name (Some other)) (inode_named places entry.name) absent in
    rw both.0 (ap (option_or (place_inode name (Some other))) (new_name_goes places entry name both.1))

pub fork_leaves_child : ForkLeavesChild
unfolding free_slot
fork_leaves_child unix state slot process there =
    let P : Unix → Type 0 = λ s. HasChild unix s process × (at s.processes slot ≡ Some (in_phase process (answered unix.next_pid))) in
    needs (If P state) (if-refused P state) Eagain (free_slot unix.processes) _ (λ place free.
    bars (If P state) (if-refused P state) Eagain (nat_le pid_end unix.next_pid) _ (λ pid.
    asks (If P state) (if-refused P state) Enomem (has_room (forked unix place process)) _ (λ room.
    let least : Passes (λ s. is_none (at unix.processes s)) slot_count place = least-passes (λ s. is_none (at unix.processes s)) slot_count place free in
    let empty : at unix.processes place ≡ None = none-is (at unix.processes place) least.holds in
    let apart : place ≢ slot = λ same. some-differ process (sym empty ∙ ap (at unix.processes) same ∙ there) in
    if-goes P state (with_phase (forked unix place process) slot process (answered unix.next_pid)) (
      record {
        place = place;
        was_free = empty;
        there = at-with_at-other (with_at unix.processes place (Some (child unix.next_pid process))) slot place (Some (in_phase process (answered unix.next_pid))) apart
            ∙ at-with_at unix.processes place (Some (child unix.next_pid process));
      },
      at-with_at (with_at unix.processes place (Some (child unix.next_pid process))) slot (Some (in_phase process (answered unix.next_pid))),
    ))))
