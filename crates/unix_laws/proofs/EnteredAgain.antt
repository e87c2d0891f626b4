-- A call that was sent is what the keeper gives again: it reads nothing but what lasts.
use Rattle.std.proofs.Common.{◌≡◌, ◌⊎◌, ℕ, Bool, true, false, List, [], Option, Some, None, Result, Ok, Err, refl, sym, subst, ap, ◌∙◌, inl, inr}
use Rattle.std.specs.Prelude.{if◌then◌else◌}
use Rattle.unix_model.specs.declared.calls.Call.{Call}
use Rattle.unix_model.specs.declared.calls.Call.TheVariants as call
use Rattle.unix_model.specs.declared.calls.Errno.{Errno}
use Rattle.unix_model.specs.declared.calls.Errno.TheVariants.{Enosys}
use Rattle.unix_model.specs.Calls.{Calls}
use Rattle.unix_model.specs.Enter.{Entered, arguments, arguments_cut, call_enters, entered_line, sends, sends_cut}
use Rattle.unix_model.specs.Files.{Description}
use Rattle.unix_model.specs.Process.{Process, SentCall, Phase, Asked, Sent, Exiting, argument, descriptor, in_phase}
use Rattle.unix_model.specs.Refusals.{◌>>=◌, ◌>>◌, refuse◌when◌, refuse◌where_not◌, refuse◌unless◌}
use Rattle.unix_model.specs.State.{Unix, Opened, opened, opened_as, opened_at, with_phase}
use Rattle.unix_model.specs.Tables.{at}
use Rattle.unix_model.specs.Turn.{turned}
use Rattle.unix_laws.proofs.Basics.{some-same}
use Rattle.unix_laws.proofs.Changes.{IsAnswer}
use Rattle.unix_laws.proofs.Lasts.{sent_lasts}
use Rattle.unix_laws.proofs.Tested.{IsOpened, opened-is}
use Rattle.unix_laws.specs.LastingLaws.{Lasts, EnteredLasts}

-- what a process's descriptors are open on lasts, but for offsets
abbrev Kept : Unix → Unix → Process → Type 0
Kept before after process =
    (number description : ℕ) (held : Description) → descriptor process number ≡ Some description → at before.files.descriptions description ≡ Some held
    → (offset : ℕ) × (at after.files.descriptions description ≡ Some (record held { offset = offset }))

module _ (before after : Unix) (slot : ℕ) (process : Process) (parent : ℕ) (kept : Kept before after process) where
  -- the process as it asked, then and now
  abbrev asked : Process
  asked = in_phase process Asked

  abbrev again : Process
  again = record process { parent = parent; phase = Asked }

  abbrev given-again : SentCall → Entered
  given-again given = Ok (record process { parent = parent; phase = Sent given })

  -- where the first sends a call, so does the second
  abbrev Rel : Entered → Entered → Type 0
  Rel (Err errno) second = Unit {0}
  Rel (Ok first) second = (given : SentCall) → first ≡ in_phase process (Sent given) → second ≡ Ok (record process { parent = parent; phase = Sent given })

  step : {A : Type 0} (first : Result A Errno) (rest other : A → Entered) → ((x : A) → Rel (rest x) (other x)) → Rel (first >>= rest) (first >>= other)
  step (Ok x) rest other holds = holds x
  step (Err errno) rest other holds = tt

  need : {A : Type 0} (errno : Errno) (found : Option A) (rest other : A → Entered) → ((x : A) → Rel (rest x) (other x)) → Rel ((refuse errno unless found) >>= rest) ((refuse errno unless found) >>= other)
  need errno (Some x) rest other holds = holds x
  need errno None rest other holds = tt

  ask : (errno : Errno) (test : Bool) (rest other : Entered) → Rel rest other → Rel ((refuse errno where_not test) >> rest) ((refuse errno where_not test) >> other)
  ask errno true rest other holds = holds
  ask errno false rest other holds = tt

  bar : (errno : Errno) (test : Bool) (rest other : Entered) → Rel rest other → Rel ((refuse errno when test) >> rest) ((refuse errno when test) >> other)
  bar errno true rest other holds = tt
  bar errno false rest other holds = holds

  -- what a descriptor is open on may have another offset
  open-found : (number : ℕ) (file : Opened) → opened before process number ≡ Some file → (offset : ℕ) × (opened after process number ≡ Some (record file { description = record file.description { offset = offset } }))
  open-found number file e =
      let is : IsOpened before.files process number file = opened-is before process number file e in
      let found : (offset : ℕ) × (at after.files.descriptions file.number ≡ Some (record file.description { offset = offset })) = kept number file.number file.description is.names is.there in
      (found.0, ap (opened_at after.files) is.names ∙ ap (opened_as file.number) found.1)

  open-with : (errno : Errno) (number : ℕ) (found : Option Opened) (rest other : Opened → Entered) → opened before process number ≡ found
      → ((file : Opened) (offset : ℕ) → Rel (rest file) (other (record file { description = record file.description { offset = offset } })))
      → Rel ((refuse errno unless found) >>= rest) ((refuse errno unless opened after process number) >>= other)
  open-with errno number None rest other e holds = tt
  open-with errno number (Some file) rest other e holds =
      let found : (offset : ℕ) × (opened after process number ≡ Some (record file { description = record file.description { offset = offset } })) = open-found number file e in
      rw found.1 (holds file found.0)

  opens : (errno : Errno) (number : ℕ) (rest other : Opened → Entered)
      → ((file : Opened) (offset : ℕ) → Rel (rest file) (other (record file { description = record file.description { offset = offset } })))
      → Rel ((refuse errno unless opened before process number) >>= rest) ((refuse errno unless opened after process number) >>= other)
  opens errno number rest other holds = open-with errno number (opened before process number) rest other refl holds

  sends-again : (wanted : Call) (bytes : List ℕ) → Rel (sends asked wanted bytes) (sends again wanted bytes)
  sends-again wanted bytes given e =
      let phases : Sent (record { call = wanted; arguments = arguments asked; bytes = bytes }) ≡ Sent given = ap (λ (p : Process). p.phase) e in
      let same : record { call = wanted; arguments = arguments asked; bytes = bytes } ≡ given = cc in
      ap given-again same

  sends-cut-again : (wanted : Call) (bytes : List ℕ) → Rel (sends_cut asked wanted bytes) (sends_cut again wanted bytes)
  sends-cut-again wanted bytes given e =
      let phases : Sent (record { call = wanted; arguments = arguments_cut asked; bytes = bytes }) ≡ Sent given = ap (λ (p : Process). p.phase) e in
      let same : record { call = wanted; arguments = arguments_cut asked; bytes = bytes } ≡ given = cc in
      ap given-again same

  -- a call that is answered isn't sent
  answers-none : (next : Process) (phase : Phase) (second : Entered) → IsAnswer phase → Rel (Ok (in_phase next phase)) second
  answers-none next phase second answer given e = absurd (subst IsAnswer (ap (λ (p : Process). p.phase) e) answer)

  choose-none : (test : Bool) (first rest second : Entered) → Rel first second → Rel rest second → Rel (if test then first else rest) second
  choose-none true first rest second one two = one
  choose-none false first rest second one two = two

  ask-none : (errno : Errno) (test : Bool) (rest second : Entered) → Rel rest second → Rel ((refuse errno where_not test) >> rest) second
  ask-none errno true rest second holds = holds
  ask-none errno false rest second holds = tt

  bar-none : (errno : Errno) (test : Bool) (rest second : Entered) → Rel rest second → Rel ((refuse errno when test) >> rest) second
  bar-none errno true rest second holds = tt
  bar-none errno false rest second holds = holds

  enters-again : (wanted : Call) → Rel (call_enters before slot asked (argument asked 0) (argument asked 1) (argument asked 2) wanted) (call_enters after slot again (argument again 0) (argument again 1) (argument again 2) wanted)
  enters-again call.Exit = sends-again call.Exit []
  enters-again call.Fork = sends-again call.Fork []
  enters-again call.Exec = search (step, sends-again) depth 14
  enters-again call.Wait = search (ask, sends-again) depth 14
  enters-again call.Waitpid = search (bar, ask, sends-again) depth 14
  enters-again call.Getpid = answers-none asked _ _ tt
  enters-again call.Getppid = answers-none asked _ _ tt
  enters-again call.Brk = search (choose-none, ask-none, bar-none, answers-none, tt) depth 14
  enters-again call.Open = search (step, ask, sends-again) depth 14
  enters-again call.Close = search (opens, sends-again) depth 14
  enters-again call.Read = search (opens, ask, sends-cut-again) depth 14
  enters-again call.Write = search (opens, need, ask, sends-cut-again) depth 14
  enters-again call.Lseek = search (opens, bar, sends-again) depth 14
  enters-again call.Dup = search (opens, sends-again) depth 14
  enters-again call.Dup2 = search (opens, bar, sends-again) depth 14
  enters-again call.Pipe = search (ask, sends-again) depth 14
  enters-again call.Mkdir = search (step, sends-again) depth 14
  enters-again call.Rmdir = search (step, sends-again) depth 14
  enters-again call.Unlink = search (step, sends-again) depth 14
  enters-again call.Link = search (step, sends-again) depth 14
  enters-again call.Rename = search (step, sends-again) depth 14
  enters-again call.Fstat = search (opens, ask, sends-again) depth 14
  enters-again call.Getdents = search (opens, ask, bar, sends-cut-again) depth 14
  enters-again call.Ftruncate = search (opens, ask, bar, sends-again) depth 14
  enters-again call.Kill = search (ask, bar, sends-again) depth 14

abbrev gives-phase : Process → ℕ → Phase → Entered
gives-phase process parent phase = Ok (record process { parent = parent; phase = phase })

stays-sent : (phase before : Phase) (sent given : SentCall) → before ≡ Sent sent → phase ≡ Sent given → (phase ≡ before) ⊎ ((word : ℕ) × (phase ≡ Exiting word)) → Sent sent ≡ phase
stays-sent phase before sent given is goes (inl same) = sym is ∙ sym same
stays-sent phase before sent given is goes (inr ended) = let no : Sent given ≡ Exiting ended.0 = sym goes ∙ ended.1 in cc

line-again : (calls : Calls) (before after : Unix) (slot : ℕ) (process : Process) (parent : ℕ) (kept : Kept before after process)
    → Rel before after slot process parent kept (entered_line calls before slot (in_phase process Asked)) (entered_line calls after slot (record process { parent = parent; phase = Asked }))
unfolding entered_line
line-again calls before after slot process parent kept =
    need before after slot process parent kept Enosys (calls (argument process 7)) _ _ (λ wanted. enters-again before after slot process parent kept wanted)

-- where the first process has sent a call, the second one sends it too
pub entered-again : (calls : Calls) (before after : Unix) (slot : ℕ) (process : Process) (parent : ℕ) (sent : SentCall) → Kept before after process → process.phase ≡ Sent sent
    → entered_line calls before slot (in_phase process Asked) ≡ Ok process
    → entered_line calls after slot (record process { parent = parent; phase = Asked }) ≡ Ok (record process { parent = parent; phase = Sent sent })
entered-again calls before after slot process parent sent kept is e =
    subst (λ (first : Entered). Rel before after slot process parent kept first (entered_line calls after slot (record process { parent = parent; phase = Asked }))) e (line-again calls before after slot process parent kept)
    sent (ap (in_phase process) is)

-- the process that lasts, where it has sent a call
lasts-again : (calls : Calls) (unix state : Unix) (slot : ℕ) (process next : Process) (sent given : SentCall) → Lasts unix state slot process → process.phase ≡ Sent sent
    → entered_line calls (with_phase unix slot process Asked) slot (in_phase process Asked) ≡ Ok process
    → at state.processes slot ≡ Some next → next.phase ≡ Sent given
    → entered_line calls (with_phase state slot next Asked) slot (in_phase next Asked) ≡ Ok next
lasts-again calls unix state slot process next sent given l is e there goes =
    let now : Process = record process { parent = l.parent; phase = l.phase } in
    let same : now ≡ next = some-same now next (sym l.there ∙ there) in
    let phase : Sent sent ≡ l.phase = stays-sent l.phase process.phase sent given is (ap (λ (p : Process). p.phase) same ∙ goes) l.stays in
    subst (λ (p : Process). entered_line calls (with_phase state slot p Asked) slot (in_phase p Asked) ≡ Ok p) same
    (entered-again calls (with_phase unix slot process Asked) (with_phase state slot now Asked) slot process l.parent sent l.descriptions is e
    ∙ ap (λ (p : Phase). gives-phase process l.parent p) phase)

pub entered_lasts : EnteredLasts
entered_lasts calls unix slot turn process next sent given input slots there is apart e after goes =
    lasts-again calls unix (turned calls unix turn input).state slot process next sent given (sent_lasts calls unix slot turn process sent input slots there is apart) is e after goes
