-- What the keeper sends: words as arguments, and few bytes.
use Rattle.std.proofs.Common.{◌≡◌, ℕ, zero, suc, ◌+◌, ◌-◌, ◌≤◌, Bool, true, false, List, [], ◌∷◌, ◌++◌, Option, Some, Result, Ok, Err, arith, subst, length, length-append}
use Rattle.std.proofs.lemmas.Bool.Decides.{nat_tests}
use Rattle.std.proofs.lemmas.List.Elements.{All-append, All-cons, All-nil}
use Rattle.std.specs.Prelude.{All, if◌then◌else◌, nat_lt, ◌==◌}
use Rattle.unix_model.specs.declared.calls.Call.{Call}
use Rattle.unix_model.specs.declared.calls.Call.TheVariants as call
use Rattle.unix_model.specs.declared.calls.Errno.{Errno}
use Rattle.unix_model.specs.declared.calls.Errno.TheVariants.{E2big, Efault, Enametoolong, Enosys}
use Rattle.unix_model.specs.Calls.{Calls}
use Rattle.unix_model.specs.Enter.{arguments, arguments_cut, call_enters, cut_count, entered_line, path_at, sends, sends_cut, strings_at, text_at, with_nul}
use Rattle.unix_model.specs.Memory.{Memory, byte_at, bytes_at, word_at}
use Rattle.unix_model.specs.Process.{Process, SentCall, Phase, Run, Asked, Sent, Done, Exiting, Zombie, argument, in_phase}
use Rattle.unix_model.specs.Refusals.{◌>>=◌, ◌>>◌, refuse◌when◌, refuse◌where_not◌, refuse◌unless◌}
use Rattle.unix_model.specs.Rules.{AreRegisters, AreSent, IsByte, IsMemory, IsWord}
use Rattle.unix_model.specs.State.{Unix, with_phase}
use Rattle.unix_model.specs.Tables.{at}
use Rattle.unix_laws.proofs.Lines.{Tells, tells-nothing, tells-of, through, needs, asks, bars, either}
use Rattle.unix_rules.proofs.Instructions.{read-word}
use Rattle.unix_rules.proofs.Pages.{AreRead, byte-read, bytes-read}

-- a call that was sent: its arguments are words, and it brings few bytes
pub record HasWords (sent : SentCall) : Type 0 where
  pub words : All IsWord sent.arguments
  pub bytes : All IsByte sent.bytes
  pub few : length sent.bytes ≤ 8192

-- ---- texts

-- bytes, and no more than so many
pub record Few (most : ℕ) (text : List ℕ) : Type 0 where
  pub size : length text ≤ most
  pub each : All IsByte text

few-cons : (n byte : ℕ) (text : List ℕ) → IsByte byte → Few n text → Few (suc n) (byte ∷ text)
few-cons n byte text small few = record { size = omega (arith, few.size); each = All-cons IsByte byte text small few.each }

few-nul : (n : ℕ) (text : List ℕ) → Few n text → Few (n + 1) (with_nul text)
few-nul n text few = record { size = simp length-append (omega (arith, few.size)); each = All-append IsByte text (0 ∷ []) few.each (All-cons IsByte 0 [] (omega arith) (All-nil IsByte)) }

few-append : (n m k : ℕ) (first second : List ℕ) → Few n first → Few m second → n + m ≤ k → Few k (first ++ second)
few-append n m k first second one two order =
    record { size = simp length-append (omega (arith, one.size, two.size, order)); each = All-append IsByte first second one.each two.each }

few-more : (n k : ℕ) (text : List ℕ) → n ≤ k → Few n text → Few k text
few-more n k text order few = record { size = omega (arith, order, few.size); each = few.each }

few-none : (n : ℕ) → Few n []
few-none n = record { size = omega arith; each = All-nil IsByte }

module _ (memory : Memory) (is : IsMemory memory) where
  text-few : (too_long : Errno) (n address : ℕ) → Tells (Few n) (text_at memory too_long n address)
  unfolding text_at
  text-few too_long zero address = tt
  text-few too_long (suc n) address =
      needs (Tells (Few (suc n))) (tells-nothing (Few (suc n))) Efault (byte_at memory address) _ (λ byte there.
      either (Tells (Few (suc n))) (tells-nothing (Few (suc n))) (byte == 0) (Ok []) _ (λ ends. few-none (suc n)) (λ goes.
      through (Tells (Few (suc n))) (tells-nothing (Few (suc n))) (text_at memory too_long n (address + 1)) _ (λ text e.
      few-cons n byte text (byte-read memory address byte is there) (tells-of (Few n) (text_at memory too_long n (address + 1)) text (text-few too_long n (address + 1)) e))))

  pub path-few : (address : ℕ) (text : List ℕ) → path_at memory address ≡ Ok text → Few 256 text
  path-few address text e = tells-of (Few 256) (path_at memory address) text (text-few Enametoolong 256 address) e

  strings-few : (n room address : ℕ) → Tells (Few room) (strings_at memory n room address)
  unfolding strings_at
  strings-few zero room address =
      needs (Tells (Few room)) (tells-nothing (Few room)) Efault (word_at memory address) _ (λ pointer there.
      asks (Tells (Few room)) (tells-nothing (Few room)) E2big (pointer == 0) _ (λ ends. few-none room))
  strings-few (suc n) room address =
      needs (Tells (Few room)) (tells-nothing (Few room)) Efault (word_at memory address) _ (λ pointer there.
      either (Tells (Few room)) (tells-nothing (Few room)) (pointer == 0) (Ok []) _ (λ ends. few-none room) (λ goes.
      through (Tells (Few room)) (tells-nothing (Few room)) (text_at memory E2big (room + 1) pointer) _ (λ text e.
      bars (Tells (Few room)) (tells-nothing (Few room)) E2big (nat_lt room (length text + 1)) _ (λ fits.
      through (Tells (Few room)) (tells-nothing (Few room)) (strings_at memory n (room - (length text + 1)) (address + 4)) _ (λ texts f.
      few-append (length text + 1) (room - (length text + 1)) room (with_nul text) texts
      (few-nul (length text) text (record { size = omega arith; each = (tells-of (Few (room + 1)) (text_at memory E2big (room + 1) pointer) text (text-few E2big (room + 1) pointer) e).each }))
      (tells-of (Few (room - (length text + 1))) (strings_at memory n (room - (length text + 1)) (address + 4)) texts (strings-few n (room - (length text + 1)) (address + 4)) f)
      (fits-in room (length text + 1) fits))))))
    where
      fits-in : (room n : ℕ) → nat_lt room n ≡ false → n + (room - n) ≤ room
      fits-in room n e = grind (arith, nat_tests)

  pub all-strings : (n room address : ℕ) (texts : List ℕ) → strings_at memory n room address ≡ Ok texts → Few room texts
  all-strings n room address texts e = tells-of (Few room) (strings_at memory n room address) texts (strings-few n room address) e

  pub given-strings : (address room : ℕ) (texts : List ℕ) → room ≤ 4096 → (if address == 0 then Ok [] else strings_at memory 16 room address) ≡ Ok texts → Few 4096 texts
  given-strings address room texts order e =
      tells-of (Few 4096) (if address == 0 then Ok [] else strings_at memory 16 room address) texts
      (either (Tells (Few 4096)) (tells-nothing (Few 4096)) (address == 0) (Ok []) (strings_at memory 16 room address) (λ none. few-none 4096) (λ some. more (strings_at memory 16 room address) (strings-few 16 room address))) e
    where
      more : (found : Result (List ℕ) Errno) → Tells (Few room) found → Tells (Few 4096) found
      more (Ok text) few = few-more room 4096 text order few
      more (Err errno) few = tt

  pub written-few : (address count : ℕ) (bytes : List ℕ) → bytes_at memory address (cut_count count) ≡ Some bytes → Few 4096 bytes
  written-few address count bytes e =
      let read : AreRead (cut_count count) bytes = bytes-read memory address (cut_count count) bytes is e in
      record { size = omega (arith, read.size); each = read.bytes }

-- ---- what the keeper gives

four-words : (a b c d : ℕ) → IsWord a → IsWord b → IsWord c → IsWord d → All IsWord (a ∷ b ∷ c ∷ d ∷ [])
four-words a b c d first second third fourth =
    All-cons IsWord a (b ∷ c ∷ d ∷ []) first (All-cons IsWord b (c ∷ d ∷ []) second (All-cons IsWord c (d ∷ []) third (All-cons IsWord d [] fourth (All-nil IsWord))))

-- a phase with such a call, if with any
abbrev pub PhaseHasWords : Phase → Type 0
PhaseHasWords Run = Unit {0}
PhaseHasWords Asked = Unit {0}
PhaseHasWords (Sent sent) = HasWords sent
PhaseHasWords (Done value address bytes) = Unit {0}
PhaseHasWords (Exiting word) = Unit {0}
PhaseHasWords (Zombie word) = Unit {0}

abbrev pub EntryHasWords : Result Process Errno → Type 0
EntryHasWords (Err errno) = Unit {0}
EntryHasWords (Ok after) = PhaseHasWords after.phase

module _ (unix : Unix) (slot : ℕ) (process : Process) (are : AreRegisters process.registers) (is : IsMemory process.memory) where
  abbrev Q : Result Process Errno → Type 0
  Q entry = EntryHasWords entry

  refused : (errno : Errno) → Q (Err errno)
  refused errno = tt

  step : {A : Type 0} (first : Result A Errno) (rest : A → Result Process Errno) → ((x : A) → first ≡ Ok x → Q (rest x)) → Q (first >>= rest)
  step = through Q refused

  need : {A : Type 0} (errno : Errno) (found : Option A) (rest : A → Result Process Errno) → ((x : A) → found ≡ Some x → Q (rest x)) → Q ((refuse errno unless found) >>= rest)
  need = needs Q refused

  ask : (errno : Errno) (test : Bool) (rest : Result Process Errno) → (test ≡ true → Q rest) → Q ((refuse errno where_not test) >> rest)
  ask = asks Q refused

  bar : (errno : Errno) (test : Bool) (rest : Result Process Errno) → (test ≡ false → Q rest) → Q ((refuse errno when test) >> rest)
  bar = bars Q refused

  choose : (test : Bool) (first second : Result Process Errno) → (test ≡ true → Q first) → (test ≡ false → Q second) → Q (if test then first else second)
  choose = either Q refused

  word : (number : ℕ) → IsWord (argument process number)
  word number = read-word process.registers are (10 + number)

  words : All IsWord (arguments process)
  words = four-words (argument process 0) (argument process 1) (argument process 2) (argument process 3) (word 0) (word 1) (word 2) (word 3)

  words-cut : All IsWord (arguments_cut process)
  words-cut = four-words (argument process 0) (argument process 1) (cut_count (argument process 2)) (argument process 3) (word 0) (word 1) (omega arith) (word 3)

  send : (call : Call) (bytes : List ℕ) → Few 8192 bytes → Q (sends process call bytes)
  send call bytes few = record { words = words; bytes = few.each; few = few.size }

  send-cut : (call : Call) (bytes : List ℕ) → Few 8192 bytes → Q (sends_cut process call bytes)
  send-cut call bytes few = record { words = words-cut; bytes = few.each; few = few.size }

  one-path : (address : ℕ) (text : List ℕ) → path_at process.memory address ≡ Ok text → Few 8192 (with_nul text)
  one-path address text e = few-more 257 8192 (with_nul text) (omega arith) (few-nul 256 text (path-few process.memory is address text e))

  two-paths : (address other : ℕ) (text second : List ℕ) → path_at process.memory address ≡ Ok text → path_at process.memory other ≡ Ok second → Few 8192 (with_nul text ++ with_nul second)
  two-paths address other text second e f =
      few-append 257 257 8192 (with_nul text) (with_nul second) (few-nul 256 text (path-few process.memory is address text e)) (few-nul 256 second (path-few process.memory is other second f)) (omega arith)

  exec-bytes : (address pointer : ℕ) (text texts : List ℕ) → path_at process.memory address ≡ Ok text
      → (if pointer == 0 then Ok [] else strings_at process.memory 16 (4096 - (length text + 1)) pointer) ≡ Ok texts → Few 8192 (with_nul text ++ texts)
  exec-bytes address pointer text texts e f =
      few-append 257 4096 8192 (with_nul text) texts (few-nul 256 text (path-few process.memory is address text e)) (given-strings process.memory is pointer (4096 - (length text + 1)) texts (omega arith) f) (omega arith)

  some-written : (address count : ℕ) (bytes : List ℕ) → bytes_at process.memory address (cut_count count) ≡ Some bytes → Few 8192 bytes
  some-written address count bytes e = few-more 4096 8192 bytes (omega arith) (written-few process.memory is address count bytes e)

  none : Few 8192 []
  none = few-none 8192

  call-words : (wanted : Call) → Q (call_enters unix slot process (argument process 0) (argument process 1) (argument process 2) wanted)
  call-words call.Exit = send _ _ none
  call-words call.Fork = send _ _ none
  call-words call.Exec = search (step, send, exec-bytes) depth 20
  call-words call.Wait = search (ask, send, none) depth 20
  call-words call.Waitpid = search (bar, ask, send, none) depth 20
  call-words call.Getpid = tt
  call-words call.Getppid = tt
  call-words call.Brk = search (choose, bar, ask, tt) depth 20
  call-words call.Open = search (step, ask, send, one-path) depth 20
  call-words call.Close = search (need, send, none) depth 20
  call-words call.Read = search (need, ask, send-cut, none) depth 20
  call-words call.Write = search (need, ask, send-cut, some-written) depth 20
  call-words call.Lseek = search (need, bar, send, none) depth 20
  call-words call.Dup = search (need, send, none) depth 20
  call-words call.Dup2 = search (need, bar, send, none) depth 20
  call-words call.Pipe = search (ask, send, none) depth 20
  call-words call.Mkdir = search (step, send, one-path) depth 20
  call-words call.Rmdir = search (step, send, one-path) depth 20
  call-words call.Unlink = search (step, send, one-path) depth 20
  call-words call.Link = search (step, send, two-paths) depth 20
  call-words call.Rename = search (step, send, two-paths) depth 20
  call-words call.Fstat = search (need, ask, send, none) depth 20
  call-words call.Getdents = search (need, bar, ask, send-cut, none) depth 20
  call-words call.Ftruncate = search (need, ask, bar, send, none) depth 20
  call-words call.Kill = search (ask, bar, send, none) depth 20

pub entry-words : (calls : Calls) (unix : Unix) (slot : ℕ) (process : Process) → AreRegisters process.registers → IsMemory process.memory → EntryHasWords (entered_line calls unix slot process)
unfolding entered_line
entry-words calls unix slot process are is =
    need unix slot process are is Enosys (calls (argument process 7)) (λ asked. call_enters unix slot process (argument process 0) (argument process 1) (argument process 2) asked)
    (λ asked e. call-words unix slot process are is asked)

-- so has each call that was sent
pub sent-words : (calls : Calls) (unix : Unix) (slot : ℕ) (process : Process) (sent : SentCall) → AreSent calls unix → AreRegisters process.registers → IsMemory process.memory
    → at unix.processes slot ≡ Some process → process.phase ≡ Sent sent → HasWords sent
unfolding AreSent
sent-words calls unix slot process sent are_sent are is there sends_it =
    subst PhaseHasWords sends_it
    (subst EntryHasWords (are_sent slot process sent there sends_it) (entry-words calls (with_phase unix slot process Asked) slot (in_phase process Asked) are is))
