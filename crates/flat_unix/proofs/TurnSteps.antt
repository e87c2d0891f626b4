-- Turns of a process that was taken out of its slot, and is put back.
use Rattle.std.proofs.Common.{◌≡◌, ◌≢◌, ℕ, Option, Some, None, List, [], ◌∷◌, Result, Ok, Err, IfOk, OnErr, ◌⊎◌, inl, inr, refl, sym, ap, subst, ◌∙◌}
use Rattle.unix_model.specs.declared.calls.Call.TheVariants.{Read, Write}
use Rattle.unix_model.specs.declared.calls.Turned.{Turned}
use Rattle.unix_model.specs.declared.calls.Turned.TheVariants.{Worked}
use Rattle.unix_model.specs.Calls.{call_of}
use Rattle.unix_model.specs.Effect.{argument_of, settled}
use Rattle.unix_model.specs.Enter.{entered}
use Rattle.unix_model.specs.FileCalls.{read_line}
use Rattle.unix_model.specs.Memory.{with_bytes}
use Rattle.unix_model.specs.Process.{Process, Phase, Asked, Sent, Done, Exiting, SentCall, answered_with, in_phase, lowest_open}
use Rattle.unix_model.specs.State.{Unix, with_process}
use Rattle.unix_model.specs.Tables.{at, with_at}
use Rattle.unix_model.specs.Turn.{MakesTurn, call_line, exit_step, returned, turned, turned_at, turned_in, ticked}
use Rattle.unix_model.specs.TurnRecord.{Turn}
use Rattle.unix_model.proofs.TableLaws.{at-with_at}
use Rattle.unix_model.proofs.TurnLaws.{put-back, ticked_turn, with_process-twice}
use Rattle.flat_file_calls.specs.Console.{Reads, TakesFront, Writes, write_turn}
use Rattle.flat_state.specs.declared.answer.Answer.{Answer}
use Rattle.flat_state.specs.declared.process.Phase as plain
use Rattle.flat_state.specs.declared.process.Phase.TheVariants as given
use Rattle.flat_state.specs.ProcessView.{phase_of}
use Rattle.flat_state.specs.Settles.{Settles}
use Rattle.flat_unix.specs.Families.{family_of}
use Rattle.flat_unix.specs.Turns.{quiet_turn}
use Rattle.flat_unix.specs.declared.families.Family.TheVariants.{Streams}
use Rattle.flat_unix.proofs.QuietLines.{settles-quietly}

module _ (rest : Unix) (slot : ℕ) (process : Process) (bytes : List ℕ) where
  abbrev whole : Unix
  whole = with_process rest slot process

  turned-here : turned call_of whole slot bytes ≡ ticked_turn (turned_in call_of whole slot process bytes process.phase)
  unfolding turned
  turned-here = ap (λ (held : Option Process). ticked_turn (turned_at call_of whole slot bytes held)) (at-with_at rest.processes slot (Some process))

  turned-phase : (phase : Phase) → process.phase ≡ phase → turned call_of whole slot bytes ≡ ticked_turn (turned_in call_of whole slot process bytes phase)
  turned-phase phase is = turned-here ∙ ap (λ now. ticked_turn (turned_in call_of whole slot process bytes now)) is

  -- the step that the turn is: a message to the keeper, the return of an answer, a step of an exit, a call
  pub turned-asked : process.phase ≡ Asked → (state : Unix) → state ≡ with_process rest slot (entered call_of whole slot process)
      → turned call_of whole slot bytes ≡ quiet_turn (ticked state) Worked bytes
  turned-asked is state made =
      turned-phase Asked is
      ∙ ap (λ after. quiet_turn (ticked after) Worked bytes) (with_process-twice rest slot process (entered call_of whole slot process) ∙ sym made)

  pub turned-done : (value address : ℕ) (answer : List ℕ) → process.phase ≡ Done value address answer → (state : Unix) → state ≡ with_process rest slot (returned process value address answer)
      → turned call_of whole slot bytes ≡ quiet_turn (ticked state) Worked bytes
  turned-done value address answer is state made =
      turned-phase (Done value address answer) is
      ∙ ap (λ after. quiet_turn (ticked after) Worked bytes) (with_process-twice rest slot process (returned process value address answer) ∙ sym made)

  pub turned-exiting : (word : ℕ) → process.phase ≡ Exiting word → (state : Unix) → state ≡ exit_step whole slot process word (lowest_open process)
      → turned call_of whole slot bytes ≡ quiet_turn (ticked state) Worked bytes
  turned-exiting word is state made =
      turned-phase (Exiting word) is
      ∙ ap (λ after. quiet_turn (ticked after) Worked bytes) (sym made)

  pub turned-call : (sent : SentCall) → process.phase ≡ Sent sent → family_of sent.call ≢ Streams → (state : Unix) (answer : Turned)
      → Settles whole slot process (call_line whole slot process [] sent sent.call) state answer
      → turned call_of whole slot bytes ≡ quiet_turn (ticked state) answer bytes
  turned-call sent is quiet state answer made =
      turned-phase (Sent sent) is
      ∙ ap ticked_turn (settles-quietly whole slot process bytes sent quiet state answer made)

  pub turned-read : (sent : SentCall) → process.phase ≡ Sent sent → sent.call ≡ Read
      → turned call_of whole slot bytes ≡ ticked_turn (settled whole slot process bytes (read_line whole slot process bytes (argument_of sent 0) (argument_of sent 1) (argument_of sent 2)))
  turned-read sent is reads =
      turned-phase (Sent sent) is
      ∙ ap (λ wanted. ticked_turn (settled whole slot process bytes (call_line whole slot process bytes sent wanted))) reads

  pub turned-write : (sent : SentCall) (written : List ℕ) → process.phase ≡ Sent sent → sent.call ≡ Write → written ≡ sent.bytes
      → turned call_of whole slot bytes ≡ ticked_turn (write_turn whole slot process (argument_of sent 0) written bytes)
  turned-write sent written is writes brings =
      turned-phase (Sent sent) is
      ∙ ap (λ wanted. ticked_turn (settled whole slot process bytes (call_line whole slot process bytes sent wanted))) writes
      ∙ ap (λ given. ticked_turn (write_turn whole slot process (argument_of sent 0) given bytes)) (sym brings)

-- an answer is returned whatever the phase, and where it has no bytes whatever their address
pub returns-answer : (process after : Process) (now : Phase) (v a : ℕ) (b : List ℕ) (value address : ℕ) (bytes : List ℕ) → after ≡ returned (in_phase process now) v a b → answered_with v a b ≡ Done value address bytes
    → after ≡ returned process value address bytes
unfolding returned with_bytes
returns-answer process after now v a [] value address bytes made is =
    let same : returned process v 0 [] ≡ returned process value address bytes = cc in
    made ∙ same
returns-answer process after now v a (byte ∷ more) value address bytes made is =
    let same : returned process v a (byte ∷ more) ≡ returned process value address bytes = cc in
    made ∙ same

-- a process that was taken out is put back
pub taken-out : (unix : Unix) (slot : ℕ) (process : Process) (processes : ℕ → Option Process) → Some process ≡ at unix.processes slot → processes ≡ with_at unix.processes slot None
    → with_process (record unix { processes = processes }) slot process ≡ unix
taken-out unix slot process processes there free =
    ap (λ (left : ℕ → Option Process). with_process (record unix { processes = left }) slot process) free
    ∙ put-back unix slot process (sym there)

answered-done : (v a : ℕ) (b : List ℕ) → (value : ℕ) × (address : ℕ) × (bytes : List ℕ) × (answered_with v a b ≡ Done value address bytes)
answered-done v a [] = (v, 0, [], refl)
answered-done v a (byte ∷ more) = (v, a, byte ∷ more, refl)

-- a phase in which a call is answered
pub answered-so : (phase : plain.Phase) → ((value : ℕ) × (phase ≡ given.Done value)) ⊎ ((answer : Answer) × (phase ≡ given.Gives answer))
    → (value : ℕ) × (address : ℕ) × (bytes : List ℕ) × (phase_of phase ≡ Done value address bytes)
answered-so phase (inl value) = (value.0, 0, [], ap phase_of value.1)
answered-so phase (inr answer) =
    let done = answered-done answer.0.value answer.0.address answer.0.bytes.items in
    (done.0, done.1, done.2, ap phase_of answer.1 ∙ done.3)

pub if_ok-map : {A E : Type 0} (P Q : A → Type 0) → ((x : A) → P x → Q x) → (result : Result A E) → IfOk result P → IfOk result Q
if_ok-map P Q goes (Ok x) holds = goes x holds
if_ok-map P Q goes (Err error) holds = tt

pub on_err-of : {A E : Type 0} (P : Type 0) → P → (result : Result A E) → OnErr result P
on_err-of P holds (Ok x) = tt
on_err-of P holds (Err error) = holds

-- ---- what reads, writes and quiet steps promise, as turns

module _ {S : Type 0} (left : S → Option (List ℕ)) (state : Unix) (answer : Turned) (source : S) where
  pub ticks-reads : (turn whole_turn : Turn) → whole_turn ≡ ticked_turn turn → Reads turn left state answer source → Reads whole_turn left (ticked state) answer source
  ticks-reads turn whole_turn is reads =
      subst (λ (made : Turn). Reads made left (ticked state) answer source) (sym is)
      (record { state_is = ap ticked reads.state_is; answer_is = reads.answer_is; source_left = reads.source_left; nothing_put = reads.nothing_put })

  pub reads-make : {K : Type 0} (grew : K → List ℕ → K → Type 0) (sink : K) (turn : Turn) → grew sink [] sink → Reads turn left state answer source → MakesTurn turn left grew state answer source sink sink
  reads-make grew sink turn nothing reads =
      record { state_is = reads.state_is; answer_is = reads.answer_is; source_left = reads.source_left; sink_grew = subst (λ put. grew sink put sink) (sym reads.nothing_put) nothing }

  pub writes-make : {K : Type 0} (grew : K → List ℕ → K → Type 0) (old new : K) (turn : List ℕ → Turn) (bytes : List ℕ) → left source ≡ Some bytes → Writes turn grew state answer old new
      → MakesTurn (turn bytes) left grew state answer source old new
  writes-make grew old new turn bytes told writes =
      record { state_is = writes.state_is bytes; answer_is = writes.answer_is bytes; source_left = told ∙ ap Some (sym (writes.left_is bytes)); sink_grew = writes.sink_grew bytes }

  pub quiet-makes : {K : Type 0} (grew : K → List ℕ → K → Type 0) (sink : K) (turn : Turn) (bytes : List ℕ) → left source ≡ Some bytes → grew sink [] sink → turn ≡ quiet_turn state answer bytes
      → MakesTurn turn left grew state answer source sink sink
  quiet-makes grew sink turn bytes told nothing is =
      subst (λ made. MakesTurn made left grew state answer source sink sink) (sym is)
      (record { state_is = refl; answer_is = refl; source_left = told; sink_grew = nothing })

-- nothing is gone of a source
pub takes-none : {S : Type 0} (left : S → Option (List ℕ)) (source : S) (bytes taken : List ℕ) → left source ≡ Some bytes → TakesFront bytes taken (left source)
takes-none left source bytes taken told = record { front = []; behind = taken; left = bytes; front_is = refl; input_is = refl; left_is = told }

pub ticks-writes : {K : Type 0} (grew : K → List ℕ → K → Type 0) (state : Unix) (answer : Turned) (old new : K) (turn whole_turn : List ℕ → Turn)
    → ((bytes : List ℕ) → whole_turn bytes ≡ ticked_turn (turn bytes)) → Writes turn grew state answer old new → Writes whole_turn grew (ticked state) answer old new
ticks-writes grew state answer old new turn whole_turn is writes =
    record {
      state_is = λ bytes. ap ticked (writes.state_is bytes) ∙ ap (λ made. made.state) (sym (is bytes));
      answer_is = λ bytes. writes.answer_is bytes ∙ ap (λ made. made.answer) (sym (is bytes));
      nothing_taken = λ bytes. ap (λ made. made.taken) (is bytes) ∙ writes.nothing_taken bytes;
      left_is = λ bytes. ap (λ made. made.left) (is bytes) ∙ writes.left_is bytes;
      sink_grew = λ bytes. subst (λ made. grew old made.put new) (sym (is bytes)) (writes.sink_grew bytes);
    }
