use Rattle.std.proofs.Common.{◌≡◌, ◌^◌, ◌+◌, ℕ, arith, ap, sym, subst, ◌∙◌, Option, Some, None, false, true, refl}
use Rattle.std.specs.Prelude.{nat_le, not, is_none, ◌&&◌, ◌==◌}
use Rattle.std.proofs.lemmas.Bool.Decides.{nat_tests}
use Rattle.unix_model.specs.Effect.{Line}
use Rattle.unix_model.specs.Process as model
use Rattle.unix_model.specs.ProcessCalls.{child, forked}
use Rattle.unix_model.specs.Room.{has_room, promised}
use Rattle.unix_model.specs.State.{Unix, free_slot, with_phase, with_process}
use Rattle.unix_model.specs.Tables.{at, with_at, least_below}
use Rattle.flat_process_calls.proofs.Lines.{fork-full, fork-crowded, fork-done}
use Rattle.unix_model.proofs.RoomLaws.{promised-forked}
use Rattle.unix_model.proofs.TableLaws.{at-with_at-other, least-beside, with_at-over}
use Rattle.flat_state.specs.StateView.{unix_of}
use Rattle.flat_state.specs.ProcessView.{process_of}
use Rattle.flat_state.specs.Settles.{Settles}
use Rattle.flat_process_calls.proofs.forking.fork.Goals as goal

-- the least slot that is free beside the process's own
place-free : (unix : Unix) (slot : ℕ) (process : model.Process) → free_slot (with_process unix slot process).processes ≡ least_below (λ k. not (k == slot) && is_none (at unix.processes k)) 64
unfolding free_slot
place-free unix slot process = least-beside unix.processes slot 64 process

pub returns-then-not-fits : goal.returns-then-not-fits
returns-then-not-fits c =
    let unix : Unix = with_process (unix_of c.args.state.now) c.args.slot (process_of c.args.process) in
    let process : model.Process = process_of c.args.process in
    let free : free_slot unix.processes ≡ Some c.in-Some.place = place-free (unix_of c.args.state.now) c.args.slot process ∙ sym c.in-Some.ensures.least in
    let pid : nat_le (2 ^ 31) unix.next_pid ≡ false = grind (arith, nat_tests) in
    let there : at unix.processes c.in-Some.place ≡ None = at-with_at-other (unix_of c.args.state.now).processes c.args.slot c.in-Some.place (Some process) c.in-Some.ensures.free.1 ∙ c.in-Some.ensures.free.2 in
    let promises : promised (forked unix c.in-Some.place process) + 0 ≡ promised unix + (c.mapped.result + 1) = omega (arith, promised-forked unix c.in-Some.place unix.next_pid (unix.next_pid + 1) process c.in-Some.ensures.free.0 there, c.mapped.ensures.mapped) in
    let crowded : has_room (forked unix c.in-Some.place process) ≡ false = sym (c.fits.ensures c.args.slot (forked unix c.in-Some.place process) c.requires.slot c.requires.free refl promises) ∙ c.if-not-fits.true in
    subst (λ (line : Line). Settles unix c.args.slot process line (unix_of c.refuse-then-not-fits.new.self) c.refuse-then-not-fits.result) (sym (fork-crowded unix c.args.slot c.in-Some.place process free pid crowded)) c.refuse-then-not-fits.ensures

pub returns-in-None : goal.returns-in-None
returns-in-None c =
    let unix : Unix = with_process (unix_of c.args.state.now) c.args.slot (process_of c.args.process) in
    let process : model.Process = process_of c.args.process in
    let full : free_slot unix.processes ≡ None = place-free (unix_of c.args.state.now) c.args.slot process ∙ sym c.in-None.ensures.least in
    subst (λ (line : Line). Settles unix c.args.slot process line (unix_of c.refuse.new.self) c.refuse.result) (sym (fork-full unix c.args.slot process full)) c.refuse.ensures

-- the child is put into its slot while the parent is out
put-out : (unix : Unix) (slot place : ℕ) (process made : model.Process) (processes : ℕ → Option model.Process)
    → processes ≡ with_at unix.processes place (Some made) → made ≡ child unix.next_pid process
    → with_phase (record unix { processes = processes; next_pid = unix.next_pid + 1 }) slot process (model.answered unix.next_pid)
    ≡ with_phase (forked (with_process unix slot process) place process) slot process (model.answered unix.next_pid)
put-out unix slot place process made processes put is_child =
    let Table : Type 0 = ℕ → Option model.Process in
    let after : Option model.Process = Some (model.in_phase process (model.answered unix.next_pid)) in
    ap (λ (table : Table). record unix { processes = with_at table slot after; next_pid = unix.next_pid + 1 }) (put ∙ ap (λ (made : model.Process). with_at unix.processes place (Some made)) is_child)
    ∙ ap (λ (table : Table). record unix { processes = table; next_pid = unix.next_pid + 1 }) (sym (with_at-over unix.processes slot place (Some process) (Some (child unix.next_pid process)) after))

pub returns : goal.returns
returns c =
    let unix : Unix = with_process (unix_of c.args.state.now) c.args.slot (process_of c.args.process) in
    let process : model.Process = process_of c.args.process in
    let free : free_slot unix.processes ≡ Some c.in-Some.place = place-free (unix_of c.args.state.now) c.args.slot process ∙ sym c.in-Some.ensures.least in
    let pid : nat_le (2 ^ 31) unix.next_pid ≡ false = grind (arith, nat_tests) in
    let there : at unix.processes c.in-Some.place ≡ None = at-with_at-other (unix_of c.args.state.now).processes c.args.slot c.in-Some.place (Some process) c.in-Some.ensures.free.1 ∙ c.in-Some.ensures.free.2 in
    let promises : promised (forked unix c.in-Some.place process) + 0 ≡ promised unix + (c.mapped.result + 1) = omega (arith, promised-forked unix c.in-Some.place unix.next_pid (unix.next_pid + 1) process c.in-Some.ensures.free.0 there, c.mapped.ensures.mapped) in
    let room : has_room (forked unix c.in-Some.place process) ≡ true = sym (c.fits.ensures c.args.slot (forked unix c.in-Some.place process) c.requires.slot c.requires.free refl promises) ∙ c.if-not-fits.false in
    subst (λ (line : Line). Settles unix c.args.slot process line (unix_of c.reply.new.self) c.reply.result) (sym (fork-done unix c.args.slot c.in-Some.place process free pid room))
    (record {
      state_is = c.reply.ensures.state ∙ put-out (unix_of c.args.state.now) c.args.slot c.in-Some.place process (process_of c.in_ok-child.child) _ c.put.ensures c.in_ok-child.ensures;
      answer_is = c.reply.ensures.answer;
    })
