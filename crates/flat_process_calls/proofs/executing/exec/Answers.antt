use Rattle.std.proofs.Common.{◌≡◌, ◌+◌, ℕ, List, arith, ap, sym, subst, ◌∙◌, Some, false, true, refl}
use Rattle.unix_model.specs.declared.calls.Turned.TheVariants.{Worked}
use Rattle.unix_model.specs.Effect.{Line}
use Rattle.unix_model.specs.Process as model
use Rattle.unix_model.specs.ProcessCalls.{with_loaded, with_program}
use Rattle.unix_model.specs.Memory.{mapped_pages}
use Rattle.unix_model.specs.Room.{has_room, promised}
use Rattle.unix_model.specs.State.{Unix, with_process}
use Rattle.unix_model.proofs.RoomLaws.{pages-few}
use Rattle.unix_model.proofs.TableLaws.{with_at-twice}
use Rattle.flat_files.specs.FilesView.{files_of}
use Rattle.flat_memory.specs.StringsView.{strings_of}
use Rattle.flat_state.specs.ProcessView.{process_of}
use Rattle.flat_state.specs.Settles.{Settles}
use Rattle.flat_state.specs.StateView.{unix_of}
use Rattle.flat_process_calls.specs.Programs.{IsLoading}
use Rattle.flat_process_calls.specs.declared.programs.Loading.{Loading}
use Rattle.flat_process_calls.proofs.ExecLines.{exec-crowded, exec-done, exec-refused, loaded-crowded, promised-loaded}
use Rattle.flat_process_calls.proofs.executing.exec.Goals as goal

pub returns-in-Refused : goal.returns-in-Refused
returns-in-Refused c =
    let process : model.Process = process_of c.args.process in
    let unix : Unix = with_process (unix_of c.args.state.now) c.args.slot process in
    let found = subst (λ (loading : Loading). IsLoading (files_of c.args.state.now.files) c.args.path.now (strings_of c.args.strings.now) c.args.state.now.pages loading) c.in-Refused.is c.in-Ok.ensures.loading in
    subst (λ (line : Line). Settles unix c.args.slot process line (unix_of c.refuse.new.self) c.refuse.result)
    (sym (exec-refused unix c.args.slot process c.args.path.now (strings_of c.args.strings.now) c.in-Refused.errno found)) c.refuse.ensures

pub returns-in-Crowded : goal.returns-in-Crowded
returns-in-Crowded c =
    let process : model.Process = process_of c.args.process in
    let unix : Unix = with_process (unix_of c.args.state.now) c.args.slot process in
    let found = subst (λ (loading : Loading). IsLoading (files_of c.args.state.now.files) c.args.path.now (strings_of c.args.strings.now) c.args.state.now.pages loading) c.in-Crowded.is c.in-Ok.ensures.loading in
    subst (λ (line : Line). Settles unix c.args.slot process line (unix_of c.refuse-in-Crowded.new.self) c.refuse-in-Crowded.result)
    (sym (exec-crowded unix c.args.slot process c.args.path.now (strings_of c.args.strings.now) found.0 found.1 (loaded-crowded unix c.args.slot process found.0.bytes found.0.plan (strings_of c.args.strings.now) c.requires.slot found.2))) c.refuse-in-Crowded.ensures

pub fits-requires : goal.fits-requires
fits-requires c = omega (arith, c.mapped.ensures.few, c.pages.ensures, pages-few (Some (process_of c.args.process)))

pub returns-then-not-fits : goal.returns-then-not-fits
returns-then-not-fits c =
    let process : model.Process = process_of c.args.process in
    let unix : Unix = with_process (unix_of c.args.state.now) c.args.slot process in
    let strings : List (List ℕ) = strings_of c.args.strings.now in
    let found = subst (λ (loading : Loading). IsLoading (files_of c.args.state.now.files) c.args.path.now strings c.args.state.now.pages loading) c.in-Loaded.is c.in-Ok.ensures.loading in
    let after : Unix = with_loaded unix c.args.slot process found.0.bytes found.0.plan strings in
    let promises : promised after + c.pages.result ≡ promised unix + (c.mapped.result + 1) =
    omega (arith, promised-loaded (unix_of c.args.state.now) c.args.slot process found.0.bytes found.0.plan strings c.requires.slot, c.pages.ensures, c.mapped.ensures.mapped, ap mapped_pages found.3) in
    let crowded : has_room after ≡ false = sym (c.fits.ensures c.args.slot after c.requires.slot c.requires.free refl promises) ∙ c.if-not-fits.true in
    subst (λ (line : Line). Settles unix c.args.slot process line (unix_of c.refuse-then-not-fits.new.self) c.refuse-then-not-fits.result)
    (sym (exec-crowded unix c.args.slot process c.args.path.now strings found.0 found.1 crowded)) c.refuse-then-not-fits.ensures

pub returns : goal.returns
returns c =
    let process : model.Process = process_of c.args.process in
    let unix : Unix = with_process (unix_of c.args.state.now) c.args.slot process in
    let strings : List (List ℕ) = strings_of c.args.strings.now in
    let found = subst (λ (loading : Loading). IsLoading (files_of c.args.state.now.files) c.args.path.now strings c.args.state.now.pages loading) c.in-Loaded.is c.in-Ok.ensures.loading in
    let after : Unix = with_loaded unix c.args.slot process found.0.bytes found.0.plan strings in
    let promises : promised after + c.pages.result ≡ promised unix + (c.mapped.result + 1) =
    omega (arith, promised-loaded (unix_of c.args.state.now) c.args.slot process found.0.bytes found.0.plan strings c.requires.slot, c.pages.ensures, c.mapped.ensures.mapped, ap mapped_pages found.3) in
    let room : has_room after ≡ true = sym (c.fits.ensures c.args.slot after c.requires.slot c.requires.free refl promises) ∙ c.if-not-fits.false in
    let made : process_of c.with_program-process.result ≡ with_program process found.0.bytes found.0.plan strings = c.with_program-process.ensures found.0.bytes found.0.plan strings found.2 found.3 found.4 in
    subst (λ (line : Line). Settles unix c.args.slot process line (unix_of c.put.new.self) Worked)
    (sym (exec-done unix c.args.slot process c.args.path.now strings found.0 found.1 room))
    (record {
      state_is = c.put.ensures ∙ (ap (λ made. with_process (unix_of c.args.state.now) c.args.slot made) made ∙ ap (λ table. record (unix_of c.args.state.now) { processes = table }) (sym (with_at-twice (unix_of c.args.state.now).processes c.args.slot (Some process) (Some (with_program process found.0.bytes found.0.plan strings)))));
      answer_is = refl;
    })
