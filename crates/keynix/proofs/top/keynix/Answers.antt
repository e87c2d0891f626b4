use Rattle.std.specs.Prelude.{map, string_bytes}
use Rattle.kn_io.specs.Faults.{Rose}
use Rattle.command_line.specs.Words.{command_of}
use Rattle.keynix.proofs.Told.{status-told, halted-told, written-told, spent-told, idle-told, refused-told, usage-told, usage-exactly, usage-output, input-kept, load-told, refused_source-told, plan-first, read-told, write-told, note-part-told, note-whole-told, no_memory-told, part-told, refused-output-told, refused_source-output-told, output-told, file-part-told, complete-told, refuses-told, refuses_plan-told, assembles-told, refuses_source-told}
use Rattle.keynix.proofs.top.keynix.Goals as goal

pub returns-clause-status : goal.returns-clause-status
returns-clause-status g c =
    status-told g.S.Source.left g.P.Source.left g.K.Sink.grew g.E.Sink.grew (Rose (g.S.Source.faults c.args.input.now) (g.S.Source.faults c.perform.new.input)) (Rose (g.P.Source.faults c.args.plan.now) (g.P.Source.faults c.perform.new.plan)) (Rose (g.K.Sink.faults c.args.output.now) (g.K.Sink.faults c.perform.new.output))
    c.args.input.now c.perform.new.input c.args.plan.now c.perform.new.plan c.args.output.now c.perform.new.output c.args.notes.now c.perform.new.notes (Rose (g.E.Sink.faults c.args.notes.now) (g.E.Sink.faults c.perform.new.notes))
    (command_of (map string_bytes c.args.words.now)) c.perform.result.0 c.perform.ensures.answers

pub returns-clause-halted : goal.returns-clause-halted
returns-clause-halted g c =
    halted-told g.S.Source.left g.P.Source.left g.K.Sink.grew g.E.Sink.grew (Rose (g.S.Source.faults c.args.input.now) (g.S.Source.faults c.perform.new.input)) (Rose (g.P.Source.faults c.args.plan.now) (g.P.Source.faults c.perform.new.plan)) (Rose (g.K.Sink.faults c.args.output.now) (g.K.Sink.faults c.perform.new.output))
    c.args.input.now c.perform.new.input c.args.plan.now c.perform.new.plan c.args.output.now c.perform.new.output c.args.notes.now c.perform.new.notes (Rose (g.E.Sink.faults c.args.notes.now) (g.E.Sink.faults c.perform.new.notes))
    (command_of (map string_bytes c.args.words.now)) c.perform.result.0 c.perform.ensures.answers

pub returns-clause-written : goal.returns-clause-written
returns-clause-written g c =
    written-told g.S.Source.left g.P.Source.left g.K.Sink.grew g.E.Sink.grew (Rose (g.S.Source.faults c.args.input.now) (g.S.Source.faults c.perform.new.input)) (Rose (g.P.Source.faults c.args.plan.now) (g.P.Source.faults c.perform.new.plan)) (Rose (g.K.Sink.faults c.args.output.now) (g.K.Sink.faults c.perform.new.output))
    c.args.input.now c.perform.new.input c.args.plan.now c.perform.new.plan c.args.output.now c.perform.new.output c.args.notes.now c.perform.new.notes (Rose (g.E.Sink.faults c.args.notes.now) (g.E.Sink.faults c.perform.new.notes))
    (command_of (map string_bytes c.args.words.now)) c.perform.result.0 c.perform.ensures.answers

pub returns-clause-loaded : goal.returns-clause-loaded
returns-clause-loaded g c =
    load-told g.S.Source.left g.P.Source.left g.K.Sink.grew g.E.Sink.grew (Rose (g.S.Source.faults c.args.input.now) (g.S.Source.faults c.perform.new.input)) (Rose (g.P.Source.faults c.args.plan.now) (g.P.Source.faults c.perform.new.plan)) (Rose (g.K.Sink.faults c.args.output.now) (g.K.Sink.faults c.perform.new.output))
    c.args.input.now c.perform.new.input c.args.plan.now c.perform.new.plan c.args.output.now c.perform.new.output c.args.notes.now c.perform.new.notes (Rose (g.E.Sink.faults c.args.notes.now) (g.E.Sink.faults c.perform.new.notes))
    (command_of (map string_bytes c.args.words.now)) c.perform.result.0 c.perform.ensures.answers c.one_outcome_law.ensures g.met.K.Sink.part_whole

pub returns-clause-spent : goal.returns-clause-spent
returns-clause-spent g c =
    spent-told g.S.Source.left g.P.Source.left g.K.Sink.grew g.E.Sink.grew (Rose (g.S.Source.faults c.args.input.now) (g.S.Source.faults c.perform.new.input)) (Rose (g.P.Source.faults c.args.plan.now) (g.P.Source.faults c.perform.new.plan)) (Rose (g.K.Sink.faults c.args.output.now) (g.K.Sink.faults c.perform.new.output))
    c.args.input.now c.perform.new.input c.args.plan.now c.perform.new.plan c.args.output.now c.perform.new.output c.args.notes.now c.perform.new.notes (Rose (g.E.Sink.faults c.args.notes.now) (g.E.Sink.faults c.perform.new.notes))
    (command_of (map string_bytes c.args.words.now)) c.perform.result.0 c.perform.ensures.answers

pub returns-clause-idled : goal.returns-clause-idled
returns-clause-idled g c =
    idle-told g.S.Source.left g.P.Source.left g.K.Sink.grew g.E.Sink.grew (Rose (g.S.Source.faults c.args.input.now) (g.S.Source.faults c.perform.new.input)) (Rose (g.P.Source.faults c.args.plan.now) (g.P.Source.faults c.perform.new.plan)) (Rose (g.K.Sink.faults c.args.output.now) (g.K.Sink.faults c.perform.new.output))
    c.args.input.now c.perform.new.input c.args.plan.now c.perform.new.plan c.args.output.now c.perform.new.output c.args.notes.now c.perform.new.notes (Rose (g.E.Sink.faults c.args.notes.now) (g.E.Sink.faults c.perform.new.notes))
    (command_of (map string_bytes c.args.words.now)) c.perform.result.0 c.perform.ensures.answers

pub returns-clause-refused : goal.returns-clause-refused
returns-clause-refused g c =
    refused-told g.S.Source.left g.P.Source.left g.K.Sink.grew g.E.Sink.grew (Rose (g.S.Source.faults c.args.input.now) (g.S.Source.faults c.perform.new.input)) (Rose (g.P.Source.faults c.args.plan.now) (g.P.Source.faults c.perform.new.plan)) (Rose (g.K.Sink.faults c.args.output.now) (g.K.Sink.faults c.perform.new.output))
    c.args.input.now c.perform.new.input c.args.plan.now c.perform.new.plan c.args.output.now c.perform.new.output c.args.notes.now c.perform.new.notes (Rose (g.E.Sink.faults c.args.notes.now) (g.E.Sink.faults c.perform.new.notes))
    (command_of (map string_bytes c.args.words.now)) c.perform.result.0 c.perform.ensures.answers

pub returns-clause-refused_source : goal.returns-clause-refused_source
returns-clause-refused_source g c =
    refused_source-told g.S.Source.left g.P.Source.left g.K.Sink.grew g.E.Sink.grew (Rose (g.S.Source.faults c.args.input.now) (g.S.Source.faults c.perform.new.input)) (Rose (g.P.Source.faults c.args.plan.now) (g.P.Source.faults c.perform.new.plan)) (Rose (g.K.Sink.faults c.args.output.now) (g.K.Sink.faults c.perform.new.output))
    c.args.input.now c.perform.new.input c.args.plan.now c.perform.new.plan c.args.output.now c.perform.new.output c.args.notes.now c.perform.new.notes (Rose (g.E.Sink.faults c.args.notes.now) (g.E.Sink.faults c.perform.new.notes))
    (command_of (map string_bytes c.args.words.now)) c.perform.result.0 c.perform.ensures.answers

pub returns-clause-usage : goal.returns-clause-usage
returns-clause-usage g c =
    usage-told g.S.Source.left g.P.Source.left g.K.Sink.grew g.E.Sink.grew (Rose (g.S.Source.faults c.args.input.now) (g.S.Source.faults c.perform.new.input)) (Rose (g.P.Source.faults c.args.plan.now) (g.P.Source.faults c.perform.new.plan)) (Rose (g.K.Sink.faults c.args.output.now) (g.K.Sink.faults c.perform.new.output))
    c.args.input.now c.perform.new.input c.args.plan.now c.perform.new.plan c.args.output.now c.perform.new.output c.args.notes.now c.perform.new.notes (Rose (g.E.Sink.faults c.args.notes.now) (g.E.Sink.faults c.perform.new.notes))
    (command_of (map string_bytes c.args.words.now)) c.perform.result.0 c.perform.ensures.answers

pub returns-clause-usage_exactly : goal.returns-clause-usage_exactly
returns-clause-usage_exactly g c =
    usage-exactly g.S.Source.left g.P.Source.left g.K.Sink.grew g.E.Sink.grew (Rose (g.S.Source.faults c.args.input.now) (g.S.Source.faults c.perform.new.input)) (Rose (g.P.Source.faults c.args.plan.now) (g.P.Source.faults c.perform.new.plan)) (Rose (g.K.Sink.faults c.args.output.now) (g.K.Sink.faults c.perform.new.output))
    c.args.input.now c.perform.new.input c.args.plan.now c.perform.new.plan c.args.output.now c.perform.new.output c.args.notes.now c.perform.new.notes (Rose (g.E.Sink.faults c.args.notes.now) (g.E.Sink.faults c.perform.new.notes))
    (command_of (map string_bytes c.args.words.now)) c.perform.result.0 c.perform.ensures.answers

pub returns-clause-usage_output : goal.returns-clause-usage_output
returns-clause-usage_output g c =
    usage-output g.S.Source.left g.P.Source.left g.K.Sink.grew g.E.Sink.grew (Rose (g.S.Source.faults c.args.input.now) (g.S.Source.faults c.perform.new.input)) (Rose (g.P.Source.faults c.args.plan.now) (g.P.Source.faults c.perform.new.plan)) (Rose (g.K.Sink.faults c.args.output.now) (g.K.Sink.faults c.perform.new.output))
    c.args.input.now c.perform.new.input c.args.plan.now c.perform.new.plan c.args.output.now c.perform.new.output c.args.notes.now c.perform.new.notes (Rose (g.E.Sink.faults c.args.notes.now) (g.E.Sink.faults c.perform.new.notes))
    (command_of (map string_bytes c.args.words.now)) c.perform.result.0 c.perform.ensures.answers

pub returns-clause-input_kept : goal.returns-clause-input_kept
returns-clause-input_kept g c =
    input-kept g.S.Source.left g.P.Source.left g.K.Sink.grew g.E.Sink.grew (Rose (g.S.Source.faults c.args.input.now) (g.S.Source.faults c.perform.new.input)) (Rose (g.P.Source.faults c.args.plan.now) (g.P.Source.faults c.perform.new.plan)) (Rose (g.K.Sink.faults c.args.output.now) (g.K.Sink.faults c.perform.new.output))
    c.args.input.now c.perform.new.input c.args.plan.now c.perform.new.plan c.args.output.now c.perform.new.output c.args.notes.now c.perform.new.notes (Rose (g.E.Sink.faults c.args.notes.now) (g.E.Sink.faults c.perform.new.notes))
    (command_of (map string_bytes c.args.words.now)) c.perform.result.0 c.perform.ensures.answers

pub returns-clause-plan_first : goal.returns-clause-plan_first
returns-clause-plan_first g c =
    plan-first g.S.Source.left g.P.Source.left g.K.Sink.grew g.E.Sink.grew (Rose (g.S.Source.faults c.args.input.now) (g.S.Source.faults c.perform.new.input)) (Rose (g.P.Source.faults c.args.plan.now) (g.P.Source.faults c.perform.new.plan)) (Rose (g.K.Sink.faults c.args.output.now) (g.K.Sink.faults c.perform.new.output))
    c.args.input.now c.perform.new.input c.args.plan.now c.perform.new.plan c.args.output.now c.perform.new.output c.args.notes.now c.perform.new.notes (Rose (g.E.Sink.faults c.args.notes.now) (g.E.Sink.faults c.perform.new.notes))
    (command_of (map string_bytes c.args.words.now)) c.perform.result.0 c.perform.ensures.answers

pub returns-clause-read_fault : goal.returns-clause-read_fault
returns-clause-read_fault g c =
    read-told g.S.Source.left g.P.Source.left g.K.Sink.grew g.E.Sink.grew (Rose (g.S.Source.faults c.args.input.now) (g.S.Source.faults c.perform.new.input)) (Rose (g.P.Source.faults c.args.plan.now) (g.P.Source.faults c.perform.new.plan)) (Rose (g.K.Sink.faults c.args.output.now) (g.K.Sink.faults c.perform.new.output))
    c.args.input.now c.perform.new.input c.args.plan.now c.perform.new.plan c.args.output.now c.perform.new.output c.args.notes.now c.perform.new.notes (Rose (g.E.Sink.faults c.args.notes.now) (g.E.Sink.faults c.perform.new.notes))
    (command_of (map string_bytes c.args.words.now)) c.perform.result.0 c.perform.ensures.answers

pub returns-clause-write_fault : goal.returns-clause-write_fault
returns-clause-write_fault g c =
    write-told g.S.Source.left g.P.Source.left g.K.Sink.grew g.E.Sink.grew (Rose (g.S.Source.faults c.args.input.now) (g.S.Source.faults c.perform.new.input)) (Rose (g.P.Source.faults c.args.plan.now) (g.P.Source.faults c.perform.new.plan)) (Rose (g.K.Sink.faults c.args.output.now) (g.K.Sink.faults c.perform.new.output))
    c.args.input.now c.perform.new.input c.args.plan.now c.perform.new.plan c.args.output.now c.perform.new.output c.args.notes.now c.perform.new.notes (Rose (g.E.Sink.faults c.args.notes.now) (g.E.Sink.faults c.perform.new.notes))
    (command_of (map string_bytes c.args.words.now)) c.perform.result.0 c.perform.ensures.answers

pub returns-clause-write_fault_note : goal.returns-clause-write_fault_note
returns-clause-write_fault_note g c =
    note-part-told g.S.Source.left g.P.Source.left g.K.Sink.grew g.E.Sink.grew (Rose (g.S.Source.faults c.args.input.now) (g.S.Source.faults c.perform.new.input)) (Rose (g.P.Source.faults c.args.plan.now) (g.P.Source.faults c.perform.new.plan)) (Rose (g.K.Sink.faults c.args.output.now) (g.K.Sink.faults c.perform.new.output))
    c.args.input.now c.perform.new.input c.args.plan.now c.perform.new.plan c.args.output.now c.perform.new.output c.args.notes.now c.perform.new.notes (Rose (g.E.Sink.faults c.args.notes.now) (g.E.Sink.faults c.perform.new.notes))
    (command_of (map string_bytes c.args.words.now)) c.perform.result.0 c.perform.ensures.answers g.met.E.Sink.part_whole

pub returns-clause-write_fault_told : goal.returns-clause-write_fault_told
returns-clause-write_fault_told g c =
    note-whole-told g.S.Source.left g.P.Source.left g.K.Sink.grew g.E.Sink.grew (Rose (g.S.Source.faults c.args.input.now) (g.S.Source.faults c.perform.new.input)) (Rose (g.P.Source.faults c.args.plan.now) (g.P.Source.faults c.perform.new.plan)) (Rose (g.K.Sink.faults c.args.output.now) (g.K.Sink.faults c.perform.new.output))
    c.args.input.now c.perform.new.input c.args.plan.now c.perform.new.plan c.args.output.now c.perform.new.output c.args.notes.now c.perform.new.notes (Rose (g.E.Sink.faults c.args.notes.now) (g.E.Sink.faults c.perform.new.notes))
    (command_of (map string_bytes c.args.words.now)) c.perform.result.0 c.perform.ensures.answers

pub returns-clause-no_memory : goal.returns-clause-no_memory
returns-clause-no_memory g c =
    no_memory-told g.S.Source.left g.P.Source.left g.K.Sink.grew g.E.Sink.grew (Rose (g.S.Source.faults c.args.input.now) (g.S.Source.faults c.perform.new.input)) (Rose (g.P.Source.faults c.args.plan.now) (g.P.Source.faults c.perform.new.plan)) (Rose (g.K.Sink.faults c.args.output.now) (g.K.Sink.faults c.perform.new.output))
    c.args.input.now c.perform.new.input c.args.plan.now c.perform.new.plan c.args.output.now c.perform.new.output c.args.notes.now c.perform.new.notes (Rose (g.E.Sink.faults c.args.notes.now) (g.E.Sink.faults c.perform.new.notes))
    (command_of (map string_bytes c.args.words.now)) c.perform.result.0 c.perform.ensures.answers

pub returns-clause-part : goal.returns-clause-part
returns-clause-part g c =
    part-told g.S.Source.left g.P.Source.left g.K.Sink.grew g.E.Sink.grew (Rose (g.S.Source.faults c.args.input.now) (g.S.Source.faults c.perform.new.input)) (Rose (g.P.Source.faults c.args.plan.now) (g.P.Source.faults c.perform.new.plan)) (Rose (g.K.Sink.faults c.args.output.now) (g.K.Sink.faults c.perform.new.output))
    c.args.input.now c.perform.new.input c.args.plan.now c.perform.new.plan c.args.output.now c.perform.new.output c.args.notes.now c.perform.new.notes (Rose (g.E.Sink.faults c.args.notes.now) (g.E.Sink.faults c.perform.new.notes))
    (command_of (map string_bytes c.args.words.now)) c.perform.result.0 c.perform.ensures.answers c.one_outcome_law.ensures g.met.K.Sink.part_nothing g.met.K.Sink.part_whole

pub returns-clause-refused_output : goal.returns-clause-refused_output
returns-clause-refused_output g c =
    refused-output-told g.S.Source.left g.P.Source.left g.K.Sink.grew g.E.Sink.grew (Rose (g.S.Source.faults c.args.input.now) (g.S.Source.faults c.perform.new.input)) (Rose (g.P.Source.faults c.args.plan.now) (g.P.Source.faults c.perform.new.plan)) (Rose (g.K.Sink.faults c.args.output.now) (g.K.Sink.faults c.perform.new.output))
    c.args.input.now c.perform.new.input c.args.plan.now c.perform.new.plan c.args.output.now c.perform.new.output c.args.notes.now c.perform.new.notes (Rose (g.E.Sink.faults c.args.notes.now) (g.E.Sink.faults c.perform.new.notes))
    (command_of (map string_bytes c.args.words.now)) c.perform.result.0 c.perform.ensures.answers c.one_outcome_law.ensures

pub returns-clause-refused_source_output : goal.returns-clause-refused_source_output
returns-clause-refused_source_output g c =
    refused_source-output-told g.S.Source.left g.P.Source.left g.K.Sink.grew g.E.Sink.grew (Rose (g.S.Source.faults c.args.input.now) (g.S.Source.faults c.perform.new.input)) (Rose (g.P.Source.faults c.args.plan.now) (g.P.Source.faults c.perform.new.plan)) (Rose (g.K.Sink.faults c.args.output.now) (g.K.Sink.faults c.perform.new.output))
    c.args.input.now c.perform.new.input c.args.plan.now c.perform.new.plan c.args.output.now c.perform.new.output c.args.notes.now c.perform.new.notes (Rose (g.E.Sink.faults c.args.notes.now) (g.E.Sink.faults c.perform.new.notes))
    (command_of (map string_bytes c.args.words.now)) c.perform.result.0 c.perform.ensures.answers

pub returns-clause-output_stays : goal.returns-clause-output_stays
returns-clause-output_stays g c =
    output-told g.S.Source.left g.P.Source.left g.K.Sink.grew g.E.Sink.grew (Rose (g.S.Source.faults c.args.input.now) (g.S.Source.faults c.perform.new.input)) (Rose (g.P.Source.faults c.args.plan.now) (g.P.Source.faults c.perform.new.plan)) (Rose (g.K.Sink.faults c.args.output.now) (g.K.Sink.faults c.perform.new.output))
    c.args.input.now c.perform.new.input c.args.plan.now c.perform.new.plan c.args.output.now c.perform.new.output c.args.notes.now c.perform.new.notes (Rose (g.E.Sink.faults c.args.notes.now) (g.E.Sink.faults c.perform.new.notes))
    (command_of (map string_bytes c.args.words.now)) c.perform.result.0 c.perform.ensures.answers

pub returns-clause-file_part : goal.returns-clause-file_part
returns-clause-file_part g c =
    file-part-told g.S.Source.left g.P.Source.left g.K.Sink.grew g.E.Sink.grew (Rose (g.S.Source.faults c.args.input.now) (g.S.Source.faults c.perform.new.input)) (Rose (g.P.Source.faults c.args.plan.now) (g.P.Source.faults c.perform.new.plan)) (Rose (g.K.Sink.faults c.args.output.now) (g.K.Sink.faults c.perform.new.output))
    c.args.input.now c.perform.new.input c.args.plan.now c.perform.new.plan c.args.output.now c.perform.new.output c.args.notes.now c.perform.new.notes (Rose (g.E.Sink.faults c.args.notes.now) (g.E.Sink.faults c.perform.new.notes))
    (command_of (map string_bytes c.args.words.now)) c.perform.result.0 c.perform.ensures.answers g.met.K.Sink.part_whole

pub returns-clause-complete : goal.returns-clause-complete
returns-clause-complete g c =
    complete-told g.S.Source.left g.P.Source.left g.K.Sink.grew g.E.Sink.grew (Rose (g.S.Source.faults c.args.input.now) (g.S.Source.faults c.perform.new.input)) (Rose (g.P.Source.faults c.args.plan.now) (g.P.Source.faults c.perform.new.plan)) (Rose (g.K.Sink.faults c.args.output.now) (g.K.Sink.faults c.perform.new.output))
    c.args.input.now c.perform.new.input c.args.plan.now c.perform.new.plan c.args.output.now c.perform.new.output c.args.notes.now c.perform.new.notes (Rose (g.E.Sink.faults c.args.notes.now) (g.E.Sink.faults c.perform.new.notes))
    (command_of (map string_bytes c.args.words.now)) c.perform.result.0 c.perform.ensures.answers c.one_outcome_law.ensures

pub returns-clause-refuses : goal.returns-clause-refuses
returns-clause-refuses g c =
    refuses-told g.S.Source.left g.P.Source.left g.K.Sink.grew g.E.Sink.grew (Rose (g.S.Source.faults c.args.input.now) (g.S.Source.faults c.perform.new.input)) (Rose (g.P.Source.faults c.args.plan.now) (g.P.Source.faults c.perform.new.plan)) (Rose (g.K.Sink.faults c.args.output.now) (g.K.Sink.faults c.perform.new.output))
    c.args.input.now c.perform.new.input c.args.plan.now c.perform.new.plan c.args.output.now c.perform.new.output c.args.notes.now c.perform.new.notes (Rose (g.E.Sink.faults c.args.notes.now) (g.E.Sink.faults c.perform.new.notes))
    (command_of (map string_bytes c.args.words.now)) c.perform.result.0 c.perform.ensures.answers c.one_outcome_law.ensures

pub returns-clause-refuses_plan : goal.returns-clause-refuses_plan
returns-clause-refuses_plan g c =
    refuses_plan-told g.S.Source.left g.P.Source.left g.K.Sink.grew g.E.Sink.grew (Rose (g.S.Source.faults c.args.input.now) (g.S.Source.faults c.perform.new.input)) (Rose (g.P.Source.faults c.args.plan.now) (g.P.Source.faults c.perform.new.plan)) (Rose (g.K.Sink.faults c.args.output.now) (g.K.Sink.faults c.perform.new.output))
    c.args.input.now c.perform.new.input c.args.plan.now c.perform.new.plan c.args.output.now c.perform.new.output c.args.notes.now c.perform.new.notes (Rose (g.E.Sink.faults c.args.notes.now) (g.E.Sink.faults c.perform.new.notes))
    (command_of (map string_bytes c.args.words.now)) c.perform.result.0 c.perform.ensures.answers

pub returns-clause-assembles : goal.returns-clause-assembles
returns-clause-assembles g c =
    assembles-told g.S.Source.left g.P.Source.left g.K.Sink.grew g.E.Sink.grew (Rose (g.S.Source.faults c.args.input.now) (g.S.Source.faults c.perform.new.input)) (Rose (g.P.Source.faults c.args.plan.now) (g.P.Source.faults c.perform.new.plan)) (Rose (g.K.Sink.faults c.args.output.now) (g.K.Sink.faults c.perform.new.output))
    c.args.input.now c.perform.new.input c.args.plan.now c.perform.new.plan c.args.output.now c.perform.new.output c.args.notes.now c.perform.new.notes (Rose (g.E.Sink.faults c.args.notes.now) (g.E.Sink.faults c.perform.new.notes))
    (command_of (map string_bytes c.args.words.now)) c.perform.result.0 c.perform.ensures.answers

pub returns-clause-refuses_source : goal.returns-clause-refuses_source
returns-clause-refuses_source g c =
    refuses_source-told g.S.Source.left g.P.Source.left g.K.Sink.grew g.E.Sink.grew (Rose (g.S.Source.faults c.args.input.now) (g.S.Source.faults c.perform.new.input)) (Rose (g.P.Source.faults c.args.plan.now) (g.P.Source.faults c.perform.new.plan)) (Rose (g.K.Sink.faults c.args.output.now) (g.K.Sink.faults c.perform.new.output))
    c.args.input.now c.perform.new.input c.args.plan.now c.perform.new.plan c.args.output.now c.perform.new.output c.args.notes.now c.perform.new.notes (Rose (g.E.Sink.faults c.args.notes.now) (g.E.Sink.faults c.perform.new.notes))
    (command_of (map string_bytes c.args.words.now)) c.perform.result.0 c.perform.ensures.answers

pub returns-clause-plan_kept : goal.returns-clause-plan_kept
returns-clause-plan_kept g c = c.perform.ensures.answers.plan_kept
