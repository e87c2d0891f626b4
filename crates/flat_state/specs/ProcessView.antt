-- The process that a process of the plain machine stands for.
use Rattle.unix_model.specs.Process as model
use Rattle.flat_state.specs.declared.process.Phase.{Phase}
use Rattle.flat_state.specs.declared.process.Phase.TheVariants.{Run, Asked, Sent, Done, Gives, Exiting, Zombie}
use Rattle.flat_state.specs.declared.process.Process.{Process}
use Rattle.flat_state.specs.declared.sent_call.SentCall.{SentCall}
use Rattle.flat_memory.specs.MemoryView.{memory_of}

abbrev pub sent_call_of : SentCall → model.SentCall
sent_call_of sent = record { call = sent.call; arguments = sent.arguments; bytes = sent.bytes.items }

abbrev pub phase_of : Phase → model.Phase
phase_of Run = model.Run
phase_of Asked = model.Asked
phase_of (Sent sent) = model.Sent (sent_call_of sent)
phase_of (Done value) = model.answered value
phase_of (Gives answer) = model.answered_with answer.value answer.address answer.bytes.items
phase_of (Exiting word) = model.Exiting word
phase_of (Zombie word) = model.Zombie word

abbrev pub process_of : Process → model.Process
process_of process =
    record {
      pid = process.pid;
      parent = process.parent;
      registers = process.registers;
      memory = memory_of process.memory;
      break_start = process.heap.start;
      break_end = process.heap.end;
      descriptors = process.descriptors;
      phase = phase_of process.phase;
    }
