-- The flat Unix machine that the plain machine stands for.
use Rattle.unix_model.specs.State.{Unix}
use Rattle.flat_files.specs.FilesView.{files_of}
use Rattle.flat_state.specs.declared.state.State.{State}
use Rattle.flat_state.specs.SlotsView.{slots_of}

abbrev pub unix_of : State → Unix
unix_of state =
    record {
      processes = slots_of state.slots;
      files = files_of state.files;
      next_pid = state.next_pid;
      pages = state.pages;
      quantum = state.quantum;
      position = state.position;
    }
