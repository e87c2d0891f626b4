-- The flat memory that a process's memory stands for.
use Rattle.unix_model.specs.Memory as model
use Rattle.flat_memory.specs.declared.memory.Memory.{Memory}
use Rattle.flat_memory.specs.PagesView.{table_of}

abbrev pub memory_of : Memory → model.Memory
memory_of memory = table_of memory.pages
