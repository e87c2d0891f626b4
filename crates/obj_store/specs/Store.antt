-- The store in memory as a record.
use Rattle.obj_store.specs.declared.ram.RamStore.{RamStore}
use Rattle.kn_base.specs.Memory.{Memory, memory_of}
use Rattle.obj_store.specs.Ram.{Ram}

abbrev pub ram_of : RamStore → Ram
ram_of store = record { pages = store.pages; blocks = store.blocks.items; dirty = store.dirty.items }

-- its pages and keys
abbrev pub ram_memory : RamStore → Memory
ram_memory store = memory_of store.pages store.blocks.items
