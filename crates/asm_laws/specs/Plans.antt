-- The plan by which the file of a program is loaded, told by the sizes of its two parts alone (System V gABI, program header).
use Rattle.std.specs.Prelude.{ℕ, ◌+◌, true, false, List, [], ◌∷◌, ◌==◌, if◌then◌else◌}
use Rattle.unix_model.specs.declared.elf.Load.{Load}
use Rattle.unix_model.specs.Elf.{LoadPlan, break_start_of}
use Rattle.rv_asm.specs.Layout.{text_start, data_start}

-- the text goes to the address at which text begins, and may not be written; it stands in the file behind the head, which has
-- 116 bytes
unfoldable pub text_load : ℕ → Load
text_load text_bytes = record {
  at = text_start;
  offset = 116;
  file_bytes = text_bytes;
  memory_bytes = text_bytes;
  writable = false;
}

-- the data go to the next page behind the text and may be written; they stand in the file behind the text
unfoldable pub data_load : ℕ → ℕ → Load
data_load text_bytes data_bytes = record {
  at = data_start text_bytes;
  offset = 116 + text_bytes;
  file_bytes = data_bytes;
  memory_bytes = data_bytes;
  writable = true;
}

-- the loads of both parts, where data without a byte have none
unfoldable pub loads_of_parts : ℕ → ℕ → List Load
loads_of_parts text_bytes data_bytes = text_load text_bytes ∷ (if data_bytes == 0 then [] else data_load text_bytes data_bytes ∷ [])

-- The plan of parts that have so many bytes: the program begins with its first instruction, and the heap at the first page
-- boundary behind its loads.
unfoldable pub plan_of_parts : ℕ → ℕ → LoadPlan
plan_of_parts text_bytes data_bytes = record {
  entry = text_start;
  loads = loads_of_parts text_bytes data_bytes;
  break_start = break_start_of (loads_of_parts text_bytes data_bytes);
}
