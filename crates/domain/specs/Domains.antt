-- The domains of processes, by the numbers of their roots. A domain has three nodes: its root, one with the words of its
-- registers and one with those of its descriptors. A root is told by the Meter key in it.
use Rattle.std.specs.Prelude.{ℕ, ◌+◌, ◌-◌, ◌/◌, ◌%◌, ◌==◌, ◌&&◌, nat_lt, Bool, true, false, Option, Some, None, is_some, List, [], ◌∷◌, ◌++◌, replicate, slice_index, if◌then◌else◌}
use Rattle.kn_base.specs.declared.key.Key.{Key}
use Rattle.kernel_tables.specs.Kernel.{Kernel}
use Rattle.kernel_tables.specs.Rows.{domain_rows, fixed_rows}
use Rattle.unix_model.specs.Tables.{tabulate}
use Rattle.unix_model.specs.declared.calls.Request.{Request}
use Rattle.unix_model.specs.declared.instructions.Regs.{Regs}
use Rattle.domain.specs.declared.types.State.{State}
use Rattle.domain.specs.declared.types.State.TheVariants.{Available, Running, Waiting}
use Rattle.domain.specs.declared.types.Phase.{Phase}
use Rattle.domain.specs.declared.types.Phase.TheVariants.{Run, Asked, Sent, Done, Exiting, Zombie}
use Rattle.domain.specs.declared.types.Heads.{Heads}
use Rattle.domain.specs.declared.types.Answer.{Answer}
use Rattle.domain.specs.Keys.{is_meter, meter_in, root_in, node_in, segment_in, page_in, word_in, count_in, words_in}

-- the states 0 to 2 and the phases 0 to 5 by their numbers, and back
abbrev pub state_by : ℕ → State
state_by number = if number == 0 then Available else if number == 1 then Running else Waiting

abbrev pub state_number : State → ℕ
state_number Available = 0
state_number Running = 1
state_number Waiting = 2

abbrev pub phase_by : ℕ → Phase
phase_by number =
    if number == 0 then Run
    else if number == 1 then Asked
    else if number == 2 then Sent
    else if number == 3 then Done
    else if number == 4 then Exiting
    else Zombie

abbrev pub phase_number : Phase → ℕ
phase_number Run = 0
phase_number Asked = 1
phase_number Sent = 2
phase_number Done = 3
phase_number Exiting = 4
phase_number Zombie = 5

-- the 33 words of a node, three in each key; zeros where there is no node
unfoldable pub node_words : (ℕ → Key) → ℕ → ℕ
node_words row = λ n. if nat_lt n 33 then word_in (row (n / 3)) (n % 3) else 0

abbrev pub words_of : (ℕ → ℕ → Key) → Option ℕ → ℕ → ℕ
words_of rows None = λ n. 0
words_of rows (Some node) = node_words (rows node)

-- A word of the descriptor node is the number of an open description and 1, or 0 where the descriptor is closed.
abbrev pub description_by : ℕ → Option ℕ
description_by word = if word == 0 then None else Some (word - 1)

abbrev pub description_word : Option ℕ → ℕ
description_word None = 0
description_word (Some number) = number + 1

-- registers as 33 words, the last of which is pc, and back
abbrev pub register_words : Regs → List ℕ
register_words regs = regs.x ++ regs.pc ∷ []

unfoldable pub words_by : Regs → ℕ → ℕ
words_by regs = λ n. if nat_lt n 33 then slice_index (register_words regs) n else 0

abbrev pub regs_by : (ℕ → ℕ) → Regs
regs_by words = record { x = tabulate words 32; pc = words 32 }

-- What a domain is. `live` tells the roots of domains from all other nodes, and `whole` those that have both other nodes,
-- as all but zombies do. Which nodes these are tell `regs_node` and `descriptors_node`. `regs` are x0 to x31, and pc as word 32. The heads are the process's own id and its parent's, the
-- break, and the word that a wait answers. `marks` tell whether the process is parked, and on what.
pub record Domain : Type 0 where
  pub live : Bool
  pub whole : Bool
  pub regs_node : Option ℕ
  pub descriptors_node : Option ℕ
  pub slot : ℕ
  pub space : Option ℕ
  pub buffer : Option ℕ
  pub regs : ℕ → ℕ
  pub descriptors : ℕ → Option ℕ
  pub phase : Phase
  pub pid : ℕ
  pub parent : ℕ
  pub break_start : ℕ
  pub break_end : ℕ
  pub word : ℕ
  pub request : Request
  pub answer : Answer
  pub marks : List ℕ

abbrev pub no_domain : Domain
no_domain = record {
  live = false;
  whole = false;
  regs_node = None;
  descriptors_node = None;
  slot = 0;
  space = None;
  buffer = None;
  regs = λ n. 0;
  descriptors = λ n. None;
  phase = Run;
  pid = 0;
  parent = 0;
  break_start = 0;
  break_end = 0;
  word = 0;
  request = record { call = 0; args = replicate 4 0; length = 0 };
  answer = record { value = 0; at = 0; length = 0 };
  marks = replicate 3 0;
}

-- the domain of a root with these keys, whose other two nodes have these words
unfoldable pub full_domain : (ℕ → Key) → (ℕ → ℕ) → (ℕ → ℕ) → Domain
full_domain row regs descriptors = record {
  live = true;
  whole = is_some (node_in (row 3)) && is_some (node_in (row 4));
  regs_node = node_in (row 3);
  descriptors_node = node_in (row 4);
  slot = meter_in (row 2);
  space = segment_in (row 0);
  buffer = page_in (row 5);
  regs = regs;
  descriptors = λ n. description_by (descriptors n);
  phase = phase_by (word_in (row 7) 2);
  pid = word_in (row 7) 0;
  parent = word_in (row 7) 1;
  break_start = word_in (row 8) 0;
  break_end = word_in (row 8) 1;
  word = word_in (row 8) 2;
  request = record {
    call = word_in (row 9) 0;
    args = word_in (row 9) 1 ∷ word_in (row 9) 2 ∷ word_in (row 10) 0 ∷ word_in (row 10) 1 ∷ [];
    length = word_in (row 10) 2;
  };
  answer = record { value = word_in (row 11) 0; at = word_in (row 11) 1; length = word_in (row 11) 2 };
  marks = words_in (row 12);
}

abbrev pub domain_by : (ℕ → Key) → (ℕ → ℕ) → (ℕ → ℕ) → Domain
domain_by row regs descriptors = if is_meter (row 2) then full_domain row regs descriptors else no_domain

-- the domain of each root, in the rows of keys
unfoldable pub domain_at : (ℕ → ℕ → Key) → ℕ → Domain
domain_at rows = λ root. domain_by (rows root) (words_of rows (node_in (rows root 3))) (words_of rows (node_in (rows root 4)))

abbrev pub domains : Kernel → ℕ → Domain
domains kernel = domain_at (domain_rows kernel)

-- the heads of a domain, and the domain with others
abbrev pub heads_in : Domain → Heads
heads_in domain = record { pid = domain.pid; parent = domain.parent; break_start = domain.break_start; break_end = domain.break_end; word = domain.word }

abbrev pub with_heads : Domain → Heads → Domain
with_heads domain heads = record domain {
  pid = heads.pid;
  parent = heads.parent;
  break_start = heads.break_start;
  break_end = heads.break_end;
  word = heads.word;
}

-- The slot table, in the fixed nodes 11 to 14: which root the domain of a slot has.
unfoldable pub roots_by : (ℕ → ℕ → Key) → ℕ → Option ℕ
roots_by fixed = λ slot. if nat_lt slot 64 then root_in (fixed (11 + slot / 16) (slot % 16)) else None

abbrev pub roots : Kernel → ℕ → Option ℕ
roots kernel = roots_by (fixed_rows kernel)

-- Whether a domain may be called, runs or waits, and how many of its calls were answered. Services have it too, whose
-- roots are fixed nodes.
pub record Life : Type 0 where
  pub state : State
  pub count : ℕ

abbrev pub life_in : Key → Life
life_in key = record { state = state_by (word_in key 0); count = count_in key }

unfoldable pub lives_by : (ℕ → ℕ → Key) → (ℕ → ℕ → Key) → ℕ → Life
lives_by rows fixed = λ root. life_in (if is_meter (rows root 2) then rows root 6 else fixed root 6)

abbrev pub lives : Kernel → ℕ → Life
lives kernel = lives_by (domain_rows kernel) (fixed_rows kernel)
