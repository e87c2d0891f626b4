-- The tests of which the check of a domain is made.
use Rattle.std.specs.Prelude.{ℕ, zero, suc, ◌+◌, ◌%◌, ◌==◌, ◌&&◌, ◌||◌, nat_lt, nat_le, not, Bool, true, false, Option, Some, None, is_some, if◌then◌else◌}
use Rattle.kn_base.specs.declared.key.Key.{Key}
use Rattle.kn_base.specs.declared.key.Key.TheVariants.{Null, Segment, Start, Resume}
use Rattle.unix_model.specs.Limits.{loads_end}
use Rattle.domain.specs.declared.types.Phase.{Phase}
use Rattle.domain.specs.declared.types.Phase.TheVariants.{Run, Asked, Sent, Done, Exiting, Zombie}
use Rattle.domain.specs.Keys.{is_number, is_meter, meter_in, node_in, page_in, word_in, count_in}
use Rattle.domain.specs.Domains.{node_words, phase_by, state_number}
use Rattle.domain.specs.Phases.{state_for}

-- the first so many numbers pass a test
unfoldable pub all_pass : (ℕ → Bool) → ℕ → Bool
all_pass test zero = true
all_pass test (suc n) = all_pass test n && test n

-- ---- phases

abbrev pub is_zombie : Phase → Bool
is_zombie Run = false
is_zombie Asked = false
is_zombie Sent = false
is_zombie Done = false
is_zombie Exiting = false
is_zombie Zombie = true

abbrev pub is_sent : Phase → Bool
is_sent Run = false
is_sent Asked = false
is_sent Sent = true
is_sent Done = false
is_sent Exiting = false
is_sent Zombie = false

abbrev pub is_done : Phase → Bool
is_done Run = false
is_done Asked = false
is_done Sent = false
is_done Done = true
is_done Exiting = false
is_done Zombie = false

abbrev pub has_ended : Phase → Bool
has_ended Run = false
has_ended Asked = false
has_ended Sent = false
has_ended Done = false
has_ended Exiting = true
has_ended Zombie = true

abbrev pub waits : Phase → Bool
waits Run = false
waits Asked = true
waits Sent = true
waits Done = true
waits Exiting = false
waits Zombie = false

-- ---- keys by themselves

abbrev pub is_null : Key → Bool
is_null Null = true
is_null _ = false

abbrev pub is_space : Key → Bool
is_space (Segment node height) = height == 5
is_space _ = false

abbrev pub is_keeper : ℕ → Key → Bool
is_keeper slot (Start root byte) = root.0 == 1 && byte == slot
is_keeper slot _ = false

abbrev pub is_meter_of : ℕ → Key → Bool
is_meter_of slot key = is_meter key && meter_in key == slot

abbrev pub is_resume : ℕ → ℕ → Key → Bool
is_resume root count (Resume node calls) = node.0 == root && calls == count
is_resume root count _ = false

abbrev pub are_zero : Key → Bool
are_zero key = word_in key 0 == 0 && (word_in key 1 == 0 && word_in key 2 == 0)

-- ---- keys of a root in a phase

abbrev pub fits_space : Phase → Key → Bool
fits_space phase key = if is_zombie phase then is_null key else is_space key

abbrev pub fits_life : Phase → Key → Bool
fits_life phase key = is_number key && word_in key 0 == state_number (state_for phase)

abbrev pub fits_ids : Key → Bool
fits_ids key = is_number key && nat_lt (word_in key 2) 6

abbrev pub in_bounds : ℕ → ℕ → Bool
in_bounds first last = first % 4096 == 0 && (nat_le first last && nat_le last loads_end)

abbrev pub fits_break : Phase → Key → Bool
fits_break phase key = is_number key && (in_bounds (word_in key 0) (word_in key 1) && (has_ended phase || word_in key 2 == 0))

abbrev pub fits_call : Phase → Key → Bool
fits_call phase key = is_number key && (if is_sent phase then nat_lt (word_in key 0) 256 else are_zero key)

abbrev pub fits_rest : Phase → Key → Bool
fits_rest phase key = is_number key && (if is_sent phase then nat_le (word_in key 2) 4096 else are_zero key)

abbrev pub fits_answer : Phase → Key → Bool
fits_answer phase key = is_number key && (if is_done phase then nat_le (word_in key 2) 4096 else are_zero key)

abbrev pub fits_marks : Key → Bool
fits_marks key = is_number key && (nat_lt (word_in key 0) 2 && word_in key 2 == 0)

-- a buffer, with how many bytes a request and an answer bring
abbrev pub is_held : Key → Bool
is_held key = is_some (page_in key)

abbrev pub needs_buffer : Phase → ℕ → ℕ → Bool
needs_buffer phase sent answered = (is_sent phase && not (sent == 0)) || (is_done phase && not (answered == 0))

abbrev pub fits_buffer : Phase → ℕ → ℕ → Key → Bool
fits_buffer phase sent answered key = if needs_buffer phase sent answered then is_held key else (is_null key || (is_done phase && is_held key))

abbrev pub fits_room : Phase → ℕ → ℕ → Key → Bool
fits_room phase root count key = if waits phase then is_resume root count key else is_null key

-- ---- nodes of words

abbrev pub has_words : (ℕ → Key) → Bool
has_words row = all_pass (λ place. is_number (row place)) 11 && all_pass (λ n. is_null (row (11 + n))) 5

abbrev pub has_registers : (ℕ → Key) → Bool
has_registers row = has_words row && (node_words row 0 == 0 && node_words row 32 % 4 == 0)

abbrev pub has_descriptors : (ℕ → Key) → Bool
has_descriptors row = has_words row && (all_pass (λ n. nat_le (node_words row n) 2048) 32 && node_words row 32 == 0)

-- a place of a root that names a node which passes a test, or is Null in a zombie
abbrev pub fits_node : (ℕ → Bool) → Phase → Key → Option ℕ → Bool
fits_node test phase key None = is_zombie phase && is_null key
fits_node test phase key (Some node) = not (is_zombie phase) && test node

-- ---- a root

abbrev pub phase_of_row : (ℕ → Key) → Phase
phase_of_row row = phase_by (word_in (row 7) 2)

abbrev pub has_places : ℕ → (ℕ → Key) → Bool
has_places slot row = is_meter_of slot (row 2) && (is_keeper slot (row 1) && all_pass (λ n. is_null (row (13 + n))) 3)

abbrev pub has_numbers : Phase → (ℕ → Key) → Bool
has_numbers phase row =
    (fits_life phase (row 6) && (fits_ids (row 7) && fits_break phase (row 8)))
    && ((fits_call phase (row 9) && fits_rest phase (row 10)) && (fits_answer phase (row 11) && fits_marks (row 12)))

abbrev pub has_objects : Phase → (ℕ → Key) → Bool
has_objects phase row = fits_space phase (row 0) && fits_buffer phase (word_in (row 10) 2) (word_in (row 11) 2) (row 5)

abbrev pub has_nodes : Phase → (ℕ → ℕ → Key) → ℕ → Bool
has_nodes phase rows root =
    fits_node (λ node. has_registers (rows node)) phase (rows root 3) (node_in (rows root 3))
    && fits_node (λ node. has_descriptors (rows node)) phase (rows root 4) (node_in (rows root 4))

abbrev pub is_domain_of : (ℕ → ℕ → Key) → Key → ℕ → ℕ → Bool
is_domain_of rows room slot root =
    has_places slot (rows root)
    && (has_numbers (phase_of_row (rows root)) (rows root)
    && (has_objects (phase_of_row (rows root)) (rows root)
    && (has_nodes (phase_of_row (rows root)) rows root && fits_room (phase_of_row (rows root)) root (count_in (rows root 6)) room)))
