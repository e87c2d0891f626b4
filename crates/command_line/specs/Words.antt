-- The words of the command line: a disk, a command, and its options. Every other list of words is no command.
use Rattle.std.specs.Prelude.{ℕ, ◌-◌, ◌%◌, ◌^◌, Bool, false, not, ◌||◌, List, [], ◌∷◌, Option, Some, None, codes, bytes_eq, ◌==◌, nat_lt, option_map, unwrap_or, if◌then◌else◌}
use Rattle.unix_model.specs.Limits.{least_pages, most_pages, most_quantum}
use Rattle.unix_model.specs.Texts.{number_of}

-- who says whose turns they are
pub data Plan : Type 0 where
  -- nobody: they go round
  Round : Plan
  -- the plan
  Given : Plan

-- what `once` is given: the pages and the quantum of the machine, how many turns it makes at most, and who says whose
-- they are
pub record Setup : Type 0 where
  pub pages : ℕ
  pub quantum : ℕ
  pub turns : ℕ
  pub plan : Plan

-- what `work` is given: the seed of the numbers of its file, and how many lines that has
pub record Load : Type 0 where
  pub seed : ℕ
  pub lines : ℕ

-- a command with its options
pub data Command : Type 0 where
  -- boot the input in memory and run it
  Once : (setup : Setup) → Command
  -- boot a load of its own in memory, run it, and sum up what it put
  Work : (load : Load) → Command
  -- assemble the input, and write the ELF file
  Asm : Command

-- the turns of a run where no option says how many, and the most that one may say
unfoldable pub default_turns : ℕ
default_turns = 100000000

unfoldable pub most_turns : ℕ
most_turns = 1000000000000

-- the pages and the quantum of a machine where no option says how many
unfoldable pub default_pages : ℕ
default_pages = 2048

unfoldable pub default_quantum : ℕ
default_quantum = 100

-- the seed and the lines of a load where no option says them, and the most that one may say
unfoldable pub default_seed : ℕ
default_seed = 1

unfoldable pub default_lines : ℕ
default_lines = 1000

unfoldable pub most_lines : ℕ
most_lines = 100000

-- what follows a prefix
abbrev pub after_prefix : List ℕ → List ℕ → Option (List ℕ)
after_prefix [] text = Some text
after_prefix (first ∷ prefix) [] = None
after_prefix (first ∷ prefix) (byte ∷ text) = if byte == first then after_prefix prefix text else None

-- ---- values of options

-- a number of pages: not below the least, and a multiple of 64
abbrev pub pages_told : Option ℕ → Option ℕ
pages_told None = None
pages_told (Some number) = if nat_lt number least_pages || not (number % 64 == 0) then None else Some number

-- a quantum: not 0
abbrev pub quantum_told : Option ℕ → Option ℕ
quantum_told None = None
quantum_told (Some number) = if number == 0 then None else Some number

-- each is spelled in plain decimal
abbrev pub pages_of : List ℕ → Option ℕ
pages_of text = pages_told (number_of most_pages text)

abbrev pub quantum_of : List ℕ → Option ℕ
quantum_of text = quantum_told (number_of most_quantum text)

abbrev pub turns_of : List ℕ → Option ℕ
turns_of text = number_of most_turns text

abbrev pub plan_of : List ℕ → Option Plan
plan_of text = if bytes_eq text (codes "round") then Some Round else if bytes_eq text (codes "given") then Some Given else None

-- a seed is any word, and there is at least one line
abbrev pub seed_of : List ℕ → Option ℕ
seed_of text = number_of (2 ^ 32 - 1) text

abbrev pub lines_told : Option ℕ → Option ℕ
lines_told None = None
lines_told (Some number) = if number == 0 then None else Some number

abbrev pub lines_of : List ℕ → Option ℕ
lines_of text = lines_told (number_of most_lines text)

-- ---- options

-- the options of a command that were given
pub record Options : Type 0 where
  pub pages : Option ℕ
  pub quantum : Option ℕ
  pub turns : Option ℕ
  pub plan : Option Plan

abbrev pub no_options : Options
no_options = record { pages = None; quantum = None; turns = None; plan = None }

-- a value, where none was given earlier
abbrev pub given_once : {X : Type 0} → Option X → Option X → Option X
given_once None value = value
given_once (Some earlier) value = None

-- the options with one more, each at most once
abbrev pub with_pages : Options → List ℕ → Option Options
with_pages options text = option_map (λ value. record options { pages = Some value }) (given_once options.pages (pages_of text))

abbrev pub with_quantum : Options → List ℕ → Option Options
with_quantum options text = option_map (λ value. record options { quantum = Some value }) (given_once options.quantum (quantum_of text))

abbrev pub with_turns : Options → List ℕ → Option Options
with_turns options text = option_map (λ value. record options { turns = Some value }) (given_once options.turns (turns_of text))

abbrev pub with_plan : Options → List ℕ → Option Options
with_plan options text = option_map (λ value. record options { plan = Some value }) (given_once options.plan (plan_of text))

-- the options with the one whose value follows its name
abbrev pub with_value : Options → (pages quantum turns plan : Option (List ℕ)) → Option Options
with_value options (Some text) quantum turns plan = with_pages options text
with_value options None (Some text) turns plan = with_quantum options text
with_value options None None (Some text) plan = with_turns options text
with_value options None None None (Some text) = with_plan options text
with_value options None None None None = None

-- the options with one word more, where it is an option that wasn't given yet
abbrev pub with_option : Options → List ℕ → Option Options
with_option options word =
    with_value options (after_prefix (codes "--pages=") word) (after_prefix (codes "--quantum=") word) (after_prefix (codes "--turns=") word) (after_prefix (codes "--plan=") word)

-- the options that the words after a command give
abbrev pub options_of : List (List ℕ) → Option Options → Option Options
options_of words None = None
options_of [] (Some options) = Some options
options_of (word ∷ words) (Some options) = options_of words (with_option options word)

-- ---- options of a load

pub record LoadOptions : Type 0 where
  pub seed : Option ℕ
  pub lines : Option ℕ

abbrev pub no_load_options : LoadOptions
no_load_options = record { seed = None; lines = None }

abbrev pub with_seed : LoadOptions → List ℕ → Option LoadOptions
with_seed options text = option_map (λ value. record options { seed = Some value }) (given_once options.seed (seed_of text))

abbrev pub with_lines : LoadOptions → List ℕ → Option LoadOptions
with_lines options text = option_map (λ value. record options { lines = Some value }) (given_once options.lines (lines_of text))

abbrev pub with_load_value : LoadOptions → (seed lines : Option (List ℕ)) → Option LoadOptions
with_load_value options (Some text) lines = with_seed options text
with_load_value options None (Some text) = with_lines options text
with_load_value options None None = None

abbrev pub with_load_option : LoadOptions → List ℕ → Option LoadOptions
with_load_option options word = with_load_value options (after_prefix (codes "--seed=") word) (after_prefix (codes "--lines=") word)

abbrev pub load_options_of : List (List ℕ) → Option LoadOptions → Option LoadOptions
load_options_of words None = None
load_options_of [] (Some options) = Some options
load_options_of (word ∷ words) (Some options) = load_options_of words (with_load_option options word)

-- ---- commands

-- what options say
abbrev pub setup_of : Options → Setup
setup_of options =
    record {
      pages = unwrap_or options.pages default_pages;
      quantum = unwrap_or options.quantum default_quantum;
      turns = unwrap_or options.turns default_turns;
      plan = unwrap_or options.plan Round;
    }

-- `once` with its options
abbrev pub once_with : Option Options → Option Command
once_with None = None
once_with (Some options) = Some (Once (setup_of options))

-- what options say of a load
abbrev pub load_of : LoadOptions → Load
load_of options = record { seed = unwrap_or options.seed default_seed; lines = unwrap_or options.lines default_lines }

-- `work` with its options
abbrev pub work_with : Option LoadOptions → Option Command
work_with None = None
work_with (Some options) = Some (Work (load_of options))

-- the machine and the run of `work`: those of `once` without an option
abbrev pub default_setup : Setup
default_setup = setup_of no_options

-- `asm`, which has no options
abbrev pub asm_with : List (List ℕ) → Option Command
asm_with [] = Some Asm
asm_with (word ∷ words) = None

-- the command with the words after it
abbrev pub command_named : List ℕ → List (List ℕ) → Option Command
command_named word words =
    if bytes_eq word (codes "once") then once_with (options_of words (Some no_options)) else
    if bytes_eq word (codes "work") then work_with (load_options_of words (Some no_load_options)) else
    if bytes_eq word (codes "asm") then asm_with words else
    None

-- a disk's word isn't empty and doesn't begin with `-`
abbrev pub is_disk : List ℕ → Bool
is_disk [] = false
is_disk (byte ∷ bytes) = not (byte == 45)

-- the command that the words give
abbrev pub command_of : List (List ℕ) → Option Command
command_of (disk ∷ word ∷ words) = if is_disk disk then command_named word words else None
command_of [] = None
command_of (disk ∷ []) = None
