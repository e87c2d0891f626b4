-- Bundles: texts of files from which a machine boots, our own. The first line is `keynix bundle 1`; then come entries, and
-- then the line `end`, behind which the bytes are the machine's input.
use Rattle.std.specs.Prelude.{◌≡◌, ℕ, zero, suc, ◌+◌, ◌-◌, List, [], ◌∷◌, Option, Some, None, codes, bytes_eq, Result, Ok, Err, ◌==◌, if◌then◌else◌}
use Rattle.unix_model.specs.Boot.{BootEntry}
use Rattle.bundle.specs.declared.fault.BundleKind.{BundleKind}
use Rattle.bundle.specs.declared.fault.BundleKind.TheVariants.{Syntax, TooLong, NoInit}
use Rattle.bundle.specs.Outcomes.{Outcome, Ends, Refused, NextLine, ◌>>=◌, at_line, next_line}
use Rattle.bundle.specs.Paths.{Known, allowed, has_init, nothing_known, with_path}
use Rattle.bundle.specs.EntryLines.{Said, said}
use Rattle.bundle.specs.Contents.{Content, Made, Puts, is_directory, made_of}

-- an entry, and the number of its line
pub record Described : Type 0 where
  pub path : List ℕ
  pub content : Content
  pub line : ℕ

-- what is known in the middle of a bundle: how many lines were read, how many more entries there may be, and the paths
pub record Place : Type 0 where
  pub line : ℕ
  pub room : ℕ
  pub known : Known

abbrev pub most_entries : ℕ
most_entries = 4096

unfoldable pub start : Place
start = record { line = 0; room = most_entries; known = nothing_known }

-- the entries of a bundle before its end, or before its refusal, and which of the two comes
pub record Bundle : Type 0 where
  pub entries : List Described
  pub outcome : Outcome

-- ---- one entry

-- a place, and the bytes that follow it
pub record Stand : Type 0 where
  pub place : Place
  pub bytes : List ℕ

abbrev pub first_line : List ℕ
first_line = codes "keynix bundle 1"

-- the first line is what it has to be
abbrev pub if_first : Place → NextLine → Result Stand Outcome
if_first place next =
    if bytes_eq next.line first_line then Ok (record { place = record place { line = 1 }; bytes = next.rest }) else
    Err (Refused Syntax 1)

-- behind the first line; where it was read already, nothing more is read
unfoldable pub begun : Place → List ℕ → Result Stand Outcome
begun place bytes =
    if place.line == 0 then (do
      next ← at_line 1 (next_line bytes)
      if_first place next)
    else Ok (record { place = place; bytes = bytes })

abbrev pub or_syntax : Option Said → Result Said BundleKind
or_syntax None = Err Syntax
or_syntax (Some told) = Ok told

-- the line `end`: a file `/init` has to be there
abbrev pub end_at : Known → ℕ → List ℕ → Outcome
end_at known number rest = if has_init known then Ends rest else Refused NoInit number

-- what the line of this number says, where there may be so many more entries
unfoldable pub line_said : (room : ℕ) → Known → (number : ℕ) → NextLine → Result Said Outcome
line_said room known number next =
    if bytes_eq next.line (codes "end") then Err (end_at known number next.rest) else
    if room == 0 then Err (Refused TooLong number) else
    at_line number (or_syntax (said next.line))

-- an entry line, and the bytes behind it
pub record Named : Type 0 where
  pub said : Said
  pub rest : List ℕ

-- and its path may be taken
unfoldable pub accepted : (room : ℕ) → Known → (number : ℕ) → NextLine → Result Named Outcome
accepted room known number next = do
  told ← line_said room known number next
  fine ← at_line number (allowed known told.path)
  Ok (record { said = told; rest = next.rest })

-- the entry line at the front of bytes
unfoldable pub named : Stand → Result Named Outcome
named stand = do
  next ← at_line (stand.place.line + 1) (next_line stand.bytes)
  accepted stand.place.room stand.place.known (stand.place.line + 1) next

-- an entry, the place behind it, and the bytes that follow
pub record Given : Type 0 where
  pub entry : Described
  pub place : Place
  pub rest : List ℕ

abbrev pub given_by : Place → List ℕ → Made → Given
given_by place path made =
    record {
      entry = record { path = path; content = made.content; line = place.line + 1 };
      place = record {
        line = place.line + 1 + made.lines;
        room = place.room - 1;
        known = with_path place.known path (is_directory made.content);
      };
      rest = made.rest;
    }

unfoldable pub entry_at : Stand → Result Given Outcome
entry_at stand = do
  entry ← named stand
  made ← made_of (stand.place.line + 1) entry.said.what entry.rest
  Ok (given_by stand.place entry.said.path made)

-- the next entry, or how the bundle ends
unfoldable pub next_entry : Place → List ℕ → Result Given Outcome
next_entry place bytes = do
  stand ← begun place bytes
  entry_at stand

-- ---- the whole

abbrev pub no_entries : Outcome → Bundle
no_entries outcome = record { entries = []; outcome = outcome }

abbrev pub entry_then : Described → Bundle → Bundle
entry_then entry bundle = record { entries = entry ∷ bundle.entries; outcome = bundle.outcome }

abbrev pub and_then : (Place → List ℕ → Bundle) → Result Given Outcome → Bundle
and_then more (Ok given) = entry_then given.entry (more given.place given.rest)
and_then more (Err outcome) = no_entries outcome

-- At most so many entries and the end. With one more than there is room for, it is always the end that comes last.
unfoldable pub entries_in : ℕ → Place → List ℕ → Bundle
entries_in zero place bytes = no_entries (Refused TooLong (place.line + 1))
entries_in (suc most) place bytes = and_then (entries_in most) (next_entry place bytes)

-- what bytes give from a place on
unfoldable pub bundle_from : Place → List ℕ → Bundle
bundle_from place bytes = entries_in (suc place.room) place bytes

-- what a text gives
abbrev pub bundle_of : List ℕ → Bundle
bundle_of text = bundle_from start text

-- an entry is stored as this entry of a boot
pub record IsStored (entry : Described) (stored : BootEntry) : Type 0 where
  pub path : stored.path ≡ entry.path
  pub node : Puts entry.content stored.node
