-- What reading a bundle takes from a source, and what it leaves.
use Rattle.std.specs.Prelude.{◌≡◌, ℕ, ◌+◌, ◌-◌, List, ◌++◌, Option, Some, None, Result, Ok, Err}
use Rattle.bundle.specs.declared.entry.Entry.{Entry}
use Rattle.bundle.specs.declared.fault.BundleFault.{BundleFault}
use Rattle.bundle.specs.declared.fault.BundleFault.TheVariants.{At, ReadFault, NoMemory}
use Rattle.bundle.specs.declared.fault.BundleKind.{BundleKind}
use Rattle.bundle.specs.declared.parts.PartEnd.{PartEnd}
use Rattle.bundle.specs.declared.parts.PartEnd.TheVariants as code
use Rattle.bundle.specs.declared.said.Form.{Form}
use Rattle.bundle.specs.declared.fault.BundleKind.TheVariants.{BadAsm}
use Rattle.rv_asm.specs.Programs.{Refusal}
use Rattle.bundle.specs.Outcomes.{Outcome, Ends, Refused, NextLine, ◌>>=◌, next_line}
use Rattle.bundle.specs.Parts.{Whole, Broken, part_of}
use Rattle.bundle.specs.Paths.{Known, with_path}
use Rattle.bundle.specs.Contents.{Content, Made, made_of, is_directory}
use Rattle.bundle.specs.Bundles.{Described, Place, Named, accepted, begun, named, bundle_from, entry_then, no_entries}
use Rattle.bundle.specs.EntryLines.{Said}
use Rattle.bundle.specs.Views.{IsEntry}

-- ---- an answer of `next_entry`

-- An entry comes next in a bundle: these bytes give it and then what the bytes that are left give from the new place on.
pub record ComesNext (place : Place) (bytes : List ℕ) (entry : Entry) (now : Place) (left : Option (List ℕ)) : Type 0 where
  pub described : Described
  pub rest : List ℕ
  pub is_entry : IsEntry described entry
  pub left_is : left ≡ Some rest
  pub bundle : bundle_from place bytes ≡ entry_then described (bundle_from now rest)

-- the line `end` came next, and what is left is what follows it
pub record HasEnded (place : Place) (bytes : List ℕ) (left : Option (List ℕ)) : Type 0 where
  pub rest : List ℕ
  pub left_is : left ≡ Some rest
  pub bundle : bundle_from place bytes ≡ no_entries (Ends rest)

abbrev pub IsNext : Place → List ℕ → Option Entry → Place → Option (List ℕ) → Type 0
IsNext place bytes (Some entry) now left = ComesNext place bytes entry now left
IsNext place bytes None now left = HasEnded place bytes left

-- the next line is an entry's, and its path may be taken
abbrev pub HasEntryLine : Place → List ℕ → Type 0
HasEntryLine place bytes = (entry : Named) × ((begun place bytes >>= named) ≡ Ok entry)

-- Why there is no next entry. Host memory is asked for only once an entry's line was accepted.
abbrev pub IsRefused : Place → List ℕ → BundleFault → Type 0
IsRefused place bytes (At kind line) = bundle_from place bytes ≡ no_entries (Refused kind line)
IsRefused place bytes ReadFault = Unit {0}
IsRefused place bytes NoMemory = HasEntryLine place bytes

-- where the source's bytes are told, the next entry that they give behind a reader's first byte
abbrev pub TakesEntry : Place → List ℕ → Option (List ℕ) → Option Entry → Place → Option (List ℕ) → Type 0
TakesEntry place first old entry now left = (bytes : List ℕ) → old ≡ Some bytes → IsNext place (first ++ bytes) entry now left

abbrev pub FailsEntry : Place → List ℕ → Option (List ℕ) → BundleFault → Type 0
FailsEntry place first old fault = (bytes : List ℕ) → old ≡ Some bytes → IsRefused place (first ++ bytes) fault

-- ---- the steps

-- a fault tells of a meaning that it is refused so; nothing where a call failed, and host memory isn't asked for
abbrev pub Stops : {A : Type 0} → BundleFault → Result A Outcome → Type 0
Stops (At kind line) meaning = meaning ≡ Err (Refused kind line)
Stops ReadFault meaning = Unit {0}
Stops NoMemory meaning = ⊥

-- the same where host memory is asked for
abbrev pub Fails : {A : Type 0} → BundleFault → Result A Outcome → Type 0
Fails (At kind line) meaning = meaning ≡ Err (Refused kind line)
Fails ReadFault meaning = Unit {0}
Fails NoMemory meaning = Unit {0}

-- the next line was read
abbrev pub TakesLine : List ℕ → Option (List ℕ) → List ℕ → Option (List ℕ) → Type 0
TakesLine first old line left =
    (bytes : List ℕ) → old ≡ Some bytes → (rest : List ℕ) × (left ≡ Some rest) × (next_line (first ++ bytes) ≡ Ok (record { line = line; rest = rest }))

-- a line of this number is missing or too long
abbrev pub IsWrongLine : ℕ → Result NextLine BundleKind → BundleFault → Type 0
IsWrongLine number next (At kind line) = (next ≡ Err kind) × (line ≡ number)
IsWrongLine number next ReadFault = Unit {0}
IsWrongLine number next NoMemory = ⊥

abbrev pub FailsLine : ℕ → List ℕ → Option (List ℕ) → BundleFault → Type 0
FailsLine number first old fault = (bytes : List ℕ) → old ≡ Some bytes → IsWrongLine number (next_line (first ++ bytes)) fault

-- the first line stands behind
abbrev pub Begins : Place → List ℕ → Option (List ℕ) → Place → List ℕ → Option (List ℕ) → Type 0
Begins place first old now next left =
    (bytes : List ℕ) → old ≡ Some bytes → (rest : List ℕ) × (left ≡ Some rest) × (begun place (first ++ bytes) ≡ Ok (record { place = now; bytes = next ++ rest }))

abbrev pub FailsToBegin : Place → List ℕ → Option (List ℕ) → BundleFault → Type 0
FailsToBegin place first old fault = (bytes : List ℕ) → old ≡ Some bytes → Stops fault (begun place (first ++ bytes))

-- what a line says, whatever follows it: an entry, or the end
abbrev pub Says : ℕ → Known → ℕ → List ℕ → Option Said → Type 0
Says room known number line (Some said) =
    (rest : List ℕ) → accepted room known number (record { line = line; rest = rest }) ≡ Ok (record { said = said; rest = rest })
Says room known number line None = (rest : List ℕ) → accepted room known number (record { line = line; rest = rest }) ≡ Err (Ends rest)

-- a fault tells of a line that it is refused so, or that an entry's line was accepted and host memory ran out
abbrev pub IsNotTaken : BundleFault → Result Named Outcome → Type 0
IsNotTaken (At kind line) meaning = meaning ≡ Err (Refused kind line)
IsNotTaken ReadFault meaning = ⊥
IsNotTaken NoMemory meaning = (entry : Named) × (meaning ≡ Ok entry)

abbrev pub SaysNothing : ℕ → Known → ℕ → List ℕ → BundleFault → Type 0
SaysNothing room known number line fault = (rest : List ℕ) → IsNotTaken fault (accepted room known number (record { line = line; rest = rest }))

-- what so many lines give: all of them, or those before a wrong one
abbrev pub IsPart : Form → ℕ → List ℕ → PartEnd → (number now : ℕ) → List ℕ → Option (List ℕ) → Type 0
IsPart form count bytes code.Whole number now given left =
    (rest : List ℕ) × (left ≡ Some rest) × (part_of form count bytes ≡ Whole given rest) × (now ≡ number + count)
IsPart form count bytes (code.Broken kind line) number now given left =
    (before : ℕ) × (part_of form count bytes ≡ Broken given kind before) × (line ≡ number + (before + 1))

abbrev pub TakesPart : Form → ℕ → Option (List ℕ) → PartEnd → (number now : ℕ) → List ℕ → Option (List ℕ) → Type 0
TakesPart form count old end number now given left = (bytes : List ℕ) → old ≡ Some bytes → IsPart form count bytes end number now given left

-- what an entry is made of, by its meaning over the bytes behind its line
abbrev pub TakesMade : (List ℕ → Result Made Outcome) → Option (List ℕ) → (Content → Type 0) → (number now : ℕ) → Option (List ℕ) → Type 0
TakesMade meaning old Is number now left =
    (bytes : List ℕ) → old ≡ Some bytes → (made : Made) × (meaning bytes ≡ Ok made) × (left ≡ Some made.rest) × Is made.content × (now ≡ number + made.lines)

abbrev pub FailsToMake : (List ℕ → Result Made Outcome) → Option (List ℕ) → BundleFault → Type 0
FailsToMake meaning old fault = (bytes : List ℕ) → old ≡ Some bytes → Fails fault (meaning bytes)

-- a source is refused at a line behind the entry line of this number
abbrev pub IsRefusedBehind : {A : Type 0} → ℕ → BundleFault → Result A Refusal → Type 0
IsRefusedBehind number (At kind line) meaning = (refusal : Refusal) × (meaning ≡ Err refusal) × (kind ≡ BadAsm) × (line ≡ number + refusal.line)
IsRefusedBehind number ReadFault meaning = ⊥
IsRefusedBehind number NoMemory meaning = Unit {0}

-- the place behind an entry whose line is the last that was read
abbrev pub place_behind : Place → List ℕ → Made → Place
place_behind place path made =
    record { line = place.line + made.lines; room = place.room - 1; known = with_path place.known path (is_directory made.content) }

-- an entry was made, and its path is known
abbrev pub TakesGiven : Place → Said → Option (List ℕ) → Entry → Place → Option (List ℕ) → Type 0
TakesGiven place said old entry now left =
    (bytes : List ℕ) → old ≡ Some bytes → (made : Made) × (made_of place.line said.what bytes ≡ Ok made) × (left ≡ Some made.rest)
    × IsEntry (record { path = said.path; content = made.content; line = place.line }) entry × (now ≡ place_behind place said.path made)

-- ---- counts

-- unless a call failed, the source's count of faults is the same
abbrev pub CountsSame : {A : Type 0} → Type 0 → Result A BundleFault → Type 0
CountsSame same (Ok answer) = same
CountsSame same (Err (At kind line)) = same
CountsSame same (Err NoMemory) = same
CountsSame same (Err ReadFault) = Unit {0}
