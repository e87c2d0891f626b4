-- What the code's values stand for.
use Rattle.std.specs.Prelude.{◌≡◌, ℕ, ◌+◌, ◌*◌, ◌≤◌, ◌++◌, Bool, true, false, List, Option, Some, None}
use Rattle.std.specs.Borrow.{Bor}
use Rattle.std.specs.Global.{Vec}
use Rattle.bundle.specs.Lines as lines
use Rattle.bundle.specs.declared.reader.BundleReader.{BundleReader}
use Rattle.bundle.specs.declared.entry.Entry.{Entry}
use Rattle.bundle.specs.declared.entry.Entry.TheVariants.{Dir, File}
use Rattle.bundle.specs.declared.said.Form.{Form}
use Rattle.bundle.specs.declared.said.Named.{Named}
use Rattle.bundle.specs.declared.said.Said.{Said}
use Rattle.bundle.specs.declared.said.What.{What}
use Rattle.bundle.specs.declared.said.What.TheVariants as code
use Rattle.bundle.specs.EntryLines as model
use Rattle.bundle.specs.Keys.{known_of}
use Rattle.bundle.specs.Parts.{line_bytes}
use Rattle.bundle.specs.Bundles.{Described, Place}
use Rattle.bundle.specs.Contents.{Content, Directory, Holds}

-- the two parts of a text at a space
abbrev pub halves_view : Bor (List ℕ) × Bor (List ℕ) → model.Halves
halves_view halves = record { front = halves.0.now; behind = halves.1.now }

abbrev pub what_view : What → model.What
what_view code.Directory = model.Directory
what_view (code.Part form lines) = model.Part form lines
what_view (code.Program source) = model.Program source.now

abbrev pub said_view : Said → model.Said
said_view said = record { path = said.path.now; what = what_view said.what }

abbrev pub named_view : Named → model.Said
named_view named = record { path = named.path; what = what_view named.what }

-- at most 100,000 lines follow
abbrev pub AreFew : What → Type 0
AreFew code.Directory = Unit {0}
AreFew (code.Part form lines) = lines ≤ 100000
AreFew (code.Program source) = Unit {0}

-- where a reader stands in its bundle
abbrev pub place_of : BundleReader → Place
place_of reader = record { line = lines.lines_begun reader.lines; room = reader.room; known = known_of reader.known.paths }

-- the byte that a reader takes before those of its source
abbrev pub pending : BundleReader → List ℕ
pending reader = lines.pending reader.lines

-- A reader has answered neither the end nor a fault. So its next line has a number: an entry has at most 100,001 lines.
pub record IsOpen (reader : BundleReader) : Type 0 where
  pub lines : lines.lines_begun reader.lines + 100001 * reader.room ≤ 409604097
  pub room : reader.room ≤ 4096

-- an answered entry is this one
abbrev pub IsEntry : Described → Entry → Type 0
IsEntry described (Dir path line) = described ≡ record { path = path; content = Directory; line = line }
IsEntry described (File path bytes line) = (described.path ≡ path) × Holds described.content bytes × (described.line ≡ line)

-- a content is a file's bytes, or a directory's
abbrev pub IsContent : Content → Option (Vec ℕ) → Type 0
IsContent content None = content ≡ Directory
IsContent content (Some file) = Holds content file.items

-- what a line gives was added to bytes; `false` where it gives nothing
abbrev pub AddsIf : Option (List ℕ) → List ℕ → Bool → List ℕ → Type 0
AddsIf None old told new = (told ≡ false) × (new ≡ old)
AddsIf (Some more) old told new = (told ≡ true) × (new ≡ old ++ more)

abbrev pub Adds : Form → List ℕ → List ℕ → Bool → List ℕ → Type 0
Adds form line old told new = AddsIf (line_bytes form line) old told new
