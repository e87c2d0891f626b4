-- What the code's readings stand for.
use Rattle.std.specs.Prelude.{◌≡◌, ℕ, List, [], ◌∷◌, ◌++◌, Result, Ok, Err, bytes_eq}
use Rattle.std.specs.Borrow.{Bor}
use Rattle.indexmap.specs.IndexMap.{IndexMap, get_by}
use Rattle.rv_decode.specs.Fits.{Fits}
use Rattle.unix_model.specs.declared.instructions.Instr.{Instr}
use Rattle.rv_asm.specs.declared.fault.AsmFault.{AsmFault}
use Rattle.rv_asm.specs.declared.fault.AsmKind.{AsmKind}
use Rattle.rv_asm.specs.declared.instructions.Instructions.{Instructions}
use Rattle.rv_asm.specs.declared.instructions.Instructions.TheVariants.{NoneOf, One, Two}
use Rattle.rv_asm.specs.declared.instructions.Layout.{Layout}
use Rattle.rv_asm.specs.declared.layout.Place.{Place}
use Rattle.rv_asm.specs.declared.scan.Scan.{Scan}
use Rattle.rv_asm.specs.Files.{Tells, SpellAll}
use Rattle.rv_asm.specs.Layout.{Labels}
use Rattle.rv_asm.specs.Programs as model
use Rattle.rv_asm.specs.Programs.{Program, Refusal}

-- the places that a map of names gives
abbrev pub places_of : {S : Type 0} → IndexMap (Bor (List ℕ)) Place S → Labels
places_of map name = get_by (λ key. bytes_eq name key.now) map

abbrev pub scan_view : Scan → model.Scan
scan_view scan = record { position = scan.position; labels = places_of scan.labels.places }

-- What an answer gives of a meaning: the value that it stands for, or the refusal; nothing where host memory ran out.
abbrev pub Gives : {X A : Type 0} → (X → A) → Result X AsmFault → Result A Refusal → Type 0
Gives view (Ok value) meaning = meaning ≡ Ok (view value)
Gives view (Err fault) meaning = Tells fault meaning

-- the instructions of one statement
abbrev pub instructions_view : Instructions → List Instr
instructions_view NoneOf = []
instructions_view (One only) = only ∷ []
instructions_view (Two first second) = first ∷ second ∷ []

abbrev pub AreReady : Instructions → Type 0
AreReady NoneOf = Unit {0}
AreReady (One only) = Fits only
AreReady (Two first second) = Fits first × Fits second

-- What a result is of a meaning without a line: the value, or the kind of the refusal.
abbrev pub result_view : {X A : Type 0} → (X → A) → Result X AsmKind → Result A AsmKind
result_view view (Ok value) = Ok (view value)
result_view view (Err kind) = Err kind

-- how a layout's labels and text stand for those of the definition
abbrev pub layout_view : Layout → model.Layout
layout_view layout = record { labels = places_of layout.labels.places; text_bytes = layout.text_bytes }

-- What was made grew by what a meaning says.
pub record Grows (text_old text_new bytes_old bytes_new : List ℕ) (meaning : Result Program Refusal) : Type 0 where
  pub program : Program
  pub meant : meaning ≡ Ok program
  pub text : List ℕ
  pub spelled : SpellAll program.instructions text
  pub text_grew : text_new ≡ text_old ++ text
  pub bytes_grew : bytes_new ≡ bytes_old ++ program.bytes

-- the answer of making: what was made grew, or the refusal
abbrev pub Makes : {X : Type 0} → Result X AsmFault → (text_old text_new bytes_old bytes_new : List ℕ) → Result Program Refusal → Type 0
Makes (Ok done) text_old text_new bytes_old bytes_new meaning = Grows text_old text_new bytes_old bytes_new meaning
Makes (Err fault) text_old text_new bytes_old bytes_new meaning = Tells fault meaning

-- a text grew by the words of instructions
pub record Spelled (old new : List ℕ) (instructions : List Instr) : Type 0 where
  pub text : List ℕ
  pub grew : new ≡ old ++ text
  pub spelled : SpellAll instructions text

-- the bytes grew by what is meant, or the refusal
abbrev pub PutsData : {X : Type 0} → Result X AsmFault → (old new : List ℕ) → Result (List ℕ) Refusal → Type 0
PutsData (Ok done) old new meaning = (added : List ℕ) × (meaning ≡ Ok added) × (new ≡ old ++ added)
PutsData (Err fault) old new meaning = Tells fault meaning
