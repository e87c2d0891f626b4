-- What entries are made of.
use Rattle.std.proofs.Common.{◌≡◌, ℕ, ◌+◌, List, Option, Some, Result, Ok, Err, refl, arith}
use Rattle.std.specs.Prelude.{IfOk, IfErr}
use Rattle.unix_model.specs.Texts.{lines_of}
use Rattle.rv_asm.specs.Files.{IsFile}
use Rattle.rv_asm.specs.Programs.{Program, assembled, scan_lines, start_scan}
use Rattle.bundle.specs.declared.fault.BundleFault.{BundleFault}
use Rattle.bundle.specs.declared.fault.BundleFault.TheVariants.{At, ReadFault, NoMemory}
use Rattle.bundle.specs.declared.fault.BundleKind.{BundleKind}
use Rattle.bundle.specs.Outcomes.{Outcome, Refused}
use Rattle.bundle.specs.Parts.{Part, Whole, Broken}
use Rattle.bundle.specs.Contents.{Content, Bytes, Elf, Holds, Made, file_made, front_refused, source_made, user_made}
use Rattle.bundle.specs.Streams.{Fails, IsRefusedBehind}

-- from one answer to another
pub ok-as : {A E : Type 0} (answer : Result A E) (P Q : A → Type 0) → ((value : A) → P value → Q value) → IfOk answer P → IfOk answer Q
ok-as (Ok value) P Q leads holds = leads value holds
ok-as (Err error) P Q leads holds = tt

pub err-as : {A E : Type 0} (answer : Result A E) (P Q : E → Type 0) → ((error : E) → P error → Q error) → IfErr answer P → IfErr answer Q
err-as (Ok value) P Q leads holds = tt
err-as (Err error) P Q leads holds = leads error holds

-- an entry was made so
abbrev pub MadeSo : Result Made Outcome → (Content → Type 0) → (number now : ℕ) → Option (List ℕ) → Type 0
MadeSo meaning Is number now left = (made : Made) × (meaning ≡ Ok made) × (left ≡ Some made.rest) × Is made.content × (now ≡ number + made.lines)

-- all lines are there
abbrev pub IsWhole : Part → (number count now : ℕ) → List ℕ → Option (List ℕ) → Type 0
IsWhole part number count now given left = (rest : List ℕ) × (left ≡ Some rest) × (part ≡ Whole given rest) × (now ≡ number + count)

-- one is wrong
abbrev pub IsBroken : Part → (number at : ℕ) → BundleKind → List ℕ → Type 0
IsBroken part number at kind given = (before : ℕ) × (part ≡ Broken given kind before) × (at ≡ number + (before + 1))

pub file-whole : (part : Part) (number count now : ℕ) (given : List ℕ) (left : Option (List ℕ)) → IsWhole part number count now given left → MadeSo (file_made number count part) (λ content. Holds content given) number now left
file-whole part number count now given left whole =
    (record { content = Bytes given; lines = count; rest = whole.0 }, rw whole.2 refl, whole.1, refl, whole.3)

pub file-broken : (part : Part) (number count at : ℕ) (kind : BundleKind) (given : List ℕ) → IsBroken part number at kind given → file_made number count part ≡ Err (Refused kind at)
file-broken part number count at kind given broken = rw (broken.1, broken.2) refl

pub source-whole : (part : Part) (number count now : ℕ) (text file : List ℕ) (left : Option (List ℕ)) → IsWhole part number count now text left
    → ((program : Program) × (assembled text ≡ Ok program) × IsFile program file) → MadeSo (source_made number count part) (λ content. Holds content file) number now left
source-whole part number count now text file left whole made =
    (record { content = Elf made.0; lines = count; rest = whole.0 }, rw whole.2 (rw made.1 refl), whole.1, made.2, whole.3)

pub source-refused : (part : Part) (number count now : ℕ) (text : List ℕ) (left : Option (List ℕ)) (fault : BundleFault) → IsWhole part number count now text left
    → IsRefusedBehind number fault (assembled text) → Fails fault (source_made number count part)
source-refused part number count now text left (At kind line) whole refused = rw whole.2 (rw refused.1 (rw (refused.2, refused.3) refl))
source-refused part number count now text left ReadFault whole refused = tt
source-refused part number count now text left NoMemory whole refused = tt

pub source-broken : (part : Part) (number count at : ℕ) (kind : BundleKind) (text : List ℕ) (fault : BundleFault) → IsBroken part number at kind text
    → ((before : ℕ) → at ≡ number + (before + 1) → Fails fault (front_refused number kind before (scan_lines 1 start_scan (lines_of text)))) → Fails fault (source_made number count part)
source-broken part number count at kind text fault broken fails = rw broken.1 (fails broken.0 broken.2)

pub user-whole : (number : ℕ) (source file rest : List ℕ) (left : Option (List ℕ)) → left ≡ Some rest → ((program : Program) × (assembled source ≡ Ok program) × IsFile program file)
    → MadeSo (user_made number rest (assembled source)) (λ content. Holds content file) number number left
user-whole number source file rest left left_is made = (record { content = Elf made.0; lines = 0; rest = rest }, rw made.1 refl, left_is, made.2, omega arith)
