-- A statement adds no more bytes than its size.
use Rattle.std.proofs.Common.{◌≡◌, ℕ, ◌+◌, ◌*◌, ◌≤◌, Bool, true, false, List, [], ◌∷◌, ◌++◌, length, Option, Some, None, Result, Ok, Err, refl, ap, ◌∙◌, arith, if◌then◌else◌}
use Rattle.std.proofs.lemmas.List.{length-replicate, length-append}
use Rattle.unix_model.specs.declared.instructions.Instr.{Instr}
use Rattle.rv_asm.specs.declared.fault.AsmKind.{AsmKind}
use Rattle.rv_asm.specs.declared.fault.AsmKind.TheVariants.{OutOfRange}
use Rattle.rv_asm.specs.Files.{SpellAll}
use Rattle.rv_asm.specs.declared.layout.Position.{Position}
use Rattle.rv_asm.specs.declared.mnemonics.Part.TheVariants.{Text, Data}
use Rattle.rv_asm.specs.Layout.{size_of, padding, moved}
use Rattle.rv_asm.specs.Programs.{Layout, ◌>>=◌, at_line, data_of, instructions_of, or_refused, target_of}
use Rattle.rv_asm.specs.Statements.{Statement, Nothing, Switch, Single, Double, Jump, Branch, Address, Word, Byte, Ascii, Space, Align, fitting}

-- where two steps give a value, both do
pub bind_ok : {A B E : Type 0} (first : Result A E) (next : A → Result B E) (value : B) → (first >>= next) ≡ Ok value
    → (middle : A) × (first ≡ Ok middle) × (next middle ≡ Ok value)
bind_ok (Ok middle) next value gives = (middle, refl, gives)
bind_ok (Err refusal) next value gives = cc

-- a test that refuses where it holds didn't hold, and one that refuses where it doesn't held
pub passed : {A E : Type 0} (test : Bool) (refusal : E) (answer : Result A E) (value : A) → (if test then Err refusal else answer) ≡ Ok value → (test ≡ false) × (answer ≡ Ok value)
passed true refusal answer value gives = cc
passed false refusal answer value gives = (refl, gives)

pub held : {A E : Type 0} (test : Bool) (answer : Result A E) (refusal : E) (value : A) → (if test then answer else Err refusal) ≡ Ok value → answer ≡ Ok value
held true answer refusal value gives = gives
held false answer refusal value gives = cc

pub ok_is : {A E : Type 0} (value other : A) → ◌≡◌ {A = Result A E} (Ok value) (Ok other) → value ≡ other
ok_is value other gives = grind (arith)

pub some_is : {A : Type 0} (value other : A) → Some value ≡ Some other → value ≡ other
some_is value other gives = grind (arith)

pub given : {A : Type 0} (kind : AsmKind) (maybe : Option A) (value : A) → or_refused kind maybe ≡ Ok value → maybe ≡ Some value
given kind None value gives = cc
given kind (Some other) value gives = grind (arith)

pub fits_itself : {A : Type 0} (fits : Bool) (value other : A) → fitting fits value ≡ Some other → value ≡ other
fits_itself true value other gives = grind (arith)
fits_itself false value other gives = cc

-- four bytes for each instruction
pub spelled_length : (instructions : List Instr) (text : List ℕ) → SpellAll instructions text → length text ≡ 4 * length instructions
spelled_length [] text none = rw none refl
spelled_length (instruction ∷ instructions) text (spelled, spells, rest, is, others) =
    let shorter = spelled_length instructions rest others in
    rw is (omega (arith, shorter))

-- the instructions of a statement have no more bytes than its size
pub text_size : (layout : Layout) (address : ℕ) (statement : Statement) (instructions : List Instr) (bytes : ℕ)
    → instructions_of layout address statement ≡ Ok instructions → 4 * length instructions ≤ size_of statement bytes
unfolding instructions_of size_of
text_size layout address Nothing instructions bytes makes = grind (arith)
text_size layout address (Switch part) instructions bytes makes = grind (arith)
text_size layout address (Single None) instructions bytes makes = cc
text_size layout address (Single (Some only)) instructions bytes makes = grind (arith)
text_size layout address (Double None) instructions bytes makes = cc
text_size layout address (Double (Some pair)) instructions bytes makes = grind (arith)
text_size layout address (Jump rd label) instructions bytes makes =
    let (target, found, reached) = bind_ok (target_of layout label) _ instructions makes in
    let is = fits_itself _ _ _ (given OutOfRange _ instructions reached) in
    grind (arith)
text_size layout address (Branch op rs1 rs2 label) instructions bytes makes =
    let (target, found, reached) = bind_ok (target_of layout label) _ instructions makes in
    let is = fits_itself _ _ _ (given OutOfRange _ instructions reached) in
    grind (arith)
text_size layout address (Address rd label) instructions bytes makes =
    let (target, found, reached) = bind_ok (target_of layout label) _ instructions makes in
    grind (arith)
text_size layout address (Word number) instructions bytes makes = grind (arith)
text_size layout address (Byte number) instructions bytes makes = grind (arith)
text_size layout address (Ascii text) instructions bytes makes = grind (arith)
text_size layout address (Space zeros) instructions bytes makes = grind (arith)
text_size layout address (Align exponent) instructions bytes makes = grind (arith)

-- the bytes of a statement have no more than its size
pub data_size : (bytes : ℕ) (statement : Statement) (added : List ℕ) → data_of bytes statement ≡ Ok added → length added ≤ size_of statement bytes
unfolding data_of size_of
data_size bytes Nothing added makes = grind (arith)
data_size bytes (Switch part) added makes = grind (arith)
data_size bytes (Single instruction) added makes = grind (arith)
data_size bytes (Double instructions) added makes = grind (arith)
data_size bytes (Jump rd label) added makes = grind (arith)
data_size bytes (Branch op rs1 rs2 label) added makes = grind (arith)
data_size bytes (Address rd label) added makes = grind (arith)
data_size bytes (Word None) added makes = cc
data_size bytes (Word (Some number)) added makes = grind (arith)
data_size bytes (Byte None) added makes = cc
data_size bytes (Byte (Some number)) added makes = grind (arith)
data_size bytes (Ascii text) added makes = grind (arith)
data_size bytes (Space None) added makes = cc
data_size bytes (Space (Some count)) added makes = let many = length-replicate {A = ℕ} count 0 in grind (arith)
data_size bytes (Align None) added makes = cc
data_size bytes (Align (Some exponent)) added makes = let many = length-replicate {A = ℕ} (padding exponent bytes) 0 in grind (arith)

-- the part that goes on grows by a statement's size, and the other stays
pub text_moved : (statement : Statement) (position : Position) → position.part ≡ Text
    → ((moved statement position).text_bytes ≡ position.text_bytes + size_of statement position.text_bytes) × ((moved statement position).data_bytes ≡ position.data_bytes)
unfolding moved
text_moved statement position part = rw part (refl, refl)

pub data_moved : (statement : Statement) (position : Position) → position.part ≡ Data
    → ((moved statement position).data_bytes ≡ position.data_bytes + size_of statement position.data_bytes) × ((moved statement position).text_bytes ≡ position.text_bytes)
unfolding moved
data_moved statement position part = rw part (refl, refl)

-- what was made stays inside of the position
pub text_inside : (layout : Layout) (address : ℕ) (statement : Statement) (position : Position) (instructions : List Instr) (old new text : List ℕ)
    → position.part ≡ Text → instructions_of layout address statement ≡ Ok instructions → SpellAll instructions text → new ≡ old ++ text
    → length old ≤ position.text_bytes → length new ≤ (moved statement position).text_bytes
text_inside layout address statement position instructions old new text part makes spelled grew inside =
    let grown = text_moved statement position part in
    let few = text_size layout address statement instructions position.text_bytes makes in
    let long = spelled_length instructions text spelled in
    let whole = ap length grew ∙ length-append old text in
    omega (arith, grown.0, few, long, whole, inside)

pub data_inside : (statement : Statement) (position : Position) (old new added : List ℕ)
    → position.part ≡ Data → data_of position.data_bytes statement ≡ Ok added → new ≡ old ++ added
    → length old ≤ position.data_bytes → length new ≤ (moved statement position).data_bytes
data_inside statement position old new added part makes grew inside =
    let grown = data_moved statement position part in
    let few = data_size position.data_bytes statement added makes in
    let whole = ap length grew ∙ length-append old added in
    omega (arith, grown.0, few, whole, inside)

-- a value at a line is the value
pub at_line_ok : {A : Type 0} (line : ℕ) (answer : Result A AsmKind) (value : A) → at_line line answer ≡ Ok value → answer ≡ Ok value
at_line_ok line (Ok other) value gives = grind (arith)
at_line_ok line (Err kind) value gives = cc
