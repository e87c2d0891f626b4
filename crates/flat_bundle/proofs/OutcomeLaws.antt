-- A bundle boots in one way.
use Rattle.std.proofs.Common.{◌≡◌, ℕ, List, [], ◌∷◌, Result, Ok, Err, refl, sym, ap, ap₂, subst, ◌∙◌}
use Rattle.rv_asm.specs.Files.{IsFile}
use Rattle.rv_asm.specs.Programs.{Program}
use Rattle.unix_model.specs.Boot as model
use Rattle.unix_model.specs.Boot.{BootEntry, Node, NewDirectory, NewFile, with_boot_entries, with_init}
use Rattle.unix_model.specs.State.{Unix}
use Rattle.bundle.specs.Outcomes.{Outcome, Ends, Refused}
use Rattle.bundle.specs.Contents.{Content, Directory, Bytes, Elf, Puts}
use Rattle.bundle.specs.Bundles.{Bundle, Described, IsStored, entry_then, no_entries}
use Rattle.flat_bundle.specs.Booting as boot
use Rattle.flat_bundle.specs.Booting.{Booted, Boots, OneOutcome, Refusal, started}

-- a program has one file
abbrev OneFile : Type 0
OneFile = (program : Program) (first second : List ℕ) → IsFile program first → IsFile program second → first ≡ second

-- ---- what is stored

one-node : OneFile → (content : Content) (first second : Node) → Puts content first → Puts content second → first ≡ second
one-node one Directory NewDirectory NewDirectory puts again = refl
one-node one Directory NewDirectory (NewFile file) puts again = absurd again
one-node one Directory (NewFile file) second puts again = absurd puts
one-node one (Bytes bytes) NewDirectory second puts again = absurd puts
one-node one (Bytes bytes) (NewFile file) NewDirectory puts again = absurd again
one-node one (Bytes bytes) (NewFile file) (NewFile other) puts again = ap NewFile (sym puts ∙ again)
one-node one (Elf program) NewDirectory second puts again = absurd puts
one-node one (Elf program) (NewFile file) NewDirectory puts again = absurd again
one-node one (Elf program) (NewFile file) (NewFile other) puts again = ap NewFile (one program file other puts again)

entry-of : List ℕ → Node → BootEntry
entry-of path node = record { path = path; node = node }

one-stored : OneFile → (entry other : Described) (first second : BootEntry) → entry ≡ other → IsStored entry first → IsStored other second → first ≡ second
unfolding entry-of
one-stored one entry other first second same is again =
    ap₂ entry-of (is.path ∙ ap (λ (e : Described). e.path) same ∙ sym again.path)
    (one-node one other.content first.node second.node (subst (λ (e : Described). Puts e.content first.node) same is.node) again.node)

-- the step of what is stored is one
one-step : OneFile → (unix now : Unix) (entry other : Described) (first second : BootEntry) → unix ≡ now → entry ≡ other → IsStored entry first → IsStored other second
    → with_boot_entries 0 unix (first ∷ []) ≡ with_boot_entries 0 now (second ∷ [])
one-step one unix now entry other first second here same is again =
    ap₂ (λ (at : Unix) (stored : BootEntry). with_boot_entries 0 at (stored ∷ [])) here (one-stored one entry other first second same is again)

-- ---- bundles

head-or : Described → List Described → Described
head-or none [] = none
head-or none (entry ∷ entries) = entry

tail-of : List Described → List Described
tail-of [] = []
tail-of (entry ∷ entries) = entries

bundle-of : List Described → Outcome → Bundle
bundle-of entries outcome = record { entries = entries; outcome = outcome }

same-entry : (entry other : Described) (bundle rest : Bundle) → entry_then entry bundle ≡ entry_then other rest → entry ≡ other
unfolding head-or
same-entry entry other bundle rest same = ap (λ (b : Bundle). head-or entry b.entries) same

same-rest : (entry other : Described) (bundle rest : Bundle) → entry_then entry bundle ≡ entry_then other rest → bundle ≡ rest
unfolding tail-of bundle-of
same-rest entry other bundle rest same =
    ap₂ bundle-of (ap (λ (b : Bundle). tail-of b.entries) same) (ap (λ (b : Bundle). b.outcome) same)

no-entry : {A : Type 0} (entry : Described) (bundle : Bundle) (outcome : Outcome) → entry_then entry bundle ≡ no_entries outcome → A
no-entry entry bundle outcome same = let entries : entry ∷ bundle.entries ≡ [] = ap (λ (b : Bundle). b.entries) same in cc

-- ---- outcomes

refusal-of : Outcome → Result Booted Refusal
refusal-of (Refused kind line) = Err (boot.At kind line)
refusal-of (Ends rest) = Err (boot.NoRoom 0)

rest-of : Outcome → List ℕ
rest-of (Ends rest) = rest
rest-of (Refused kind line) = []

ok-same : (step other : Result Unix model.BootRefusal) (next now : Unix) → step ≡ other → step ≡ Ok next → other ≡ Ok now → next ≡ now
ok-same step other next now same is again = let both : Ok next ≡ Ok now = sym is ∙ same ∙ again in cc

ok-or-not : {A : Type 0} (step other : Result Unix model.BootRefusal) (next : Unix) (refusal : model.BootRefusal) → step ≡ other → step ≡ Ok next → other ≡ Err refusal → A
ok-or-not step other next refusal same is again = let both : Ok next ≡ Err refusal = sym is ∙ same ∙ again in cc

one : OneFile → {unix now : Unix} {bundle other : Bundle} {first second : Result Booted Refusal} → unix ≡ now → bundle ≡ other
    → Boots unix bundle first → Boots now other second → first ≡ second
unfolding refusal-of rest-of
one file here same (boot.stores {unix} {next = mid} {bundle} {result} entry stored is next rest) (boot.stores {unix = unix2} {next = mid2} {bundle = bundle2} {result = result2} entry2 stored2 is2 next2 rest2) =
    let step = one-step file unix unix2 entry entry2 stored stored2 here (same-entry entry entry2 bundle bundle2 same) is is2 in
    one file (ok-same (with_boot_entries 0 unix (stored ∷ [])) (with_boot_entries 0 unix2 (stored2 ∷ [])) mid mid2 step next next2) (same-rest entry entry2 bundle bundle2 same) rest rest2
one file here same (boot.stores {unix} {next = mid} {bundle} {result} entry stored is next rest) (boot.has_no_room {unix = unix2} {bundle = bundle2} entry2 stored2 is2 none2) =
    let step = one-step file unix unix2 entry entry2 stored stored2 here (same-entry entry entry2 bundle bundle2 same) is is2 in
    ok-or-not (with_boot_entries 0 unix (stored ∷ [])) (with_boot_entries 0 unix2 (stored2 ∷ [])) mid (model.NoRoomFor 0) step next none2
one file here same (boot.stores {unix} {next = mid} {bundle} {result} entry stored is next rest) (boot.refuses kind2 line2) = no-entry entry bundle (Refused kind2 line2) same
one file here same (boot.stores {unix} {next = mid} {bundle} {result} entry stored is next rest) (boot.ends rest2) = no-entry entry bundle (Ends rest2) same
one file here same (boot.has_no_room {unix} {bundle} entry stored is none) (boot.stores {unix = unix2} {next = mid2} {bundle = bundle2} {result = result2} entry2 stored2 is2 next2 rest2) =
    let step = one-step file unix unix2 entry entry2 stored stored2 here (same-entry entry entry2 bundle bundle2 same) is is2 in
    ok-or-not (with_boot_entries 0 unix2 (stored2 ∷ [])) (with_boot_entries 0 unix (stored ∷ [])) mid2 (model.NoRoomFor 0) (sym step) next2 none
one file here same (boot.has_no_room {unix} {bundle} entry stored is none) (boot.has_no_room {unix = unix2} {bundle = bundle2} entry2 stored2 is2 none2) =
    ap (λ (e : Described). Err (boot.NoRoom e.line)) (same-entry entry entry2 bundle bundle2 same)
one file here same (boot.has_no_room {unix} {bundle} entry stored is none) (boot.refuses kind2 line2) = no-entry entry bundle (Refused kind2 line2) same
one file here same (boot.has_no_room {unix} {bundle} entry stored is none) (boot.ends rest2) = no-entry entry bundle (Ends rest2) same
one file here same (boot.refuses kind line) (boot.stores {unix = unix2} {next = mid2} {bundle = bundle2} {result = result2} entry2 stored2 is2 next2 rest2) = no-entry entry2 bundle2 (Refused kind line) (sym same)
one file here same (boot.refuses kind line) (boot.has_no_room {unix = unix2} {bundle = bundle2} entry2 stored2 is2 none2) = no-entry entry2 bundle2 (Refused kind line) (sym same)
one file here same (boot.refuses kind line) (boot.refuses kind2 line2) =
    let outcome : Refused kind line ≡ Refused kind2 line2 = ap (λ (b : Bundle). b.outcome) same in
    ap refusal-of outcome
one file here same (boot.refuses kind line) (boot.ends rest2) = let outcome : Refused kind line ≡ Ends rest2 = ap (λ (b : Bundle). b.outcome) same in cc
one file here same (boot.ends rest) (boot.stores {unix = unix2} {next = mid2} {bundle = bundle2} {result = result2} entry2 stored2 is2 next2 rest2) = no-entry entry2 bundle2 (Ends rest) (sym same)
one file here same (boot.ends rest) (boot.has_no_room {unix = unix2} {bundle = bundle2} entry2 stored2 is2 none2) = no-entry entry2 bundle2 (Ends rest) (sym same)
one file here same (boot.ends rest) (boot.refuses kind2 line2) = let outcome : Ends rest ≡ Refused kind2 line2 = ap (λ (b : Bundle). b.outcome) same in cc
one file here same (boot.ends {unix} rest) (boot.ends {unix = unix2} rest2) =
    let outcome : Ends rest ≡ Ends rest2 = ap (λ (b : Bundle). b.outcome) same in
    ap₂ started (ap rest-of outcome) (ap with_init here)

pub one_outcome : OneFile → OneOutcome
one_outcome file unix bundle first second boots again = one file refl refl boots again
