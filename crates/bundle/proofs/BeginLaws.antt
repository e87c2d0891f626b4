-- The first line, and the places that a reader comes to.
use Rattle.std.proofs.Common.{◌≡◌, ◌≢◌, ℕ, ◌+◌, ◌-◌, List, [], ◌++◌, Option, Some, None, is_some, Ok, Err, Bool, true, false, not, bytes_eq, refl, sym, ap, ◌∙◌, arith}
use Rattle.std.proofs.lemmas.Bool.Decides.{nat_tests}
use Rattle.std.specs.Prelude.{◌==◌}
use Rattle.std.specs.Global.{Vec}
use Rattle.bundle.specs.declared.fault.BundleFault.{BundleFault}
use Rattle.bundle.specs.declared.fault.BundleFault.TheVariants.{At, ReadFault, NoMemory}
use Rattle.bundle.specs.declared.fault.BundleKind.TheVariants.{Syntax}
use Rattle.bundle.specs.Outcomes.{Refused, next_line}
use Rattle.bundle.specs.Contents.{Content, Directory, Bytes, Elf, Made, is_directory}
use Rattle.bundle.specs.Paths.{Known, nothing_known, with_path}
use Rattle.bundle.specs.Views.{IsContent}
use Rattle.bundle.specs.Bundles.{Place, begun, first_line, start}
use Rattle.bundle.specs.Streams.{Stops, TakesLine, FailsLine, IsWrongLine, Begins, FailsToBegin, place_behind}

pub differs : (number : ℕ) → number ≢ 0 → (number == 0) ≡ false
differs number other = grind (arith, nat_tests, other)

-- the first line was read before
pub begun-before : (place : Place) (first : List ℕ) (old : Option (List ℕ)) → place.line ≢ 0 → Begins place first old place first old
unfolding begun
begun-before place first old other = λ bytes told. (bytes, told, rw (differs place.line other) refl)

-- it is read now
first-read : (place : Place) (bytes line rest : List ℕ) → place.line ≡ 0 → next_line bytes ≡ Ok (record { line = line; rest = rest }) → bytes_eq line first_line ≡ true
    → begun place bytes ≡ Ok (record { place = record place { line = 1 }; bytes = rest })
unfolding begun
first-read place bytes line rest none read same = rw none (rw read (rw same refl))

pub begins-now : (place : Place) (first line next : List ℕ) (number : ℕ) (old left : Option (List ℕ)) → place.line ≡ 0 → TakesLine first old line left → true ≡ bytes_eq line first_line
    → number ≡ place.line + 1 → next ≡ [] → Begins place first old (record place { line = number }) next left
begins-now place first line next number old left none takes same stands empty = λ bytes told.
    let l = takes bytes told in
    let one : number ≡ 1 = omega (arith, stands, none) in
    (l.0, l.1, rw (one, empty) (first-read place (first ++ bytes) line l.0 none l.2 (sym same)))

-- it is another
first-other : (place : Place) (bytes line rest : List ℕ) → place.line ≡ 0 → next_line bytes ≡ Ok (record { line = line; rest = rest }) → bytes_eq line first_line ≡ false
    → begun place bytes ≡ Err (Refused Syntax 1)
unfolding begun
first-other place bytes line rest none read other = rw none (rw read (rw other refl))

pub begins-other : (place : Place) (first line : List ℕ) (number : ℕ) (old left : Option (List ℕ)) (fault : BundleFault) → place.line ≡ 0 → TakesLine first old line left → false ≡ bytes_eq line first_line
    → number ≡ place.line + 1 → fault ≡ At Syntax number → FailsToBegin place first old fault
begins-other place first line number old left fault none takes other stands is = λ bytes told.
    let l = takes bytes told in
    let one : number ≡ 1 = omega (arith, stands, none) in
    rw is (rw one (first-other place (first ++ bytes) line l.0 none l.2 (sym other)))

-- it is missing or too long
first-wrong : (place : Place) (bytes : List ℕ) (fault : BundleFault) → place.line ≡ 0 → IsWrongLine (place.line + 1) (next_line bytes) fault → Stops fault (begun place bytes)
unfolding begun
first-wrong place bytes (At kind line) none wrong =
    let one : line ≡ 1 = omega (arith, wrong.1, none) in
    rw none (rw wrong.0 (rw one refl))
first-wrong place bytes ReadFault none wrong = tt
first-wrong place bytes NoMemory none wrong = absurd wrong

pub begins-wrong : (place : Place) (first : List ℕ) (old : Option (List ℕ)) (fault : BundleFault) → place.line ≡ 0 → FailsLine (place.line + 1) first old fault → FailsToBegin place first old fault
begins-wrong place first old fault none fails = λ bytes told. first-wrong place (first ++ bytes) fault none (fails bytes told)

-- ---- places

pub starts : (number room : ℕ) (known : Known) → number ≡ 0 → room ≡ 4096 → known ≡ nothing_known → record { line = number; room = room; known = known } ≡ start
unfolding start
starts number room known unread all none = λ i. record { line = unread i; room = all i; known = none i }

not-true : (test : Bool) → false ≡ not test → test ≡ true
not-true true is = refl
not-true false is = absurd cc

not-false : (test : Bool) → true ≡ not test → test ≡ false
not-false true is = absurd cc
not-false false is = refl

-- an entry without a file is a directory
pub kind-is : (content : Content) (file : Option (Vec ℕ)) (none : Bool) → IsContent content file → is_some file ≡ not none → none ≡ is_directory content
kind-is content None none is told = not-true none told ∙ ap is_directory (sym is)
kind-is Directory (Some file) none is told = absurd is
kind-is (Bytes bytes) (Some file) none is told = not-false none told
kind-is (Elf program) (Some file) none is told = not-false none told

pub stands-behind : (place now : Place) (path : List ℕ) (made : Made) → now.line ≡ place.line + made.lines → now.room + 1 ≡ place.room → now.known ≡ with_path place.known path (is_directory made.content)
    → now ≡ place_behind place path made
stands-behind place now path made line room known =
    let fewer : now.room ≡ place.room - 1 = omega (arith, room) in
    λ i. record { line = line i; room = fewer i; known = known i }
