-- The paths that a map gives, and what comes of a new one.
use Rattle.std.specs.Prelude.{◌≡◌, Bool, true, Option, Some, None, Result, Ok, Err, is_some, bytes_eq}
use Rattle.indexmap.specs.IndexMap.{IndexMap, get_by}
use Rattle.bundle.specs.declared.fault.BundleKind.{BundleKind}
use Rattle.bundle.specs.declared.fault.BundleKind.TheVariants.{Twice}
use Rattle.bundle.specs.declared.key.Key.{Key}
use Rattle.bundle.specs.declared.fault.NotAdded.{NotAdded}
use Rattle.bundle.specs.declared.fault.NotAdded.TheVariants as code
use Rattle.bundle.specs.Paths.{Known}

-- the paths of a map, and for each whether it is a directory's
abbrev pub known_of : {S : Type 0} → IndexMap Key Bool S → Known
known_of map path = get_by (λ key. bytes_eq path key.bytes.items) map

-- where it is said to be there, a path is that of a directory
abbrev pub IsRemembered : {S : Type 0} → IndexMap Key Bool S → Key → Bool → Type 0
IsRemembered map last is_there = is_there ≡ true → known_of map last.bytes.items ≡ Some true

-- a path was added exactly where it may be taken, unless host memory ran out; that is asked for only then
abbrev pub IsAllowed : Result (Unit {0}) BundleKind → Result (Unit {0}) NotAdded → Type 0
IsAllowed meaning (Ok done) = meaning ≡ Ok tt
IsAllowed meaning (Err (code.Refused kind)) = meaning ≡ Err kind
IsAllowed meaning (Err code.NoMemory) = meaning ≡ Ok tt

-- the same of a path whose form and directory are right, by what is known of it
abbrev pub IsNew : Option Bool → Result (Unit {0}) NotAdded → Type 0
IsNew known (Ok done) = known ≡ None
IsNew known (Err (code.Refused kind)) = (kind ≡ Twice) × (is_some known ≡ true)
IsNew known (Err code.NoMemory) = known ≡ None
