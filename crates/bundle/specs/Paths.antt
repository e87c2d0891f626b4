-- The paths of a bundle's entries: a slash and a name, and any further slashes and names.
use Rattle.std.specs.Prelude.{ℕ, Bool, false, true, not, ◌&&◌, ◌||◌, List, [], ◌∷◌, length, drop, slice_index, Option, Some, None, is_some, unwrap_or, Result, Ok, Err, codes, bytes_eq, ◌==◌, nat_lt, if◌then◌else◌}
use Rattle.std.specs.List.{list_all, list_any, slice_split}
use Rattle.std.specs.Map.{update}
use Rattle.bundle.specs.declared.fault.BundleKind.{BundleKind}
use Rattle.bundle.specs.declared.fault.BundleKind.TheVariants.{BadPath, TooLong, NoParent, Twice}
use Rattle.unix_model.specs.Paths.{is_slash}

-- ---- the form of a path

-- what stands between slashes: the names of a path that begins with one
abbrev pub names_of : List ℕ → List (List ℕ)
names_of path = slice_split is_slash (drop 1 path)

abbrev pub is_nul : ℕ → Bool
is_nul byte = byte == 0

-- a name: some bytes, none of them NUL, and neither `.` nor `..`
unfoldable pub is_name : List ℕ → Bool
is_name name = not (length name == 0) && not (list_any is_nul name) && not (bytes_eq name (codes ".")) && not (bytes_eq name (codes ".."))

unfoldable pub is_path : List ℕ → Bool
is_path path = is_slash (slice_index path 0) && list_all is_name (names_of path)

-- a name of more than 27 bytes
abbrev pub is_long_name : List ℕ → Bool
is_long_name name = nat_lt 27 (length name)

-- more than 255 bytes, or a name that is too long
unfoldable pub is_long : List ℕ → Bool
is_long path = nat_lt 255 (length path) || list_any is_long_name (names_of path)

-- what stands before the last slash: the path of the directory that a path's last name is to stand in, empty for the root
unfoldable pub parent_of : List ℕ → List ℕ
parent_of [] = []
parent_of (byte ∷ bytes) = if list_any is_slash bytes then byte ∷ parent_of bytes else []

-- ---- the paths so far

-- for each path of an earlier entry, whether that is a directory
abbrev pub Known : Type 0
Known = List ℕ → Option Bool

abbrev pub nothing_known : Known
nothing_known path = None

abbrev pub with_path : Known → List ℕ → Bool → Known
with_path known path is_directory = update bytes_eq known path (Some is_directory)

-- an earlier line `dir` has this path
abbrev pub has_directory : Known → List ℕ → Bool
has_directory known path = unwrap_or (known path) false

-- the root, or the path of an earlier line `dir`
unfoldable pub has_parent : Known → List ℕ → Bool
has_parent known path = (length (parent_of path) == 0) || has_directory known (parent_of path)

-- a file `/init` was given
unfoldable pub has_init : Known → Bool
has_init known = not (unwrap_or (known (codes "/init")) true)

-- the path of a new entry: its form, its length, its directory, and that it is new, in this order
unfoldable pub allowed : Known → List ℕ → Result (Unit {0}) BundleKind
allowed known path =
    if not (is_path path) then Err BadPath else
    if is_long path then Err TooLong else
    if not (has_parent known path) then Err NoParent else
    if is_some (known path) then Err Twice else
    Ok tt
