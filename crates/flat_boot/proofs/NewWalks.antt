-- A walk that ends where nothing stands ends in a directory.
use Rattle.std.proofs.Common.{◌≡◌, ℕ, Bool, true, false, List, [], ◌∷◌, Option, Some, None, Result, Ok, Err, refl, sym, subst, ap, ◌∙◌}
use Rattle.std.specs.List.{slice_split}
use Rattle.std.specs.Prelude.{◌&&◌, ◌==◌, is_none, length, nat_lt, slice_index, if◌then◌else◌}
use Rattle.unix_model.specs.declared.calls.Errno.{Errno}
use Rattle.unix_model.specs.declared.calls.Errno.TheVariants.{Enoent, Enotdir, Enametoolong}
use Rattle.unix_model.specs.Files.{Files, is_directory}
use Rattle.unix_model.specs.Limits.{most_name_bytes}
use Rattle.unix_model.specs.Paths.{Spot, inode_at, is_no_directory, is_slash, is_slashed, named, start_spot, stepped, walked, walked_from, walked_in}
use Rattle.unix_model.specs.Refusals.{◌>>=◌, ◌>>◌, refuse◌when◌, refuse◌where_not◌, refuse◌unless◌}
use Rattle.unix_model.specs.Tables.{at}
use Rattle.flat_boot.specs.NewPaths.{ends_new, is_new_path}

-- where nothing stands at a spot, its directory is one
abbrev InDirectory : Files → Spot → Type 0
InDirectory files spot = spot.inode ≡ None → is_directory (at files.inodes spot.directory) ≡ true

module _ (files : Files) where
  tested : (name : List ℕ) (directory : ℕ) (is long : Bool) (out : Spot) → is_directory (at files.inodes directory) ≡ is
      → ((refuse Enotdir where_not is) >> ((refuse Enametoolong when long) >> Ok (record { directory = directory; name = name; inode = inode_at files directory name }))) ≡ Ok out
      → is_directory (at files.inodes out.directory) ≡ true
  tested name directory false long out there e = cc
  tested name directory true true out there e = cc
  tested name directory true false out there e =
      let Place : Type 0 = Spot in
      let spot : Place = record { directory = directory; name = name; inode = inode_at files directory name } in
      let same : spot ≡ out = cc in
      subst (λ (spot : Place). is_directory (at files.inodes spot.directory) ≡ true) same there

  by_inode : (name : List ℕ) (inode : Option ℕ) (out : Spot)
      → ((refuse Enoent unless inode) >>= (λ directory. (refuse Enotdir where_not is_directory (at files.inodes directory)) >> ((refuse Enametoolong when nat_lt most_name_bytes (length name)) >> Ok (record { directory = directory; name = name; inode = inode_at files directory name })))) ≡ Ok out
      → is_directory (at files.inodes out.directory) ≡ true
  by_inode name None out e = cc
  by_inode name (Some directory) out e = tested name directory (is_directory (at files.inodes directory)) (nat_lt most_name_bytes (length name)) out refl e

  by_length : (spot : Spot) (part : List ℕ) (empty : Bool) (out : Spot) → InDirectory files spot → (if empty then Ok spot else named files spot part) ≡ Ok out → InDirectory files out
  by_length spot part true out before e = let same : spot ≡ out = cc in subst (InDirectory files) same before
  by_length spot part false out before e = λ _. by_inode part spot.inode out e

  by_step : (parts : List (List ℕ)) (found : Result Spot Errno) (out : Spot) → ((next : Spot) → found ≡ Ok next → InDirectory files next)
      → ((next : Spot) → InDirectory files next → walked_from files next parts ≡ Ok out → InDirectory files out)
      → (found >>= (λ next. walked_from files next parts)) ≡ Ok out → InDirectory files out
  by_step parts (Err errno) out before rest e = cc
  by_step parts (Ok next) out before rest e = rest next (before next refl) e

  by_parts : (parts : List (List ℕ)) (spot out : Spot) → InDirectory files spot → walked_from files spot parts ≡ Ok out → InDirectory files out
  by_parts [] spot out before e = let same : spot ≡ out = cc in subst (InDirectory files) same before
  by_parts (part ∷ parts) spot out before e =
      by_step parts (stepped files spot part) out (λ next. by_length spot part (length part == 0) next before) (λ next. by_parts parts next out) e

  slashed : (refused : Bool) (spot out : Spot) → ((refuse Enotdir when refused) >> Ok spot) ≡ Ok out → spot ≡ out
  slashed true spot out e = cc
  slashed false spot out e = cc

  ended : (path : List ℕ) (found : Result Spot Errno) (out : Spot) → ((spot : Spot) → found ≡ Ok spot → InDirectory files spot)
      → (found >>= (λ spot. (refuse Enotdir when (is_slashed path && is_no_directory files spot.inode)) >> Ok spot)) ≡ Ok out → InDirectory files out
  ended path (Err errno) out before e = cc
  ended path (Ok spot) out before e =
      subst (InDirectory files) (slashed (is_slashed path && is_no_directory files spot.inode) spot out e) (before spot refl)

  started : (path : List ℕ) (slash : Bool) (out : Spot) → (((refuse Enoent where_not slash) >> Ok 1) >>= (λ start. walked_in files start path)) ≡ Ok out → InDirectory files out
  unfolding walked_in
  started path false out e = cc
  started path true out e =
      ended path (walked_from files (start_spot 1) (slice_split is_slash path)) out (λ spot. by_parts (slice_split is_slash path) (start_spot 1) spot (λ none. cc)) e

  pub new-in_directory : (path : List ℕ) (spot : Spot) → walked files path ≡ Ok spot → spot.inode ≡ None → is_directory (at files.inodes spot.directory) ≡ true
  unfolding walked
  new-in_directory path spot e = started path (is_slash (slice_index path 0)) spot e

  no-inode : (inode : Option ℕ) → is_none inode ≡ true → inode ≡ None
  no-inode None e = refl
  no-inode (Some number) e = cc

  pub new-absent : (path : List ℕ) (spot : Spot) → walked files path ≡ Ok spot → is_new_path files path ≡ true → spot.inode ≡ None
  unfolding is_new_path
  new-absent path spot found new = no-inode spot.inode (sym (ap ends_new found) ∙ new)

  pub new-walked : (path : List ℕ) (errno : Errno) → walked files path ≡ Err errno → is_new_path files path ≡ true → ⊥
  unfolding is_new_path
  new-walked path errno refused new = let none : false ≡ true = sym (ap ends_new refused) ∙ new in cc
