-- Files that nothing names: no directory has a place, and no description is open on them.
use Rattle.std.proofs.Common.{◌≡◌, ◌≢◌, ℕ, zero, suc, ◌+◌, ◌<◌, ◌≤◌, List, [], Some, None, true, false, refl, ap, sym, ◌∙◌, arith}
use Rattle.std.specs.Prelude.{Bool, option_map, ◌/◌, if◌then◌else◌, ◌==◌}
use Rattle.std.specs.List.{count_by}
use Rattle.std.proofs.lemmas.Bool.{ne_eqb}
use Rattle.kernel_tables.specs.declared.inode.Inode.{Inode}
use Rattle.kernel_tables.specs.declared.inode.InodeKind.{InodeKind}
use Rattle.kernel_tables.specs.declared.inode.InodeKind.TheVariants as kind
use Rattle.kernel_tables.specs.declared.row.Row.{Row}
use Rattle.kernel_tables.specs.declared.row.Row.TheVariants.{Free, Used}
use Rattle.kernel_tables.specs.declared.description.Description.{Description}
use Rattle.kernel_tables.specs.Kernel.{Kernel, inode_at, description_at}
use Rattle.unix_model.specs.Files.{description_names, entry_names, links, places_of}
use Rattle.unix_model.specs.Tables.{at, count_below, sum_below}
use Rattle.kernel_machine.specs.Contents.{places_in}
use Rattle.kernel_machine.specs.Counts.{opens}
use Rattle.kernel_machine.specs.Machine.{KernelMachine, machine_of, inodes_of, descriptions_of, held}
use Rattle.kernel_machine.specs.View.{view, inodes_in, inode_in, inode_by, description_in, descriptions_in, stored}
use Rattle.file_domain.specs.Dropping.{IsUnnamed}
use Rattle.file_domain.specs.Good.{IsFileAt}
use Rattle.dir_domain.specs.Rows.{inode_seen}

-- where no inode is, or one that is no directory or has no length, there are no places
pub free_places : (kernel : Kernel) (number : ℕ) → inode_at kernel number ≡ Free → places_of (inode_seen kernel number) ≡ []
unfolding inodes_in inode_in machine_of inodes_of at
free_places kernel number is = ap (λ (row : Row Inode). places_of (option_map (inode_in (machine_of kernel)) (held row))) is

seen_places : (kernel : Kernel) (number : ℕ) (inode : Inode) → inode_at kernel number ≡ Used inode → places_of (inode_seen kernel number) ≡ places_of (Some (inode_by (machine_of kernel) inode inode.kind))
unfolding inodes_in inode_in machine_of inodes_of at
seen_places kernel number inode is = ap (λ (row : Row Inode). places_of (option_map (inode_in (machine_of kernel)) (held row))) is

by_kind : (machine : KernelMachine) (inode : Inode) (k : InodeKind) → k ≢ kind.Dir → places_of (Some (inode_by machine inode k)) ≡ []
by_kind machine inode kind.File other = refl
by_kind machine inode kind.Dir other = absurd (other refl)
by_kind machine inode kind.Pipe other = refl
by_kind machine inode kind.Console other = refl

pub other_places : (kernel : Kernel) (number : ℕ) (inode : Inode) → inode_at kernel number ≡ Used inode → inode.kind ≢ kind.Dir → places_of (inode_seen kernel number) ≡ []
other_places kernel number inode is other = seen_places kernel number inode is ∙ by_kind (machine_of kernel) inode inode.kind other

none_in : (bytes : List ℕ) (size : ℕ) → size ≡ 0 → places_in bytes (size / 32) ≡ []
unfolding places_in
none_in bytes size none = ap (λ n. places_in bytes (n / 32)) none

without_length : (machine : KernelMachine) (inode : Inode) (k : InodeKind) → inode.length ≡ 0 → places_of (Some (inode_by machine inode k)) ≡ []
without_length machine inode kind.File none = refl
without_length machine inode kind.Dir none = none_in (stored machine inode) inode.length none
without_length machine inode kind.Pipe none = refl
without_length machine inode kind.Console none = refl

pub short_places : (kernel : Kernel) (number : ℕ) (inode : Inode) → inode_at kernel number ≡ Used inode → inode.length ≡ 0 → places_of (inode_seen kernel number) ≡ []
short_places kernel number inode is none = seen_places kernel number inode is ∙ without_length (machine_of kernel) inode inode.kind none

pub ruleset no_places = (free_places, other_places, short_places)

nothing_more : (more : Bool) (n : ℕ) → more ≡ false → n + (if more then 1 else 0) ≡ n
nothing_more true n e = cc
nothing_more false n e = omega arith

-- so nothing has an entry
none_below : (f : ℕ → ℕ) (limit : ℕ) → ((k : ℕ) → k < limit → f k ≡ 0) → sum_below f limit ≡ 0
unfolding sum_below
none_below f zero none = refl
none_below f (suc limit) none =
    let rest = none_below f limit (λ k below. none k (omega arith)) in
    let last = none limit (omega arith) in
    omega arith

pub no_links : (kernel : Kernel) (number : ℕ) → 2 ≤ number → ((k : ℕ) → k < 1024 → places_of (inode_seen kernel k) ≡ []) → links (inodes_in (machine_of kernel)) number ≡ 0
unfolding links
no_links kernel number low none =
    let names : ℕ → ℕ = λ n. count_by (entry_names number) (places_of (at (inodes_in (machine_of kernel)) n)) in
    let root : (number == 1) ≡ false = ne_eqb number 1 (λ same. omega (arith, same, low)) in
    nothing_more (number == 1) (sum_below names 1024) root ∙ none_below names 1024 (λ k below. ap (count_by (entry_names number)) (none k below))

-- where nothing is open, no description is open on a file
pub no_description : (kernel : Kernel) (number : ℕ) → description_at kernel number ≡ Free → at (descriptions_in (machine_of kernel)) number ≡ None
unfolding descriptions_in machine_of descriptions_of at
no_description kernel number is = ap (λ (row : Row Description). option_map description_in (held row)) is

none_counted : (test : ℕ → Bool) (limit : ℕ) → ((k : ℕ) → k < limit → test k ≡ false) → count_below test limit ≡ 0
unfolding count_below
none_counted test zero none = refl
none_counted test (suc limit) none =
    nothing_more (test limit) (count_below test limit) (none limit (omega arith)) ∙ none_counted test limit (λ k below. none k (omega arith))

no_opens : (kernel : Kernel) (number : ℕ) → ((k : ℕ) → k < 2048 → at (descriptions_in (machine_of kernel)) k ≡ None) → opens (descriptions_in (machine_of kernel)) number ≡ 0
unfolding opens
no_opens kernel number none =
    none_counted (λ n. description_names number (at (descriptions_in (machine_of kernel)) n)) 2048 (λ k below. ap (description_names number) (none k below))

pub is_unnamed : (kernel : Kernel) (number : ℕ) (inode : Inode) → 2 ≤ number → inode_at kernel number ≡ Used inode → inode.entries ≡ 0 → inode.opens ≡ 0
    → ((k : ℕ) → k < 2048 → at (descriptions_in (machine_of kernel)) k ≡ None) → ((k : ℕ) → k < 1024 → places_of (inode_seen kernel k) ≡ []) → IsUnnamed kernel number inode
unfolding view
is_unnamed kernel number inode low there entries opened closed none = record {
  there = there;
  no_entries = entries;
  no_opens = opened;
  entries_counted = entries ∙ sym (no_links kernel number low none);
  opens_counted = opened ∙ sym (no_opens kernel number closed);
}

-- a file is no pipe
pub no_pipe : (kernel : Kernel) (number : ℕ) (inode row : Inode) → IsFileAt kernel number inode → inode_at kernel number ≡ Used row → row.kind ≢ kind.Pipe
no_pipe kernel number inode row file there pipe =
    let both : Used inode ≡ Used row = sym file.there ∙ there in
    let same : inode ≡ row = cc in
    let never : kind.File ≡ kind.Pipe = sym file.kind ∙ ap (λ (i : Inode). i.kind) same ∙ pipe in
    cc
