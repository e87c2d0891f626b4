-- What the fixed pages and nodes of an empty bank hold.
use Rattle.std.proofs.Common.{◌≡◌, ◌≢◌, ℕ, zero, suc, ◌+◌, ◌*◌, ◌<◌, ◌≤◌, Bool, false, cond, Option, Some, None, List, length, set, get_or, replicate, refl, ap, sym, ◌∙◌, ⊎_elim, arith}
use Rattle.std.proofs.lemmas.Bool.{cases_eq}
use Rattle.std.proofs.lemmas.List.{length-replicate, length-set, get_or-replicate, get_or-set_same, get_or-set_other}
use Rattle.std.proofs.lemmas.List.Folds.{sum_by-replicate}
use Rattle.std.proofs.lemmas.List.Sums.{sum_by-set}
use Rattle.std.specs.List.{sum_by, count_by}
use Rattle.kn_base.specs.declared.key.Key.{Key}
use Rattle.kn_base.specs.declared.key.Key.TheVariants.{Null, Service}
use Rattle.kernel_tables.specs.declared.row.Row.{Row}
use Rattle.kernel_tables.specs.declared.row.Row.TheVariants.{Used, Unspelled, Free as FreeRow}
use Rattle.kernel_tables.specs.declared.inode.Inode.{Inode}
use Rattle.kernel_tables.specs.declared.description.Description.{Description}
use Rattle.kernel_tables.specs.Kernel.{zero_kernel, node_count}
use Rattle.space_bank.specs.Fixed.{state_key, IsServiceRoot, FreshNodes, UnusedGood, FreshFiles, console_inode, empty_root}
use Rattle.space_bank.specs.Shares.{spelled_and}
use Rattle.space_bank.specs.Setup.{with_service_root, with_service_roots, empty_bank}

-- lists that are alike at a place, and are written alike
set-alike : {X : Type 0} (xs ys : List X) (n : ℕ) (x : X) (place : ℕ) (d : X) → length xs ≡ length ys → n < length xs → get_or xs place d ≡ get_or ys place d → get_or (set xs n x) place d ≡ get_or (set ys n x) place d
set-alike xs ys n x place d sizes inside alike =
    ⊎_elim
    (λ (same : n ≡ place).
    ap (λ k. get_or (set xs n x) k d) (sym same)
    ∙ get_or-set_same xs n x d inside
    ∙ sym (ap (λ k. get_or (set ys n x) k d) (sym same) ∙ get_or-set_same ys n x d (omega arith)))
    (λ (other : n ≢ place).
    let apart : place ≢ n = λ e. other (sym e) in
    get_or-set_other xs n place x d apart ∙ alike ∙ sym (get_or-set_other ys n place x d apart))
    (cases_eq n place)

pub length-with_service_roots : (keys : List (Option Key)) (n : ℕ) → length (with_service_roots keys n) ≡ length keys
unfolding with_service_roots
length-with_service_roots keys zero = refl
length-with_service_roots keys (suc n) =
    let before = with_service_roots keys n in
    length-set (set before (16 * (n + 1)) (Some (Service (n + 1)))) (16 * (n + 1) + 6) (Some (state_key 0 0))
    ∙ length-set before (16 * (n + 1)) (Some (Service (n + 1)))
    ∙ length-with_service_roots keys n

-- a key of another node than that of a service's root
root-other : (keys : List (Option Key)) (service place : ℕ) → place ≢ 16 * service → place ≢ 16 * service + 6 → get_or (with_service_root keys service) place None ≡ get_or keys place None
root-other keys service place not_own not_state =
    get_or-set_other (set keys (16 * service) (Some (Service service))) (16 * service + 6) place (Some (state_key 0 0)) None not_state
    ∙ get_or-set_other keys (16 * service) place (Some (Service service)) None not_own

pub key-above : (keys : List (Option Key)) (n place : ℕ) → 16 * n + 16 ≤ place → get_or (with_service_roots keys n) place None ≡ get_or keys place None
unfolding with_service_roots
key-above keys zero place above = refl
key-above keys (suc n) place above =
    root-other (with_service_roots keys n) (n + 1) place (λ e. absurd (omega arith)) (λ e. absurd (omega arith))
    ∙ key-above keys n place (omega arith)

key-below : (keys : List (Option Key)) (n place : ℕ) → place < 16 → get_or (with_service_roots keys n) place None ≡ get_or keys place None
unfolding with_service_roots
key-below keys zero place below = refl
key-below keys (suc n) place below =
    root-other (with_service_roots keys n) (n + 1) place (λ e. absurd (omega arith)) (λ e. absurd (omega arith))
    ∙ key-below keys n place below

-- a key of one of the roots
key-root : (keys : List (Option Key)) (n service place : ℕ) → service ≤ n → 1 ≤ service → 16 * service ≤ place → place < 16 * service + 16 → 16 * n + 16 ≤ length keys → get_or (with_service_roots keys n) place None ≡ get_or (with_service_root keys service) place None
unfolding with_service_roots
key-root keys zero service place most least low high fits = absurd (omega arith)
key-root keys (suc n) service place most least low high fits =
    let before = with_service_roots keys n in
    let sizes : length before ≡ length keys = length-with_service_roots keys n in
    ⊎_elim
    (λ (same : service ≡ n + 1).
    let own : Option Key = Some (Service (n + 1)) in
    let longer : length (set before (16 * (n + 1)) own) ≡ length before = length-set before (16 * (n + 1)) own in
    let longer_too : length (set keys (16 * (n + 1)) own) ≡ length keys = length-set keys (16 * (n + 1)) own in
    set-alike (set before (16 * (n + 1)) own) (set keys (16 * (n + 1)) own) (16 * (n + 1) + 6) (Some (state_key 0 0)) place None
    (omega arith) (omega arith)
    (set-alike before keys (16 * (n + 1)) own place None sizes (omega arith) (key-above keys n place (omega arith)))
    ∙ ap (λ k. get_or (with_service_root keys k) place None) (sym same))
    (λ (other : service ≢ n + 1).
    root-other before (n + 1) place (λ e. absurd (omega arith)) (λ e. absurd (omega arith))
    ∙ key-root keys n service place (omega arith) least low high (omega arith))
    (cases_eq service (n + 1))

null-at : (nodes place : ℕ) → place < 16 * nodes → get_or (replicate (16 * nodes) (Some Null)) place None ≡ Some Null
null-at nodes place inside = get_or-replicate (16 * nodes) place (Some Null) None inside

service_root-fresh : (nodes service : ℕ) → 15 ≤ nodes → 1 ≤ service → service ≤ 6 → IsServiceRoot (with_service_roots (replicate (16 * nodes) (Some Null)) 6) service 0 0
service_root-fresh nodes service enough least most =
    let nulls : List (Option Key) = replicate (16 * nodes) (Some Null) in
    let own : Option Key = Some (Service service) in
    let sizes : length nulls ≡ 16 * nodes = length-replicate (16 * nodes) (Some Null) in
    let owned : length (set nulls (16 * service) own) ≡ length nulls = length-set nulls (16 * service) own in
    record {
      own_key =
          key-root nulls 6 service (16 * service + 0) most least (omega arith) (omega arith) (omega arith)
          ∙ get_or-set_other (set nulls (16 * service) own) (16 * service + 6) (16 * service + 0) (Some (state_key 0 0)) None (λ e. absurd (omega arith))
          ∙ ap (λ k. get_or (set nulls (16 * service) own) k None) (omega arith)
          ∙ get_or-set_same nulls (16 * service) own None (omega arith);
      life =
          key-root nulls 6 service (16 * service + 6) most least (omega arith) (omega arith) (omega arith)
          ∙ get_or-set_same (set nulls (16 * service) own) (16 * service + 6) (Some (state_key 0 0)) None (omega arith);
      few = omega arith;
      others =
          λ place low first seventh.
          key-root nulls 6 service (16 * service + place) most least (omega arith) (omega arith) (omega arith)
          ∙ root-other nulls service (16 * service + place) (λ e. first (omega arith)) (λ e. seventh (omega arith))
          ∙ null-at nodes (16 * service + place) (omega arith);
    }

fresh_nodes : (nodes : ℕ) → 15 ≤ nodes → FreshNodes (with_service_roots (replicate (16 * nodes) (Some Null)) 6)
fresh_nodes nodes enough =
    let nulls : List (Option Key) = replicate (16 * nodes) (Some Null) in
    record {
      null_node = λ place low. key-below nulls 6 (16 * 0 + place) (omega arith) ∙ null-at nodes (16 * 0 + place) (omega arith);
      services = λ service least most. service_root-fresh nodes service enough least most;
      room =
          λ slot low. key-above nulls 6 (16 * 7 + slot) (omega arith) ∙ null-at nodes (16 * 7 + slot) (omega arith);
      slots =
          λ slot low. key-above nulls 6 (16 * 11 + slot) (omega arith) ∙ null-at nodes (16 * 11 + slot) (omega arith);
    }

pub fresh_nodes-empty : (size quantum : ℕ) → FreshNodes (empty_bank size quantum).keys
unfolding empty_bank
fresh_nodes-empty size quantum = fresh_nodes (node_count size) (omega arith)

pub unused_good-empty : (size quantum : ℕ) → UnusedGood (empty_bank size quantum).page_zero (empty_bank size quantum).other_words
unfolding empty_bank zero_kernel
unused_good-empty size quantum = record { zero = refl; words = refl }

-- the first inodes among so many rows
first_inodes : (n : ℕ) → 2 ≤ n → (let inodes = set (set (replicate n FreeRow) 0 (Used console_inode)) 1 (Used empty_root) in (get_or inodes 0 Unspelled ≡ Used console_inode) × (get_or inodes 1 Unspelled ≡ Used empty_root) × ((number : ℕ) → 2 ≤ number → number < n → get_or inodes number Unspelled ≡ FreeRow))
first_inodes n two =
    let rows : List (Row Inode) = replicate n FreeRow in
    let first : List (Row Inode) = set rows 0 (Used console_inode) in
    let sizes : length rows ≡ n = length-replicate n FreeRow in
    let same : length first ≡ length rows = length-set rows 0 (Used console_inode) in (
      get_or-set_other first 1 0 (Used empty_root) Unspelled (λ e. absurd (omega arith))
          ∙ get_or-set_same rows 0 (Used console_inode) Unspelled (omega arith),
      get_or-set_same first 1 (Used empty_root) Unspelled (omega arith),
      λ number low inside.
          get_or-set_other first 1 number (Used empty_root) Unspelled (λ e. absurd (omega arith))
          ∙ get_or-set_other rows 0 number (Used console_inode) Unspelled (λ e. absurd (omega arith))
          ∙ get_or-replicate n number FreeRow Unspelled inside,
    )

free_rows : {X : Type 0} (n number : ℕ) → number < n → get_or {A = Row X} (replicate n FreeRow) number Unspelled ≡ FreeRow
free_rows n number inside = get_or-replicate n number FreeRow Unspelled inside

pub fresh_files-empty : (size quantum : ℕ) → FreshFiles (empty_bank size quantum).inodes (empty_bank size quantum).descriptions
unfolding empty_bank zero_kernel
fresh_files-empty size quantum =
    let inodes = first_inodes 1024 (omega arith) in
    record {
      console = inodes.0;
      root = inodes.1;
      free_inodes = inodes.2;
      free_descriptions = free_rows {X = Description} 2048;
    }

-- keys that count for nothing, also with the roots of services among them
sum-roots : (f : Option Key → ℕ) → f (Some (state_key 0 0)) ≡ 0 → ((service : ℕ) → f (Some (Service service)) ≡ 0) → (keys : List (Option Key)) (n : ℕ) → 16 * n + 16 ≤ length keys → sum_by f keys ≡ 0 → sum_by f (with_service_roots keys n) ≡ 0
unfolding with_service_roots
sum-roots f state service keys zero fits none = none
sum-roots f state service keys (suc n) fits none =
    let before = with_service_roots keys n in
    let own : Option Key = Some (Service (n + 1)) in
    let sizes : length before ≡ length keys = length-with_service_roots keys n in
    let longer : length (set before (16 * (n + 1)) own) ≡ length before = length-set before (16 * (n + 1)) own in
    let so_far = sum-roots f state service keys n (omega arith) none in
    let first = sum_by-set f before (16 * (n + 1)) own None (omega arith) in
    let second = sum_by-set f (set before (16 * (n + 1)) own) (16 * (n + 1) + 6) (Some (state_key 0 0)) None (omega arith) in
    let owned = service (n + 1) in
    omega arith

pub unnamed-fresh : (test : Key → Bool) → test Null ≡ false → test (state_key 0 0) ≡ false → ((service : ℕ) → test (Service service) ≡ false) → (nodes : ℕ) → 7 ≤ nodes → count_by (spelled_and test) (with_service_roots (replicate (16 * nodes) (Some Null)) 6) ≡ 0
unnamed-fresh test null state service nodes enough =
    let f : Option Key → ℕ = λ key. cond (spelled_and test key) 1 0 in
    let sizes : length {A = Option Key} (replicate (16 * nodes) (Some Null)) ≡ 16 * nodes = length-replicate (16 * nodes) (Some Null) in
    let nulls : sum_by f (replicate (16 * nodes) (Some Null)) ≡ 16 * nodes * 0 =
    sum_by-replicate f (16 * nodes) (Some Null) ∙ ap (λ b. 16 * nodes * cond b 1 0) null
    in
    sum-roots f (ap (λ b. cond b 1 0) state) (λ number. ap (λ b. cond b 1 0) (service number)) (replicate (16 * nodes) (Some Null)) 6 (omega arith) (omega arith)
