-- Pieces that are put one behind the other.
use Rattle.std.proofs.Common.{◌≡◌, ℕ, ◌+◌, ◌-◌, ◌<◌, ◌≤◌, Option, Some, List, [], ◌++◌, length, get_or, length-append, refl, ap, sym, subst, ◌∙◌, arith, ⊎_elim}
use Rattle.std.proofs.lemmas.Bool.{cases_lt}
use Rattle.std.proofs.lemmas.Grind.{same_number_lists}
use Rattle.std.proofs.lemmas.List.{get_or_append_left, get_or-append_right}
use Rattle.kn_base.specs.Rows.{overwritten}
use Rattle.kn_base.proofs.RowLaws.{length-overwritten, overwritten-none, get_or-overwritten_in, get_or-overwritten_below, get_or-overwritten_above}
use Rattle.kernel_tables.specs.declared.inode.Inode.{Inode}
use Rattle.kernel_tables.specs.declared.row.Row.TheVariants.{Used}
use Rattle.kernel_tables.specs.Kernel.{Kernel}
use Rattle.unix_model.specs.Files.{File, file_bytes}
use Rattle.unix_model.specs.State.{Unix}
use Rattle.unix_model.specs.Tables.{at, with_at}
use Rattle.unix_model.proofs.TableLaws.{at-with_at, with_at-same, with_at-twice}
use Rattle.kernel_machine.specs.Machine.{KernelMachine, machine_of, inodes_of}
use Rattle.kernel_machine.specs.View.{view, stored}
use Rattle.file_domain.specs.Effects.{with_file, ChangesFile, PutsAt}
use Rattle.file_trees.specs.Good.{FilesGood}
use Rattle.file_domain.specs.Good.{IsFileAt}
use Rattle.file_domain.proofs.Seen.{seen_file, there_file}

pub over_more : (xs : List ℕ) (place : ℕ) (first rest : List ℕ) → place + length first + length rest ≤ length xs
    → overwritten (overwritten xs place first) (place + length first) rest ≡ overwritten xs place (first ++ rest)
over_more xs place first rest fits =
    let sum : length (first ++ rest) ≡ length first + length rest = length-append first rest in
    let one : length (overwritten xs place first) ≡ length xs = length-overwritten xs place first (omega arith) in
    let two : length (overwritten (overwritten xs place first) (place + length first) rest) ≡ length xs = length-overwritten (overwritten xs place first) (place + length first) rest (omega arith) ∙ one in
    let all : length (overwritten xs place (first ++ rest)) ≡ length xs = length-overwritten xs place (first ++ rest) (omega arith) in
    same_number_lists (overwritten (overwritten xs place first) (place + length first) rest) (overwritten xs place (first ++ rest)) (two ∙ sym all)
    (λ k below. ⊎_elim
    (λ (low : k < place).
    get_or-overwritten_below (overwritten xs place first) (place + length first) rest k 0 (omega arith) (omega arith)
    ∙ get_or-overwritten_below xs place first k 0 (omega arith) low
    ∙ sym (get_or-overwritten_below xs place (first ++ rest) k 0 (omega arith) low))
    (λ (up : place ≤ k). ⊎_elim
    (λ (mid : k < place + length first).
    get_or-overwritten_below (overwritten xs place first) (place + length first) rest k 0 (omega arith) mid
    ∙ get_or-overwritten_in xs place first k 0 (omega arith) up mid
    ∙ sym (get_or-overwritten_in xs place (first ++ rest) k 0 (omega arith) up (omega arith) ∙ get_or_append_left first rest 0 (k - place) (omega arith)))
    (λ (past : place + length first ≤ k). ⊎_elim
    (λ (inner : k < place + length first + length rest).
    let back : k - place - length first ≡ k - (place + length first) = omega arith in
    get_or-overwritten_in (overwritten xs place first) (place + length first) rest k 0 (omega arith) past inner
    ∙ sym (get_or-overwritten_in xs place (first ++ rest) k 0 (omega arith) up (omega arith) ∙ get_or-append_right first rest (length first) (k - place) 0 refl (omega arith) ∙ ap (λ i. get_or rest i 0) back))
    (λ (high : place + length first + length rest ≤ k).
    get_or-overwritten_above (overwritten xs place first) (place + length first) rest k 0 (omega arith) high
    ∙ get_or-overwritten_above xs place first k 0 (omega arith) past
    ∙ sym (get_or-overwritten_above xs place (first ++ rest) k 0 (omega arith) (omega arith)))
    (cases_lt k (place + length first + length rest)))
    (cases_lt k (place + length first)))
    (cases_lt k place))

-- ---- nothing is put

module _ (kernel : Kernel) (number place : ℕ) (inode : Inode) (good : FilesGood kernel) (file : IsFileAt kernel number inode) where
  same_state :
      machine_of kernel
      ≡ record (machine_of kernel) {
        inodes = with_at (machine_of kernel).inodes number (Some inode);
        words = record (machine_of kernel).words { size = kernel.machine.size; quantum = kernel.machine.quantum; position = kernel.machine.position; next_pid = kernel.machine.next_pid };
      }
  unfolding machine_of
  same_state = ap (λ table. let m : KernelMachine = record (machine_of kernel) { inodes = table } in m) (sym (with_at-same (inodes_of kernel) number (Some inode) (there_file kernel number inode file)))

  pub changes_nothing : ChangesFile kernel kernel number inode inode
  changes_nothing = record { row = refl; there = file.there; state = same_state }

  pub puts_nothing : PutsAt kernel kernel number place []
  puts_nothing = record {
    inode = inode;
    was = file;
    now = inode;
    changes = changes_nothing;
    length_same = refl;
    seen = sym
        (ap (with_file (view (machine_of kernel)) number) (overwritten-none (stored (machine_of kernel) inode) place)
        ∙ ap (λ table. let unix : Unix = record (view (machine_of kernel)) { files = record (view (machine_of kernel)).files { inodes = table } } in unix)
        (with_at-same (view (machine_of kernel)).files.inodes number (Some (File (stored (machine_of kernel) inode))) (seen_file kernel number inode file)));
    promised_same = refl;
    good = good;
    file = file;
  }

-- ---- one change after another

-- the bytes that a file had are gone
pub file_twice : (unix : Unix) (number : ℕ) (first second : List ℕ) → with_file (with_file unix number first) number second ≡ with_file unix number second
file_twice unix number first second =
    ap (λ table. let after : Unix = record unix { files = record unix.files { inodes = table } } in after) (with_at-twice unix.files.inodes number (Some (File first)) (Some (File second)))

module _ (k0 k1 k2 : Kernel) (number : ℕ) (inode mid now : Inode) (a : ChangesFile k0 k1 number inode mid) (b : ChangesFile k1 k2 number mid now) where
  build : (ℕ → Option Inode) → (s q p n : ℕ) → KernelMachine
  build table s q p n =
      record (machine_of k0) {
        forest = (machine_of k2).forest;
        page_bytes = (machine_of k2).page_bytes;
        page_owner = (machine_of k2).page_owner;
        inodes = table;
        words = record (machine_of k2).words { size = s; quantum = q; position = p; next_pid = n };
      }

  state_after : machine_of k2 ≡ build (with_at (machine_of k0).inodes number (Some now)) k0.machine.size k0.machine.quantum k0.machine.position k0.machine.next_pid
  unfolding build machine_of
  state_after =
      b.state
      ∙ ap (λ (m : KernelMachine). let n : KernelMachine = record m {
        forest = (machine_of k2).forest;
        page_bytes = (machine_of k2).page_bytes;
        page_owner = (machine_of k2).page_owner;
        inodes = with_at m.inodes number (Some now);
        words = record (machine_of k2).words { size = m.words.size; quantum = m.words.quantum; position = m.words.position; next_pid = m.words.next_pid };
      } in n) a.state
      ∙ ap (λ table. build table k0.machine.size k0.machine.quantum k0.machine.position k0.machine.next_pid) (with_at-twice (machine_of k0).inodes number (Some mid) (Some now))

  pub changes_more : ChangesFile k0 k2 number inode now
  unfolding build
  changes_more = record {
    row = b.row ∙ ap (λ (i : Inode). let j : Inode = record i { length = now.length; root = now.root } in j) a.row;
    there = b.there;
    state = state_after;
  }

-- ---- one piece behind another

module _ (k0 k1 k2 : Kernel) (number place next : ℕ) (first rest : List ℕ) (begins : next ≡ place + length first) (a : PutsAt k0 k1 number place first) (b : PutsAt k1 k2 number next rest)
    (fits : place + length first + length rest ≤ length (stored (machine_of k0) a.inode)) where
  same_inode : b.inode ≡ a.now
  same_inode = let both : Used b.inode ≡ Used a.now = sym b.was.there ∙ a.file.there in cc

  bytes_between : stored (machine_of k1) b.inode ≡ overwritten (stored (machine_of k0) a.inode) place first
  bytes_between =
      let here : at (view (machine_of k1)).files.inodes number ≡ Some (File (overwritten (stored (machine_of k0) a.inode) place first))
      = ap (λ (u : Unix). at u.files.inodes number) a.seen ∙ at-with_at (view (machine_of k0)).files.inodes number (Some (File (overwritten (stored (machine_of k0) a.inode) place first))) in
      let both : Some (stored (machine_of k1) b.inode) ≡ Some (overwritten (stored (machine_of k0) a.inode) place first) = ap file_bytes (sym (seen_file k1 number b.inode b.was) ∙ here) in
      cc

  bytes_after : overwritten (stored (machine_of k1) b.inode) next rest ≡ overwritten (stored (machine_of k0) a.inode) place (first ++ rest)
  bytes_after =
      ap (λ n. overwritten (stored (machine_of k1) b.inode) n rest) begins
      ∙ ap (λ bytes. overwritten bytes (place + length first) rest) bytes_between
      ∙ over_more (stored (machine_of k0) a.inode) place first rest fits

  seen_after : view (machine_of k2) ≡ with_file (view (machine_of k0)) number (overwritten (stored (machine_of k0) a.inode) place (first ++ rest))
  seen_after =
      b.seen
      ∙ ap (with_file (view (machine_of k1)) number) bytes_after
      ∙ ap (λ (u : Unix). with_file u number (overwritten (stored (machine_of k0) a.inode) place (first ++ rest))) a.seen
      ∙ file_twice (view (machine_of k0)) number (overwritten (stored (machine_of k0) a.inode) place first) (overwritten (stored (machine_of k0) a.inode) place (first ++ rest))

  pub puts_more : PutsAt k0 k2 number place (first ++ rest)
  puts_more = record {
    inode = a.inode;
    was = a.was;
    now = b.now;
    changes = changes_more k0 k1 k2 number a.inode a.now b.now a.changes (subst (λ (i : Inode). ChangesFile k1 k2 number i b.now) same_inode b.changes);
    length_same = b.length_same ∙ ap (λ (i : Inode). i.length) same_inode ∙ a.length_same;
    seen = seen_after;
    promised_same = b.promised_same ∙ a.promised_same;
    good = b.good;
    file = b.file;
  }

-- a number has one row
pub one_row : (kernel : Kernel) (number : ℕ) (inode other : Inode) → IsFileAt kernel number inode → IsFileAt kernel number other → inode ≡ other
one_row kernel number inode other a b = let both : Used inode ≡ Used other = sym a.there ∙ b.there in cc
