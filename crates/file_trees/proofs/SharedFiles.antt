-- Where a page of a file or directory is no page of its own, fewer pages are taken than are promised.
use Rattle.std.proofs.Common.{◌≡◌, ◌≢◌, ℕ, ◌+◌, ◌*◌, ◌/◌, ◌%◌, ◌^◌, ◌<◌, ◌≤◌, Bool, true, false, not, Option, Some, None, [], length, arith, refl, sym, ap, subst, ◌∙◌, ◌||◌, ◌&&◌, ◌==◌, if◌then◌else◌, ⊎_elim}
use Rattle.std.proofs.Math.Path.{fun_ext}
use Rattle.std.specs.Prelude.{option_map}
use Rattle.std.proofs.lemmas.Bool.{cases_Bool, cases_eq, cases_lt, eq-eqb, ne_eqb, eqb-true, or_right}
use Rattle.kn_base.specs.declared.key.Key.{Key}
use Rattle.kn_base.specs.declared.key.Key.TheVariants.{Null}
use Rattle.kernel_tables.specs.declared.inode.Inode.{Inode}
use Rattle.kernel_tables.specs.declared.inode.InodeKind.{InodeKind}
use Rattle.kernel_tables.specs.declared.inode.InodeKind.TheVariants.{File, Dir, Pipe, Console}
use Rattle.kernel_tables.specs.Kernel.{Kernel, first_page, inode_at}
use Rattle.kernel_tables.specs.Rows.{entry_at}
use Rattle.kernel_forest.specs.Trees.{forest_of, owner_of}
use Rattle.kernel_tables.specs.declared.entry.Entry.TheVariants.{Fixed}
use Rattle.forest.specs.Calls.{IsOwn}
use Rattle.forest.specs.Forest.{Forest, IsSpace, Sound}
use Rattle.forest.specs.Labels.{page_number, shared_page}
use Rattle.forest.specs.Objects.{PageObject, NodeObject, OfFile}
use Rattle.forest.specs.Walks.{Mapping, map_of, mapping_of, key_at_page, key_below, page_way, digits, place_of}
use Rattle.forest.proofs.OwnLaws.{found_at, mapped_named, way_of_page}
use Rattle.forest.proofs.ReachLaws.{way_owner, map_inside}
use Rattle.user_copy.proofs.Pages.{map_far}
use Rattle.unix_model.specs.Files.{inode_pages}
use Rattle.unix_model.specs.Numbers.{pages_of}
use Rattle.unix_model.specs.Room.{promised}
use Rattle.unix_model.specs.Tables.{at, any_below, count_below, sum_below}
use Rattle.kernel_machine.specs.Contents.{mapped_bytes}
use Rattle.kernel_machine.specs.Machine.{KernelMachine, machine_of, inodes_of, held}
use Rattle.kernel_machine.specs.Trees.{HasTree}
use Rattle.kernel_machine.specs.View.{view, file_memory, inode_by, inode_in, inodes_in}
use Rattle.kernel_machine.specs.Bounds.{Accounted}
use Rattle.kernel_machine.proofs.Counting.{any-at, count-never, count-less, count-any, count-or, count-label, is_label, sum-at-most-one, sum-below-more}
use Rattle.kernel_machine.proofs.HolesLeft.{hole_is_left}
use Rattle.kernel_machine.proofs.PagesHeld.{maps, kind-has, inode-has, inode-few, file-pages, places-pages}
use Rattle.kernel_machine.proofs.PageHolders.{slots-have, inodes-have, inode-below, file-whole, mapped-has, space-real}
use Rattle.kernel_machine.proofs.PageBounds.{is_taken, taken-counted, taken-has, untaken, slots-few, whole-row}
use Rattle.kernel_machine.proofs.SharedPages.{but-label, label-apart, not-but}

-- a tree maps a page at another page number than this one, below a limit
unfoldable pub maps-less : (ℕ → Key) → ℕ → ℕ → ℕ → ℕ → Bool
maps-less keys space skip limit page = any_below (λ number. not (number == skip) && is_label page (shared_page keys (space, number))) limit

less-few : (keys : ℕ → Key) (first size space skip limit : ℕ) → skip < limit → count_below (λ n. maps-less keys space skip limit (first + n)) size + 1 ≤ limit
unfolding maps-less
less-few keys first size space skip limit below =
    let all = count-any (λ number n. not (number == skip) && is_label (first + n) (shared_page keys (space, number))) size limit in
    let zero_here = count-never (λ n. not (skip == skip) && is_label (first + n) (shared_page keys (space, skip))) size
    (λ n under. not-but (skip == skip) (eq-eqb skip skip refl) (is_label (first + n) (shared_page keys (space, skip)))) in
    let each = sum-below-more (λ number. count_below (λ n. not (number == skip) && is_label (first + n) (shared_page keys (space, number))) size) (λ number. 1) limit skip below (omega arith)
    (λ number under. let few = but-label keys space skip first size number in let one = count-label first (shared_page keys (space, number)) size in omega arith) in
    let ones = sum-at-most-one (λ number. 1) limit (λ number under. omega arith) in
    omega arith

-- of another page it makes no difference
less-same : (keys : ℕ → Key) (space skip limit other page : ℕ) → shared_page keys (space, skip) ≡ Some other → page ≢ other → maps-less keys space skip limit page ≡ maps keys (Some space) limit page
unfolding maps-less maps
less-same keys space skip limit other page is apart =
    ap (λ test. any_below test limit) (fun_ext (λ number. ⊎_elim
    (λ (e : (number == skip) ≡ true).
    let same : number ≡ skip = eqb-true number skip e in
    let here : is_label page (shared_page keys (space, number)) ≡ false = ap (λ n. is_label page (shared_page keys (space, n))) same ∙ label-apart page other (shared_page keys (space, skip)) is apart in
    rw (e, here) refl)
    (λ (e : (number == skip) ≡ false). rw e refl)
    (cases_Bool (number == skip))))

kind-maps : (keys : ℕ → Key) (row : Inode) (kind : InodeKind) (page : ℕ) → HasTree kind → kind-has keys row kind page ≡ maps keys (Some row.root) (pages_of row.length) page
unfolding kind-has
kind-maps keys row File page tree = refl
kind-maps keys row Dir page tree = refl
kind-maps keys row Pipe page tree = absurd tree
kind-maps keys row Console page tree = absurd tree

kind-pages : (machine : KernelMachine) (row : Inode) (kind : InodeKind) → HasTree kind → ((number : ℕ) → length (mapped_bytes (at (file_memory machine row.root) number)) ≡ 4096) → (kind ≡ Dir → row.length % 32 ≡ 0)
    → inode_pages (Some (inode_by machine row kind)) ≡ pages_of row.length
kind-pages machine row File tree whole places = file-pages machine row whole
kind-pages machine row Dir tree whole places = places-pages machine row (places refl)
kind-pages machine row Pipe tree whole places = absurd tree
kind-pages machine row Console tree whole places = absurd tree

seen-row : (kernel : Kernel) (k : ℕ) (row : Inode) → at (inodes_of kernel) k ≡ Some row → held (inode_at kernel k) ≡ Some row
unfolding inodes_of at
seen-row kernel k row e = e

module _ (kernel : Kernel) (good : Accounted kernel) (number : ℕ) (inode : Inode) (page : ℕ) (found : Mapping) (there : at (inodes_of kernel) number ≡ Some inode) (tree : HasTree inode.kind) (some : inode.root ≢ 0)
    (is : map_of (forest_of kernel).keys inode.root page ≡ Some found) (real : found.page ≢ 0) where
  abbrev keys : ℕ → Key
  keys = (forest_of kernel).keys

  abbrev first : ℕ
  first = first_page kernel.size

  below : page < pages_of inode.length
  unfolding machine_of
  below = good.machine.within number inode there tree some page found is

  real-label : (other : Mapping) → other.page ≡ found.page → page_number (Some other) ≡ Some found.page
  real-label other same = rw (ne_eqb other.page 0 (λ e. real (sym same ∙ e))) (ap Some same)

  named-here : shared_page keys (inode.root, page) ≡ Some found.page
  named-here = ap page_number is ∙ real-label found refl

  unfoldable pub inode-but : ℕ → ℕ → Bool
  inode-but k p = if k == number then maps-less (forest_of kernel).keys inode.root page (pages_of inode.length) p else inode-has (forest_of kernel).keys (at (inodes_of kernel) k) p

  unfoldable pub inodes-but : ℕ → Bool
  inodes-but p = any_below (λ k. inode-but k p) 1024

  inode-same : (k p : ℕ) → p ≢ found.page → inode-but k p ≡ inode-has keys (at (inodes_of kernel) k) p
  unfolding inode-but inode-has
  inode-same k p apart = ⊎_elim
      (λ (e : (k == number) ≡ true).
      let same : k ≡ number = eqb-true k number e in
      let row : at (inodes_of kernel) k ≡ Some inode = ap (at (inodes_of kernel)) same ∙ there in
      rw (e, row) (less-same keys inode.root page (pages_of inode.length) found.page p named-here apart ∙ sym (kind-maps keys inode inode.kind p tree)))
      (λ (e : (k == number) ≡ false). rw e refl)
      (cases_Bool (k == number))

  inodes-same : (p : ℕ) → p ≢ found.page → inodes-but p ≡ inodes-have kernel good p
  unfolding inodes-but inodes-have
  inodes-same p apart = ap (λ test. any_below test 1024) (fun_ext (λ k. inode-same k p apart))

  inode-left : count_below (λ n. inode-but number (first + n)) kernel.size + 1 ≤ inode_pages (option_map (inode_in (machine_of kernel)) (at (inodes_of kernel) number))
  unfolding inode-but inode_in
  inode-left =
      let few = less-few keys first kernel.size inode.root page (pages_of inode.length) below in
      let whole = whole-row number (inode_at kernel number) inode (good.inodes.right number (inode-below kernel good number inode there)) (seen-row kernel number inode there) in
      rw (eq-eqb number number refl, there, kind-pages (machine_of kernel) inode inode.kind tree (file-whole kernel good inode.root) whole) few

  other-few : (k : ℕ) → k < 1024 → count_below (λ n. inode-but k (first + n)) kernel.size ≤ inode_pages (option_map (inode_in (machine_of kernel)) (at (inodes_of kernel) k))
  unfolding inode-but machine_of
  other-few k under = ⊎_elim
      (λ (e : (k == number) ≡ true). let same : k ≡ number = eqb-true k number e in rw same (let left = inode-left in omega arith))
      (λ (e : (k == number) ≡ false). rw e (inode-few (machine_of kernel) first kernel.size (at (inodes_of kernel) k) (λ row own. file-whole kernel good row.root)
      (λ row own. whole-row k (inode_at kernel k) row (good.inodes.right k under) (seen-row kernel k row own))))
      (cases_Bool (k == number))

  inodes-left : count_below (λ n. inodes-but (first + n)) kernel.size + 1 ≤ sum_below (λ number. inode_pages (at (view (machine_of kernel)).files.inodes number)) 1024
  unfolding inodes-but view inodes_in at machine_of
  inodes-left =
      let all = count-any (λ k n. inode-but k (first + n)) kernel.size 1024 in
      let each = sum-below-more (λ k. count_below (λ n. inode-but k (first + n)) kernel.size) (λ number. inode_pages (at (view (machine_of kernel)).files.inodes number)) 1024 number
      (inode-below kernel good number inode there) inode-left other-few in
      omega arith

  -- where another place has the page too, nothing that is taken is missed without this one
  pub left : (slots-have kernel good found.page || inodes-but found.page) ≡ true → kernel.machine.pages_taken < promised (view (machine_of kernel))
  unfolding promised
  left shared =
      let counted = taken-counted kernel.page_entries first kernel.size kernel.machine.free_page kernel.machine.pages_taken good.bank.pages.entries_good in
      let covered = count-less (λ n. is_taken (entry_at kernel.page_entries n)) (λ n. slots-have kernel good (first + n) || inodes-but (first + n)) kernel.size
      (λ n under taken. ⊎_elim
      (λ (e : first + n ≡ found.page). ap (λ p. slots-have kernel good p || inodes-but p) e ∙ shared)
      (λ (apart : first + n ≢ found.page). ap (λ b. slots-have kernel good (first + n) || b) (inodes-same (first + n) apart) ∙ taken-has kernel good n taken)
      (cases_eq (first + n) found.page)) in
      let both = count-or (λ n. slots-have kernel good (first + n)) (λ n. inodes-but (first + n)) kernel.size in
      let slots = slots-few kernel good in
      let less = inodes-left in
      omega arith

  inode-has-it : (k : ℕ) → k < 1024 → inode-but k found.page ≡ true → inodes-but found.page ≡ true
  unfolding inodes-but
  inode-has-it k under has = any-at (λ k. inode-but k found.page) 1024 k under has

  -- in this file, at another page number
  here-again : (other : ℕ) → other < pages_of inode.length → other ≢ page → shared_page keys (inode.root, other) ≡ Some found.page → inodes-but found.page ≡ true
  unfolding inode-but maps-less
  here-again other under apart label =
      let second : is_label found.page (shared_page keys (inode.root, other)) ≡ true = ap (is_label found.page) label ∙ eq-eqb found.page found.page refl in
      let but : any_below (λ n. not (n == page) && is_label found.page (shared_page keys (inode.root, n))) (pages_of inode.length) ≡ true =
      any-at (λ n. not (n == page) && is_label found.page (shared_page keys (inode.root, n))) (pages_of inode.length) other under (rw (ne_eqb other page apart, second) refl) in
      inode-has-it number (inode-below kernel good number inode there) (rw (eq-eqb number number refl) but)

  -- in another file
  elsewhere : (k other : ℕ) (row : Inode) → k ≢ number → at (inodes_of kernel) k ≡ Some row → HasTree row.kind → other < pages_of row.length → shared_page keys (row.root, other) ≡ Some found.page → inodes-but found.page ≡ true
  unfolding inode-but inode-has
  elsewhere k other row apart own has_tree under label =
      inode-has-it k (inode-below kernel good k row own)
      (rw (ne_eqb k number apart, own) (kind-maps keys row row.kind found.page has_tree ∙ mapped-has keys row.root (pages_of row.length) other found.page under label))

  -- who owns the page
  page-owner : (space other : ℕ) (mapping : Mapping) → IsSpace (forest_of kernel) [] space → map_of keys space other ≡ Some mapping → mapping.page ≡ found.page
      → (forest_of kernel).owner (PageObject found.page) ≡ (forest_of kernel).owner (NodeObject space)
  page-owner space other mapping is_space e same =
      let at_key = found_at keys space other mapping e in
      let names = mapped_named (key_at_page keys space other) mapping at_key.maps (λ z. real (sym same ∙ z)) in
      ap (λ p. (forest_of kernel).owner (PageObject p)) (sym same)
      ∙ way_owner (forest_of kernel) good.trees.sound space (page_way other) (way_of_page other) (PageObject mapping.page) names

  only-here : (other n : ℕ) (mapping : Mapping) → (slots-have kernel good found.page || inodes-but found.page) ≡ false → IsSpace (forest_of kernel) [] inode.root → (forest_of kernel).owner (NodeObject inode.root) ≡ Some OfFile
      → IsSpace (forest_of kernel) [] other → map_of keys other n ≡ Some mapping → mapping.page ≡ found.page → (other ≡ inode.root) × (n ≡ page)
  unfolding machine_of
  only-here other n mapping alone is_tree of_file is_space e same =
      let owned : (forest_of kernel).owner (NodeObject other) ≡ Some OfFile = sym (page-owner other n mapping is_space e same) ∙ page-owner inode.root page found is_tree is refl ∙ of_file in
      let h = good.machine.held.trees other is_space owned in
      let row = h.1 in
      let root_is : row.root ≡ other = h.4 in
      let row_some : row.root ≢ 0 = λ z. space-real kernel good other OfFile owned (sym root_is ∙ z) in
      let under : n < pages_of row.length = good.machine.within h.0 row h.2 h.3 row_some n mapping (ap (λ s. map_of keys s n) root_is ∙ e) in
      let label : shared_page keys (row.root, n) ≡ Some found.page = ap (λ s. shared_page keys (s, n)) root_is ∙ ap page_number e ∙ real-label mapping same in
      ⊎_elim
      (λ (t : h.0 ≡ number).
      let both : Some row ≡ Some inode = sym h.2 ∙ ap (at (inodes_of kernel)) t ∙ there in
      let same_row : row ≡ inode = cc in
      let same_root : other ≡ inode.root = sym root_is ∙ ap (λ (i : Inode). i.root) same_row in
      ⊎_elim
      (λ (p : n ≡ page). (same_root, p))
      (λ (p : n ≡ page → ⊥). absurd (untaken (sym alone ∙ or_right (slots-have kernel good found.page) (inodes-but found.page)
      (here-again n (subst (λ (i : Inode). n < pages_of i.length) same_row under) p (ap (λ (i : Inode). shared_page keys (i.root, n)) (sym same_row) ∙ label)))))
      (cases_eq n page))
      (λ (t : h.0 ≡ number → ⊥). absurd (untaken (sym alone ∙ or_right (slots-have kernel good found.page) (inodes-but found.page) (elsewhere h.0 n row t h.2 h.3 under label))))
      (cases_eq h.0 number)

  pub own-page : (slots-have kernel good found.page || inodes-but found.page) ≡ false → IsSpace (forest_of kernel) [] inode.root → (forest_of kernel).owner (NodeObject inode.root) ≡ Some OfFile
      → IsOwn (forest_of kernel) inode.root page found
  own-page alone is_tree of_file = record {
    mapped = is;
    real = real;
    alone = λ other n mapping is_space e same. only-here other n mapping alone is_tree of_file is_space e same;
  }

-- node 0 is no tree: nothing is mapped there
node_zero : (kernel : Kernel) → Accounted kernel → (forest_of kernel).owner (NodeObject 0) ≡ None
unfolding owner_of
node_zero kernel good = let fixed : entry_at kernel.node_entries 0 ≡ Fixed = good.bank.nodes.fixed 0 (omega arith) in rw fixed refl

zero_maps : (forest : Forest) → Sound forest → forest.owner (NodeObject 0) ≡ None → (page : ℕ) → map_of forest.keys 0 page ≡ None
unfolding page_way digits
zero_maps forest sound none page = ⊎_elim
    (λ (below : page < 2 ^ 19).
    let top = page / 16 / 16 / 16 / 16 in
    let node : (16 * 0 + top % 16) / 16 ≡ 0 = omega arith in
    let null : at forest.keys (place_of 0 (top % 16)) ≡ Null = sound.masked (place_of 0 (top % 16)) (ap (λ n. forest.owner (NodeObject n)) node ∙ none) in
    map_inside forest.keys 0 page below
    ∙ ap (λ key. mapping_of (key_below forest.keys (key_below forest.keys (key_below forest.keys (key_below forest.keys key (page / 16 / 16 / 16 % 16)) (page / 16 / 16 % 16)) (page / 16 % 16)) (page % 16))) null)
    (λ (far : 2 ^ 19 ≤ page). map_far forest.keys 0 page far)
    (cases_lt page (2 ^ 19))

-- a file's page that is no page of its own, blank or shared, is promised and not taken yet
pub file_page_left : (kernel : Kernel) (number : ℕ) (inode : Inode) (page : ℕ) → Accounted kernel → at (inodes_of kernel) number ≡ Some inode → HasTree inode.kind → page < pages_of inode.length
    → (inode.root ≢ 0 → IsSpace (forest_of kernel) [] inode.root × ((forest_of kernel).owner (NodeObject inode.root) ≡ Some OfFile))
    → ((found : Mapping) → inode.root ≢ 0 → IsOwn (forest_of kernel) inode.root page found → ⊥) → kernel.machine.pages_taken < promised (view (machine_of kernel))
unfolding machine_of
file_page_left kernel number inode page good there tree below space shared = ⊎_elim
    (λ (t : inode.root ≡ 0).
    hole_is_left kernel number inode page good there tree below
    (ap (λ r. shared_page (forest_of kernel).keys (r, page)) t ∙ ap page_number (zero_maps (forest_of kernel) good.trees.sound (node_zero kernel good) page)))
    (λ (some : inode.root ≡ 0 → ⊥). go some (map_of (forest_of kernel).keys inode.root page) refl)
    (cases_eq inode.root 0)
  where
    blank : (found : Mapping) → found.page ≡ 0 → page_number (Some found) ≡ None
    blank found e = rw (eq-eqb found.page 0 e) refl

    go : inode.root ≢ 0 → (found : Option Mapping) → map_of (forest_of kernel).keys inode.root page ≡ found → kernel.machine.pages_taken < promised (view (machine_of kernel))
    go some None e = hole_is_left kernel number inode page good there tree below (ap page_number e)
    go some (Some found) e = ⊎_elim
        (λ (t : found.page ≡ 0). hole_is_left kernel number inode page good there tree below (ap page_number e ∙ blank found t))
        (λ (real : found.page ≡ 0 → ⊥). ⊎_elim
        (λ (again : (slots-have kernel good found.page || inodes-but kernel good number inode page found there tree some e real found.page) ≡ true).
        left kernel good number inode page found there tree some e real again)
        (λ (alone : (slots-have kernel good found.page || inodes-but kernel good number inode page found there tree some e real found.page) ≡ false).
        absurd (shared found some (own-page kernel good number inode page found there tree some e real alone (space some).0 (space some).1)))
        (cases_Bool (slots-have kernel good found.page || inodes-but kernel good number inode page found there tree some e real found.page)))
        (cases_eq found.page 0)
