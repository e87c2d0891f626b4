-- Spaces stay spaces, and few pages are taken.
use Rattle.std.proofs.Common.{◌≡◌, ◌≢◌, ◌<◌, ◌≤◌, ◌+◌, ◌-◌, ◌*◌, ◌/◌, ◌==◌, ℕ, zero, suc, true, false, cond, nat_lt, Option, Some, None, List, [], length, ap, sym, subst, ◌∙◌, arith, ⊎_elim}
use Rattle.std.specs.Option.{is_some}
use Rattle.std.proofs.Math.Path.{fun_ext}
use Rattle.std.proofs.lemmas.List.{get_or_past}
use Rattle.std.proofs.lemmas.Bool.{cases_Bool, cases_eq, cases_lt, eq-eqb, ne_eqb}
use Rattle.kn_base.specs.declared.key.Key.{Key}
use Rattle.kn_base.specs.declared.key.Key.TheVariants.{Null}
use Rattle.kernel_tables.specs.Kernel.{Kernel}
use Rattle.kernel_tables.specs.Rows.{key_table, spelled_or_null}
use Rattle.kernel_tables.specs.declared.entry.PageOwner.{PageOwner}
use Rattle.space_bank.specs.Bank.{BankGood}
use Rattle.space_bank.specs.Shares.{Outside, nothing_outside}
use Rattle.space_bank.specs.Laws.{and_outside}
use Rattle.unix_model.specs.Tables.{at}
use Rattle.forest.specs.Objects.{NodeObject, Owner, named, names}
use Rattle.forest.specs.Walks.{Mapping, space_key}
use Rattle.forest.specs.Forest.{Forest, IsSpace, namings}
use Rattle.forest.specs.Calls.{ChangesMap}
use Rattle.forest.proofs.CopyLaws.{none_below}
use Rattle.forest.proofs.ExactLaws.{not_named}
use Rattle.forest.proofs.ReachLaws.{nothing_in_hand}
use Rattle.kernel_forest.specs.Trees.{forest_of, outside_by, outside_trees, TreesGood}
use Rattle.seg_tree.specs.Checks.{NodesInRange}
use Rattle.seg_tree.specs.Promises.{Adds, Drops}
use Rattle.seg_tree.specs.Writes.{Owns}
use Rattle.user_copy.specs.Writing.{NotOwn, CountsPage, is_own, is_other, pages_touched, PutsBytes}
use Rattle.tests_spaces.specs.Ready.{IsReadable, IsReady, IsTestSpace, KeepsOthers, KeepsSpaces}

abbrev SameOutside : Kernel → Kernel → Type 0
SameOutside old new = (outside : Outside) → outside_trees new outside ≡ outside_trees old outside

-- a space that is one still is named by no more than it was
pub still_alone : (old new : Kernel) (space : ℕ) → SameOutside old new → IsSpace (forest_of new) [] space → IsTestSpace old space → IsTestSpace new space
still_alone old new space now is was = record { is_space = is; alone = ap (λ named. named (NodeObject space)) (now nothing_outside) ∙ was.alone }

less_outside : (kernel : Kernel) (outside : Outside) (node : ℕ) → outside_trees kernel nothing_outside (NodeObject node) ≤ outside_trees kernel outside (NodeObject node)
unfolding outside_by
less_outside kernel outside node = ⊎_elim
    (λ (t : nat_lt node 15 ≡ true). rw t (omega arith))
    (λ (t : nat_lt node 15 ≡ false). rw t (omega arith))
    (cases_Bool (nat_lt node 15))

more_outside : (kernel : Kernel) (outside : Outside) (node : ℕ) → outside_trees kernel outside (NodeObject node) ≤ outside.nodes node + outside_trees kernel nothing_outside (NodeObject node)
unfolding outside_by
more_outside kernel outside node = ⊎_elim
    (λ (t : nat_lt node 15 ≡ true). rw t (omega arith))
    (λ (t : nat_lt node 15 ≡ false). rw t (omega arith))
    (cases_Bool (nat_lt node 15))

pub added_space : (old new : Kernel) (space : ℕ) {owner : Option Owner} {keeper : Key} {map : ℕ → Option Mapping} (outside : Outside) → TreesGood old outside [] → Adds old new space owner keeper map → IsTestSpace new space
added_space old new space outside trees adds = record {
  is_space = (adds.adds outside trees).1.is_space;
  alone =
      let unnamed = adds.unnamed outside trees in
      let less = less_outside old outside space in
      let now = ap (λ named. named (NodeObject space)) (adds.outside_now nothing_outside) in
      omega arith;
}

-- a space that is added is none of those that were there
pub added_apart : (old new : Kernel) (space : ℕ) {owner : Option Owner} {keeper : Key} {map : ℕ → Option Mapping} (outside : Outside) → TreesGood old outside [] → Adds old new space owner keeper map
    → (other : ℕ) → IsTestSpace old other → space ≢ other
added_apart old new space outside trees adds other was e =
    let some : is_some ((forest_of old).owner (NodeObject other)) ≡ true = was.is_space.owned in
    let none : is_some ((forest_of old).owner (NodeObject other)) ≡ false
    = ap (λ s. is_some ((forest_of old).owner (NodeObject s))) (sym e) ∙ ap is_some (adds.adds outside trees).1.fresh in
    let no : true ≡ false = sym some ∙ none in cc

pub added_keeps : (old new : Kernel) (space : ℕ) {owner : Option Owner} {keeper : Key} {map : ℕ → Option Mapping} (outside : Outside) → TreesGood old outside [] → Adds old new space owner keeper map → KeepsSpaces old new
added_keeps old new space outside trees adds = record {
  stay = λ other was. still_alone old new other adds.outside_now
      ((adds.adds outside trees).1.others.stay other was.is_space (λ e. added_apart old new space outside trees adds other was (sym e))) was;
}

pub changed_keeps : (old new : Kernel) (space : ℕ) (map : ℕ → Option Mapping) → SameOutside old new → ChangesMap (forest_of old) (forest_of new) space map → KeepsSpaces old new
changed_keeps old new space map now changes = record {
  stay = λ other was. still_alone old new other now (⊎_elim
      (λ (t : other ≡ space). subst (IsSpace (forest_of new) []) (sym t) changes.stays)
      (λ (t : other ≡ space → ⊥). changes.others.stay other was.is_space t)
      (cases_eq other space)) was;
}

pub put_keeps : (old new : Kernel) {space address : ℕ} {bytes : List ℕ} → PutsBytes old new space address bytes → KeepsSpaces old new
put_keeps old new put = record { stay = λ other was. still_alone old new other put.outside_now ((put.spaces other).0 was.is_space) was }

-- the key of a space is taken from what is outside
without : Outside → ℕ → Outside
without outside space = record { pages = outside.pages; nodes = λ id. outside.nodes id - cond (space == id) 1 0 }

same_outside : (pages other_pages nodes other_nodes : ℕ → ℕ) → pages ≡ other_pages → nodes ≡ other_nodes
    → (let a : Outside = record { pages = pages; nodes = nodes } in a) ≡ (let b : Outside = record { pages = other_pages; nodes = other_nodes } in b)
same_outside pages other_pages nodes other_nodes e f =
    ap (λ p. let o : Outside = record { pages = p; nodes = nodes } in o) e ∙ ap (λ n. let o : Outside = record { pages = other_pages; nodes = n } in o) f

back_outside : (outside : Outside) (space : ℕ) → 1 ≤ outside.nodes space → and_outside (without outside space) (space_key space) ≡ outside
unfolding without
back_outside outside space some = same_outside _ outside.pages _ outside.nodes (fun_ext (λ id. omega arith)) (fun_ext (λ id. ⊎_elim
    (λ (t : space ≡ id). rw (eq-eqb space id t) (let here : outside.nodes space ≡ outside.nodes id = ap outside.nodes t in omega arith))
    (λ (t : space ≡ id → ⊥). rw (ne_eqb space id t) (omega arith))
    (cases_eq space id)))

-- a space that no key of a node names is named from outside
named_outside : (kernel : Kernel) (outside : Outside) (space : ℕ) → TreesGood kernel outside [] → IsTestSpace kernel space → 1 ≤ outside.nodes space
unfolding namings
named_outside kernel outside space trees is =
    let counted = trees.held.exact.counted (NodeObject space) is.is_space.owned in
    let alive = trees.held.alive (NodeObject space) is.is_space.owned in
    let hand = nothing_in_hand (NodeObject space) in
    let nobody = none_below (λ place. names (NodeObject space) (at (forest_of kernel).keys place)) (16 * kernel.nodes)
    (λ place low. not_named (at (forest_of kernel).keys place) (NodeObject space) (is.is_space.unnamed place)) in
    let alone = is.alone in
    let more = more_outside kernel outside space in
    omega arith

-- so its one key can be given up
pub hand_over : (kernel : Kernel) (space : ℕ) → IsReady kernel → IsTestSpace kernel space → (outside : Outside) × TreesGood kernel (and_outside outside (space_key space)) []
hand_over kernel space ready is = (
  without ready.outside space,
  subst (λ o. TreesGood kernel o []) (sym (back_outside ready.outside space (named_outside kernel ready.outside space ready.trees is))) ready.trees,
)

pub dropped_ready : (old new : Kernel) (space : ℕ) → IsReady old → IsTestSpace old space → BankGood new → Drops old new space → IsReady new
dropped_ready old new space ready is good drops =
    let hand = hand_over old space ready is in
    record {
      good = good;
      zero = ap (λ (k : Kernel). k.page_zero) drops.rest ∙ ready.zero;
      outside = hand.0;
      trees = (drops.drops hand.0 hand.1).0;
    }

pub dropped_keeps : (old new : Kernel) (space : ℕ) → IsReady old → IsTestSpace old space → Drops old new space → KeepsOthers old new space
dropped_keeps old new space ready is drops =
    let hand = hand_over old space ready is in
    record { stay = λ other apart was. still_alone old new other drops.outside_now ((drops.drops hand.0 hand.1).1.others.stay other was.is_space apart) was }

one_more : (forest : Forest) (space first page before taken : ℕ) → CountsPage forest space first page before taken → taken ≤ before + 1
one_more forest space first page before taken (is_own found turn e) = omega arith
one_more forest space first page before taken (is_other found e shared n) = omega arith

few_taken : (forest : Forest) (space first count taken : ℕ) → NotOwn forest space first count taken → taken ≤ count
unfolding NotOwn
few_taken forest space first zero taken h = let none : taken ≡ 0 = h in omega arith
few_taken forest space first (suc count) taken h =
    let before : h.0 ≤ count = few_taken forest space first count h.0 h.1 in
    let last = one_more forest space first (first + count) h.0 taken h.2 in
    omega arith

few_touched : (address n : ℕ) → n ≤ 4192 → pages_touched address n ≤ 3
few_touched address n few = ⊎_elim
    (λ (t : n ≡ 0). rw (eq-eqb n 0 t) (omega arith))
    (λ (t : n ≡ 0 → ⊥). rw (ne_eqb n 0 t) (omega arith))
    (cases_eq n 0)

-- three pages are enough for as many bytes as a page has, and a few more
pub three_are_enough : (forest : Forest) (space address n pages size : ℕ) → n ≤ 4192 → pages + 3 ≤ size
    → (taken : ℕ) → NotOwn forest space (address / 4096) (pages_touched address n) taken → pages + taken ≤ size
three_are_enough forest space address n pages size few room taken counts =
    let most = few_taken forest space (address / 4096) (pages_touched address n) taken counts in
    let touched = few_touched address n few in
    omega arith

-- a page was made own, or nothing has changed
pub owned_ready : (old new : Kernel) (space page result : ℕ) (owner : PageOwner) → IsReady old → BankGood new → Owns old new space page result owner → IsReady new
owned_ready old new space page result owner ready good owns = record {
  good = good;
  zero = ap (λ (k : Kernel). k.page_zero) owns.rest ∙ ready.zero;
  outside = ready.outside;
  trees = (owns.changes ready.outside ready.trees).0;
}

pub same_keeps : (old new : Kernel) → new ≡ old → KeepsSpaces old new
same_keeps old new e = record { stay = λ other is. subst (λ (k : Kernel). IsTestSpace k other) (sym e) is }

-- what is asked where a tree is looked at
pub readable : (kernel : Kernel) → IsReady kernel → IsReadable kernel
readable kernel ready = record { sized = ready.good.sized; all_keys = ready.good.nodes.all_keys }

pub root_below : (kernel : Kernel) (space : ℕ) → IsReady kernel → IsTestSpace kernel space → space < kernel.nodes
root_below kernel space ready is = ready.trees.held.sound.within space is.is_space.owned

past_null : (keys : List (Option Key)) (place : ℕ) → length keys ≤ place → key_table keys place ≡ Null
unfolding key_table
past_null keys place far = ap spelled_or_null (get_or_past keys place None far)

-- keys are in range where those are that have been looked at, up to the last one
pub in_range : (kernel : Kernel) → IsReadable kernel → (end : ℕ) → 16 * kernel.nodes ≤ end
    → ((place node : ℕ) → place < end → named (key_table kernel.keys place) ≡ Some (NodeObject node) → node < kernel.nodes) → NodesInRange kernel
in_range kernel readable end far low place node h = ⊎_elim
    (λ (t : place < end). low place node t h)
    (λ (t : end ≤ place).
    let keys = readable.all_keys in
    let none : named (key_table kernel.keys place) ≡ None = ap named (past_null kernel.keys place (omega arith)) in
    let no : None ≡ Some (NodeObject node) = sym none ∙ h in cc)
    (cases_lt place end)
