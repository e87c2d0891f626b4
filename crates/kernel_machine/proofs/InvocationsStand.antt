-- What stands, and slots, along with invocations.
use Rattle.std.proofs.Common.{◌≡◌, ◌≢◌, ◌⊎◌, ◌<◌, ◌≤◌, ◌^◌, ℕ, Bool, true, false, Option, Some, None, List, [], ◌∷◌, ◌++◌, set, if◌then◌else◌, refl, sym, ap, subst, ◌∙◌, arith, ⊎_elim, inl, inr}
use Rattle.std.specs.Option.{IsSome}
use Rattle.std.specs.Prelude.{⊤}
use Rattle.std.proofs.lemmas.Bool.{cases_Bool, cases_eq}
use Rattle.kn_base.specs.declared.key.Key.{Key}
use Rattle.kn_base.specs.declared.key.Key.TheVariants.{Null, Number, Page, Node, Segment, Start, Resume, Domain as DomainKey, Meter, Service}
use Rattle.kernel_tables.specs.declared.entry.NodeOwner.{NodeOwner}
use Rattle.kernel_tables.specs.declared.entry.NodeOwner.TheVariants.{Domain as DomainOwner, Tree, FileTree}
use Rattle.kernel_tables.specs.declared.entry.Entry.{Entry}
use Rattle.kernel_tables.specs.declared.entry.Entry.TheVariants.{Free, Taken, Fixed, Unspelled}
use Rattle.kernel_tables.specs.Blocks.{IsAmong}
use Rattle.kernel_tables.specs.Kernel.{Kernel, memory_page}
use Rattle.kernel_tables.specs.Rows.{entry_at, domain_rows, fixed_rows, of_domain}
use Rattle.space_bank.specs.Bank.{BankGood}
use Rattle.space_bank.specs.Laws.{and_outside}
use Rattle.space_bank.specs.Shares.{Outside}
use Rattle.space_bank.proofs.EntryLaws.{set_cases}
use Rattle.space_bank.proofs.FreeListLaws.{entry_inside}
use Rattle.forest.specs.Forest.{Forest, NoPageOutside}
use Rattle.forest.specs.Objects.{Object, PageObject, NodeObject}
use Rattle.kernel_forest.specs.Owners.{page_owners}
use Rattle.kernel_forest.specs.Trees.{forest_of, outside_trees, outside_by, raw_names, is_counted, owner_of, tree_in, node_tree, TreesGood}
use Rattle.file_tables.specs.Roots.{named_by}
use Rattle.unix_model.specs.Tables.{at, with_at}
use Rattle.unix_model.proofs.TableLaws.{at-with_at-other}
use Rattle.domain.specs.Domains.{Domain, Life, domains, lives, roots}
use Rattle.domain.specs.Phases.{FitsPhase, state_for, key_for}
use Rattle.domain.specs.Rules.{RowsGood}
use Rattle.domain.specs.Slots.{AreInSlots, room_of}
use Rattle.domain.proofs.BlockSets.{among_left, among_right}
use Rattle.domain.proofs.DomainLaws.{live_meter}
use Rattle.domain.proofs.MarkLaws.{stays}
use Rattle.domain.proofs.SlotLaws.{slots_differ}
use Rattle.domain.proofs.Writing.{root_mine}
use Rattle.invoke.specs.Invokes.{Invokes, Goes, seat_of}
use Rattle.invoke.specs.Others.{CallerLives, IsLeft, seat_at, touched}
use Rattle.invoke.specs.Room.{Seat, Stays, Enters, Leaves, entries_with, room_with, room, slot_in, key_now, key_was, leaving}
use Rattle.invoke.specs.Steps.{Step, Calls, Forks, Returns, Given}
use Rattle.invoke.proofs.Leaving.{others_are_left}
use Rattle.kernel_machine.specs.Invocations as law
use Rattle.kernel_machine.specs.Invocations.{SlotsGoodBut}
use Rattle.kernel_machine.specs.Machine.{KernelMachine, machine_of, inodes_of, descriptions_of}
use Rattle.kernel_machine.specs.Processes.{IsInSlot, HasMarks}
use Rattle.kernel_machine.specs.Standing.{Standing}
use Rattle.kernel_machine.specs.View.{view}
use Rattle.kernel_machine.proofs.KeepLaws.{held-same, none-more, other-node, trees-in}
use Rattle.kernel_machine.proofs.MarksStand.{woken-in-slot, woken-only}
use Rattle.kernel_machine.proofs.StandingLaws.{is-node, holdings-to, roots-to, held-to, filled-to, keepers-to}
use Rattle.kernel_machine.proofs.ViewLaws.{lives_unseen}

-- ---- who has a place in the room is a domain

abbrev SeatLives : Kernel → Seat → Type 0
SeatLives kernel Stays = ⊤
SeatLives kernel (Enters root count) = (at (domains kernel) root).live ≡ true
SeatLives kernel (Leaves root count) = (at (domains kernel) root).live ≡ true

leaving-lives : (kernel : Kernel) (root count : ℕ) → SeatLives kernel (leaving kernel root count)
leaving-lives kernel root count = ⊎_elim
    (λ (t : (at (domains kernel) root).live ≡ true). subst (λ (b : Bool). SeatLives kernel (if b then Leaves root count else Stays)) (sym t) t)
    (λ (t : (at (domains kernel) root).live ≡ false). subst (λ (b : Bool). SeatLives kernel (if b then Leaves root count else Stays)) (sym t) tt)
    (cases_Bool (at (domains kernel) root).live)

key-lives : (kernel : Kernel) (key : Key) → SeatLives kernel (seat_of kernel key)
key-lives kernel (Resume root count) = leaving-lives kernel root.0 count
key-lives kernel Null = tt
key-lives kernel (Number body) = tt
key-lives kernel (Page page writable) = tt
key-lives kernel (Node node) = tt
key-lives kernel (Segment node height) = tt
key-lives kernel (Start root byte) = tt
key-lives kernel (DomainKey root) = tt
key-lives kernel (Meter slot) = tt
key-lives kernel (Service code) = tt

step-lives : (kernel : Kernel) (one : Step) → CallerLives kernel one → SeatLives kernel (seat_at kernel one)
step-lives kernel (Calls root key) live = live
step-lives kernel (Forks key) live = key-lives kernel key
step-lives kernel (Returns root key) live = key-lives kernel key

-- ---- its keys name no tree

domain-apart : (entry : Entry NodeOwner) → of_domain entry ≡ true → tree_in node_tree entry ≡ None
domain-apart (Taken DomainOwner count) mine = refl
domain-apart (Taken Tree count) mine = cc
domain-apart (Taken FileTree count) mine = cc
domain-apart (Free next) mine = cc
domain-apart Fixed mine = cc
domain-apart Unspelled mine = cc

live-mine : (kernel : Kernel) (root : ℕ) → (at (domains kernel) root).live ≡ true → of_domain (entry_at kernel.node_entries root) ≡ true
live-mine kernel root live = root_mine kernel root (live_meter (domain_rows kernel) root live)

live-unowned : (kernel : Kernel) (root : ℕ) → (at (domains kernel) root).live ≡ true → (forest_of kernel).owner (NodeObject root) ≡ None
unfolding owner_of
live-unowned kernel root live = domain-apart (entry_at kernel.node_entries root) (live-mine kernel root live)

resume-names : (object : Object) (root count : ℕ) → raw_names object (Resume (record { 0 = root }) count) ≡ raw_names object (Node (record { 0 = root }))
resume-names (PageObject page) root count = refl
resume-names (NodeObject node) root count = refl

null-names : (object : Object) → raw_names object Null ≡ false
null-names (PageObject page) = refl
null-names (NodeObject node) = refl

resume-none : (kernel : Kernel) (root count : ℕ) (object : Object) → (at (domains kernel) root).live ≡ true → IsSome ((forest_of kernel).owner object) → raw_names object (Resume (record { 0 = root }) count) ≡ false
resume-none kernel root count object live some = resume-names object root count ∙ other-node (forest_of kernel) object root some (live-unowned kernel root live)

now-none : (kernel : Kernel) (seat : Seat) (object : Object) → SeatLives kernel seat → IsSome ((forest_of kernel).owner object) → raw_names object (key_now seat) ≡ false
now-none kernel Stays object live some = null-names object
now-none kernel (Enters root count) object live some = resume-none kernel root count object live some
now-none kernel (Leaves root count) object live some = null-names object

was-none : (kernel : Kernel) (seat : Seat) (object : Object) → SeatLives kernel seat → IsSome ((forest_of kernel).owner object) → raw_names object (key_was seat) ≡ false
was-none kernel Stays object live some = null-names object
was-none kernel (Enters root count) object live some = null-names object
was-none kernel (Leaves root count) object live some = resume-none kernel root count object live some

outside-more : (kernel : Kernel) (outside : Outside) (key : Key) (object : Object) → raw_names object key ≡ false → outside_trees kernel (and_outside outside key) object ≡ outside_trees kernel outside object
unfolding outside_by
outside-more kernel outside key object none = ⊎_elim
    (λ (t : is_counted object ≡ true). rw t (let same = none-more outside key object none in omega arith))
    (λ (t : is_counted object ≡ false). rw t refl)
    (cases_Bool (is_counted object))

-- ---- entries of domains

taken-mine : (kernel : Kernel) (root node count : ℕ) → (at (domains kernel) root).live ≡ true
    → of_domain (entry_at (set kernel.node_entries root (Taken DomainOwner count)) node) ≡ of_domain (entry_at kernel.node_entries node)
taken-mine kernel root node count live =
    let mine = live-mine kernel root live in
    set_cases (λ e. of_domain e ≡ of_domain (entry_at kernel.node_entries node)) kernel.node_entries root node (Taken DomainOwner count)
    (entry_inside kernel.node_entries root (λ e. let no : false ≡ true = ap of_domain (sym e) ∙ mine in cc))
    (λ same. sym mine ∙ ap (λ n. of_domain (entry_at kernel.node_entries n)) same)
    (λ other. refl)

entries-mine : (kernel : Kernel) (seat : Seat) (node : ℕ) → SeatLives kernel seat → of_domain (entry_at (entries_with kernel seat) node) ≡ of_domain (entry_at kernel.node_entries node)
entries-mine kernel Stays node live = refl
entries-mine kernel (Enters root count) node live = taken-mine kernel root node 2 live
entries-mine kernel (Leaves root count) node live = taken-mine kernel root node 1 live

-- ---- what stands

module _ (old new : Kernel) (now : ℕ → Life) (seat : Seat) (invokes : Invokes old new now seat) (alive : SeatLives old seat) where
  outside-now : (outside : Outside) (object : Object) → IsSome ((forest_of old).owner object) → outside_trees new outside object ≡ outside_trees old outside object
  outside-now outside object some =
      sym (outside-more new outside (key_was seat) object (was-none old seat object alive some))
      ∙ ap (λ (f : Object → ℕ). f object) (invokes.outside_now outside)
      ∙ outside-more old outside (key_now seat) object (now-none old seat object alive some)

  trees-now : (outside : Outside) → TreesGood old outside [] → TreesGood new outside []
  trees-now outside trees =
      record {
        shares = invokes.shares outside [] trees.shares;
        held = rw invokes.forest_now (held-same (forest_of old) (outside_trees old outside) (outside_trees new outside) (outside-now outside) trees.held);
        in_hand = tt;
        short = omega arith;
        in_trees = trees-in (forest_of old) (forest_of new) invokes.forest_now trees.in_trees;
        single = subst (λ (forest : Forest). (object : Object) → IsSome (forest.owner object) → outside_trees new outside object ≤ 1) (sym invokes.forest_now)
            (λ object some. let s = outside-now outside object some in let one = trees.single object some in omega arith);
      }

  inside-now : (outside : Outside) → NoPageOutside (forest_of old) (outside_trees old outside) → NoPageOutside (forest_of new) (outside_trees new outside)
  inside-now outside inside = subst (λ (forest : Forest). NoPageOutside forest (outside_trees new outside)) (sym invokes.forest_now)
      (λ page some. outside-now outside (PageObject page) some ∙ inside page some)

  standing-now : BankGood new → RowsGood (domain_rows new) → Standing old → Standing new
  unfolding inodes_of
  standing-now bank rows standing =
      let named : named_by new.inodes ≡ named_by old.inodes = ap (λ (k : Kernel). named_by k.inodes) invokes.rest in
      let owners : page_owners new ≡ page_owners old = ap page_owners invokes.rest in
      let inodes : inodes_of new ≡ inodes_of old = ap inodes_of invokes.rest in
      record {
        bank = bank;
        whole = rw (ap (λ (k : Kernel). k.bank) invokes.rest) standing.whole;
        unused = rw (ap (λ (k : Kernel). k.page_zero) invokes.rest, ap (λ (k : Kernel). k.other_words) invokes.rest) standing.unused;
        trees = subst (λ (outside : Outside). TreesGood new outside []) (sym named) (trees-now (named_by old.inodes) standing.trees);
        pages_inside = subst (λ (outside : Outside). NoPageOutside (forest_of new) (outside_trees new outside)) (sym named) (inside-now (named_by old.inodes) standing.pages_inside);
        filled = filled-to invokes.forest_now standing.filled;
        rows = rows;
        nodes_held = λ node mine.
            let was : of_domain (entry_at old.node_entries node) ≡ true =
            sym (entries-mine old seat node alive) ∙ sym (ap (λ (k : Kernel). of_domain (entry_at k.node_entries node)) invokes.rest) ∙ mine in
            let h = standing.nodes_held node was in (
              h.0,
              is-node (domain_rows old) (domain_rows new) h.0 node (ap (λ (table : ℕ → Domain). (at table h.0).live) invokes.domains_now)
                  (ap (λ (table : ℕ → Domain). (at table h.0).regs_node) invokes.domains_now) (ap (λ (table : ℕ → Domain). (at table h.0).descriptors_node) invokes.domains_now) h.1,
            );
        inodes = rw (ap (λ (k : Kernel). k.inodes) invokes.rest) standing.inodes;
        descriptions = rw (ap (λ (k : Kernel). k.descriptions) invokes.rest) standing.descriptions;
        holdings = holdings-to invokes.domains_now invokes.forest_now owners standing.holdings;
        roots = roots-to invokes.forest_now (ap memory_page invokes.rest) owners inodes standing.roots;
        keepers = keepers-to invokes.forest_now standing.keepers;
        held = held-to invokes.domains_now invokes.forest_now owners inodes standing.held;
      }

pub standing_with_invocation : law.StandingWithInvocation
standing_with_invocation old new one given caller goes bank rows standing =
    standing-now old new goes.now (seat_at old one) goes.invokes (step-lives old one caller) bank rows standing

-- ---- the flat state

with-invoked : Kernel → (ℕ → Option ℕ) → (ℕ → Domain) → Forest → KernelMachine
with-invoked kernel roots domains forest = record (machine_of kernel) { roots = roots; domains = domains; forest = forest }

with-same : (kernel : Kernel) (r1 r2 : ℕ → Option ℕ) (d1 d2 : ℕ → Domain) (f1 f2 : Forest) → r1 ≡ r2 → d1 ≡ d2 → f1 ≡ f2 → with-invoked kernel r1 d1 f1 ≡ with-invoked kernel r2 d2 f2
with-same kernel r1 r2 d1 d2 f1 f2 r d f = rw (r, d, f) refl

invoked : (old : Kernel) (entries : List (Entry NodeOwner)) (keys : List (Option Key)) → roots (record old { node_entries = entries; keys = keys }) ≡ roots old
    → domains (record old { node_entries = entries; keys = keys }) ≡ domains old → forest_of (record old { node_entries = entries; keys = keys }) ≡ forest_of old
    → machine_of (record old { node_entries = entries; keys = keys })
    ≡ record (machine_of old) { room = room_of (fixed_rows (record old { node_entries = entries; keys = keys })); lives = lives (record old { node_entries = entries; keys = keys }) }
unfolding machine_of with-invoked inodes_of descriptions_of
invoked old entries keys r d f =
    with-same (record old { node_entries = entries; keys = keys }) (roots (record old { node_entries = entries; keys = keys })) (roots old) (domains (record old { node_entries = entries; keys = keys })) (domains old)
    (forest_of (record old { node_entries = entries; keys = keys })) (forest_of old) r d f

machine-invoked : (old new : Kernel) (now : ℕ → Life) (seat : Seat) → Invokes old new now seat → machine_of new ≡ record (machine_of old) { room = room_of (fixed_rows new); lives = lives new }
machine-invoked old new now seat invokes =
    subst (λ (kernel : Kernel). machine_of kernel ≡ record (machine_of old) { room = room_of (fixed_rows kernel); lives = lives kernel }) (sym invokes.rest)
    (invoked old (entries_with old seat) new.keys (ap roots (sym invokes.rest) ∙ invokes.roots_now) (ap domains (sym invokes.rest) ∙ invokes.domains_now) (ap forest_of (sym invokes.rest) ∙ invokes.forest_now))

pub invocation_unseen : law.InvocationUnseen
invocation_unseen old new one given goes =
    ap view (machine-invoked old new goes.now (seat_at old one) goes.invokes) ∙ lives_unseen (machine_of old) (room_of (fixed_rows new)) (lives new)

-- ---- slots

in-slot-to : (room1 room2 : ℕ → Key) (lives1 lives2 : ℕ → Life) (domains1 domains2 : ℕ → Domain) (slot root : ℕ) → at room2 slot ≡ at room1 slot → at lives2 root ≡ at lives1 root
    → at domains2 root ≡ at domains1 root → IsInSlot room1 lives1 domains1 slot root → IsInSlot room2 lives2 domains2 slot root
in-slot-to room1 room2 lives1 lives2 domains1 domains2 slot root k l d was = record {
  live = ap (λ (d : Domain). d.live) d ∙ was.live;
  slot_is = ap (λ (d : Domain). d.slot) d ∙ was.slot_is;
  state = ap (λ (l : Life). l.state) l ∙ was.state ∙ ap (λ (d : Domain). state_for d.phase) (sym d);
  key = k ∙ was.key ∙ ap (λ (l : Life). key_for root l.count (at domains1 root).phase) (sym l) ∙ ap (λ (d : Domain). key_for root (at lives2 root).count d.phase) (sym d);
  count = subst (λ (l : Life). l.count < 2 ^ 64) (sym l) was.count;
  fits = subst (λ (d : Domain). FitsPhase d d.phase) (sym d) was.fits;
  marks = subst (λ (d : Domain). HasMarks d d.phase) (sym d) was.marks;
}

pub slots_are_good_but : law.SlotsAreGoodBut
slots_are_good_but roots room lives domains good = record {
  each = λ slot root used apart. good.each slot root used;
  live = λ slot root used. (good.each slot root used).live;
  own = λ slot root used. (good.each slot root used).slot_is;
  all = good.all;
  free = good.free;
}

pub among-or : (root : ℕ) (some : List ℕ) → IsAmong root some ⊎ (IsAmong root some → ⊥)
among-or root [] = inr (λ none. none)
among-or root (other ∷ others) = ⊎_elim
    (λ (e : root ≡ other). inl (inl e))
    (λ (d : root ≢ other). ⊎_elim
    (λ (h : IsAmong root others). inl (inr h))
    (λ (h : IsAmong root others → ⊥). inr (λ either. ⊎_elim d h either))
    (among-or root others))
    (cases_eq root other)

pub slots_are_settled : law.SlotsAreSettled
slots_are_settled roots room lives domains apart good settled = record {
  each = λ slot root used. ⊎_elim
      (λ (among : IsAmong root apart). settled slot root used among)
      (λ (other : IsAmong root apart → ⊥). good.each slot root used other)
      (among-or root apart);
  all = good.all;
  free = good.free;
}

pub slots_but_with_domain : law.SlotsButWithDomain
slots_but_with_domain roots room lives domains root domain apart live slot among good =
    let of_live = stays domains root domain (λ d. d.live) live in
    let of_slot = stays domains root domain (λ d. d.slot) slot in
    record {
      each = λ s held used other. in-slot-to room room lives lives domains (with_at domains root domain) s held refl refl
          (at-with_at-other domains root held domain (λ e. other (subst (λ r. IsAmong r apart) (sym e) among))) (good.each s held used other);
      live = λ s held used. of_live held ∙ good.live s held used;
      own = λ s held used. of_slot held ∙ good.own s held used;
      all = λ held lives_now. ap (at roots) (of_slot held) ∙ good.all held (sym (of_live held) ∙ lives_now);
      free = good.free;
    }

pub slots_but_with_wake : law.SlotsButWithWake
slots_but_with_wake roots room lives domains word apart good =
    let only = woken-only word domains in
    record {
      each = λ slot root used other. woken-in-slot room lives domains word slot root (good.each slot root used other);
      live = λ slot root used. ap (λ (d : Domain). d.live) (only root) ∙ good.live slot root used;
      own = λ slot root used. ap (λ (d : Domain). d.slot) (only root) ∙ good.own slot root used;
      all = λ root live. ap (λ (d : Domain). at roots d.slot) (only root) ∙ good.all root (sym (ap (λ (d : Domain). d.live) (only root)) ∙ live);
      free = good.free;
    }

module _ (old new : Kernel) (one : Step) (given : Given) (apart : List ℕ) (caller : CallerLives old one) (goes : Goes old new one given (seat_at old one))
    (good : SlotsGoodBut (roots old) (room_of (fixed_rows old)) (lives old) (domains old) apart) where
  in_slots : AreInSlots (roots old) (domains old)
  in_slots = record { live = good.live; own = good.own; all = good.all }

  used-before : (slot root : ℕ) → at (roots new) slot ≡ Some root → at (roots old) slot ≡ Some root
  used-before slot root used = sym (ap (λ (r : ℕ → Option ℕ). at r slot) goes.invokes.roots_now) ∙ used

  domain-same : (root : ℕ) → at (domains new) root ≡ at (domains old) root
  domain-same root = ap (λ (d : ℕ → Domain). at d root) goes.invokes.domains_now

  each-now : (slot root : ℕ) → at (roots new) slot ≡ Some root → (IsAmong root (touched one ++ apart) → ⊥) → IsInSlot (room_of (fixed_rows new)) (lives new) (domains new) slot root
  each-now slot root used other =
      let was = used-before slot root used in
      let own = good.own slot root was in
      let left : IsLeft old new root = others_are_left old new one given caller goes (slots_differ in_slots) root (λ among. other (among_left root (touched one) apart among)) in
      in-slot-to (room_of (fixed_rows old)) (room_of (fixed_rows new)) (lives old) (lives new) (domains old) (domains new) slot root
      (ap (at (room new)) (sym own ∙ sym (ap (λ (d : Domain). d.slot) (domain-same root))) ∙ left.key (good.live slot root was) ∙ ap (at (room old)) own)
      left.life (domain-same root) (good.each slot root was (λ among. other (among_right root (touched one) apart among)))

  -- the place of a free slot is nobody's
  free-place : (seat : Seat) (slot : ℕ) → SeatLives old seat → at (roots old) slot ≡ None → at (room_with old seat) slot ≡ at (room old) slot
  free-place Stays slot live free = refl
  free-place (Enters root count) slot live free = at-with_at-other (room old) (slot_in old root) slot (Resume (record { 0 = root }) count)
      (λ e. let no : None ≡ Some root = sym free ∙ ap (at (roots old)) e ∙ good.all root live in cc)
  free-place (Leaves root count) slot live free = at-with_at-other (room old) (slot_in old root) slot Null
      (λ e. let no : None ≡ Some root = sym free ∙ ap (at (roots old)) e ∙ good.all root live in cc)

  slots-now : SlotsGoodBut (roots new) (room_of (fixed_rows new)) (lives new) (domains new) (touched one ++ apart)
  slots-now = record {
    each = each-now;
    live = λ slot root used. ap (λ (d : Domain). d.live) (domain-same root) ∙ good.live slot root (used-before slot root used);
    own = λ slot root used. ap (λ (d : Domain). d.slot) (domain-same root) ∙ good.own slot root (used-before slot root used);
    all = λ root live. ap (λ (d : Domain). at (roots new) d.slot) (domain-same root) ∙ ap (λ (r : ℕ → Option ℕ). at r (at (domains old) root).slot) goes.invokes.roots_now
        ∙ good.all root (sym (ap (λ (d : Domain). d.live) (domain-same root)) ∙ live);
    free = λ slot low free.
        let was : at (roots old) slot ≡ None = sym (ap (λ (r : ℕ → Option ℕ). at r slot) goes.invokes.roots_now) ∙ free in
        ap (λ (r : ℕ → Key). at r slot) goes.invokes.room_now ∙ free-place (seat_at old one) slot (step-lives old one caller) was ∙ good.free slot low was;
  }

pub slots_with_invocation : law.SlotsWithInvocation
slots_with_invocation old new one given apart caller goes good = slots-now old new one given apart caller goes good
