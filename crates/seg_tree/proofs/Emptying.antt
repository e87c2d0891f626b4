-- A node in hand is emptied and given back.
use Rattle.std.proofs.Common.{◌≡◌, ◌≢◌, ◌<◌, ◌≤◌, ◌+◌, ◌-◌, ◌⊎◌, inl, inr, ℕ, Bool, Some, None, List, [], ◌∷◌, ◌++◌, refl, ap, sym, subst, ◌∙◌, arith, ⊎_elim}
use Rattle.std.proofs.lemmas.Bool.{cases_eq, cases_lt}
use Rattle.kn_base.specs.declared.key.Key.{Key}
use Rattle.kn_base.specs.declared.key.Key.TheVariants.{Null, Page, Segment}
use Rattle.kn_base.specs.declared.key.NodeId.{NodeId}
use Rattle.kn_base.specs.declared.key.PageId.{PageId}
use Rattle.kernel_tables.specs.Kernel.{Kernel}
use Rattle.space_bank.specs.Bank.{BankGood}
use Rattle.space_bank.specs.Shares.{Outside}
use Rattle.space_bank.proofs.ChangeLaws.{taken_high}
use Rattle.unix_model.specs.Tables.{at}
use Rattle.unix_model.proofs.TableLaws.{at-with_at}
use Rattle.forest.specs.Objects.{Object, PageObject, NodeObject, named}
use Rattle.forest.specs.Walks.{place_of, key_below}
use Rattle.forest.specs.Forest.{Forest, Held, FitsUnder, FitsBelow}
use Rattle.forest.specs.Changes.{with_key}
use Rattle.forest.specs.Release.{take_out as take_out_step, Release, done, more}
use Rattle.forest.proofs.ReleaseLaws.{release_keeps_spaces}
use Rattle.forest.specs.Forest.{node_way}
use Rattle.forest.proofs.CallLaws.{root_in_hand}
use Rattle.forest.proofs.KeptWays.{release_keeps_ways}
use Rattle.forest.proofs.OwnMaps.{way_of_node}
use Rattle.kernel_forest.proofs.ApartLaws.{inside_same}
use Rattle.kernel_forest.proofs.Owners.{keeps-leaves, leaves-leaves}
use Rattle.kernel_forest.specs.Trees.{forest_of, outside_trees, IsTreeKey, TreesGood}
use Rattle.kernel_forest.specs.Moves.{PutsKey}
use Rattle.kernel_forest.specs.Releases.{Releasing, Lets, InHand}
use Rattle.seg_tree.specs.Releases.{TakesOut, Empties, Leaves}
use Rattle.kernel_forest.proofs.Moves.{uncounted_in_hand, node_taken}
use Rattle.seg_tree.proofs.Children.{fits_tree}
use Rattle.space_bank.specs.Laws.{and_outside}
use Rattle.space_bank.proofs.HandLaws.{handed-out}
use Rattle.forest.specs.Changes.{and_outside as and_outside_trees}
use Rattle.forest.specs.Forest.{IsSpace}
use Rattle.forest.specs.Objects.{names}
use Rattle.forest.specs.Walks.{space_key}
use Rattle.forest.proofs.CountLaws.{true-names}
use Rattle.forest.proofs.ExactLaws.{bit}
use Rattle.forest.proofs.HeldLaws.{hand_in_keeps_held}
use Rattle.forest.proofs.CallLaws.{call_drops_space}
use Rattle.forest.proofs.ReleaseLaws.{release_leaves_none_empty}
use Rattle.forest.proofs.ReachLaws.{nothing_in_hand}
use Rattle.forest.proofs.ReleaseLaws.{release_gives_unnamed}
use Rattle.forest.specs.Forest.{in_hand}
use Rattle.forest.specs.Release.{Thins}
use Rattle.forest.proofs.ThinLaws.{release_thins, release_trans}
use Rattle.kernel_tables.specs.Kernel.{IsBankPage}
use Rattle.kernel_forest.specs.Releases.{KeepsUnreleased, KeepsBytes}
use Rattle.kernel_forest.proofs.InTrees.{AllSingle, root_once, released_in_trees}
use Rattle.kernel_forest.proofs.Outside.{space_out}
use Rattle.kernel_forest.proofs.Giving.{keeps_bytes}
use Rattle.kernel_forest.proofs.GivingNodes.{hand_alive, unreleased, same_bytes}
use Rattle.seg_tree.specs.Promises.{Drops}
use Rattle.kernel_forest.proofs.Giving.{lets_nothing}

-- releases follow each other
pub unreleased_trans : (old mid new : Kernel) → KeepsUnreleased old mid → KeepsUnreleased mid new → KeepsUnreleased old new
unreleased_trans old mid new first second =
    second
    ∙ ap (λ (k : Kernel). let r : Kernel = record k {
      machine = record k.machine {
        free_page = new.machine.free_page;
        free_node = new.machine.free_node;
        memory_taken = new.machine.memory_taken;
        pages_taken = new.machine.pages_taken;
        nodes_taken = new.machine.nodes_taken;
      };
      page_entries = new.page_entries;
      node_entries = new.node_entries;
      bank = new.bank;
      keys = new.keys;
    } in r) first

bytes_trans : (old mid new : Kernel) → mid.size ≡ old.size → KeepsBytes old mid → KeepsBytes mid new → KeepsBytes old new
bytes_trans old mid new size first second = record {
  fewer = λ object some. first.fewer object (second.fewer object some);
  bytes = λ page inside still.
      second.bytes page (subst (λ s. IsBankPage s page) (sym size) inside) (λ some. still (first.fewer (PageObject page) some))
      ∙ first.bytes page inside (λ some. second.fewer (PageObject page) (still some));
}

pub lets_trans : (a b c : Kernel) (p q r : List Key) → Lets a b p q → Lets b c q r → Lets a c p r
lets_trans a b c p q r first second = record {
  lets = λ outside hand releasing.
      let x = first.lets outside hand releasing in
      let y = second.lets outside hand x.0 in
      (y.0, release_trans (forest_of a) (forest_of b) (forest_of c) (p ++ hand) (q ++ hand) (r ++ hand) x.1 y.1);
  outside_now = λ outside. second.outside_now outside ∙ first.outside_now outside;
  rows_now = λ mine apart. second.rows_now mine apart ∙ first.rows_now mine apart;
  apart_now = second.apart_now ∙ first.apart_now;
  owners_now = leaves-leaves a b c first.owners_now second.owners_now;
  rest = unreleased_trans a b c first.rest second.rest;
  keeps = bytes_trans a b c (ap (λ (k : Kernel). k.size) first.rest) first.keeps second.keeps;
}

-- one key is let go before another one in hand
pub lets_before : (old new : Kernel) (key other : Key) → Lets old new (key ∷ []) [] → Lets old new (key ∷ other ∷ []) (other ∷ [])
lets_before old new key other l = record { lets = λ outside hand releasing. l.lets outside (other ∷ hand) releasing; outside_now = l.outside_now; rows_now = l.rows_now; apart_now = l.apart_now; owners_now = l.owners_now; rest = l.rest; keeps = l.keeps }

pub hand_after : (old new : Kernel) (p q : List Key) → Lets old new p q → InHand old p → InHand new q
hand_after old new p q l h = (h.0, h.1, (l.lets h.0 h.1 h.2).0)

pub hand_before : (kernel : Kernel) (key other : Key) → InHand kernel (key ∷ other ∷ []) → InHand kernel (key ∷ [])
hand_before kernel key other h = (h.0, other ∷ h.1, h.2)

pub thins_by : (old new : Kernel) (p q : List Key) → Lets old new p q → InHand old p → Thins (forest_of old) (forest_of new)
thins_by old new p q l h = release_thins (forest_of old) (forest_of new) (p ++ h.1) (q ++ h.1) (l.lets h.0 h.1 h.2).1

thin_fits : (height : ℕ) (old new : Key) → (new ≡ old) ⊎ (new ≡ Null) → FitsUnder height old → FitsUnder height new
thin_fits height old new thin fits = ⊎_elim
    (λ (t : new ≡ old). subst (FitsUnder height) (sym t) fits)
    (λ (t : new ≡ Null). subst (FitsUnder height) (sym t) tt)
    thin

thin_leaves : (height : ℕ) (old new : Key) → (new ≡ old) ⊎ (new ≡ Null) → Leaves height old → Leaves height new
thin_leaves height old new thin leaves = ⊎_elim
    (λ (t : new ≡ old). subst (Leaves height) (sym t) leaves)
    (λ (t : new ≡ Null). subst (Leaves height) (sym t) (inl tt))
    thin

pub leaves_tree : (height : ℕ) (key : Key) → Leaves height key → IsTreeKey key
leaves_tree height key leaves = ⊎_elim
    (λ (t : FitsUnder height key). fits_tree height key t)
    (λ (t : (named key ≡ None) × IsTreeKey key). t.1)
    leaves

leaves_node : (height : ℕ) (node : NodeId) (low : ℕ) → Leaves height (Segment node low) → FitsUnder height (Segment node low)
leaves_node height node low leaves = ⊎_elim
    (λ (t : FitsUnder height (Segment node low)). t)
    (λ (t : (named (Segment node low) ≡ None) × IsTreeKey (Segment node low)). let no : Some (NodeObject node.0) ≡ None = t.0 in cc)
    leaves

thin_null : (old new : Key) → (new ≡ old) ⊎ (new ≡ Null) → old ≡ Null → new ≡ Null
thin_null old new thin null = ⊎_elim (λ (t : new ≡ old). t ∙ null) (λ (t : new ≡ Null). t) thin

-- a key is put out of a node in hand
pub lets_out : (old new : Kernel) (node : NodeId) (digit height : ℕ) → (forest_of old).count (NodeObject node.0) ≡ 1 → digit < 16 → IsTreeKey (at (forest_of old).keys (place_of node.0 digit))
    → PutsKey old new (place_of node.0 digit) Null → Lets old new (Segment node height ∷ []) (at (forest_of old).keys (place_of node.0 digit) ∷ Segment node height ∷ [])
lets_out old new node digit height once below tree puts = record {
  lets = λ outside hand r.
      let release : Release (forest_of old) (Segment node height ∷ hand) (forest_of new) (at (forest_of old).keys (place_of node.0 digit) ∷ Segment node height ∷ hand) =
      subst (λ f. Release (forest_of old) (Segment node height ∷ hand) f (at (forest_of old).keys (place_of node.0 digit) ∷ Segment node height ∷ hand)) (sym puts.steps.forest_now)
      (more (take_out_step (Segment node height) node.0 digit refl once below) done) in
      let held = (release_keeps_spaces (forest_of old) (forest_of new) (outside_trees old outside) (Segment node height ∷ hand) (at (forest_of old).keys (place_of node.0 digit) ∷ Segment node height ∷ hand) r.held release).0 in (
        record {
          shares = puts.shares outside (Segment node height ∷ hand) ((uncounted_in_hand old outside (Segment node height ∷ hand) Null refl tt).0 r.shares);
          held = subst (λ o. Held (forest_of new) o (at (forest_of old).keys (place_of node.0 digit) ∷ Segment node height ∷ hand)) (sym (puts.steps.outside_now outside)) held;
          in_hand = (tree, r.in_hand);
        },
        release,
      );
  outside_now = puts.steps.outside_now;
  rows_now = puts.steps.rows_now;
  apart_now = puts.steps.apart_now;
  owners_now = keeps-leaves old new puts.steps.owners_now;
  rest = unreleased old new puts.steps.rest;
  keeps = keeps_bytes old new (with_key (forest_of old) (place_of node.0 digit) Null) puts.steps.forest_now (λ object some. some) (same_bytes old new puts.steps.rest);
}

null_now : (old new : Kernel) (place : ℕ) → PutsKey old new place Null → at (forest_of new).keys place ≡ Null
null_now old new place puts = ap (λ (f : Forest). at f.keys place) puts.steps.forest_now ∙ at-with_at (forest_of old).keys place Null

-- the page that stood there is released, ..
pub out_page : (old mid new : Kernel) (node : NodeId) (digit height : ℕ) (page : PageId) (writable : Bool) → (forest_of old).count (NodeObject node.0) ≡ 1 → digit < 16 → InHand old (Segment node height ∷ [])
    → at (forest_of old).keys (place_of node.0 digit) ≡ Page page writable → PutsKey old mid (place_of node.0 digit) Null → Lets mid new (Page page writable ∷ []) []
    → TakesOut old new node digit height None
out_page old mid new node digit height page writable once below h is puts lets =
    let first = subst (λ key. Lets old mid (Segment node height ∷ []) (key ∷ Segment node height ∷ [])) is (lets_out old mid node digit height once below (subst IsTreeKey (sym is) tt) puts) in
    let second = lets_before mid new (Page page writable) (Segment node height) lets in
    let thin = thins_by mid new (Page page writable ∷ Segment node height ∷ []) (Segment node height ∷ []) second (hand_after old mid (Segment node height ∷ []) (Page page writable ∷ Segment node height ∷ []) first h) in
    record {
      lets = lets_trans old mid new (Segment node height ∷ []) (Page page writable ∷ Segment node height ∷ []) (Segment node height ∷ []) first second;
      null = thin_null (at (forest_of mid).keys (place_of node.0 digit)) (at (forest_of new).keys (place_of node.0 digit)) (thin.keys (place_of node.0 digit)) (null_now old mid (place_of node.0 digit) puts);
      high = λ child e. cc;
      fits = λ child e. cc;
    }

pub out_page_hand : (old mid : Kernel) (node : NodeId) (digit height : ℕ) (page : PageId) (writable : Bool) → (forest_of old).count (NodeObject node.0) ≡ 1 → digit < 16 → InHand old (Segment node height ∷ [])
    → at (forest_of old).keys (place_of node.0 digit) ≡ Page page writable → PutsKey old mid (place_of node.0 digit) Null → InHand mid (Page page writable ∷ [])
out_page_hand old mid node digit height page writable once below h is puts =
    hand_before mid (Page page writable) (Segment node height)
    (hand_after old mid (Segment node height ∷ []) (Page page writable ∷ Segment node height ∷ [])
    (subst (λ key. Lets old mid (Segment node height ∷ []) (key ∷ Segment node height ∷ [])) is (lets_out old mid node digit height once below (subst IsTreeKey (sym is) tt) puts)) h)

-- .. the node's key that stood there is in hand, ..
pub out_node : (old new : Kernel) (node : NodeId) (digit height : ℕ) (child : NodeId) (low : ℕ) → (forest_of old).count (NodeObject node.0) ≡ 1 → digit < 16 → InHand old (Segment node height ∷ [])
    → Leaves height (at (forest_of old).keys (place_of node.0 digit)) → at (forest_of old).keys (place_of node.0 digit) ≡ Segment child low → PutsKey old new (place_of node.0 digit) Null
    → TakesOut old new node digit height (Some child)
out_node old new node digit height child low once below h fits is puts =
    let fits_here : FitsUnder height (Segment child low) = leaves_node height child low (subst (Leaves height) is fits) in
    let positive = fits_here.0 in
    let next = fits_here.1 in
    let same : low ≡ height - 1 = omega arith in
    let stands : at (forest_of old).keys (place_of node.0 digit) ≡ Segment child (height - 1) = is ∙ ap (Segment child) same in
    let lets = subst (λ key. Lets old new (Segment node height ∷ []) (key ∷ Segment node height ∷ [])) stands (lets_out old new node digit height once below (subst IsTreeKey (sym is) tt) puts) in
    let thin = thins_by old new (Segment node height ∷ []) (Segment child (height - 1) ∷ Segment node height ∷ []) lets h in
    record {
      lets = lets;
      null = null_now old new (place_of node.0 digit) puts;
      high = λ c e. omega arith;
      fits = λ c e d less.
          let same_child : child ≡ c = cc in
          let heights = h.2.held.sound.heights (place_of node.0 digit) d less in
          let heights_here : FitsBelow (Segment child (height - 1)) (key_below (forest_of old).keys (Segment child (height - 1)) d) = rw stands at heights in
          subst (λ (n : NodeId). Leaves (height - 1) (at (forest_of new).keys (place_of n.0 d))) same_child
          (inl (thin_fits (height - 1) (at (forest_of old).keys (place_of child.0 d)) (at (forest_of new).keys (place_of child.0 d)) (thin.keys (place_of child.0 d)) heights_here));
    }

-- .. or nothing stood there.
pub out_nothing : (old new : Kernel) (node : NodeId) (digit height : ℕ) (key : Key) → (forest_of old).count (NodeObject node.0) ≡ 1 → digit < 16
    → at (forest_of old).keys (place_of node.0 digit) ≡ key → named key ≡ None → IsTreeKey key → PutsKey old new (place_of node.0 digit) Null → TakesOut old new node digit height None
out_nothing old new node digit height key once below is none tree puts =
    let first = subst (λ k. Lets old new (Segment node height ∷ []) (k ∷ Segment node height ∷ [])) is (lets_out old new node digit height once below (subst IsTreeKey (sym is) tree) puts) in
    record {
      lets = lets_trans old new new (Segment node height ∷ []) (key ∷ Segment node height ∷ []) (Segment node height ∷ []) first (lets_before new new key (Segment node height) (lets_nothing new key none tree));
      null = null_now old new (place_of node.0 digit) puts;
      high = λ child e. cc;
      fits = λ child e. cc;
    }

fits_no_name : (height : ℕ) (key : Key) → FitsUnder height key → ((page : PageId) (writable : Bool) → key ≡ Page page writable → ⊥) → ((node : NodeId) (low : ℕ) → key ≡ Segment node low → ⊥) → named key ≡ None
fits_no_name height Null fits no_page no_node = refl
fits_no_name height (Page page writable) fits no_page no_node = absurd (no_page page writable refl)
fits_no_name height (Segment node low) fits no_page no_node = absurd (no_node node low refl)
fits_no_name height _ fits no_page no_node = absurd fits

pub leaf_or_none : (height : ℕ) (key : Key) → Leaves height key → ((page : PageId) (writable : Bool) → key ≡ Page page writable → ⊥) → ((node : NodeId) (low : ℕ) → key ≡ Segment node low → ⊥) → named key ≡ None
leaf_or_none height key leaves no_page no_node = ⊎_elim
    (λ (t : FitsUnder height key). fits_no_name height key t no_page no_node)
    (λ (t : (named key ≡ None) × IsTreeKey key). t.0)
    leaves

-- the loop over the keys
pub empties_none : (kernel : Kernel) (node : NodeId) (height : ℕ) → ((d : ℕ) → d < 16 → Leaves height (at (forest_of kernel).keys (place_of node.0 d))) → (forest_of kernel).count (NodeObject node.0) ≡ 1
    → Empties kernel kernel node 0 height
empties_none kernel node height fits once = record {
  lets = record {
    lets = λ outside hand r. (r, done);
    outside_now = λ outside. refl;
    rows_now = λ mine apart. refl;
    apart_now = refl;
    owners_now = λ page owner is. is;
    rest = refl;
    keeps = keeps_bytes kernel kernel (forest_of kernel) refl (λ object some. some) (λ page. refl);
  };
  nulls = λ d less. absurd (omega arith);
  fits = fits;
  once = once;
}

pub empties_more : (old mid new : Kernel) (node : NodeId) (digit height : ℕ) → InHand old (Segment node height ∷ []) → Empties old mid node digit height
    → Lets mid new (Segment node height ∷ []) (Segment node height ∷ []) → at (forest_of new).keys (place_of node.0 digit) ≡ Null → Empties old new node (digit + 1) height
empties_more old mid new node digit height h e lets null =
    let h_mid = hand_after old mid (Segment node height ∷ []) (Segment node height ∷ []) e.lets h in
    let thin = thins_by mid new (Segment node height ∷ []) (Segment node height ∷ []) lets h_mid in
    let h_new = hand_after mid new (Segment node height ∷ []) (Segment node height ∷ []) lets h_mid in
    record {
      lets = lets_trans old mid new (Segment node height ∷ []) (Segment node height ∷ []) (Segment node height ∷ []) e.lets lets;
      nulls = λ d less. ⊎_elim
          (λ (t : d ≡ digit). rw t null)
          (λ (t : d ≢ digit). thin_null (at (forest_of mid).keys (place_of node.0 d)) (at (forest_of new).keys (place_of node.0 d)) (thin.keys (place_of node.0 d)) (e.nulls d (omega arith)))
          (cases_eq d digit);
      fits = λ d less. thin_leaves height (at (forest_of mid).keys (place_of node.0 d)) (at (forest_of new).keys (place_of node.0 d)) (thin.keys (place_of node.0 d)) (e.fits d less);
      once = let low = hand_alive new node height h_new in let high = thin.counts (NodeObject node.0) in let one = e.once in omega arith;
    }

-- taking out and releasing what came out
pub out_and_released : (mid next new : Kernel) (node child : NodeId) (digit height : ℕ) → InHand mid (Segment node height ∷ []) → TakesOut mid next node digit height (Some child)
    → Lets next new (Segment child (height - 1) ∷ []) [] → Lets mid new (Segment node height ∷ []) (Segment node height ∷ []) × (at (forest_of new).keys (place_of node.0 digit) ≡ Null)
out_and_released mid next new node child digit height h out released =
    let second = lets_before next new (Segment child (height - 1)) (Segment node height) released in
    let thin = thins_by next new (Segment child (height - 1) ∷ Segment node height ∷ []) (Segment node height ∷ []) second
    (hand_after mid next (Segment node height ∷ []) (Segment child (height - 1) ∷ Segment node height ∷ []) out.lets h) in (
      lets_trans mid next new (Segment node height ∷ []) (Segment child (height - 1) ∷ Segment node height ∷ []) (Segment node height ∷ []) out.lets second,
      thin_null (at (forest_of next).keys (place_of node.0 digit)) (at (forest_of new).keys (place_of node.0 digit)) (thin.keys (place_of node.0 digit)) out.null,
    )

-- a root in hand
module _ (kernel : Kernel) (space : NodeId) (outside : Outside) (good : BankGood kernel) (is_space : IsSpace (forest_of kernel) [] space.0)
    (trees : TreesGood kernel (and_outside outside (space_key space.0)) []) where
  pub root_hand : Releasing kernel outside (Segment space 5 ∷ [])
  unfolding and_outside_trees
  root_hand =
      let high = taken_high kernel space.0 (node_taken kernel space.0 is_space.owned) good in
      let once = root_once kernel (and_outside outside (space_key space.0)) [] space.0 trees is_space in
      let held_out : Held (forest_of kernel) (and_outside_trees (outside_trees kernel outside) (space_key space.0)) [] =
      subst (λ o. Held (forest_of kernel) o []) (space_out kernel outside space.0 high) trees.held in
      let counted = held_out.exact.counted (NodeObject space.0) is_space.owned in
      let one : bit (names (NodeObject space.0) (space_key space.0)) ≡ 1 = ap bit (true-names (NodeObject space.0) (space_key space.0) refl) in
      let none : outside_trees kernel outside (NodeObject space.0) ≡ 0 = omega arith in
      record {
        shares = (handed-out kernel outside [] (space_key space.0)).1 trees.shares;
        held = hand_in_keeps_held (forest_of kernel) (outside_trees kernel outside) [] (space_key space.0) (NodeObject space.0) held_out refl none is_space.owned;
        in_hand = (tt, tt);
      }

  pub root_leaves : (d : ℕ) → d < 16 → Leaves 5 (at (forest_of kernel).keys (place_of space.0 d))
  root_leaves d less =
      let root = trees.held.rooted space.0 is_space in
      ⊎_elim
      (λ (t : d < 8). inl (root.parts d t))
      (λ (t : 8 ≤ d). ⊎_elim
      (λ (u : d < 15). subst (Leaves 5) (sym (root.unused d t u)) (inl tt))
      (λ (u : 15 ≤ d).
      let is : 15 ≡ d = omega arith in
      subst (λ n. Leaves 5 (at (forest_of kernel).keys (place_of space.0 n))) is (inr (root.keeper, trees.in_trees (place_of space.0 15))))
      (cases_lt d 15))
      (cases_lt d 8)

-- what names trees from outside, without the key of a space that was there
less_single : (kernel : Kernel) (space : NodeId) (outside : Outside) → 15 ≤ space.0 → AllSingle (forest_of kernel) (outside_trees kernel (and_outside outside (space_key space.0)))
    → AllSingle (forest_of kernel) (outside_trees kernel outside)
unfolding and_outside_trees
less_single kernel space outside high single object some =
    let one = single object some in
    let more = ap (λ (out : Object → ℕ). out object) (space_out kernel outside space.0 high) in
    omega arith

pub drops_space : (kernel new : Kernel) (space : NodeId) (outside : Outside) → BankGood kernel → IsSpace (forest_of kernel) [] space.0
    → TreesGood kernel (and_outside outside (space_key space.0)) [] → Lets kernel new (Segment space 5 ∷ []) [] → Drops kernel new space.0
drops_space kernel new space known good is_space known_trees lets = record {
  drops = λ outside trees.
      let high = taken_high kernel space.0 (node_taken kernel space.0 is_space.owned) good in
      let hand = root_hand kernel space outside good is_space trees in
      let once = root_once kernel (and_outside outside (space_key space.0)) [] space.0 trees is_space in
      let after = lets.lets outside [] hand in
      let call = call_drops_space (outside_trees kernel outside) space.0 (forest_of kernel) (forest_of new) hand.held once after.1 in
      let single = less_single kernel space outside high trees.single in (
        record {
          shares = after.0.shares;
          held = after.0.held;
          in_hand = after.0.in_hand;
          short = omega arith;
          in_trees = released_in_trees (forest_of kernel) (forest_of new) (Segment space 5 ∷ []) [] after.1 trees.in_trees;
          single = subst (λ out. AllSingle (forest_of new) out) (sym (lets.outside_now outside)) (λ object some. single object (lets.keeps.fewer object some));
        },
        call.1,
      );
  given = λ outside trees object some.
      let hand = root_hand kernel space outside good is_space trees in
      let after = lets.lets outside [] hand in
      let given = release_gives_unnamed (forest_of kernel) (forest_of new) (outside_trees kernel outside) (Segment space 5 ∷ []) [] hand.held after.1 object some in
      let none = no_hand object in (
        λ still. (let most = given.0 still in omega arith),
        λ most. given.1 (omega arith),
      );
  filled = λ filled.
      let hand = root_hand kernel space known good is_space known_trees in
      release_leaves_none_empty (forest_of kernel) (forest_of new) (outside_trees kernel known) (Segment space 5 ∷ []) [] hand.held (lets.lets known [] hand).1 filled;
  outside_now = lets.outside_now;
  rows_now = lets.rows_now;
  apart_now = lets.apart_now;
  owners_now = lets.owners_now;
  inside = λ outside. inside_same kernel new outside (lets.outside_now outside) (λ number some. lets.keeps.fewer (PageObject number) some);
  rest = lets.rest;
  keeps = lets.keeps;
  ways = λ mine page is apart own.
      let hand = root_hand kernel space known good is_space known_trees in
      release_keeps_ways (forest_of kernel) (forest_of new) (outside_trees kernel known) (Segment space 5 ∷ []) [] mine (node_way page) hand.held (lets.lets known [] hand).1
      (root_in_hand (forest_of kernel) space.0 mine is apart) (way_of_node page) own;
}
  where
    no_hand : (object : Object) → in_hand [] object ≡ 0
    no_hand object = nothing_in_hand object
