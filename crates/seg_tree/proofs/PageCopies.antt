-- A page is taken with the bytes of another one, and put in its place.
use Rattle.std.proofs.Common.{◌≡◌, ◌≢◌, ◌<◌, ◌≤◌, ◌-◌, ◌==◌, ◌&&◌, not, ℕ, Bool, true, false, Some, List, [], ◌∷◌, length, get_or-set_same, get_or-set_other, refl, ap, sym, subst, ◌∙◌, arith, add-zero, ◌⊎◌, inl, inr, ⊎_elim}
use Rattle.std.specs.Option.{is_some, IsSome}
use Rattle.std.proofs.lemmas.Bool.{ne_eqb, cases_eq}
use Rattle.kn_base.specs.declared.key.Key.{Key}
use Rattle.kn_base.specs.declared.key.Key.TheVariants.{Page}
use Rattle.kn_base.specs.declared.key.PageId.{PageId}
use Rattle.kn_base.specs.Memory.{zero_page}
use Rattle.kernel_tables.specs.declared.entry.PageOwner.{PageOwner}
use Rattle.kernel_tables.specs.declared.entry.Entry.{Entry}
use Rattle.kernel_tables.specs.declared.entry.Entry.TheVariants.{Free, Taken, Fixed, Unspelled}
use Rattle.kernel_tables.specs.Kernel.{Kernel, first_page, IsBankPage, bank_page, with_bank_page, memory_page}
use Rattle.kernel_tables.specs.Rows.{entry_at}
use Rattle.space_bank.specs.FreeList.{is_free, shares}
use Rattle.space_bank.specs.Bank.{BankGood}
use Rattle.space_bank.specs.Shares.{Shares}
use Rattle.unix_model.specs.Tables.{at}
use Rattle.forest.specs.Objects.{PageObject, NodeObject, Owner, named}
use Rattle.forest.specs.Walks.{key_along, space_key}
use Rattle.forest.specs.Forest.{Forest, Sound, IsSpace}
use Rattle.forest.specs.Changes.{with_taken, with_key, lowered}
use Rattle.forest.proofs.ExactLaws.{with_object-here}
use Rattle.forest.proofs.HeldLaws.{other_object}
use Rattle.forest.proofs.CopyLaws.{end_owned}
use Rattle.forest.proofs.ReleaseLaws.{some_not_none}
use Rattle.kernel_forest.specs.Trees.{forest_of, outside_trees, tree_in, page_tree, IsTreeKey}
use Rattle.kernel_forest.specs.Apart.{apart_of}
use Rattle.kernel_forest.specs.Owners.{page_owners}
use Rattle.kernel_forest.proofs.ApartLaws.{apart-page_written}
use Rattle.kernel_forest.specs.Moves.{TakesFreshPage, PutsKey, LowersKey}
use Rattle.kernel_forest.specs.Releases.{KeepsUnreleased}
use Rattle.kernel_forest.proofs.Bridge.{page_inside}
use Rattle.kernel_forest.proofs.Moves.{bank_page as its_page, uncounted_in_hand, page_shares}
use Rattle.kernel_forest.proofs.GivingNodes.{unreleased, same_bytes}
use Rattle.seg_tree.specs.Writes.{page_key, CopiesPage, CopiesLeaf, IsInUse}
use Rattle.seg_tree.proofs.Emptying.{unreleased_trans}

tree_used : (entry : Entry PageOwner) → IsSome (tree_in page_tree entry) → is_free entry ≡ false
tree_used (Free next) some = cc
tree_used (Taken owner count) some = refl
tree_used Fixed some = refl
tree_used Unspelled some = refl

-- a page that belongs to a tree is in use
pub in_use : (kernel : Kernel) (page : ℕ) → BankGood kernel → IsSome ((forest_of kernel).owner (PageObject page)) → IsInUse kernel page
in_use kernel page good owned =
    let here = page_inside kernel page good owned in record {
      inside = its_page kernel page here;
      used = tree_used (entry_at kernel.page_entries (page - first_page kernel.size)) here.some;
    }

-- what a walk ends at is page 0, or in use
pub way_in_use : (kernel : Kernel) (space : ℕ) (way : List ℕ) (key : Key) (page : PageId) (writable : Bool) → BankGood kernel → Sound (forest_of kernel) → IsSpace (forest_of kernel) [] space
    → key ≡ key_along (forest_of kernel).keys (space_key space) way → key ≡ Page page writable → (page.0 ≡ 0) ⊎ IsInUse kernel page.0
way_in_use kernel space way key page writable good sound is ends e = ⊎_elim
    (λ (t : page.0 ≡ 0). inl t)
    (λ (t : page.0 ≢ 0). inr (in_use kernel page.0 good (end_owned (forest_of kernel) [] sound space is way (PageObject page.0)
    (ap named (sym ends ∙ e) ∙ rw (ne_eqb page.0 0 t) refl))))
    (cases_eq page.0 0)

memory_real : (kernel : Kernel) (page : ℕ) → page ≢ 0 → memory_page kernel page ≡ bank_page kernel page
memory_real kernel page real = rw (ne_eqb page 0 real) refl

-- a fresh page, as a copy of page 0
pub copies_zero : (old new : Kernel) (found fresh : ℕ) (by : PageOwner) (to : Owner) → found ≡ 0 → old.page_zero ≡ zero_page → TakesFreshPage old new fresh by to
    → CopiesPage old new found fresh by to
copies_zero old new found fresh by to none zero takes = record {
  takes = record {
    inside = takes.inside;
    forest_now = takes.forest_now;
    outside_now = takes.outside_now;
    rows_now = takes.rows_now;
    apart_now = takes.apart_now;
    owners_now = takes.owners_now;
    rest = subst (λ (k : Kernel). KeepsUnreleased old k) (sym takes.rest) refl;
    nodes = ap (λ (k : Kernel). k.machine.nodes_taken) takes.rest;
    pages = ap (λ (k : Kernel). k.machine.pages_taken) takes.rest;
    content = takes.zero ∙ sym zero ∙ ap (memory_page old) (sym none);
    bytes = λ number inside apart. ap (λ (k : Kernel). bank_page k number) takes.rest;
    unowned = takes.unowned;
    free = takes.free;
  };
  shares = λ outside hand counted. takes.shares outside hand true counted;
}

-- what must hold so that the bytes may be copied
module _ (old mid : Kernel) (found fresh : ℕ) (by : PageOwner) (to : Owner) (good : BankGood old) (real : found ≢ 0) (owned : IsSome ((forest_of old).owner (PageObject found)))
    (takes : TakesFreshPage old mid fresh by to) where
  size_same : mid.size ≡ old.size
  size_same = ap (λ (k : Kernel). k.size) takes.rest

  pub copy_from : IsBankPage mid.size found
  copy_from = subst (λ s. IsBankPage s found) (sym size_same) (in_use old found good owned).inside

  pub copy_to : IsBankPage mid.size fresh
  copy_to = subst (λ s. IsBankPage s fresh) (sym size_same) takes.inside

  pub copy_used : BankGood mid → is_free (entry_at mid.page_entries (fresh - first_page mid.size)) ≡ false
  copy_used good_mid = (in_use mid fresh good_mid (ap (λ (f : Forest). is_some (f.owner (PageObject fresh))) takes.forest_now
      ∙ ap is_some (with_object-here (forest_of old).owner (PageObject fresh) (Some to)))).used

  pub copy_apart : found ≢ fresh
  copy_apart e = some_not_none ((forest_of old).owner (PageObject found)) owned (ap (λ n. (forest_of old).owner (PageObject n)) e ∙ takes.unowned)

  pub copies_page : (new : Kernel) → BankGood mid → new ≡ record mid { bank = with_bank_page mid fresh (bank_page mid found) } → CopiesPage old new found fresh by to
  copies_page new good_mid written =
      let within : fresh - first_page mid.size < length mid.bank = (let low = copy_to.low in let high = copy_to.high in let pages = good_mid.pages.pages in omega arith) in
      record {
        takes = record {
          inside = takes.inside;
          forest_now = ap forest_of written ∙ takes.forest_now;
          outside_now = λ outside. ap (λ k. outside_trees k outside) written ∙ takes.outside_now outside;
          rows_now = λ mine apart. subst (λ (k : Kernel). Rattle.kernel_tables.specs.Rows.rows mine k.node_entries k.keys ≡ Rattle.kernel_tables.specs.Rows.rows mine mid.node_entries mid.keys) (sym written) refl ∙ takes.rows_now mine apart;
          apart_now = ap apart_of written
              ∙ apart-page_written mid fresh (bank_page mid found) (ap (λ (f : Forest). is_some (f.owner (PageObject fresh))) takes.forest_now
              ∙ ap is_some (with_object-here (forest_of old).owner (PageObject fresh) (Some to)))
              ∙ takes.apart_now;
          owners_now = ap page_owners written ∙ takes.owners_now;
          rest = unreleased_trans old mid new (subst (λ (k : Kernel). KeepsUnreleased old k) (sym takes.rest) refl) (subst (λ (k : Kernel). KeepsUnreleased mid k) (sym written) refl);
          nodes = ap (λ (k : Kernel). k.machine.nodes_taken) written ∙ ap (λ (k : Kernel). k.machine.nodes_taken) takes.rest;
          pages = ap (λ (k : Kernel). k.machine.pages_taken) written ∙ ap (λ (k : Kernel). k.machine.pages_taken) takes.rest;
          content = ap (λ (k : Kernel). bank_page k fresh) written
              ∙ get_or-set_same mid.bank (fresh - first_page mid.size) (bank_page mid found) [] within
              ∙ ap (λ (k : Kernel). bank_page k found) takes.rest
              ∙ sym (memory_real old found real);
          bytes = λ number inside apart.
              let low = inside.low in
              let fresh_low = takes.inside.low in
              let size = ap first_page size_same in
              ap (λ (k : Kernel). bank_page k number) written
              ∙ get_or-set_other mid.bank (fresh - first_page mid.size) (number - first_page mid.size) (bank_page mid found) [] (λ same. apart (omega arith))
              ∙ ap (λ (k : Kernel). bank_page k number) takes.rest;
          unowned = takes.unowned;
          free = takes.free;
        };
        shares = λ outside hand counted.
            subst (λ (k : Kernel). Shares k outside (page_key fresh ∷ hand)) (sym written) (takes.shares outside hand true counted);
      }

-- page 0 is not counted
pub lowers_zero : (kernel : Kernel) (page : PageId) (writable : Bool) → page.0 ≡ 0 → LowersKey kernel kernel (Page page writable)
lowers_zero kernel page writable none = record {
  steps = record {
    forest_now = ap (λ n. lowered (forest_of kernel) (Page (record { 0 = n }) writable)) (sym none);
    outside_now = λ outside. refl;
    rows_now = λ mine apart. refl;
    apart_now = refl;
    owners_now = refl;
    rest = refl;
    number = sym (add-zero kernel.machine.nodes_taken);
  };
  shares = λ outside hand counted. (uncounted_in_hand kernel outside hand (Page page writable) (ap (λ n. named (Page (record { 0 = n }) writable)) none) tt).1 counted;
}

-- what must hold so that the copy may be put
module _ (k0 k1 : Kernel) (place found fresh : ℕ) (by : PageOwner) (to : Owner) (stands : at (forest_of k0).keys place ≡ page_key found)
    (c : CopiesPage k0 k1 found fresh by to) where
  pub copy_owned : (node : ℕ) → IsSome ((forest_of k0).owner (NodeObject node)) → IsSome ((forest_of k1).owner (NodeObject node))
  copy_owned node owned =
      ap (λ (f : Forest). is_some (f.owner (NodeObject node))) c.takes.forest_now
      ∙ ap is_some (other_object (forest_of k0).owner (PageObject fresh) (Some to) (NodeObject node) (λ e. cc)) ∙ owned

  pub copy_tree : IsTreeKey (at (forest_of k1).keys place)
  copy_tree = subst IsTreeKey (sym (ap (λ (f : Forest). at f.keys place) c.takes.forest_now ∙ stands)) tt

  module _ (k2 : Kernel) (puts : PutsKey k1 k2 place (page_key fresh)) (owned : IsSome ((forest_of k0).owner (PageObject found))) where
    apart : PageObject found ≢ PageObject fresh
    apart t = some_not_none ((forest_of k0).owner (PageObject found)) owned (ap (forest_of k0).owner t ∙ c.takes.unowned)

    pub found_put : IsSome ((forest_of k2).owner (PageObject found))
    found_put =
        ap (λ (f : Forest). is_some (f.owner (PageObject found))) (puts.steps.forest_now ∙ ap (λ f. with_key f place (page_key fresh)) c.takes.forest_now)
        ∙ ap is_some (other_object (forest_of k0).owner (PageObject fresh) (Some to) (PageObject found) apart) ∙ owned

    pub many_put : 2 ≤ (forest_of k0).count (PageObject found) → 2 ≤ (forest_of k2).count (PageObject found)
    many_put two = subst (λ (n : ℕ). 2 ≤ n)
        (sym (ap (λ (f : Forest). f.count (PageObject found)) (puts.steps.forest_now ∙ ap (λ f. with_key f place (page_key fresh)) c.takes.forest_now)
        ∙ other_object (forest_of k0).count (PageObject fresh) 1 (PageObject found) apart)) two

-- whether a page is counted once
pub single_count : (kernel : Kernel) (page : ℕ) → BankGood kernel → page ≢ 0 → IsSome ((forest_of kernel).owner (PageObject page))
    → (count : ℕ) → count ≡ shares (entry_at kernel.page_entries (page - first_page kernel.size))
    → (count == 1) ≡ (not (page == 0) && ((forest_of kernel).count (PageObject page) == 1))
single_count kernel page good real owned count is =
    let same : (forest_of kernel).count (PageObject page) ≡ count = page_shares kernel page (page_inside kernel page good owned) ∙ sym is in
    rw (ne_eqb page 0 real) (ap (λ n. n == 1) (sym same))

-- the copy is put in place of the page, which is counted once less
pub copies_leaf : (k0 k1 k2 k3 : Kernel) (place found fresh : ℕ) (by : PageOwner) (to : Owner) → at (forest_of k0).keys place ≡ page_key found
    → CopiesPage k0 k1 found fresh by to → PutsKey k1 k2 place (page_key fresh) → LowersKey k2 k3 (page_key found) → CopiesLeaf k0 k3 place found fresh by to
copies_leaf k0 k1 k2 k3 place found fresh by to stands c puts lowers =
    let size : k1.size ≡ k0.size = ap (λ (k : Kernel). k.size) c.takes.rest in
    let still : at (forest_of k1).keys place ≡ page_key found = ap (λ (f : Forest). at f.keys place) c.takes.forest_now ∙ stands in
    record {
      takes = record {
        inside = c.takes.inside;
        forest_now = lowers.steps.forest_now
            ∙ ap (λ f. lowered f (page_key found)) (puts.steps.forest_now ∙ ap (λ f. with_key f place (page_key fresh)) c.takes.forest_now)
            ∙ ap (lowered (with_key (with_taken (forest_of k0) (PageObject fresh) to) place (page_key fresh))) (sym stands);
        outside_now = λ outside. lowers.steps.outside_now outside ∙ puts.steps.outside_now outside ∙ c.takes.outside_now outside;
        rows_now = λ mine apart. lowers.steps.rows_now mine apart ∙ puts.steps.rows_now mine apart ∙ c.takes.rows_now mine apart;
        apart_now = lowers.steps.apart_now ∙ puts.steps.apart_now ∙ c.takes.apart_now;
        owners_now = lowers.steps.owners_now ∙ puts.steps.owners_now ∙ c.takes.owners_now;
        rest = unreleased_trans k0 k1 k3 c.takes.rest (unreleased_trans k1 k2 k3 (unreleased k1 k2 puts.steps.rest) (unreleased k2 k3 lowers.steps.rest));
        nodes = lowers.steps.number ∙ add-zero k2.machine.nodes_taken ∙ puts.steps.number ∙ add-zero k1.machine.nodes_taken ∙ c.takes.nodes;
        pages = ap (λ (k : Kernel). k.machine.pages_taken) lowers.steps.rest ∙ ap (λ (k : Kernel). k.machine.pages_taken) puts.steps.rest ∙ c.takes.pages;
        content = same_bytes k2 k3 lowers.steps.rest fresh ∙ same_bytes k1 k2 puts.steps.rest fresh ∙ c.takes.content;
        bytes = λ number inside apart. same_bytes k2 k3 lowers.steps.rest number ∙ same_bytes k1 k2 puts.steps.rest number ∙ c.takes.bytes number inside apart;
        unowned = c.takes.unowned;
        free = c.takes.free;
      };
      shares = λ outside hand counted.
          lowers.shares outside hand (subst (λ was. Shares k2 outside (was ∷ hand)) still (puts.shares outside (hand) (c.shares outside hand counted)));
    }
