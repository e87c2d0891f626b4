-- What giving back, and counting less often, is for the forest: a step of a release.
use Rattle.std.proofs.Common.{◌≡◌, ◌≢◌, ◌<◌, ◌≤◌, ◌+◌, ◌-◌, ◌==◌, ℕ, Bool, true, false, Option, Some, None, List, [], ◌∷◌, length, set, get_or-set_other, refl, ap, sym, subst, ◌∙◌, arith, if◌then◌else◌, ⊎_elim}
use Rattle.std.specs.Option.{is_some, IsSome}
use Rattle.std.proofs.Math.Path.{fun_ext}
use Rattle.std.proofs.lemmas.Bool.{cases_eq, cases_lt, eq-eqb, lt-ltb, le-ltb, ne_eqb}
use Rattle.kn_base.specs.declared.key.Key.{Key}
use Rattle.kn_base.specs.declared.key.Key.TheVariants.{Page}
use Rattle.kn_base.specs.declared.key.PageId.{PageId}
use Rattle.kernel_tables.specs.declared.entry.PageOwner.{PageOwner}
use Rattle.kernel_tables.specs.declared.entry.NodeOwner.{NodeOwner}
use Rattle.kernel_tables.specs.declared.entry.Entry.{Entry}
use Rattle.kernel_tables.specs.declared.entry.Entry.TheVariants.{Free, Taken, Fixed, Unspelled}
use Rattle.kernel_tables.specs.Kernel.{Kernel, first_page, bank_page}
use Rattle.kernel_tables.specs.Rows.{entry_at, key_table, KeepsRows}
use Rattle.space_bank.specs.FreeList.{shares}
use Rattle.space_bank.specs.Bank.{BankGood, IsTakenOnce, page_given}
use Rattle.space_bank.specs.Shares.{Outside, Shares, TakesPageOutOfHand, page_places}
use Rattle.space_bank.specs.Changes.{IsTaken, page_counted, TakesPageKeyOutOfHand}
use Rattle.space_bank.proofs.EntryLaws.{set_cases}
use Rattle.space_bank.proofs.HandLaws.{page-in_hand_unnamed}
use Rattle.forest.specs.Objects.{Object, PageObject, NodeObject, Owner, named, with_object}
use Rattle.forest.specs.Forest.{Forest, Held, masked}
use Rattle.forest.specs.Changes.{with_given, with_count}
use Rattle.forest.specs.Release.{ReleaseStep, nothing as nothing_step, shared as shared_step, page as page_step, Release, done, more}
use Rattle.forest.proofs.ReleaseLaws.{front_owned, release_keeps_spaces, some_not_none, is_or_not}
use Rattle.kernel_forest.specs.Trees.{owner_of, count_of, forest_of, tree_in, tree_shares, page_tree, outside_by, outside_trees, IsTreeKey}
use Rattle.kernel_forest.specs.Apart.{apart_of, KeepsApart}
use Rattle.kernel_forest.specs.Owners.{page_owners, LeavesOwners}
use Rattle.kernel_forest.proofs.ApartLaws.{apart-page_counted, apart-page_given}
use Rattle.kernel_forest.proofs.Owners.{gone-leaves, keeps-leaves, owners-page_counted, owners-page_given}
use Rattle.kernel_forest.specs.Releases.{Releasing, KeepsUnreleased, KeepsBytes, Lets, InHand}
use Rattle.forest.proofs.ExactLaws.{with_object-here}
use Rattle.forest.proofs.HeldLaws.{other_object}
use Rattle.kn_base.specs.Memory.{zero_page}
use Rattle.kernel_forest.proofs.Bridge.{PageInside, page_inside, tree_taken}
use Rattle.kernel_forest.proofs.Moves.{forest-page_counted, outside-page_counted, page_shares, bank_page as its_page, uncounted_in_hand}

-- a page is given back
given_owner : (first : ℕ) (pages : List (Entry PageOwner)) (nodes : List (Entry NodeOwner)) (n next : ℕ) → n < length pages
    → (object : Object) → owner_of first (set pages n (Free next)) nodes object ≡ with_object (owner_of first pages nodes) (PageObject (first + n)) None object
unfolding owner_of with_object
given_owner first pages nodes n next inside (NodeObject node) = refl
given_owner first pages nodes n next inside (PageObject page) = ⊎_elim
    (λ (t : page < first). rw (lt-ltb page first t, ne_eqb page (first + n) (λ e. absurd (omega arith))) refl)
    (λ (t : first ≤ page).
    rw (le-ltb page first t)
    (set_cases (λ e. tree_in page_tree e ≡ (if page == first + n then None else tree_in page_tree (entry_at pages (page - first)))) pages n (page - first) (Free next) inside
    (λ same. let is : page ≡ first + n = omega arith in rw (eq-eqb page (first + n) is) refl)
    (λ other. rw (ne_eqb page (first + n) (λ e. other (omega arith))) refl)))
    (cases_lt page first)

given_count : (first : ℕ) (pages : List (Entry PageOwner)) (nodes : List (Entry NodeOwner)) (n next : ℕ) → n < length pages
    → (object : Object) → count_of first (set pages n (Free next)) nodes object ≡ with_object (count_of first pages nodes) (PageObject (first + n)) 0 object
unfolding count_of with_object
given_count first pages nodes n next inside (NodeObject node) = refl
given_count first pages nodes n next inside (PageObject page) = ⊎_elim
    (λ (t : page < first). rw (lt-ltb page first t, ne_eqb page (first + n) (λ e. absurd (omega arith))) refl)
    (λ (t : first ≤ page).
    rw (le-ltb page first t)
    (set_cases (λ e. tree_shares page_tree e ≡ (if page == first + n then 0 else tree_shares page_tree (entry_at pages (page - first)))) pages n (page - first) (Free next) inside
    (λ same. let is : page ≡ first + n = omega arith in rw (eq-eqb page (first + n) is) refl)
    (λ other. rw (ne_eqb page (first + n) (λ e. other (omega arith))) refl)))
    (cases_lt page first)

pub masked_pages : (first : ℕ) (pages other : List (Entry PageOwner)) (nodes : List (Entry NodeOwner)) (keys : ℕ → Key) → masked (owner_of first other nodes) keys ≡ masked (owner_of first pages nodes) keys
unfolding masked owner_of
masked_pages first pages other nodes keys = refl

pub forest-page_given : (kernel : Kernel) (n : ℕ) → n < length kernel.page_entries → forest_of (page_given kernel n) ≡ with_given (forest_of kernel) (PageObject (first_page kernel.size + n))
forest-page_given kernel n inside =
    rw (
      masked_pages (first_page kernel.size) kernel.page_entries (set kernel.page_entries n (Free kernel.machine.free_page)) kernel.node_entries (key_table kernel.keys),
      fun_ext (given_owner (first_page kernel.size) kernel.page_entries kernel.node_entries n kernel.machine.free_page inside),
      fun_ext (given_count (first_page kernel.size) kernel.page_entries kernel.node_entries n kernel.machine.free_page inside),
    ) refl

pub outside-page_given : (kernel : Kernel) (n : ℕ) (outside : Outside) → outside_trees (page_given kernel n) outside ≡ outside_trees kernel outside
outside-page_given kernel n outside =
    ap (λ trees. outside_by kernel.nodes (key_table kernel.keys) trees outside)
    (masked_pages (first_page kernel.size) kernel.page_entries (set kernel.page_entries n (Free kernel.machine.free_page)) kernel.node_entries (key_table kernel.keys))

pub once_by : {O : Type 0} (entry : Entry O) → IsTaken entry → shares entry ≡ 1 → IsTakenOnce entry
once_by (Free next) taken e = absurd taken
once_by (Taken owner count) taken e = e
once_by Fixed taken e = absurd taken
once_by Unspelled taken e = absurd taken

-- the page that a key in hand names
pub hand_page : (kernel : Kernel) (page : PageId) (writable : Bool) → BankGood kernel → page.0 ≢ 0 → InHand kernel (Page page writable ∷ []) → PageInside kernel page.0
hand_page kernel page writable good real h =
    page_inside kernel page.0 good (front_owned (forest_of kernel) (outside_trees kernel h.0) (Page page writable) h.1 h.2.held.counts (PageObject page.0) (rw (ne_eqb page.0 0 real) refl))

pub hand_page_unnamed : (kernel : Kernel) (page : PageId) (writable : Bool) → BankGood kernel → page.0 ≢ 0 → InHand kernel (Page page writable ∷ []) → shares (entry_at kernel.page_entries (page.0 - first_page kernel.size)) ≡ 1
    → page_places kernel.keys page.0 ≡ 0
hand_page_unnamed kernel page writable good real h one =
    let inside = hand_page kernel page writable good real h in
    page-in_hand_unnamed kernel h.0 h.1 (Page page writable) page.0 (its_page kernel page.0 inside)
    (once_by (entry_at kernel.page_entries (page.0 - first_page kernel.size)) (tree_taken page_tree (entry_at kernel.page_entries (page.0 - first_page kernel.size)) inside.some) one)
    (eq-eqb page.0 page.0 refl) h.2.shares

pub hand_page_once : (kernel : Kernel) (page : PageId) (writable : Bool) → BankGood kernel → page.0 ≢ 0 → InHand kernel (Page page writable ∷ []) → shares (entry_at kernel.page_entries (page.0 - first_page kernel.size)) ≡ 1
    → IsTakenOnce (entry_at kernel.page_entries (page.0 - first_page kernel.size))
hand_page_once kernel page writable good real h one =
    let inside = hand_page kernel page writable good real h in
    once_by (entry_at kernel.page_entries (page.0 - first_page kernel.size)) (tree_taken page_tree (entry_at kernel.page_entries (page.0 - first_page kernel.size)) inside.some) one

pub hand_page_many : (kernel : Kernel) (page : PageId) (writable : Bool) → BankGood kernel → page.0 ≢ 0 → InHand kernel (Page page writable ∷ []) → shares (entry_at kernel.page_entries (page.0 - first_page kernel.size)) ≢ 1
    → 2 ≤ shares (entry_at kernel.page_entries (page.0 - first_page kernel.size))
hand_page_many kernel page writable good real h many =
    let inside = hand_page kernel page writable good real h in
    let owned = front_owned (forest_of kernel) (outside_trees kernel h.0) (Page page writable) h.1 h.2.held.counts (PageObject page.0) (rw (ne_eqb page.0 0 real) refl) in
    let alive = h.2.held.alive (PageObject page.0) owned in
    let same = page_shares kernel page.0 inside in
    omega arith

-- what a step of a release leaves of bytes
pub keeps_bytes : (old new : Kernel) (after : Forest) → forest_of new ≡ after → ((object : Object) → IsSome (after.owner object) → IsSome ((forest_of old).owner object))
    → ((page : ℕ) → bank_page new page ≡ bank_page old page) → KeepsBytes old new
keeps_bytes old new after now fewer same = record {
  fewer = λ object some. fewer object (ap (λ (f : Forest). is_some (f.owner object)) (sym now) ∙ some);
  bytes = λ page inside still. same page;
}

pub given_fewer : (owner : Object → Option Owner) (gone object : Object) → IsSome (with_object owner gone None object) → IsSome (owner object)
given_fewer owner gone object some = ⊎_elim
    (λ (t : object ≡ gone). let none : false ≡ true = sym (ap is_some (ap (with_object owner gone None) t ∙ with_object-here owner gone None)) ∙ some in cc)
    (λ (t : object ≢ gone). ap is_some (sym (other_object owner gone None object t)) ∙ some)
    (is_or_not object gone)

-- one step of a release, made by the bank
pub lets_step : (old new : Kernel) (key : Key) (after : Forest) → forest_of new ≡ after → ((outside : Outside) → outside_trees new outside ≡ outside_trees old outside) → KeepsRows old new
    → KeepsApart old new → LeavesOwners old new → KeepsUnreleased old new → KeepsBytes old new
    → ((outside : Outside) (hand : List Key) → Shares old outside (key ∷ hand) → Shares new outside hand)
    → ((outside : Outside) (hand : List Key) → Releasing old outside (key ∷ hand) → ReleaseStep (forest_of old) (key ∷ hand) after hand)
    → Lets old new (key ∷ []) []
lets_step old new key after now outside_is rows apart owners rest bytes shares step = record {
  lets = λ outside hand r.
      let release : Release (forest_of old) (key ∷ hand) (forest_of new) hand =
      subst (λ f. Release (forest_of old) (key ∷ hand) f hand) (sym now) (more (step outside hand r) done) in
      let held = (release_keeps_spaces (forest_of old) (forest_of new) (outside_trees old outside) (key ∷ hand) hand r.held release).0 in (
        record { shares = shares outside hand r.shares; held = subst (λ o. Held (forest_of new) o hand) (sym (outside_is outside)) held; in_hand = r.in_hand.1 },
        release,
      );
  outside_now = outside_is;
  rows_now = rows;
  apart_now = apart;
  owners_now = owners;
  rest = rest;
  keeps = bytes;
}

pub lets_nothing : (kernel : Kernel) (key : Key) → named key ≡ None → IsTreeKey key → Lets kernel kernel (key ∷ []) []
lets_nothing kernel key none tree =
    lets_step kernel kernel key (forest_of kernel) refl (λ outside. refl) (λ mine apart. refl) refl (λ page owner has. has) refl
    (keeps_bytes kernel kernel (forest_of kernel) refl (λ object some. some) (λ page. refl))
    (λ outside hand counted. (uncounted_in_hand kernel outside hand key none tree).1 counted)
    (λ outside hand r. nothing_step key none)

given_bytes : (old new : Kernel) (n page : ℕ) → first_page old.size + n ≡ page → new ≡ page_given old n → forest_of new ≡ with_given (forest_of old) (PageObject page) → IsSome ((forest_of old).owner (PageObject page))
    → KeepsBytes old new
given_bytes old new n page number e now owned = record {
  fewer = λ object some. given_fewer (forest_of old).owner (PageObject page) object (ap (λ (f : Forest). is_some (f.owner object)) (sym now) ∙ some);
  bytes = λ other inside still. ⊎_elim
      (λ (t : other ≡ page). absurd (
      let old_some : IsSome ((forest_of old).owner (PageObject other)) = ap (λ p. is_some ((forest_of old).owner (PageObject p))) t ∙ owned in
      let gone : (forest_of new).owner (PageObject other) ≡ None =
      ap (λ (f : Forest). f.owner (PageObject other)) now ∙ ap (λ p. with_object (forest_of old).owner (PageObject page) None (PageObject p)) t ∙ with_object-here (forest_of old).owner (PageObject page) None in
      some_not_none ((forest_of new).owner (PageObject other)) (still old_some) gone))
      (λ (t : other ≢ page).
      let low = inside.low in
      ap (λ (k : Kernel). bank_page k other) e ∙ get_or-set_other old.bank n (other - first_page old.size) zero_page [] (λ same. t (omega arith)))
      (cases_eq other page);
}

pub lets_page_given : (old new : Kernel) (id : PageId) (writable : Bool) → BankGood old → id.0 ≢ 0 → InHand old (Page id writable ∷ []) → shares (entry_at old.page_entries (id.0 - first_page old.size)) ≡ 1
    → new ≡ page_given old (id.0 - first_page old.size) → TakesPageOutOfHand old new id.0 → Lets old new (Page id writable ∷ []) []
lets_page_given old new id writable good real h one e takes =
    let inside = hand_page old id writable good real h in
    let low = inside.low in
    let number : first_page old.size + (id.0 - first_page old.size) ≡ id.0 = omega arith in
    let there : id.0 - first_page old.size < length old.page_entries = (let below = inside.below in let rows = good.pages.entries_good.rows in omega (arith)) in
    let name : named (Page id writable) ≡ Some (PageObject id.0) = rw (ne_eqb id.0 0 real) refl in
    let owned = front_owned (forest_of old) (outside_trees old h.0) (Page id writable) h.1 h.2.held.counts (PageObject id.0) name in
    let now : forest_of new ≡ with_given (forest_of old) (PageObject id.0) =
    ap forest_of e ∙ forest-page_given old (id.0 - first_page old.size) there ∙ ap (λ n. with_given (forest_of old) (PageObject n)) number in
    lets_step old new (Page id writable) (with_given (forest_of old) (PageObject id.0)) now
    (λ outside. ap (λ k. outside_trees k outside) e ∙ outside-page_given old (id.0 - first_page old.size) outside)
    (subst (λ (k : Kernel). KeepsRows old k) (sym e) (λ mine apart. refl))
    (ap apart_of e ∙ apart-page_given old (id.0 - first_page old.size) there inside.some)
    (gone-leaves old new id.0 (ap page_owners e ∙ owners-page_given old id.0 low there))
    (subst (λ (k : Kernel). KeepsUnreleased old k) (sym e) refl)
    (given_bytes old new (id.0 - first_page old.size) id.0 number e now owned)
    (λ outside hand counted. takes outside hand (Page id writable) (eq-eqb id.0 id.0 refl) counted)
    (λ outside hand r. page_step (Page id writable) id.0 name (page_shares old id.0 inside ∙ one))

pub lets_page_lowered : (old new : Kernel) (id : PageId) (writable : Bool) → BankGood old → id.0 ≢ 0 → InHand old (Page id writable ∷ []) → 2 ≤ shares (entry_at old.page_entries (id.0 - first_page old.size))
    → new ≡ page_counted old (id.0 - first_page old.size) (shares (entry_at old.page_entries (id.0 - first_page old.size)) - 1) → TakesPageKeyOutOfHand old new id.0 → Lets old new (Page id writable ∷ []) []
lets_page_lowered old new id writable good real h two e takes =
    let inside = hand_page old id writable good real h in
    let low = inside.low in
    let number : first_page old.size + (id.0 - first_page old.size) ≡ id.0 = omega arith in
    let there : id.0 - first_page old.size < length old.page_entries = (let below = inside.below in let rows = good.pages.entries_good.rows in omega (arith)) in
    let name : named (Page id writable) ≡ Some (PageObject id.0) = rw (ne_eqb id.0 0 real) refl in
    let count = page_shares old id.0 inside in
    let now : forest_of new ≡ with_count (forest_of old) (PageObject id.0) ((forest_of old).count (PageObject id.0) - 1) =
    ap forest_of e ∙ forest-page_counted old (id.0 - first_page old.size) (shares (entry_at old.page_entries (id.0 - first_page old.size)) - 1) there inside.some
    ∙ ap (λ n. with_count (forest_of old) (PageObject n) (shares (entry_at old.page_entries (id.0 - first_page old.size)) - 1)) number
    ∙ ap (λ n. with_count (forest_of old) (PageObject id.0) (n - 1)) (sym count) in
    lets_step old new (Page id writable) (with_count (forest_of old) (PageObject id.0) ((forest_of old).count (PageObject id.0) - 1)) now
    (λ outside. ap (λ k. outside_trees k outside) e ∙ outside-page_counted old (id.0 - first_page old.size) (shares (entry_at old.page_entries (id.0 - first_page old.size)) - 1) outside there)
    (subst (λ (k : Kernel). KeepsRows old k) (sym e) (λ mine apart. refl))
    (ap apart_of e ∙ apart-page_counted old (id.0 - first_page old.size) (shares (entry_at old.page_entries (id.0 - first_page old.size)) - 1) there inside.some)
    (keeps-leaves old new (ap page_owners e ∙ owners-page_counted old (id.0 - first_page old.size) (shares (entry_at old.page_entries (id.0 - first_page old.size)) - 1) there))
    (subst (λ (k : Kernel). KeepsUnreleased old k) (sym e) refl)
    (keeps_bytes old new (with_count (forest_of old) (PageObject id.0) ((forest_of old).count (PageObject id.0) - 1)) now (λ object some. some) (λ page. ap (λ (k : Kernel). bank_page k page) e))
    (λ outside hand counted. takes outside hand (Page id writable) (eq-eqb id.0 id.0 refl) counted)
    (λ outside hand r. shared_step (Page id writable) (PageObject id.0) name (omega arith))
