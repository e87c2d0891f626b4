-- What holds before the first domain is made.
use Rattle.std.proofs.Common.{◌≡◌, ◌<◌, ℕ, Option, MatchOption, IsSome, Some, None, List, [], ◌∷◌, length, refl, ap, sym, subst, ◌∙◌, arith}
use Rattle.kn_base.specs.declared.key.NodeId.{NodeId}
use Rattle.kn_base.specs.declared.key.Key.{Key}
use Rattle.kn_base.specs.declared.key.Key.TheVariants.{Null}
use Rattle.kernel_tables.specs.declared.entry.NodeOwner.TheVariants.{Tree}
use Rattle.kernel_tables.specs.Kernel.{Kernel, zero_kernel}
use Rattle.kernel_tables.specs.Rows.{entry_at, spelled_or_null, key_table, fixed_rows, of_domain, is_fixed}
use Rattle.space_bank.specs.Bank.{BankGood, TakesNode}
use Rattle.space_bank.specs.Fixed.{FreshNodes}
use Rattle.space_bank.specs.Setup.{empty_bank}
use Rattle.space_bank.specs.Shares.{Shares, PutsNodeInHand, nothing_outside}
use Rattle.space_bank.proofs.FreeListLaws.{entry_inside}
use Rattle.kernel_forest.proofs.RowLaws.{domains_apart, fixed_apart, rows-node_taken}
use Rattle.std.proofs.lemmas.Bool.{eq-eqb}
use Rattle.unix_model.specs.Tables.{at, with_at}
use Rattle.unix_model.proofs.TableLaws.{at-with_at}
use Rattle.domain.specs.declared.types.Phase.TheVariants.{Exiting}
use Rattle.domain.specs.Domains.{Domain, domains, roots, roots_by}
use Rattle.domain.specs.Sets.{WritesNumbers, HandsOver}
use Rattle.domain.specs.Life.{born, MakesDomain}
use Rattle.domain.specs.Buffers.{IsBuffer, HoldsBuffer, WritesBuffer, FirstBytes}
use Rattle.domain.specs.Ends.{MayEnd, MakesZombie, MayDrop, ended}
use Rattle.space_bank.proofs.HandLaws.{nothing-in_hand}
use Rattle.domain.specs.Keys.{key_of_space}
use Rattle.domain.specs.Rules.{RowsGood}
use Rattle.domain.proofs.Untaken.{untaken_rows}
use Rattle.domain.proofs.Writing.{fixed_key}
use Rattle.tests_domain.specs.First.{IsReady, IsFirst, IsDead, IsBuffered}

pub empty_taken : (kernel : Kernel) → kernel ≡ empty_bank 64 100 → kernel.machine.nodes_taken ≡ 0
unfolding empty_bank
empty_taken kernel e = ap (λ (k : Kernel). k.machine.nodes_taken) e

pub empty_nodes : (kernel : Kernel) → kernel ≡ empty_bank 64 100 → kernel.nodes ≡ 1552
unfolding empty_bank zero_kernel
empty_nodes kernel e = ap (λ (k : Kernel). k.nodes) e

empty_pages : (kernel : Kernel) → kernel ≡ empty_bank 64 100 → kernel.machine.pages_taken ≡ 0
unfolding empty_bank
empty_pages kernel e = ap (λ (k : Kernel). k.machine.pages_taken) e

empty_size : (kernel : Kernel) → kernel ≡ empty_bank 64 100 → kernel.size ≡ 64
unfolding empty_bank zero_kernel
empty_size kernel e = ap (λ (k : Kernel). k.size) e

slot_null : (kernel : Kernel) → BankGood kernel → FreshNodes kernel.keys → fixed_rows kernel 11 5 ≡ Null
unfolding key_table
slot_null kernel good fresh = sym (fixed_key kernel 11 5 good (omega arith) (omega arith)) ∙ ap spelled_or_null (fresh.slots 5 (omega arith))

pub ready : (k0 k1 : Kernel) (space : NodeId) → k0 ≡ empty_bank 64 100 → BankGood k0 → FreshNodes k0.keys → Shares k0 nothing_outside [] → TakesNode k0 k1 space.0 Tree → PutsNodeInHand k0 k1 space.0 → IsReady k1 space.0
ready k0 k1 space e good fresh counted takes puts =
    let inside : space.0 < length k0.node_entries = entry_inside k0.node_entries space.0 (good.nodes.entries_good.spelled space.0 takes.high) in
    record {
      rows = subst RowsGood (sym (rows-node_taken k0 k1 space.0 Tree inside refl takes of_domain domains_apart)) (untaken_rows k0 good (empty_taken k0 e));
      free = ap (λ (f : ℕ → ℕ → Key). f 11 5) (rows-node_taken k0 k1 space.0 Tree inside refl takes is_fixed fixed_apart) ∙ slot_null k0 good fresh;
      room = (let a = ap (λ (k : Kernel). k.machine.nodes_taken) takes.state in let b = ap (λ (k : Kernel). k.nodes) takes.state in let d = empty_taken k0 e in let f = empty_nodes k0 e in omega arith);
      pages = (let a = ap (λ (k : Kernel). k.machine.pages_taken) takes.state in let b = ap (λ (k : Kernel). k.size) takes.state in let d = empty_pages k0 e in let f = empty_size k0 e in omega arith);
      shares = puts.counted nothing_outside [] (key_of_space (Some space.0)) (eq-eqb space.0 space.0 refl) counted;
    }

born_at : (old new : ℕ → Domain) (root : ℕ) (domain : Domain) → new ≡ with_at old root domain → at new root ≡ domain
born_at old new root domain e = ap (λ (f : ℕ → Domain). at f root) e ∙ at-with_at old root domain

pub first : (k0 k1 : Kernel) (space root : ℕ) → IsReady k0 space → MakesDomain k0 k1 5 space root → IsFirst k1 root
first k0 k1 space root is made = record {
  space = space;
  regs = made.regs;
  descriptors = made.descriptors;
  domain = born_at (domains k0) (domains k1) root (born 5 space made.regs made.descriptors) made.domains_now;
  named = ap (λ (f : ℕ → Option ℕ). at f 5) made.roots_now ∙ at-with_at (roots k0) 5 (Some root);
  root_once = made.entry_of_root;
  regs_once = made.entry_of_regs;
  descriptors_once = made.entry_of_descriptors;
  pages = (let a = ap (λ (k : Kernel). k.machine.pages_taken) made.rest in let b = ap (λ (k : Kernel). k.size) made.rest in let p = is.pages in omega arith);
  shares = made.shares nothing_outside [] is.shares;
}

-- ---- it exits, and its space is taken away

module _ (k0 k1 k2 : Kernel) (root : ℕ) (is : IsFirst k0 root)
    (phase : domains k1 ≡ with_at (domains k0) root (let was = at (domains k0) root in record was { phase = Exiting })) (others : WritesNumbers k0 k1)
    (space : domains k2 ≡ with_at (domains k1) root (let was = at (domains k1) root in record was { space = None })) (handed : HandsOver k1 k2 Null (key_of_space (at (domains k1) root).space)) where
  exiting : at (domains k2) root ≡ (let was = born 5 is.space is.regs is.descriptors in record was { phase = Exiting; space = None })
  exiting =
      born_at (domains k1) (domains k2) root (let was = at (domains k1) root in record was { space = None }) space
      ∙ ap (λ (d : Domain). let e : Domain = record d { space = None } in e) (born_at (domains k0) (domains k1) root (let was = at (domains k0) root in record was { phase = Exiting }) phase)
      ∙ ap (λ (d : Domain). let e : Domain = record d { phase = Exiting; space = None } in e) is.domain

  entries : (node : ℕ) → entry_at k2.node_entries node ≡ entry_at k0.node_entries node
  entries node = ap (λ (k : Kernel). entry_at k.node_entries node) handed.rest ∙ ap (λ (k : Kernel). entry_at k.node_entries node) others.rest

  pub still_named : at (roots k2) 5 ≡ Some root
  still_named = ap (λ f. at (roots_by f) 5) (handed.fixed_now ∙ others.fixed_now) ∙ is.named

  all_closed : (number : ℕ) → at (λ (n : ℕ). let o : Option ℕ = None in o) number ≡ None
  unfolding at
  all_closed number = refl

  pub may_end : MayEnd k2 root
  may_end = record {
    live = ap (λ (d : Domain). d.live) exiting;
    whole = ap (λ (d : Domain). d.whole) exiting;
    exiting = ap (λ (d : Domain). d.phase) exiting;
    no_space = ap (λ (d : Domain). d.space) exiting;
    no_buffer = ap (λ (d : Domain). d.buffer) exiting;
    closed = λ number. ap (λ (d : Domain). at d.descriptors number) exiting ∙ all_closed number;
    regs_once = λ node e. let same : Some is.regs ≡ Some node = sym (ap (λ (d : Domain). d.regs_node) exiting) ∙ e in
        ap (λ n. entry_at k2.node_entries n) (some_same is.regs node same) ∙ entries is.regs ∙ is.regs_once;
    descriptors_once = λ node e. let same : Some is.descriptors ≡ Some node = sym (ap (λ (d : Domain). d.descriptors_node) exiting) ∙ e in
        ap (λ n. entry_at k2.node_entries n) (some_same is.descriptors node same) ∙ entries is.descriptors ∙ is.descriptors_once;
  }
    where
      some_same : (a b : ℕ) → Some a ≡ Some b → b ≡ a
      some_same a b e = cc

  pub ends_there : MatchOption (at (roots k2) 5) ⊥ (λ root. MayEnd k2 root)
  ends_there = subst (λ (o : Option ℕ). MatchOption o ⊥ (λ r. MayEnd k2 r)) (sym still_named) may_end

  pub space_in_hand : Shares k2 nothing_outside (key_of_space (at (domains k1) root).space ∷ [])
  space_in_hand = handed.shares nothing_outside [] ((nothing-in_hand k1 nothing_outside [] Null tt).1 (others.shares nothing_outside [] is.shares))

  module _ (k3 : Kernel) (ends : MatchOption (at (roots k2) 5) ⊥ (λ root. MakesZombie k2 k3 root)) where
    ended_there : MakesZombie k2 k3 root
    ended_there = subst (λ (o : Option ℕ). MatchOption o ⊥ (λ r. MakesZombie k2 k3 r)) still_named ends

    dead : at (domains k3) root ≡ (let was = born 5 is.space is.regs is.descriptors in ended (record was { phase = Exiting; space = None }))
    dead = born_at (domains k2) (domains k3) root (ended (at (domains k2) root)) ended_there.domains_now ∙ ap (λ (d : Domain). ended d) exiting

    pub is_dead : IsDead k3 root
    is_dead = record {
      named = ap (λ f. at (roots_by f) 5) ended_there.fixed_now ∙ still_named;
      drops = record {
        live = ap (λ (d : Domain). d.live) dead;
        zombie = ap (λ (d : Domain). d.phase) dead;
        wordless = ap (λ (d : Domain). d.whole) dead;
        no_space = ap (λ (d : Domain). d.space) dead;
        no_buffer = ap (λ (d : Domain). d.buffer) dead;
        once = ended_there.entry_of_root ∙ entries root ∙ is.root_once;
      };
      hand = key_of_space (at (domains k1) root).space ∷ [];
      shares = ended_there.shares nothing_outside (key_of_space (at (domains k1) root).space ∷ []) space_in_hand;
    }

pub drops_there : (kernel : Kernel) (root : ℕ) → IsDead kernel root → MatchOption (at (roots kernel) 5) ⊥ (λ root. MayDrop kernel root)
drops_there kernel root is = subst (λ (o : Option ℕ). MatchOption o ⊥ (λ r. MayDrop kernel r)) (sym is.named) is.drops

-- ---- it gets a buffer

pub first_room : (kernel : Kernel) (root : ℕ) → IsFirst kernel root → kernel.machine.pages_taken < kernel.size
first_room kernel root is = is.pages

pub buffered : (k0 k1 : Kernel) (root start : ℕ) (bytes : List ℕ) → IsFirst k0 root → WritesBuffer k0 k1 root start bytes (at (domains k0) root).buffer → IsBuffered k1 root
buffered k0 k1 root start bytes is wrote =
    let none : (at (domains k0) root).buffer ≡ None = ap (λ (d : Domain). d.buffer) is.domain in
    first_bytes k0 k1 root start bytes is (subst (WritesBuffer k0 k1 root start bytes) none wrote)
  where
    first_bytes : (k0 k1 : Kernel) (root start : ℕ) (bytes : List ℕ) → IsFirst k0 root → FirstBytes k0 k1 root start bytes → IsBuffered k1 root
    first_bytes k0 k1 root start bytes is wrote =
        let now = ap domains wrote.writes ∙ wrote.takes.domains_now in
        let there = born_at (domains k0) (domains k1) root (let was = at (domains k0) root in record was { buffer = Some wrote.page }) (ap domains wrote.writes ∙ wrote.takes.domains_now) in
        record {
          page = wrote.page;
          live = ap (λ (d : Domain). d.live) there ∙ ap (λ (d : Domain). d.live) is.domain;
          whole = ap (λ (d : Domain). d.whole) there ∙ ap (λ (d : Domain). d.whole) is.domain;
          held = ap (λ (d : Domain). d.buffer) there;
          is = subst (λ k. IsBuffer k wrote.page) (sym wrote.writes) (record { inside = wrote.takes.buffer.inside; entry = wrote.takes.buffer.entry });
          shares = subst (λ k. Shares k nothing_outside []) (sym wrote.writes) (let s = wrote.takes.shares nothing_outside [] is.shares in record { of_pages = s.of_pages; of_nodes = s.of_nodes });
        }

pub holds : (kernel : Kernel) (root : ℕ) → IsBuffered kernel root → HoldsBuffer kernel (at (domains kernel) root).buffer
holds kernel root is = subst (HoldsBuffer kernel) (sym is.held) is.is

pub is_held : (kernel : Kernel) (root : ℕ) → IsBuffered kernel root → IsSome (at (domains kernel) root).buffer
is_held kernel root is = subst (λ (o : Option ℕ). IsSome o) (sym is.held) refl
