-- What stands within a turn too goes along with the birth of a process.
use Rattle.std.proofs.Common.{◌≡◌, ◌≢◌, ◌⊎◌, ℕ, Some, None, true, false, List, [], refl, sym, ap, ap₂, subst, ◌∙◌, ⊎_elim, inl, inr}
use Rattle.std.proofs.lemmas.Bool.{cases_eq}
use Rattle.kernel_tables.specs.declared.entry.Entry.{Entry}
use Rattle.kernel_tables.specs.declared.entry.PageOwner.{PageOwner}
use Rattle.kernel_tables.specs.Kernel.{Kernel, first_page, memory_page}
use Rattle.kernel_tables.specs.Rows.{domain_rows, entry_at, of_domain}
use Rattle.space_bank.specs.Bank.{BankGood}
use Rattle.space_bank.specs.Shares.{Outside}
use Rattle.forest.specs.Forest.{Forest, IsSpace, NoPageOutside}
use Rattle.forest.specs.Objects.{PageObject, NodeObject, OfProcess}
use Rattle.kernel_forest.specs.Owners.{page_owner_of, page_owners}
use Rattle.kernel_forest.specs.Trees.{forest_of, outside_trees, TreesGood}
use Rattle.file_tables.specs.Roots.{named_by}
use Rattle.unix_model.specs.Tables.{at, with_at}
use Rattle.unix_model.proofs.TableLaws.{at-with_at, at-with_at-other}
use Rattle.domain.specs.Domains.{Domain, domains}
use Rattle.domain.specs.Keys.{is_meter, node_in}
use Rattle.domain.specs.Life.{MakesDomain, born}
use Rattle.domain.specs.Rules.{RowsGood}
use Rattle.domain.proofs.DomainLaws.{live_meter}
use Rattle.domain.proofs.Ending.{root_regs_node, root_descriptors_node}
use Rattle.kernel_machine.specs.Held.{AllHeld, NodesHeld, IsNodeOf}
use Rattle.kernel_machine.specs.Machine.{inodes_of}
use Rattle.kernel_machine.specs.Processes.{HoldingsGood}
use Rattle.kernel_machine.specs.Loose as law
use Rattle.kernel_machine.specs.Loose.{Space, StandingBut}
use Rattle.kernel_machine.specs.Standing as standing_law
use Rattle.kernel_machine.specs.Standing.{Standing}
use Rattle.kernel_machine.proofs.AddStands.{standing_with_space}
use Rattle.kernel_machine.specs.Trees.{keeper}
use Rattle.kernel_machine.proofs.KeepLaws.{outside-same, trees_with_birth}
use Rattle.kernel_machine.proofs.StandingLaws.{filled-to, held-to, holdings-to, is-node, keepers-to, meter-live, roots-to}

module _ (old new : Kernel) (slot space root : ℕ) (made : MakesDomain old new slot space root) (bank : BankGood new) (rows : RowsGood (domain_rows new)) (standing : StandingBut old (Space space)) where
  inodes-same : new.inodes ≡ old.inodes
  inodes-same = ap (λ (k : Kernel). k.inodes) made.rest

  there-same : inodes_of new ≡ inodes_of old
  unfolding inodes_of
  there-same = ap inodes_of made.rest

  mine : Domain
  mine = born slot space made.regs made.descriptors

  domains-now : domains new ≡ with_at (domains old) root mine
  unfolding mine
  domains-now = made.domains_now

  here : at (domains new) root ≡ mine
  here = ap (λ (table : ℕ → Domain). at table root) domains-now ∙ at-with_at (domains old) root mine

  there : (other : ℕ) → other ≢ root → at (domains new) other ≡ at (domains old) other
  there other apart = ap (λ (table : ℕ → Domain). at table other) domains-now ∙ at-with_at-other (domains old) root other mine apart

  -- a root that was one before is another one
  not-root : (other : ℕ) → (at (domains old) other).live ≡ true → other ≢ root
  not-root other live same = let no : true ≡ false = sym live ∙ ap (λ r. (at (domains old) r).live) same ∙ ap (λ (domain : Domain). domain.live) made.was_none in cc

  owners-same : page_owners new ≡ page_owners old
  owners-same = ap₂ (λ (size : ℕ) (entries : List (Entry PageOwner)). page_owner_of (first_page size) entries) (ap (λ (k : Kernel). k.size) made.rest) made.pages_now

  -- the space of a domain: its own, or the one that it had
  space-of : (other held : ℕ) → (at (domains new) other).space ≡ Some held → ((other ≡ root) × (held ≡ space)) ⊎ ((other ≢ root) × ((at (domains old) other).space ≡ Some held))
  unfolding mine
  space-of other held has = ⊎_elim
      (λ (t : other ≡ root).
      let both : Some space ≡ Some held = sym (ap (λ (domain : Domain). domain.space) here) ∙ ap (λ r. (at (domains new) r).space) (sym t) ∙ has in
      inl (t, (let same : held ≡ space = cc in same)))
      (λ (d : other ≢ root). inr (d, ap (λ (domain : Domain). domain.space) (sym (there other d)) ∙ has))
      (cases_eq other root)

  buffer-of : (other page : ℕ) → (at (domains new) other).buffer ≡ Some page → (at (domains old) other).buffer ≡ Some page
  unfolding mine
  buffer-of other page has = ⊎_elim
      (λ (t : other ≡ root). let no : None ≡ Some page = sym (ap (λ (domain : Domain). domain.buffer) here) ∙ ap (λ r. (at (domains new) r).buffer) (sym t) ∙ has in cc)
      (λ (d : other ≢ root). ap (λ (domain : Domain). domain.buffer) (sym (there other d)) ∙ has)
      (cases_eq other root)

  -- no other domain has the space
  not-held : (other held : ℕ) → (at (domains old) other).space ≡ Some held → held ≢ space
  not-held other held has same = standing.is_loose.no_space other held has (ap Space (sym same))

  holdings-good : HoldingsGood (domains new) (forest_of old) (page_owners old)
  holdings-good =
      record {
        spaces = λ other held has. ⊎_elim
            (λ (t : (other ≡ root) × (held ≡ space)). subst (λ n. IsSpace (forest_of old) [] n × ((forest_of old).owner (NodeObject n) ≡ Some OfProcess)) (sym t.1) standing.is_loose.taken)
            (λ (t : (other ≢ root) × ((at (domains old) other).space ≡ Some held)). standing.holdings.spaces other held t.1)
            (space-of other held has);
        buffers = λ other page has. standing.holdings.buffers other page (buffer-of other page has);
        spaces_differ = λ one two held has also. ⊎_elim
            (λ (a : (one ≡ root) × (held ≡ space)). ⊎_elim
            (λ (b : (two ≡ root) × (held ≡ space)). a.0 ∙ sym b.0)
            (λ (b : (two ≢ root) × ((at (domains old) two).space ≡ Some held)). absurd (not-held two held b.1 a.1))
            (space-of two held also))
            (λ (a : (one ≢ root) × ((at (domains old) one).space ≡ Some held)). ⊎_elim
            (λ (b : (two ≡ root) × (held ≡ space)). absurd (not-held one held a.1 b.1))
            (λ (b : (two ≢ root) × ((at (domains old) two).space ≡ Some held)). standing.holdings.spaces_differ one two held a.1 b.1)
            (space-of two held also))
            (space-of one held has);
        buffers_differ = λ one two page has also. standing.holdings.buffers_differ one two page (buffer-of one page has) (buffer-of two page also);
      }

  kept : {X : Type 0} (field : Domain → X) (other : ℕ) (x : X) → (at (domains old) other).live ≡ true → field (at (domains old) other) ≡ x → field (at (domains new) other) ≡ x
  kept field other x live e = ap field (there other (not-root other live)) ∙ e

  held-good : AllHeld (domains new) (forest_of old) (page_owners old) (inodes_of old)
  unfolding mine
  held-good =
      record {
        spaces = λ held is owned. ⊎_elim
            (λ (t : held ≡ space). (root, ap (λ (domain : Domain). domain.live) here, ap (λ (domain : Domain). domain.space) here ∙ ap Some (sym t)))
            (λ (d : held ≢ space).
            let h = standing.held.spaces held is owned (λ same. d (let e : space ≡ held = cc in sym e)) in
            (h.0, kept (λ domain. domain.live) h.0 true h.1 h.1, kept (λ domain. domain.space) h.0 (Some held) h.1 h.2))
            (cases_eq held space);
        trees = λ held is owned. standing.held.trees held is owned (λ same. cc);
        buffers = λ page owned.
            let h = standing.held.buffers page owned in
            (h.0, kept (λ domain. domain.live) h.0 true h.1 h.1, kept (λ domain. domain.buffer) h.0 (Some page) h.1 h.2);
        pipes = λ page owned. standing.held.pipes page owned (λ same. cc);
      }

  live-now : (at (domains new) root).live ≡ true
  unfolding mine
  live-now = ap (λ (domain : Domain). domain.live) here

  meter : is_meter (domain_rows new root 2) ≡ true
  meter = live_meter (domain_rows new) root live-now

  regs-node : node_in (domain_rows new root 3) ≡ Some made.regs
  unfolding mine
  regs-node = sym (root_regs_node (domain_rows new) root live-now) ∙ ap (λ (domain : Domain). domain.regs_node) here

  descriptors-node : node_in (domain_rows new root 4) ≡ Some made.descriptors
  unfolding mine
  descriptors-node = sym (root_descriptors_node (domain_rows new) root live-now) ∙ ap (λ (domain : Domain). domain.descriptors_node) here

  other-node : (node : ℕ) → of_domain (entry_at old.node_entries node) ≡ true → (r : ℕ) × IsNodeOf (domain_rows new) r node
  other-node node own =
      let h = standing.nodes_held node own in
      let same = there h.0 (not-root h.0 (meter-live (domain_rows old) h.0 h.1.0)) in
      (h.0, is-node (domain_rows old) (domain_rows new) h.0 node (ap (λ (domain : Domain). domain.live) same) (ap (λ (domain : Domain). domain.regs_node) same) (ap (λ (domain : Domain). domain.descriptors_node) same) h.1)

  nodes-good : NodesHeld (domain_rows new) new.node_entries
  nodes-good node own = ⊎_elim
      (λ (t : node ≡ root). (root, (meter, inl (sym t))))
      (λ (not_root : node ≢ root). ⊎_elim
      (λ (t : node ≡ made.regs). (root, (meter, inr (inl (regs-node ∙ ap Some (sym t))))))
      (λ (not_regs : node ≢ made.regs). ⊎_elim
      (λ (t : node ≡ made.descriptors). (root, (meter, inr (inr (descriptors-node ∙ ap Some (sym t))))))
      (λ (not_descriptors : node ≢ made.descriptors). other-node node (ap of_domain (sym (made.entries node not_regs not_descriptors not_root)) ∙ own))
      (cases_eq node made.descriptors))
      (cases_eq node made.regs))
      (cases_eq node root)

  inside-good : NoPageOutside (forest_of old) (outside_trees new (named_by old.inodes))
  inside-good page some = outside-same old new (named_by old.inodes) slot space root standing.bank made (PageObject page) some ∙ standing.pages_inside page some

  stands : Standing new
  stands =
      let named : named_by new.inodes ≡ named_by old.inodes = ap named_by inodes-same in
      record {
        bank = bank;
        whole = rw (ap (λ (k : Kernel). k.bank) made.rest) standing.whole;
        unused = rw (ap (λ (k : Kernel). k.page_zero) made.rest, ap (λ (k : Kernel). k.other_words) made.rest) standing.unused;
        trees = subst (λ (outside : Outside). TreesGood new outside []) (sym named) (trees_with_birth old new (named_by old.inodes) slot space root standing.bank made standing.trees);
        pages_inside = subst (λ (outside : Outside). NoPageOutside (forest_of new) (outside_trees new outside)) (sym named)
            (subst (λ (forest : Forest). NoPageOutside forest (outside_trees new (named_by old.inodes))) (sym made.forest_now) inside-good);
        filled = filled-to made.forest_now standing.filled;
        rows = rows;
        nodes_held = nodes-good;
        inodes = rw inodes-same standing.inodes;
        descriptions = rw (ap (λ (k : Kernel). k.descriptions) made.rest) standing.descriptions;
        holdings = holdings-to refl made.forest_now owners-same holdings-good;
        roots = roots-to made.forest_now (ap memory_page made.rest) owners-same there-same standing.roots;
        keepers = keepers-to made.forest_now standing.keepers;
        held = held-to refl made.forest_now owners-same there-same held-good;
      }

pub standing_with_domain : law.StandingWithDomain
standing_with_domain old new slot space root made bank rows standing = stands old new slot space root made bank rows standing

pub standing_with_birth : standing_law.StandingWithBirth
standing_with_birth old mid new slot space root map adds made good_mid bank rows whole standing =
    standing_with_domain mid new slot space root made bank rows
    (standing_with_space old mid space OfProcess (Some OfProcess) keeper map adds refl refl good_mid standing)
