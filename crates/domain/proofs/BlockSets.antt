-- Which blocks several calls change, one after the other.
use Rattle.std.proofs.Common.{ℕ, List, [], ◌∷◌, ◌++◌, ◌+◌, ◌-◌, ◌/◌, inl, inr, ⊎_elim, ◌∙◌, Option, Some, None, refl, sym, subst, ◌≡◌}
use Rattle.kernel_tables.specs.Kernel.{Kernel, first_page}
use Rattle.unix_model.specs.Tables.{at}
use Rattle.domain.specs.Domains.{domains}
use Rattle.domain.specs.Buffers.{BufferBlocks}
use Rattle.domain.specs.Ends.{node_gone, nodes_gone, ended_blocks, dropped_blocks}
use Rattle.domain.proofs.Writing.{same_block}
use Rattle.kernel_tables.specs.Blocks.{IsAmong, ChangesBlocks, key_block, machine_block, node_entry_block, page_entry_block}

pub among_left : (block : ℕ) (xs ys : List ℕ) → IsAmong block xs → IsAmong block (xs ++ ys)
among_left block [] ys h = absurd h
among_left block (x ∷ xs) ys h = ⊎_elim (λ e. inl e) (λ t. inr (among_left block xs ys t)) h

pub among_right : (block : ℕ) (xs ys : List ℕ) → IsAmong block ys → IsAmong block (xs ++ ys)
among_right block [] ys h = h
among_right block (x ∷ xs) ys h = inr (among_right block xs ys h)

-- two calls change the blocks of both
pub blocks_then : (first old new : List (List ℕ)) (xs ys : List ℕ) → ChangesBlocks first old xs → ChangesBlocks old new ys → ChangesBlocks first new (xs ++ ys)
blocks_then first old new xs ys before after = record {
  same_number = after.same_number ∙ before.same_number;
  others = λ block apart. after.others block (λ h. apart (among_right block xs ys h)) ∙ before.others block (λ h. apart (among_left block xs ys h));
}

-- a call changes no other blocks than these, if they are among them
pub blocks_within : (old new : List (List ℕ)) (xs ys : List ℕ) → ((block : ℕ) → IsAmong block xs → IsAmong block ys) → ChangesBlocks old new xs → ChangesBlocks old new ys
blocks_within old new xs ys within changes = record { same_number = changes.same_number; others = λ block apart. changes.others block (λ h. apart (within block h)) }

-- where nothing is written no block changes
pub no_buffer_blocks : (kernel : Kernel) (root : ℕ) (buffer : Option ℕ) (blocks : List (List ℕ)) → BufferBlocks kernel root buffer blocks blocks
no_buffer_blocks kernel root None blocks = (0, record { same_number = refl; others = λ block apart. refl })
no_buffer_blocks kernel root (Some page) blocks = record { same_number = refl; others = λ block apart. refl }

-- the block of keys, and those of a page that is given back, told by what the tables had before
pub keys_changed : (old new : List (List ℕ)) (pages more node : ℕ) → more ≡ pages → ChangesBlocks old new (key_block more node ∷ []) → ChangesBlocks old new (key_block pages node ∷ [])
keys_changed old new pages more node same changes = subst (λ p. ChangesBlocks old new (key_block p node ∷ [])) same changes

pub page_changed : (old new : List (List ℕ)) (size more page : ℕ) → more ≡ size → ChangesBlocks old new (page ∷ page_entry_block (page - first_page more) ∷ machine_block ∷ [])
    → ChangesBlocks old new (page ∷ page_entry_block (page - first_page size) ∷ machine_block ∷ [])
page_changed old new size more page same changes = subst (λ s. ChangesBlocks old new (page ∷ page_entry_block (page - first_page s) ∷ machine_block ∷ [])) same changes

-- the blocks of a domain that is made
pub born_changes : (b0 b1 b2 b3 b4 b5 b6 b7 : List (List ℕ)) (size size2 size4 pages pages1 pages3 pages5 pages6 r d t table : ℕ) → size2 ≡ size → size4 ≡ size
    → pages1 ≡ pages → pages3 ≡ pages → pages5 ≡ pages → pages6 ≡ pages
    → ChangesBlocks b0 b1 (node_entry_block size r ∷ machine_block ∷ []) → ChangesBlocks b1 b2 (key_block pages1 r ∷ [])
    → ChangesBlocks b2 b3 (node_entry_block size2 d ∷ machine_block ∷ []) → ChangesBlocks b3 b4 (key_block pages3 d ∷ [])
    → ChangesBlocks b4 b5 (node_entry_block size4 t ∷ machine_block ∷ []) → ChangesBlocks b5 b6 (key_block pages5 t ∷ []) → ChangesBlocks b6 b7 (key_block pages6 table ∷ [])
    → ChangesBlocks b0 b7 (node_entry_block size r ∷ machine_block ∷ key_block pages r ∷ node_entry_block size d ∷ machine_block ∷ key_block pages d ∷ node_entry_block size t ∷ machine_block ∷ key_block pages t ∷ key_block pages table ∷ [])
born_changes b0 b1 b2 b3 b4 b5 b6 b7 size size2 size4 pages pages1 pages3 pages5 pages6 r d t table s2 s4 p1 p3 p5 p6 c1 c2 c3 c4 c5 c6 c7 =
    blocks_then b0 b2 b7 (node_entry_block size r ∷ machine_block ∷ key_block pages r ∷ []) (node_entry_block size d ∷ machine_block ∷ key_block pages d ∷ node_entry_block size t ∷ machine_block ∷ key_block pages t ∷ key_block pages table ∷ [])
    (blocks_then b0 b1 b2 (node_entry_block size r ∷ machine_block ∷ []) (key_block pages r ∷ []) c1 (subst (λ p. ChangesBlocks b1 b2 (key_block p r ∷ [])) p1 c2))
    (blocks_then b2 b4 b7 (node_entry_block size d ∷ machine_block ∷ key_block pages d ∷ []) (node_entry_block size t ∷ machine_block ∷ key_block pages t ∷ key_block pages table ∷ [])
    (blocks_then b2 b3 b4 (node_entry_block size d ∷ machine_block ∷ []) (key_block pages d ∷ []) (subst (λ s. ChangesBlocks b2 b3 (node_entry_block s d ∷ machine_block ∷ [])) s2 c3) (subst (λ p. ChangesBlocks b3 b4 (key_block p d ∷ [])) p3 c4))
    (blocks_then b4 b6 b7 (node_entry_block size t ∷ machine_block ∷ key_block pages t ∷ []) (key_block pages table ∷ [])
    (blocks_then b4 b5 b6 (node_entry_block size t ∷ machine_block ∷ []) (key_block pages t ∷ []) (subst (λ s. ChangesBlocks b4 b5 (node_entry_block s t ∷ machine_block ∷ [])) s4 c5) (subst (λ p. ChangesBlocks b5 b6 (key_block p t ∷ [])) p5 c6))
    (subst (λ p. ChangesBlocks b6 b7 (key_block p table ∷ [])) p6 c7)))

-- .. whose root is filled by one call and six keys
pub filled_changes : (b0 b1 b2 b3 b4 b5 b6 b7 : List (List ℕ)) (pages p1 p2 p3 p4 p5 p6 root : ℕ) → p1 ≡ pages → p2 ≡ p1 → p3 ≡ p2 → p4 ≡ p3 → p5 ≡ p4 → p6 ≡ p5
    → ChangesBlocks b0 b1 (key_block pages root ∷ []) → ChangesBlocks b1 b2 (key_block p1 root ∷ []) → ChangesBlocks b2 b3 (key_block p2 root ∷ []) → ChangesBlocks b3 b4 (key_block p3 root ∷ [])
    → ChangesBlocks b4 b5 (key_block p4 root ∷ []) → ChangesBlocks b5 b6 (key_block p5 root ∷ []) → ChangesBlocks b6 b7 (key_block p6 root ∷ []) → ChangesBlocks b0 b7 (key_block pages root ∷ [])
filled_changes b0 b1 b2 b3 b4 b5 b6 b7 pages p1 p2 p3 p4 p5 p6 root e1 e2 e3 e4 e5 e6 c1 c2 c3 c4 c5 c6 c7 =
    let t2 = e2 ∙ e1 in
    let t3 = e3 ∙ t2 in
    let t4 = e4 ∙ t3 in
    let t5 = e5 ∙ t4 in
    same_block pages p6 root (e6 ∙ t5)
    (same_block pages p5 root t5 (same_block pages p4 root t4 (same_block pages p3 root t3 (same_block pages p2 root t2 (same_block pages p1 root e1 c1 c2) c3) c4) c5) c6) c7

-- the blocks of a domain that becomes a zombie
pub ended_changes : (kernel : Kernel) (root r d pages1 pages2 pages3 pages4 size3 size4 : ℕ) (b0 b1 b2 b3 b4 b5 : List (List ℕ))
    → pages1 ≡ kernel.pages → pages2 ≡ kernel.pages → pages3 ≡ kernel.pages → pages4 ≡ kernel.pages → size3 ≡ kernel.size → size4 ≡ kernel.size
    → (at (domains kernel) root).regs_node ≡ Some r → (at (domains kernel) root).descriptors_node ≡ Some d
    → ChangesBlocks b0 b1 (key_block kernel.pages root ∷ []) → ChangesBlocks b1 b2 (key_block pages1 root ∷ []) → ChangesBlocks b2 b3 (key_block pages2 root ∷ [])
    → ChangesBlocks b3 b4 (key_block pages3 r ∷ node_entry_block size3 r ∷ machine_block ∷ []) → ChangesBlocks b4 b5 (key_block pages4 d ∷ node_entry_block size4 d ∷ machine_block ∷ [])
    → ChangesBlocks b0 b5 (ended_blocks kernel root)
ended_changes kernel root r d pages1 pages2 pages3 pages4 size3 size4 b0 b1 b2 b3 b4 b5 p1 p2 p3 p4 s3 s4 regs descriptors c1 c2 c3 c4 c5 =
    subst (λ o. ChangesBlocks b0 b5 (key_block kernel.pages root ∷ (nodes_gone kernel o ++ nodes_gone kernel (at (domains kernel) root).descriptors_node))) (sym regs)
    (subst (λ o. ChangesBlocks b0 b5 (key_block kernel.pages root ∷ (nodes_gone kernel (Some r) ++ nodes_gone kernel o))) (sym descriptors)
    (blocks_then b0 b3 b5 (key_block kernel.pages root ∷ []) (node_gone kernel r ++ node_gone kernel d)
    (same_block kernel.pages pages2 root p2 (same_block kernel.pages pages1 root p1 c1 c2) c3)
    (blocks_then b3 b4 b5 (node_gone kernel r) (node_gone kernel d)
    (subst (λ p. ChangesBlocks b3 b4 (key_block p r ∷ node_entry_block kernel.size r ∷ machine_block ∷ [])) p3
    (subst (λ s. ChangesBlocks b3 b4 (key_block pages3 r ∷ node_entry_block s r ∷ machine_block ∷ [])) s3 c4))
    (subst (λ p. ChangesBlocks b4 b5 (key_block p d ∷ node_entry_block kernel.size d ∷ machine_block ∷ [])) p4
    (subst (λ s. ChangesBlocks b4 b5 (key_block pages4 d ∷ node_entry_block s d ∷ machine_block ∷ [])) s4 c5)))))

-- the blocks of a domain that is dropped
pub dropped_changes : (kernel : Kernel) (slot root pages1 size1 : ℕ) (b0 b1 b2 : List (List ℕ)) → pages1 ≡ kernel.pages → size1 ≡ kernel.size
    → ChangesBlocks b0 b1 (key_block kernel.pages (11 + slot / 16) ∷ []) → ChangesBlocks b1 b2 (key_block pages1 root ∷ node_entry_block size1 root ∷ machine_block ∷ [])
    → ChangesBlocks b0 b2 (dropped_blocks kernel slot root)
dropped_changes kernel slot root pages1 size1 b0 b1 b2 p1 s1 c1 c2 =
    blocks_then b0 b1 b2 (key_block kernel.pages (11 + slot / 16) ∷ []) (node_gone kernel root) c1
    (subst (λ p. ChangesBlocks b1 b2 (key_block p root ∷ node_entry_block kernel.size root ∷ machine_block ∷ [])) p1
    (subst (λ s. ChangesBlocks b1 b2 (key_block pages1 root ∷ node_entry_block s root ∷ machine_block ∷ [])) s1 c2))
