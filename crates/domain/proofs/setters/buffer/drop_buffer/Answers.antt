use Rattle.std.proofs.Common.{◌≡◌, ◌∙◌, ◌-◌, ℕ, [], ◌∷◌, Option, Some, None, sym, subst, refl}
use Rattle.std.specs.Prelude.{MatchOption}
use Rattle.kernel_tables.specs.Kernel.{kernel_of, first_page}
use Rattle.kernel_tables.specs.Rows.{domain_rows}
use Rattle.kernel_tables.specs.Blocks.{ChangesBlocks, key_block, page_entry_block, machine_block}
use Rattle.domain.specs.Buffers.{DropsBuffer}
use Rattle.domain.proofs.FieldLaws.{buffer_read}
use Rattle.domain.proofs.Pages.{held_page}
use Rattle.domain.proofs.setters.buffer.drop_buffer.Goals as goal

pub take_off-requires-clause-held : goal.take_off-requires-clause-held
take_off-requires-clause-held g c =
    let old = kernel_of (g.T.Store.memory c.args.store.now) in
    buffer_read (domain_rows old) c.args.root.0 c.root_key.result (Some c.in-Some.page.0) c.requires.live c.root_key.ensures c.in-Some.ensures

pub take_off-requires-clause-buffer : goal.take_off-requires-clause-buffer
take_off-requires-clause-buffer g c =
    held_page (kernel_of (g.T.Store.memory c.args.store.now)) c.args.root.0 c.in-Some.page.0 (buffer_read (domain_rows (kernel_of (g.T.Store.memory c.args.store.now))) c.args.root.0 c.root_key.result (Some c.in-Some.page.0) c.requires.live c.root_key.ensures c.in-Some.ensures) c.requires.buffer

pub returns-in-Some-clause-dropped : goal.returns-in-Some-clause-dropped
returns-in-Some-clause-dropped g c =
    let old = kernel_of (g.T.Store.memory c.args.store.now) in
    let new = kernel_of (g.T.Store.memory c.take_off.new.store) in
    subst (λ (o : Option ℕ). MatchOption o (new ≡ old) (λ page. DropsBuffer old new c.args.root.0 page))
    (sym (buffer_read (domain_rows old) c.args.root.0 c.root_key.result (Some c.in-Some.page.0) c.requires.live c.root_key.ensures c.in-Some.ensures)) c.take_off.ensures.dropped

pub returns-in-None-clause-dropped : goal.returns-in-None-clause-dropped
returns-in-None-clause-dropped g c =
    let old = kernel_of (g.T.Store.memory c.args.store.now) in
    subst (λ (o : Option ℕ). MatchOption o (old ≡ old) (λ page. DropsBuffer old old c.args.root.0 page))
    (sym (buffer_read (domain_rows old) c.args.root.0 c.root_key.result None c.requires.live c.root_key.ensures c.in-None.ensures)) refl

pub returns-in-Some-clause-blocks : goal.returns-in-Some-clause-blocks
returns-in-Some-clause-blocks g c =
    let old = kernel_of (g.T.Store.memory c.args.store.now) in
    subst (λ (o : Option ℕ). MatchOption o (g.T.Store.blocks c.take_off.new.store ≡ g.T.Store.blocks c.args.store.now)
    (λ page. ChangesBlocks (g.T.Store.blocks c.args.store.now) (g.T.Store.blocks c.take_off.new.store) (key_block old.pages c.args.root.0 ∷ page ∷ page_entry_block (page - first_page old.size) ∷ machine_block ∷ [])))
    (sym (buffer_read (domain_rows old) c.args.root.0 c.root_key.result (Some c.in-Some.page.0) c.requires.live c.root_key.ensures c.in-Some.ensures)) c.take_off.ensures.blocks

pub returns-in-None-clause-blocks : goal.returns-in-None-clause-blocks
returns-in-None-clause-blocks g c =
    let old = kernel_of (g.T.Store.memory c.args.store.now) in
    subst (λ (o : Option ℕ). MatchOption o (g.T.Store.blocks c.args.store.now ≡ g.T.Store.blocks c.args.store.now)
    (λ page. ChangesBlocks (g.T.Store.blocks c.args.store.now) (g.T.Store.blocks c.args.store.now) (key_block old.pages c.args.root.0 ∷ page ∷ page_entry_block (page - first_page old.size) ∷ machine_block ∷ [])))
    (sym (buffer_read (domain_rows old) c.args.root.0 c.root_key.result None c.requires.live c.root_key.ensures c.in-None.ensures)) refl
