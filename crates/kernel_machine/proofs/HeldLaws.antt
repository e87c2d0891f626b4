-- What is held stays held.
use Rattle.std.proofs.Common.{◌≡◌, ◌≢◌, ℕ, Option, Some, refl, sym, ap, subst, ◌∙◌, ⊎_elim}
use Rattle.std.proofs.lemmas.Bool.{cases_eq}
use Rattle.kernel_tables.specs.declared.inode.Inode.{Inode}
use Rattle.unix_model.specs.Tables.{at, with_at}
use Rattle.unix_model.proofs.TableLaws.{at-with_at, at-with_at-other}
pub use Rattle.domain.proofs.MarkLaws.{stays}
use Rattle.kernel_machine.specs.Trees.{HasTree}
use Rattle.kernel_machine.specs.Bounds as law

pub held_with_domain : law.HeldWithDomain
held_with_domain machine root domain live space buffer held = record {
  spaces =
      λ s is_space owned.
      let h = held.spaces s is_space owned in
      (h.0, stays machine.domains root domain (λ d. d.live) live h.0 ∙ h.1, stays machine.domains root domain (λ d. d.space) space h.0 ∙ h.2);
  trees = held.trees;
  buffers =
      λ page owned.
      let h = held.buffers page owned in
      (h.0, stays machine.domains root domain (λ d. d.live) live h.0 ∙ h.1, stays machine.domains root domain (λ d. d.buffer) buffer h.0 ∙ h.2);
  pipes = held.pipes;
}

-- the row of a number, which may be the new one
record Row (inodes : ℕ → Option Inode) (number : ℕ) (row was : Inode) (other : ℕ) : Type 0 where
  now : Inode
  there : at (with_at inodes number (Some row)) other ≡ Some now
  same_kind : now.kind ≡ was.kind
  same_root : now.root ≡ was.root

row-of : (inodes : ℕ → Option Inode) (number : ℕ) (inode row : Inode) → at inodes number ≡ Some inode → row.kind ≡ inode.kind → row.root ≡ inode.root
    → (other : ℕ) (was : Inode) → at inodes other ≡ Some was → Row inodes number row was other
row-of inodes number inode row is kind root other was there = ⊎_elim
    (λ (e : other ≡ number).
    let both : Some inode ≡ Some was = sym is ∙ ap (at inodes) (sym e) ∙ there in
    let same : inode ≡ was = cc in
    record {
      now = row;
      there = ap (at (with_at inodes number (Some row))) e ∙ at-with_at inodes number (Some row);
      same_kind = kind ∙ ap (λ (i : Inode). i.kind) same;
      same_root = root ∙ ap (λ (i : Inode). i.root) same;
    })
    (λ (apart : other ≢ number). record { now = was; there = at-with_at-other inodes number other (Some row) apart ∙ there; same_kind = refl; same_root = refl })
    (cases_eq other number)

pub held_with_inode : law.HeldWithInode
held_with_inode machine number inode row is kind root held = record {
  spaces = held.spaces;
  trees =
      λ s is_space owned.
      let h = held.trees s is_space owned in
      let r = row-of machine.inodes number inode row is kind root h.0 h.1 h.2 in
      (h.0, r.now, r.there, subst HasTree (sym r.same_kind) h.3, r.same_root ∙ h.4);
  buffers = held.buffers;
  pipes =
      λ page owned.
      let h = held.pipes page owned in
      let r = row-of machine.inodes number inode row is kind root h.0 h.1 h.2 in
      (h.0, r.now, r.there, r.same_kind ∙ h.3, r.same_root ∙ h.4);
}
