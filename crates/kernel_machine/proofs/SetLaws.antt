-- The flat state, along with calls on the kernel's tables.
use Rattle.std.proofs.Common.{◌≡◌, ℕ, sym, ap, ◌∙◌}
use Rattle.unix_model.specs.Tables.{with_at}
use Rattle.kernel_tables.specs.declared.row.Row.TheVariants.{Used}
use Rattle.kernel_tables.specs.Kernel.{Kernel}
use Rattle.domain.specs.Domains.{Domain, domains, lives}
use Rattle.kernel_machine.specs.Machine.{KernelMachine, machine_of}
use Rattle.kernel_machine.specs.View.{view}
use Rattle.kernel_machine.specs.Laws as law
use Rattle.kernel_machine.proofs.ViewLaws.{domain_changed, lives_unseen, inode_changed, description_changed}
use Rattle.kernel_machine.proofs.MachineLaws.{numbers_written, inode_written, description_written}

pub roots_differ : law.RootsDiffer
roots_differ machine slot root good has =
    (has, λ other held. sym (good.each other root held).slot_is ∙ (good.each slot root has).slot_is)

-- the machine with other domains
with-domains : KernelMachine → (ℕ → Domain) → KernelMachine
with-domains machine now = record machine { domains = now }

-- numbers were written: the domains alone are seen
numbers-seen : (old new : Kernel) (now : ℕ → Domain) → law.NumbersWritten → domains new ≡ now → view (record (machine_of old) { lives = lives new; domains = domains new }) ≡ view (with-domains (machine_of old) now)
unfolding with-domains
numbers-seen old new now written is =
    lives_unseen (with-domains (machine_of old) (domains new)) (machine_of old).room (lives new) ∙ ap (λ domains. view (with-domains (machine_of old) domains)) is

pub domain_set : law.DomainSet
unfolding with-domains machine_of
domain_set old new slot root domain writes is has =
    ap view (numbers_written old new writes) ∙ numbers-seen old new (with_at (domains old) root domain) numbers_written is ∙ domain_changed (machine_of old) slot root domain has

pub life_set : law.LifeSet
unfolding with-domains machine_of
life_set old new writes is = ap view (numbers_written old new writes) ∙ numbers-seen old new (domains old) numbers_written is

pub inode_set : law.InodeSet
unfolding machine_of
inode_set old new number inode inside is = ap view (inode_written old new number (Used inode) inside is) ∙ inode_changed (machine_of old) number inode

pub description_set : law.DescriptionSet
unfolding machine_of
description_set old new number row inside is = ap view (description_written old new number (Used row) inside is) ∙ description_changed (machine_of old) number row
