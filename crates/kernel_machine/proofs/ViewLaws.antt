-- The flat state, along with changes of single tables.
use Rattle.std.proofs.Common.{◌≡◌, ◌≢◌, ℕ, Option, Some, None, refl, sym, ap, ◌∙◌, ⊎_elim}
use Rattle.std.proofs.Math.Path.{fun_ext}
use Rattle.std.proofs.lemmas.Bool.{cases_eq, eq-eqb, ne_eqb}
use Rattle.std.specs.Prelude.{option_map}
use Rattle.unix_model.specs.Files as model
use Rattle.unix_model.specs.Process.{Process}
use Rattle.unix_model.specs.State.{Unix}
use Rattle.unix_model.specs.Tables.{at, with_at}
use Rattle.domain.specs.Domains.{Domain}
use Rattle.kernel_machine.specs.Machine.{KernelMachine}
use Rattle.kernel_machine.specs.View.{view, process_in, processes_in, memory_in, file_memory, inode_in, inodes_in, description_in, descriptions_in}
use Rattle.kernel_machine.specs.Laws as law
use Rattle.kernel_machine.specs.Laws.{HasRoot}

-- ---- tables

here : {X : Type 0} (f : ℕ → X) (n : ℕ) (x : X) → with_at f n x n ≡ x
unfolding with_at
here f n x = rw (eq-eqb n n refl) refl

pub other : {X : Type 0} (f : ℕ → X) (n k : ℕ) (x : X) → k ≢ n → with_at f n x k ≡ f k
unfolding with_at
other f n k x apart = rw (ne_eqb k n apart) refl

-- a table that is as another one but at a place
pub changed_at : {X : Type 0} (f g : ℕ → X) (n : ℕ) (x : X) → g n ≡ x → ((k : ℕ) → k ≢ n → g k ≡ f k) → g ≡ with_at f n x
changed_at f g n x there same = fun_ext (λ k. ⊎_elim
    (λ (e : k ≡ n). ap g e ∙ there ∙ sym (ap (with_at f n x) e ∙ here f n x))
    (λ (d : k ≢ n). same k d ∙ sym (other f n k x d))
    (cases_eq k n))

-- what is made of a table that is changed at a place
pub mapped_changed : {X Y : Type 0} (make : X → Y) (table : ℕ → Option X) (n : ℕ) (x : Option X)
    → (λ k. option_map make (at (with_at table n x) k)) ≡ with_at (λ k. option_map make (at table k)) n (option_map make x)
unfolding at
mapped_changed make table n x =
    changed_at (λ k. option_map make (table k)) (λ k. option_map make (with_at table n x k)) n (option_map make x)
    (ap (option_map make) (here table n x)) (λ k apart. ap (option_map make) (other table n k x apart))

-- ---- domains

-- the process of a slot, by its root
process_by : KernelMachine → (ℕ → Domain) → Option ℕ → Option Process
process_by machine domains root = option_map (λ root. process_in machine (at domains root)) root

process_same : (machine : KernelMachine) (root : ℕ) (domain : Domain) (held : Option ℕ) → held ≢ Some root
    → process_by machine (with_at machine.domains root domain) held ≡ process_by machine machine.domains held
unfolding process_by at
process_same machine root domain None apart = refl
process_same machine root domain (Some held) apart = ap (λ (now : Domain). Some (process_in machine now)) (other machine.domains root held domain (λ same. apart (ap Some same)))

process_changed : (machine : KernelMachine) (root : ℕ) (domain : Domain) (held : Option ℕ) → held ≡ Some root
    → process_by machine (with_at machine.domains root domain) held ≡ Some (process_in machine domain)
unfolding process_by at
process_changed machine root domain held is =
    ap (option_map (λ root_now. process_in machine (with_at machine.domains root domain root_now))) is
    ∙ ap (λ (now : Domain). Some (process_in machine now)) (here machine.domains root domain)

-- the flat state with other processes
with_processes : KernelMachine → (ℕ → Option Process) → Unix
with_processes machine processes = record (view machine) { processes = processes }

pub domain_changed : law.DomainChanged
unfolding view processes_in process_in with_processes process_by at memory_in inodes_in descriptions_in inode_in file_memory
domain_changed machine slot root domain has =
    ap (with_processes machine)
    (changed_at (processes_in machine) (processes_in (record machine { domains = with_at machine.domains root domain })) slot (Some (process_in machine domain))
    (process_changed machine root domain (at machine.roots slot) has.0)
    (λ k apart. process_same machine root domain (at machine.roots k) (λ same. apart (has.1 k same))))

-- a root that no slot had comes into a slot
pub domain_born : law.DomainBorn
unfolding view processes_in process_in with_processes process_by at memory_in inodes_in descriptions_in inode_in file_memory
domain_born machine slot root domain apart =
    ap (with_processes machine)
    (changed_at (processes_in machine) (processes_in (record machine { roots = with_at machine.roots slot (Some root); domains = with_at machine.domains root domain })) slot (Some (process_in machine domain))
    (process_changed machine root domain (with_at machine.roots slot (Some root) slot) (here machine.roots slot (Some root)))
    (λ k elsewhere.
    ap (process_by machine (with_at machine.domains root domain)) (other machine.roots slot k (Some root) elsewhere)
    ∙ process_same machine root domain (at machine.roots k) (apart k)))

-- a root goes out of its slot
pub domain_gone : law.DomainGone
unfolding view processes_in process_in with_processes process_by at memory_in inodes_in descriptions_in inode_in file_memory
domain_gone machine slot root domain has =
    ap (with_processes machine)
    (changed_at (processes_in machine) (processes_in (record machine { roots = with_at machine.roots slot None; domains = with_at machine.domains root domain })) slot None
    (ap (process_by machine (with_at machine.domains root domain)) (here machine.roots slot None))
    (λ k elsewhere.
    ap (process_by machine (with_at machine.domains root domain)) (other machine.roots slot k None elsewhere)
    ∙ process_same machine root domain (at machine.roots k) (λ same. elsewhere (has.1 k same))))

-- ---- what is no part of the state, and words

pub lives_unseen : law.LivesUnseen
unfolding view processes_in process_in memory_in inodes_in descriptions_in inode_in file_memory
lives_unseen machine room lives = refl

pub words_changed : law.WordsChanged
unfolding view processes_in process_in memory_in inodes_in descriptions_in inode_in file_memory
words_changed machine next_pid position promised = refl

-- ---- files

with_inodes : KernelMachine → (ℕ → Option model.Inode) → Unix
with_inodes machine inodes = record (view machine) { files = record { inodes = inodes; descriptions = descriptions_in machine } }

with_descriptions : KernelMachine → (ℕ → Option model.Description) → Unix
with_descriptions machine descriptions = record (view machine) { files = record { inodes = inodes_in machine; descriptions = descriptions } }

pub inode_changed : law.InodeChanged
unfolding view processes_in process_in memory_in inodes_in descriptions_in inode_in file_memory with_inodes
inode_changed machine number row = ap (with_inodes machine) (mapped_changed (inode_in machine) machine.inodes number (Some row))

pub inode_freed : law.InodeFreed
unfolding view processes_in process_in memory_in inodes_in descriptions_in inode_in file_memory with_inodes
inode_freed machine number = ap (with_inodes machine) (mapped_changed (inode_in machine) machine.inodes number None)

pub description_changed : law.DescriptionChanged
unfolding view processes_in process_in memory_in inodes_in descriptions_in inode_in file_memory with_descriptions
description_changed machine number row = ap (with_descriptions machine) (mapped_changed description_in machine.descriptions number (Some row))

pub description_freed : law.DescriptionFreed
unfolding view processes_in process_in memory_in inodes_in descriptions_in inode_in file_memory with_descriptions
description_freed machine number = ap (with_descriptions machine) (mapped_changed description_in machine.descriptions number None)

pub ruleset views = (domain_changed, domain_born, domain_gone, lives_unseen, words_changed, inode_changed, inode_freed, description_changed, description_freed)
