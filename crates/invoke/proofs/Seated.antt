-- Whoever calls or is reached has its place in the room afterwards.
use Rattle.std.proofs.Common.{◌≡◌, ◌<◌, ℕ, Bool, if◌then◌else◌, List, set, get_or-set_same, ap, sym, subst, ◌∙◌}
use Rattle.kn_base.specs.declared.key.Key.{Key}
use Rattle.kn_base.specs.declared.key.Key.TheVariants.{Null, Resume}
use Rattle.kernel_tables.specs.declared.entry.NodeOwner.{NodeOwner}
use Rattle.kernel_tables.specs.declared.entry.NodeOwner.TheVariants.{Domain as DomainOwner}
use Rattle.kernel_tables.specs.declared.entry.Entry.{Entry}
use Rattle.kernel_tables.specs.declared.entry.Entry.TheVariants.{Taken, Unspelled}
use Rattle.kernel_tables.specs.Kernel.{Kernel}
use Rattle.kernel_tables.specs.Rows.{entry_at}
use Rattle.space_bank.proofs.FreeListLaws.{entry_inside}
use Rattle.unix_model.specs.Tables.{at, with_at}
use Rattle.unix_model.proofs.TableLaws.{at-with_at}
use Rattle.domain.specs.declared.types.State.TheVariants.{Available, Running, Waiting}
use Rattle.domain.specs.Domains.{Domain, Life, lives}
use Rattle.invoke.specs.Room.{room, slot_in, IsSeated, Stays, Enters, Leaves, leaving, key_while, names_while}
use Rattle.invoke.specs.Invokes.{InvokesBy, Invokes}
use Rattle.invoke.proofs.Seating.{spelled}

-- a root has its place if its life, its place and its count agree
seated_by : (old new : Kernel) (now : ℕ → Life) (rooms : ℕ → Key) (entries : List (Entry NodeOwner)) (key was : Key) (root : ℕ) (life : Life)
    → InvokesBy old new now rooms entries key was → IsSeated old root → at now root ≡ life
    → at rooms (slot_in old root) ≡ key_while life.state root life.count → entry_at entries root ≡ Taken DomainOwner (names_while life.state) → IsSeated new root
seated_by old new now rooms entries key was root life invokes seated lived keyed named =
    let alive : life ≡ at (lives new) root = sym lived ∙ sym (ap (λ (l : ℕ → Life). at l root) invokes.lives_now) in
    record {
      live = ap (λ (d : ℕ → Domain). (at d root).live) invokes.domains_now ∙ seated.live;
      place = subst (λ (d : ℕ → Domain). (at d root).slot < 64) (sym invokes.domains_now) seated.place;
      key = ap (λ (d : ℕ → Domain). at (room new) (at d root).slot) invokes.domains_now ∙ ap (λ (r : ℕ → Key). at r (slot_in old root)) invokes.room_now
          ∙ keyed ∙ ap (λ (l : Life). key_while l.state root l.count) alive;
      named = ap (λ (k : Kernel). entry_at k.node_entries root) invokes.rest ∙ named ∙ ap (λ (l : Life). Taken DomainOwner (names_while l.state)) alive;
    }

counted_there : (old : Kernel) (root count : ℕ) → IsSeated old root → entry_at (set old.node_entries root (Taken DomainOwner count)) root ≡ Taken DomainOwner count
counted_there old root count seated =
    get_or-set_same old.node_entries root (Taken DomainOwner count) Unspelled
    (entry_inside old.node_entries root (spelled (entry_at old.node_entries root) (names_while (at (lives old) root).state) seated.named))

pub caller_seated : (old new : Kernel) (root count : ℕ) → Invokes old new (with_at (lives old) root (record { state = Waiting; count = count })) (Enters root count) → IsSeated old root → IsSeated new root
caller_seated old new root count invokes seated =
    seated_by old new (with_at (lives old) root (record { state = Waiting; count = count })) _ _ _ _ root (record { state = Waiting; count = count }) invokes seated
    (at-with_at (lives old) root (record { state = Waiting; count = count }))
    (at-with_at (room old) (slot_in old root) (Resume (record { 0 = root }) count))
    (counted_there old root 2 seated)

pub started_seated : (old new : Kernel) (root count : ℕ) → Available ≡ (at (lives old) root).state
    → Invokes old new (with_at (lives old) root (record { state = Running; count = count })) Stays → IsSeated old root → IsSeated new root
started_seated old new root count state invokes seated =
    seated_by old new (with_at (lives old) root (record { state = Running; count = count })) _ _ _ _ root (record { state = Running; count = count }) invokes seated
    (at-with_at (lives old) root (record { state = Running; count = count }))
    (seated.key ∙ ap (λ s. key_while s root (at (lives old) root).count) (sym state))
    (seated.named ∙ ap (λ s. Taken DomainOwner (names_while s)) (sym state))

pub resumed_seated : (old new : Kernel) (root own count : ℕ) → Invokes old new (with_at (lives old) root (record { state = Running; count = count })) (leaving old root own) → IsSeated old root → IsSeated new root
resumed_seated old new root own count invokes seated =
    let left : Invokes old new (with_at (lives old) root (record { state = Running; count = count })) (Leaves root own) =
    subst (λ (t : Bool). Invokes old new (with_at (lives old) root (record { state = Running; count = count })) (if t then Leaves root own else Stays)) seated.live invokes in
    seated_by old new (with_at (lives old) root (record { state = Running; count = count })) _ _ _ _ root (record { state = Running; count = count }) left seated
    (at-with_at (lives old) root (record { state = Running; count = count }))
    (at-with_at (room old) (slot_in old root) Null)
    (counted_there old root 1 seated)
