-- Whoever neither calls nor is reached is left as he was.
use Rattle.std.proofs.Common.{◌≡◌, ◌≢◌, ◌<◌, ℕ, ◌==◌, if◌then◌else◌, Bool, true, false, [], ◌∷◌, get_or-set_other, Result, Ok, Err, refl, sym, ap, subst, ◌∙◌, inl, inr, ⊎_elim}
use Rattle.std.specs.Prelude.{⊤}
use Rattle.std.proofs.lemmas.Bool.{cases_Bool}
use Rattle.kn_base.specs.declared.key.NodeId.{NodeId}
use Rattle.kn_base.specs.declared.key.Key.{Key}
use Rattle.kn_base.specs.declared.key.Key.TheVariants.{Null, Number, Page, Node, Segment, Start, Resume, Domain as DomainKey, Meter, Service}
use Rattle.kernel_tables.specs.declared.entry.NodeOwner.TheVariants.{Domain as DomainOwner}
use Rattle.kernel_tables.specs.declared.entry.Entry.TheVariants.{Taken, Unspelled}
use Rattle.kernel_tables.specs.Kernel.{Kernel}
use Rattle.kernel_tables.specs.Rows.{entry_at}
use Rattle.kernel_tables.specs.Blocks.{IsAmong}
use Rattle.unix_model.specs.Tables.{at, with_at}
use Rattle.unix_model.proofs.TableLaws.{at-with_at-other}
use Rattle.domain.specs.declared.types.State.{State}
use Rattle.domain.specs.declared.types.State.TheVariants.{Available, Running, Waiting}
use Rattle.domain.specs.Domains.{Domain, Life, domains, lives}
use Rattle.domain.specs.Slots.{SlotsDiffer}
use Rattle.invoke.specs.declared.types.InvokeFault.{InvokeFault}
use Rattle.invoke.specs.declared.types.InvokeFault.TheVariants.{VoidKey}
use Rattle.invoke.specs.Steps.{Step, Calls, Forks, Returns, Given, Answering, Stepped, with_state, calls_in, calls, starts_in, resumes_in, forks, then_available, returns, step, lives_or}
use Rattle.invoke.specs.Room.{room, slot_in, Seat, Stays, Enters, Leaves, room_with, entries_with, leaving, IsSeated, key_while, names_while}
use Rattle.invoke.specs.Invokes.{Invokes, Goes, seat_of}
use Rattle.invoke.specs.Others.{reached_by, touched, seat_at, IsLeft, CallerLives, LeavesOthers, OthersAreLeft}

-- ---- lives

abbrev Same : (ℕ → Life) → Result Stepped InvokeFault → ℕ → Type 0
Same lives result root = at (lives_or lives result) root ≡ at lives root

set_same : (lives : ℕ → Life) (other : ℕ) (life : Life) (root : ℕ) → root ≢ other → at (with_at lives other life) root ≡ at lives root
set_same lives other life root apart = at-with_at-other lives other root life apart

calls_same : (state : State) (lives : ℕ → Life) (other root : ℕ) → root ≢ other → Same lives (calls_in state lives other) root
calls_same Available lives other root apart = refl
calls_same Running lives other root apart = set_same lives other _ root apart
calls_same Waiting lives other root apart = refl

starts_same : (state : State) (lives : ℕ → Life) (other byte root : ℕ) → root ≢ other → Same lives (starts_in state lives other byte) root
starts_same Available lives other byte root apart = set_same lives other _ root apart
starts_same Running lives other byte root apart = refl
starts_same Waiting lives other byte root apart = refl

tested_same : (test : Bool) (lives : ℕ → Life) (root : ℕ) (stepped : Stepped) → at stepped.lives root ≡ at lives root → Same lives (if test then Ok stepped else Err VoidKey) root
tested_same true lives root stepped same = same
tested_same false lives root stepped same = refl

resumes_same : (state : State) (lives : ℕ → Life) (other count root : ℕ) → root ≢ other → Same lives (resumes_in state lives other count) root
resumes_same Available lives other count root apart = refl
resumes_same Running lives other count root apart = refl
resumes_same Waiting lives other count root apart = tested_same ((at lives other).count == count) lives root _ (set_same lives other _ root apart)

forks_same : (lives : ℕ → Life) (key : Key) (root : ℕ) → (IsAmong root (reached_by key) → ⊥) → Same lives (forks lives key) root
forks_same lives Null root apart = refl
forks_same lives (Number body) root apart = refl
forks_same lives (Page page writable) root apart = refl
forks_same lives (Node node) root apart = refl
forks_same lives (Segment node height) root apart = refl
forks_same lives (Start other byte) root apart = starts_same (at lives other.0).state lives other.0 byte root (λ e. apart (inl e))
forks_same lives (Resume other count) root apart = resumes_same (at lives other.0).state lives other.0 count root (λ e. apart (inl e))
forks_same lives (DomainKey other) root apart = refl
forks_same lives (Meter slot) root apart = refl
forks_same lives (Service code) root apart = refl

then_same : (lives : ℕ → Life) (from : ℕ) (result : Result Stepped InvokeFault) (root : ℕ) → root ≢ from → Same lives result root → Same lives (then_available from result) root
then_same lives from (Ok stepped) root apart same = set_same stepped.lives from _ root apart ∙ same
then_same lives from (Err fault) root apart same = same

calls_key_same : (lives : ℕ → Life) (other : ℕ) (key : Key) (root : ℕ) → root ≢ other → Same lives (calls lives other key) root
calls_key_same lives other Null root apart = refl
calls_key_same lives other (Number body) root apart = refl
calls_key_same lives other (Page page writable) root apart = refl
calls_key_same lives other (Node node) root apart = refl
calls_key_same lives other (Segment node height) root apart = refl
calls_key_same lives other (Start service byte) root apart = calls_same (at lives other).state lives other root apart
calls_key_same lives other (Resume service count) root apart = refl
calls_key_same lives other (DomainKey service) root apart = refl
calls_key_same lives other (Meter slot) root apart = refl
calls_key_same lives other (Service code) root apart = refl

returns_same : (lives : ℕ → Life) (from : ℕ) (key : Key) (root : ℕ) → (IsAmong root (from ∷ reached_by key) → ⊥) → Same lives (returns lives from key) root
returns_same lives from Null root apart = set_same lives from _ root (λ e. apart (inl e))
returns_same lives from (Number body) root apart = refl
returns_same lives from (Page page writable) root apart = refl
returns_same lives from (Node node) root apart = refl
returns_same lives from (Segment node height) root apart = refl
returns_same lives from (Start other byte) root apart =
    then_same lives from (forks lives (Start other byte)) root (λ e. apart (inl e)) (forks_same lives (Start other byte) root (λ h. apart (inr h)))
returns_same lives from (Resume other count) root apart =
    then_same lives from (forks lives (Resume other count)) root (λ e. apart (inl e)) (forks_same lives (Resume other count) root (λ h. apart (inr h)))
returns_same lives from (DomainKey other) root apart = refl
returns_same lives from (Meter slot) root apart = refl
returns_same lives from (Service code) root apart = refl

step_same : (lives : ℕ → Life) (one : Step) (root : ℕ) → (IsAmong root (touched one) → ⊥) → Same lives (step lives one) root
unfolding step
step_same lives (Calls other key) root apart = calls_key_same lives other key root (λ e. apart (inl e))
step_same lives (Forks key) root apart = forks_same lives key root apart
step_same lives (Returns from key) root apart = returns_same lives from key root apart

-- ---- the room

-- the seat is that of another domain
abbrev IsOther : Kernel → Seat → ℕ → Type 0
IsOther kernel Stays root = ⊤
IsOther kernel (Enters other count) root = (root ≢ other) × ((at (domains kernel) other).live ≡ true)
IsOther kernel (Leaves other count) root = (root ≢ other) × ((at (domains kernel) other).live ≡ true)

left_other : (kernel : Kernel) (other count root : ℕ) → root ≢ other → IsOther kernel (leaving kernel other count) root
left_other kernel other count root apart = ⊎_elim
    (λ (t : (at (domains kernel) other).live ≡ true). subst (λ (b : Bool). IsOther kernel (if b then Leaves other count else Stays) root) (sym t) (apart, t))
    (λ (t : (at (domains kernel) other).live ≡ false). subst (λ (b : Bool). IsOther kernel (if b then Leaves other count else Stays) root) (sym t) tt)
    (cases_Bool (at (domains kernel) other).live)

key_other : (kernel : Kernel) (key : Key) (root : ℕ) → (IsAmong root (reached_by key) → ⊥) → IsOther kernel (seat_of kernel key) root
key_other kernel (Resume other count) root apart = left_other kernel other.0 count root (λ e. apart (inl e))
key_other kernel Null root apart = tt
key_other kernel (Number body) root apart = tt
key_other kernel (Page page writable) root apart = tt
key_other kernel (Node node) root apart = tt
key_other kernel (Segment node height) root apart = tt
key_other kernel (Start other byte) root apart = tt
key_other kernel (DomainKey other) root apart = tt
key_other kernel (Meter slot) root apart = tt
key_other kernel (Service code) root apart = tt

step_other : (kernel : Kernel) (one : Step) (root : ℕ) → CallerLives kernel one → (IsAmong root (touched one) → ⊥) → IsOther kernel (seat_at kernel one) root
step_other kernel (Calls other key) root live apart = (λ e. apart (inl e), live)
step_other kernel (Forks key) root live apart = key_other kernel key root apart
step_other kernel (Returns from key) root live apart = key_other kernel key root (λ h. apart (inr h))

room_left : (kernel : Kernel) (seat : Seat) (root : ℕ) → SlotsDiffer (domains kernel) → (at (domains kernel) root).live ≡ true → IsOther kernel seat root
    → at (room_with kernel seat) (slot_in kernel root) ≡ at (room kernel) (slot_in kernel root)
room_left kernel Stays root differ live other = refl
room_left kernel (Enters caller count) root differ live other =
    at-with_at-other (room kernel) (slot_in kernel caller) (slot_in kernel root) (Resume (record { 0 = caller }) count) (λ e. other.0 (differ root caller live other.1 e))
room_left kernel (Leaves caller count) root differ live other =
    at-with_at-other (room kernel) (slot_in kernel caller) (slot_in kernel root) Null (λ e. other.0 (differ root caller live other.1 e))

entries_left : (kernel : Kernel) (seat : Seat) (root : ℕ) → IsOther kernel seat root → entry_at (entries_with kernel seat) root ≡ entry_at kernel.node_entries root
entries_left kernel Stays root other = refl
entries_left kernel (Enters caller count) root other = get_or-set_other kernel.node_entries caller root (Taken DomainOwner 2) Unspelled other.0
entries_left kernel (Leaves caller count) root other = get_or-set_other kernel.node_entries caller root (Taken DomainOwner 1) Unspelled other.0

-- ---- both

module _ (old new : Kernel) (one : Step) (given : Given) (caller : CallerLives old one) (goes : Goes old new one given (seat_at old one))
    (differ : SlotsDiffer (domains old)) (root : ℕ) (apart : IsAmong root (touched one) → ⊥) where
  life : at (lives new) root ≡ at (lives old) root
  life = ap (λ (l : ℕ → Life). at l root) goes.invokes.lives_now ∙ ap (λ r. at (lives_or (lives old) r) root) (sym goes.steps) ∙ step_same (lives old) one root apart

  domain : at (domains new) root ≡ at (domains old) root
  domain = ap (λ (d : ℕ → Domain). at d root) goes.invokes.domains_now

  key : (at (domains old) root).live ≡ true → at (room new) (slot_in new root) ≡ at (room old) (slot_in old root)
  key live = ap (λ (d : Domain). at (room new) d.slot) domain ∙ ap (λ (r : ℕ → Key). at r (slot_in old root)) goes.invokes.room_now
      ∙ room_left old (seat_at old one) root differ live (step_other old one root caller apart)

  named : entry_at new.node_entries root ≡ entry_at old.node_entries root
  named = ap (λ (k : Kernel). entry_at k.node_entries root) goes.invokes.rest ∙ entries_left old (seat_at old one) root (step_other old one root caller apart)

  seated : IsSeated old root → IsSeated new root
  seated was = record {
    live = ap (λ (d : Domain). d.live) domain ∙ was.live;
    place = subst (λ (d : Domain). d.slot < 64) (sym domain) was.place;
    key = key was.live ∙ was.key ∙ ap (λ (l : Life). key_while l.state root l.count) (sym life);
    named = named ∙ was.named ∙ ap (λ (l : Life). Taken DomainOwner (names_while l.state)) (sym life);
  }

  left : IsLeft old new root
  left = record { life = life; key = key; named = named; seated = seated }

pub others_are_left : OthersAreLeft
others_are_left old new one given caller goes differ root apart = left old new one given caller goes differ root apart

-- ---- the three invocations

call_goes : (old new : Kernel) (root : ℕ) (service : NodeId) (byte : ℕ) → Running ≡ (at (lives old) root).state
    → Invokes old new (with_state (lives old) root Waiting) (Enters root (at (lives old) root).count)
    → Goes old new (Calls root (Start service byte)) (Answering (Resume (record { 0 = root }) (at (lives old) root).count)) (Enters root (at (lives old) root).count)
unfolding step
call_goes old new root service byte state invokes = record {
  now = with_state (lives old) root Waiting;
  steps = ap (λ s. calls_in s (lives old) root) (sym state);
  invokes = invokes;
}

pub call_leaves : (old new : Kernel) (root : ℕ) (service : NodeId) (byte : ℕ) → IsSeated old root → Running ≡ (at (lives old) root).state
    → Invokes old new (with_state (lives old) root Waiting) (Enters root (at (lives old) root).count) → LeavesOthers old new (root ∷ [])
call_leaves old new root service byte seated state invokes =
    others_are_left old new (Calls root (Start service byte)) (Answering (Resume (record { 0 = root }) (at (lives old) root).count)) seated.live (call_goes old new root service byte state invokes)

pub fork_leaves : (old new : Kernel) (key : Key) (given : Given) → Goes old new (Forks key) given (seat_of old key) → LeavesOthers old new (reached_by key)
fork_leaves old new key given goes = others_are_left old new (Forks key) given tt goes

pub return_leaves : (old new : Kernel) (from : ℕ) (key : Key) (given : Given) → Goes old new (Returns from key) given (seat_of old key) → LeavesOthers old new (from ∷ reached_by key)
return_leaves old new from key given goes = others_are_left old new (Returns from key) given tt goes
