-- A key is used to reach a domain or a service.
use Rattle.std.proofs.Common.{◌≡◌, ◌≤◌, ◌<◌, ◌+◌, ◌%◌, ◌^◌, ℕ, Bool, true, false, if◌then◌else◌, Ok, Err, refl, ap, sym, subst, ◌∙◌, arith, ⊎_elim}
use Rattle.std.proofs.lemmas.Bool.{cases_Bool, eqb-true, eq-eqb}
use Rattle.kn_base.specs.declared.key.Key.{Key}
use Rattle.kn_base.specs.declared.key.NodeId.{NodeId}
use Rattle.kn_base.specs.declared.key.Key.TheVariants.{Null, Number, Page, Node, Segment, Start, Resume, Domain, Meter, Service}
use Rattle.kernel_tables.specs.Kernel.{Kernel}
use Rattle.kernel_tables.specs.Rows.{fixed_rows}
use Rattle.space_bank.specs.Bank.{BankGood}
use Rattle.unix_model.specs.Tables.{at, with_at}
use Rattle.domain.specs.declared.types.State.{State}
use Rattle.domain.specs.declared.types.State.TheVariants.{Available, Running, Waiting}
use Rattle.domain.specs.Domains.{Life, domains, lives}
use Rattle.domain.specs.Lives.{HasLife, IsService}
use Rattle.domain.specs.Tests.{is_null}
use Rattle.domain.proofs.Living.{live_high}
use Rattle.invoke.specs.declared.types.InvokeFault.{InvokeFault}
use Rattle.invoke.specs.declared.types.InvokeFault.TheVariants.{VoidKey, NotAvailable}
use Rattle.invoke.specs.Steps.{Stepped, Forks, Returns, Reaches, NobodyReached, step, with_state, starts_in, resumes_in, forks, then_available, returns}
use Rattle.invoke.specs.Room.{slot_in, Seat, Stays, Enters, Leaves, Seats, IsSeated, awaits, leaving, key_while}
use Rattle.invoke.specs.Invokes.{Invokes, Goes, seat_of}
use Rattle.invoke.proofs.Composing.{stays, enters_room, leaves_room}

-- ---- a Start key

pub start_goes : (old new : Kernel) (root : NodeId) (byte count : ℕ) → Available ≡ (at (lives old) root.0).state → count ≡ (at (lives old) root.0).count
    → Invokes old new (with_at (lives old) root.0 (record { state = Running; count = count })) Stays → Goes old new (Forks (Start root byte)) (Reaches root.0 byte) Stays
unfolding step
start_goes old new root byte count state own invokes = record {
  now = with_at (lives old) root.0 (record { state = Running; count = count });
  steps = ap (λ s. starts_in s (lives old) root.0 byte) (sym state)
      ∙ ap (λ n. Ok (let s : Stepped = record { lives = with_at (lives old) root.0 (record { state = Running; count = n }); given = Reaches root.0 byte } in s)) (sym own);
  invokes = invokes;
}

pub start_refused : (old : Kernel) (root : NodeId) (byte : ℕ) (state : State) → starts_in state (lives old) root.0 byte ≡ Err NotAvailable → state ≡ (at (lives old) root.0).state
    → step (lives old) (Forks (Start root byte)) ≡ Err NotAvailable
unfolding step
start_refused old root byte state refused is = ap (λ s. starts_in s (lives old) root.0 byte) (sym is) ∙ refused

-- ---- a Resume key

awaited_is : (state : State) (own count : ℕ) → awaits state own count ≡ true → (state ≡ Waiting) × (own ≡ count)
awaited_is Available own count h = cc
awaited_is Running own count h = cc
awaited_is Waiting own count h = (refl, eqb-true own count h)

pub awaited : (state : State) (own count : ℕ) (result : Bool) → result ≡ awaits state own count → result ≡ true → (state ≡ Waiting) × (own ≡ count)
awaited state own count result told is = awaited_is state own count (sym told ∙ is)

pub resume_goes : (old new : Kernel) (root : NodeId) (count : ℕ) → (at (lives old) root.0).state ≡ Waiting → (at (lives old) root.0).count ≡ count
    → Invokes old new (with_at (lives old) root.0 (record { state = Running; count = (count + 1) % 2 ^ 64 })) (leaving old root.0 (at (lives old) root.0).count)
    → Goes old new (Forks (Resume root count)) (Reaches root.0 0) (leaving old root.0 count)
unfolding step
resume_goes old new root count state own invokes = record {
  now = with_at (lives old) root.0 (record { state = Running; count = (count + 1) % 2 ^ 64 });
  steps = ap (λ s. resumes_in s (lives old) root.0 count) state
      ∙ rw (eq-eqb (at (lives old) root.0).count count own)
      (ap (λ n. Ok (let s : Stepped = record { lives = with_at (lives old) root.0 (record { state = Running; count = (n + 1) % 2 ^ 64 }); given = Reaches root.0 0 } in s)) own);
  invokes = subst (λ n. Invokes old new (with_at (lives old) root.0 (record { state = Running; count = (count + 1) % 2 ^ 64 })) (leaving old root.0 n)) own invokes;
}

void_in : (state : State) (lives : ℕ → Life) (root count : ℕ) → awaits state (at lives root).count count ≡ false → resumes_in state lives root count ≡ Err VoidKey
void_in Available lives root count h = refl
void_in Running lives root count h = refl
void_in Waiting lives root count h = rw h refl

pub resume_refused : (old : Kernel) (root : NodeId) (count : ℕ) (result : Bool) → result ≡ awaits (at (lives old) root.0).state (at (lives old) root.0).count count → result ≡ false
    → step (lives old) (Forks (Resume root count)) ≡ Err VoidKey
unfolding step
resume_refused old root count result told is = void_in (at (lives old) root.0).state (lives old) root.0 count (sym told ∙ is)

-- ---- a place of the room is emptied

pub high_live : (kernel : Kernel) (root : ℕ) → HasLife kernel root → 15 ≤ root → (at (domains kernel) root).live ≡ true
high_live kernel root has high = ⊎_elim (λ (live : (at (domains kernel) root).live ≡ true). live) (λ (is : IsService (fixed_rows kernel) root). let most = is.high in absurd (omega arith)) has

low_dead : (kernel : Kernel) (root : ℕ) → BankGood kernel → root < 15 → (at (domains kernel) root).live ≡ false
low_dead kernel root good low = ⊎_elim
    (λ (live : (at (domains kernel) root).live ≡ true). absurd (live_high kernel root good live low))
    (λ (dead : (at (domains kernel) root).live ≡ false). dead)
    (cases_Bool (at (domains kernel) root).live)

pub domain_leaves : (old new : Kernel) (root : NodeId) (slot : ℕ) → slot ≡ slot_in old root.0 → (at (domains old) root.0).live ≡ true → (at (lives old) root.0).state ≡ Waiting → IsSeated old root.0
    → Seats old new root.0 slot 1 Null (Resume root (at (lives old) root.0).count) → Invokes old new (lives old) (leaving old root.0 (at (lives old) root.0).count)
domain_leaves old new root slot own live state seated seats =
    subst (λ (t : Bool). Invokes old new (lives old) (if t then Leaves root.0 (at (lives old) root.0).count else Stays)) (sym live)
    (leaves_room old new root (at (lives old) root.0).count seated.place (seated.key ∙ ap (λ s. key_while s root.0 (at (lives old) root.0).count) state)
    (subst (λ s. Seats old new root.0 s 1 Null (Resume root (at (lives old) root.0).count)) own seats))

pub service_leaves : (kernel : Kernel) (root : ℕ) → BankGood kernel → root < 15 → Invokes kernel kernel (lives kernel) (leaving kernel root (at (lives kernel) root).count)
service_leaves kernel root good low =
    subst (λ (t : Bool). Invokes kernel kernel (lives kernel) (if t then Leaves root (at (lives kernel) root).count else Stays)) (sym (low_dead kernel root good low)) (stays kernel)

-- ---- a domain waits

pub domain_enters : (old new : Kernel) (root : NodeId) (slot count : ℕ) → slot_in old root.0 ≡ slot → (at (lives old) root.0).state ≡ Running → IsSeated old root.0
    → Seats old new root.0 slot 2 (Resume root count) Null → Invokes old new (lives old) (Enters root.0 count)
domain_enters old new root slot count own state seated seats =
    enters_room old new root count seated.place (seated.key ∙ ap (λ s. key_while s root.0 (at (lives old) root.0).count) state)
    (subst (λ s. Seats old new root.0 s 2 (Resume root count) Null) (sym own) seats)

-- ---- a root is available again

returns_other : (lives : ℕ → Life) (from : ℕ) (key : Key) → is_null key ≡ false → returns lives from key ≡ then_available from (forks lives key)
returns_other lives from Null other = cc
returns_other lives from (Number body) other = refl
returns_other lives from (Page page writable) other = refl
returns_other lives from (Node node) other = refl
returns_other lives from (Segment node height) other = refl
returns_other lives from (Start root byte) other = refl
returns_other lives from (Resume root count) other = refl
returns_other lives from (Domain root) other = refl
returns_other lives from (Meter slot) other = refl
returns_other lives from (Service code) other = refl

pub return_goes : (old mid new : Kernel) (from to byte count : ℕ) (key : Key) (seat : Seat) → is_null key ≡ false → (goes : Goes old mid (Forks key) (Reaches to byte) seat)
    → count ≡ (at (lives mid) from).count → Invokes old new (with_at goes.now from (record { state = Available; count = count })) seat → Goes old new (Returns from key) (Reaches to byte) seat
unfolding step
return_goes old mid new from to byte count key seat other goes own invokes = record {
  now = with_state goes.now from Available;
  steps = returns_other (lives old) from key other ∙ ap (then_available from) goes.steps;
  invokes = subst (λ n. Invokes old new (with_at goes.now from (record { state = Available; count = n })) seat)
      (own ∙ ap (λ (l : ℕ → Life). (at l from).count) goes.invokes.lives_now) invokes;
}

pub return_refused : (old : Kernel) (from : ℕ) (key : Key) (fault : InvokeFault) → is_null key ≡ false → step (lives old) (Forks key) ≡ Err fault → step (lives old) (Returns from key) ≡ Err fault
unfolding step
return_refused old from key fault other refused = returns_other (lives old) from key other ∙ ap (then_available from) refused

null_is : (key : Key) → is_null key ≡ true → key ≡ Null
null_is Null h = refl
null_is _ h = cc

pub return_alone : (old new : Kernel) (from count : ℕ) (key : Key) → is_null key ≡ true → count ≡ (at (lives old) from).count
    → Invokes old new (with_at (lives old) from (record { state = Available; count = count })) Stays → Goes old new (Returns from key) NobodyReached (seat_of old key)
unfolding step
return_alone old new from count key null own invokes = subst (λ k. Goes old new (Returns from k) NobodyReached (seat_of old k)) (sym (null_is key null)) (record {
  now = with_state (lives old) from Available;
  steps = refl;
  invokes = subst (λ n. Invokes old new (with_at (lives old) from (record { state = Available; count = n })) Stays) own invokes;
})
