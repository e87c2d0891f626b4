-- What invocations leave, put together: a place of the room is written, then a life.
use Rattle.std.proofs.Common.{◌≡◌, ◌≢◌, ◌⊎◌, ◌<◌, ◌≤◌, ◌+◌, ◌/◌, ◌%◌, ℕ, Bool, true, false, nat_lt, if◌then◌else◌, None, List, set, refl, ap, sym, subst, ◌∙◌, arith, inl, inr, ⊎_elim}
use Rattle.std.proofs.Math.Path.{fun_ext}
use Rattle.std.proofs.lemmas.Bool.{cases_eq}
use Rattle.kn_base.specs.declared.key.Key.{Key}
use Rattle.kn_base.specs.declared.key.NodeId.{NodeId}
use Rattle.kn_base.specs.declared.key.Key.TheVariants.{Null, Resume}
use Rattle.kernel_tables.specs.declared.entry.NodeOwner.{NodeOwner}
use Rattle.kernel_tables.specs.declared.entry.NodeOwner.TheVariants.{Domain as DomainOwner}
use Rattle.kernel_tables.specs.declared.entry.Entry.{Entry}
use Rattle.kernel_tables.specs.declared.entry.Entry.TheVariants.{Taken}
use Rattle.kernel_tables.specs.Kernel.{Kernel}
use Rattle.kernel_tables.specs.Rows.{domain_rows, fixed_rows}
use Rattle.space_bank.specs.Fixed.{state_key}
use Rattle.space_bank.specs.Laws.{and_outside}
use Rattle.unix_model.specs.Tables.{at, with_at}
use Rattle.unix_model.proofs.TableLaws.{at-with_at, at-with_at-other}
use Rattle.domain.specs.declared.types.State.{State}
use Rattle.domain.specs.Domains.{Domain, Life, domains, domain_at, lives, lives_by, life_in, roots_by, state_number}
use Rattle.domain.specs.Keys.{is_meter, root_in, word_in, count_in}
use Rattle.domain.specs.Lives.{HasLife, IsService, SetsLife}
use Rattle.domain.specs.Rules.{written, NumberFits}
use Rattle.domain.specs.Sets.{WritesNumbers}
use Rattle.domain.specs.Slots.{room_of}
use Rattle.domain.proofs.RowLaws.{here_at, changed_at, written_both}
use Rattle.invoke.specs.Room.{room, slot_in, Seat, Stays, Enters, Leaves, Seats}
use Rattle.invoke.specs.Invokes.{InvokesBy, Invokes, life_key}

-- ---- nothing is done

pub stays : (kernel : Kernel) → Invokes kernel kernel (lives kernel) Stays
stays kernel = record {
  rest = refl;
  lives_now = refl;
  room_now = refl;
  domains_now = refl;
  roots_now = refl;
  forest_now = refl;
  outside_now = λ outside. refl;
  null_now = λ place. refl;
  services_rest = λ service place low apart. refl;
  service_life = λ service is. inl refl;
  services_now = λ service is. is;
  slots_now = λ node place high. refl;
  shares = λ outside hand counted. counted;
}

-- ---- a place of the room is written

if_life : (test : Bool) (here x y : Key) → life_in x ≡ life_in y → life_in (if test then here else x) ≡ life_in (if test then here else y)
if_life true here x y same = refl
if_life false here x y same = same

written_there : (f : ℕ → ℕ → Key) (node place : ℕ) (key : Key) → written f node place key node place ≡ key
unfolding at
written_there f node place key = ap (λ (r : ℕ → Key). r place) (here_at f node (with_at (f node) place key)) ∙ here_at (f node) place key

written_elsewhere : (f : ℕ → ℕ → Key) (node place : ℕ) (key : Key) (m j : ℕ) → (m ≡ node → j ≡ place → ⊥) → written f node place key m j ≡ f m j
written_elsewhere f node place key m j apart = written_both f node place key (λ k. k ≡ f m j) m j (λ e g. absurd (apart e g)) refl

room_lives : (rows f : ℕ → ℕ → Key) (node place : ℕ) (key : Key) → life_in key ≡ life_in (f node place) → lives_by rows (written f node place key) ≡ lives_by rows f
unfolding lives_by
room_lives rows f node place key same = fun_ext (λ root.
    written_both f node place key (λ k. life_in (if is_meter (rows root 2) then rows root 6 else k) ≡ life_in (if is_meter (rows root 2) then rows root 6 else f root 6)) root 6
    (λ e g. if_life (is_meter (rows root 2)) (rows root 6) key (f root 6) (same ∙ ap (λ n. life_in (f n place)) (sym e) ∙ ap (λ n. life_in (f root n)) (sym g)))
    refl)

room_places : (f : ℕ → ℕ → Key) (slot : ℕ) (key : Key) → room_of (written f (7 + slot / 16) (slot % 16) key) ≡ with_at (room_of f) slot key
unfolding room_of
room_places f slot key = changed_at (room_of f) (room_of (written f (7 + slot / 16) (slot % 16) key)) slot key
    (written_there f (7 + slot / 16) (slot % 16) key)
    (λ q apart. written_elsewhere f (7 + slot / 16) (slot % 16) key (7 + q / 16) (q % 16) (λ e g. apart (omega arith)))

room_roots : (f : ℕ → ℕ → Key) (slot : ℕ) (key : Key) → slot < 64 → roots_by (written f (7 + slot / 16) (slot % 16) key) ≡ roots_by f
unfolding roots_by
room_roots f slot key low = fun_ext (λ s. ap (λ k. if nat_lt s 64 then root_in k else None)
    (written_elsewhere f (7 + slot / 16) (slot % 16) key (11 + s / 16) (s % 16) (λ e g. absurd (omega arith))))

room_at : (kernel : Kernel) (slot : ℕ) → at (room kernel) slot ≡ fixed_rows kernel (7 + slot / 16) (slot % 16)
unfolding at room_of
room_at kernel slot = refl

module _ (old new : Kernel) (root slot names : ℕ) (key was : Key) (low : slot < 64) (stood : at (room old) slot ≡ was) (same : life_in key ≡ life_in was) (seats : Seats old new root slot names key was) where
  fixed_same : (node place : ℕ) → (node ≡ 7 + slot / 16 → ⊥) → fixed_rows new node place ≡ fixed_rows old node place
  fixed_same node place apart = ap (λ (f : ℕ → ℕ → Key). f node place) seats.fixed_now ∙ written_elsewhere (fixed_rows old) (7 + slot / 16) (slot % 16) key node place (λ e g. apart e)

  pub seated : InvokesBy old new (lives old) (with_at (room old) slot key) (set old.node_entries root (Taken DomainOwner names)) key was
  seated = record {
    rest = seats.rest;
    lives_now = ap (λ r. lives_by r (fixed_rows new)) seats.rows_now ∙ ap (lives_by (domain_rows old)) seats.fixed_now
        ∙ room_lives (domain_rows old) (fixed_rows old) (7 + slot / 16) (slot % 16) key (same ∙ ap life_in (sym stood ∙ room_at old slot));
    room_now = ap room_of seats.fixed_now ∙ room_places (fixed_rows old) slot key;
    domains_now = ap domain_at seats.rows_now;
    roots_now = ap roots_by seats.fixed_now ∙ room_roots (fixed_rows old) slot key low;
    forest_now = seats.forest_now;
    outside_now = seats.outside_now;
    null_now = λ place. fixed_same 0 place (λ e. absurd (omega arith));
    services_rest = λ service place few apart. fixed_same service place (λ e. absurd (omega arith));
    service_life = λ service is. let high = is.high in inl (fixed_same service 6 (λ e. absurd (omega arith)));
    services_now = λ service is.
        let high = is.high in
        record { low = is.low; high = is.high; fits = subst (NumberFits 6) (sym (fixed_same service 6 (λ e. absurd (omega arith)))) is.fits };
    slots_now = λ node place high. fixed_same node place (λ e. absurd (omega arith));
    shares = seats.shares;
  }

no_life : (root : NodeId) (count : ℕ) → life_in (Resume root count) ≡ life_in Null
unfolding word_in count_in
no_life root count = refl

pub enters_room : (old new : Kernel) (root : NodeId) (count : ℕ) → slot_in old root.0 < 64 → at (room old) (slot_in old root.0) ≡ Null
    → Seats old new root.0 (slot_in old root.0) 2 (Resume root count) Null → Invokes old new (lives old) (Enters root.0 count)
enters_room old new root count low empty seats = seated old new root.0 (slot_in old root.0) 2 (Resume root count) Null low empty (no_life root count) seats

pub leaves_room : (old new : Kernel) (root : NodeId) (count : ℕ) → slot_in old root.0 < 64 → at (room old) (slot_in old root.0) ≡ Resume root count
    → Seats old new root.0 (slot_in old root.0) 1 Null (Resume root count) → Invokes old new (lives old) (Leaves root.0 count)
leaves_room old new root count low held seats = seated old new root.0 (slot_in old root.0) 1 Null (Resume root count) low held (sym (no_life root count)) seats

-- ---- then a life is written

pub alive_after : (old new : Kernel) (now : ℕ → Life) (seat : Seat) (root : ℕ) → Invokes old new now seat → HasLife old root → HasLife new root
alive_after old new now seat root invokes has = ⊎_elim
    (λ (live : (at (domains old) root).live ≡ true). inl (ap (λ (f : ℕ → Domain). (at f root).live) invokes.domains_now ∙ live))
    (λ (is : IsService (fixed_rows old) root). inr (invokes.services_now root is))
    has

module _ (mid new : Kernel) (root : ℕ) (state : State) (count : ℕ) (has : HasLife mid root) (sets : SetsLife mid new root (state_key (state_number state) count))
    (writes : (at (domains mid) root).live ≡ true → WritesNumbers mid new) (lives_set : lives new ≡ with_at (lives mid) root (record { state = state; count = count }))
    (domains_same : domains new ≡ domains mid) where
  fixed_high : (node place : ℕ) → 7 ≤ node → fixed_rows new node place ≡ fixed_rows mid node place
  fixed_high node place high = ⊎_elim
      (λ (live : (at (domains mid) root).live ≡ true). ap (λ (f : ℕ → ℕ → Key). f node place) (writes live).fixed_now)
      (λ (is : IsService (fixed_rows mid) root). let most = is.high in sets.fixed_now node place (λ e g. absurd (omega arith)))
      has

  room_same : room new ≡ room mid
  unfolding room_of
  room_same = fun_ext (λ slot. fixed_high (7 + slot / 16) (slot % 16) (omega arith))

  null_same : (place : ℕ) → fixed_rows new 0 place ≡ fixed_rows mid 0 place
  null_same place = ⊎_elim
      (λ (live : (at (domains mid) root).live ≡ true). ap (λ (f : ℕ → ℕ → Key). f 0 place) (writes live).fixed_now)
      (λ (is : IsService (fixed_rows mid) root). let least = is.low in sets.fixed_now 0 place (λ e g. absurd (omega arith)))
      has

  pub then_set : (old : Kernel) (now : ℕ → Life) (rooms : ℕ → Key) (entries : List (Entry NodeOwner)) (key was : Key)
      → InvokesBy old mid now rooms entries key was → InvokesBy old new (with_at now root (record { state = state; count = count })) rooms entries key was
  then_set old now rooms entries key was first = record {
    rest = sets.rest ∙ ap (λ (k : Kernel). let n : Kernel = record k { keys = new.keys } in n) first.rest;
    lives_now = lives_set ∙ ap (λ l. with_at l root (record { state = state; count = count })) first.lives_now;
    room_now = room_same ∙ first.room_now;
    domains_now = domains_same ∙ first.domains_now;
    roots_now = sets.roots_now ∙ first.roots_now;
    forest_now = sets.forest_now ∙ first.forest_now;
    outside_now = λ outside. sets.outside_now (and_outside outside was) ∙ first.outside_now outside;
    null_now = λ place. null_same place ∙ first.null_now place;
    services_rest = λ service place few apart. sets.fixed_now service place (λ e g. apart g) ∙ first.services_rest service place few apart;
    service_life = life;
    services_now = λ service is. sets.services_now service (first.services_now service is);
    slots_now = λ node place high. fixed_high node place (omega arith) ∙ first.slots_now node place high;
    shares = λ outside hand counted. sets.shares outside hand (first.shares outside hand counted);
  }
    where
      life : (service : ℕ) → IsService (fixed_rows old) service
          → (fixed_rows new service 6 ≡ fixed_rows old service 6) ⊎ (fixed_rows new service 6 ≡ life_key (at (with_at now root (record { state = state; count = count })) service))
      life service is = ⊎_elim
          (λ (e : service ≡ root). inr (subst (λ s. fixed_rows new s 6 ≡ life_key (at (with_at now root (record { state = state; count = count })) s)) (sym e)
          (sets.service_now (subst (IsService (fixed_rows mid)) e (first.services_now service is)) ∙ ap life_key (sym (at-with_at now root (record { state = state; count = count }))))))
          (λ (d : service ≢ root). ⊎_elim
          (λ (t : fixed_rows mid service 6 ≡ fixed_rows old service 6). inl (sets.fixed_now service 6 (λ e g. d e) ∙ t))
          (λ (t : fixed_rows mid service 6 ≡ life_key (at now service)). inr (sets.fixed_now service 6 (λ e g. d e) ∙ t ∙ ap life_key (sym (at-with_at-other now root service (record { state = state; count = count }) d))))
          (first.service_life service is))
          (cases_eq service root)
