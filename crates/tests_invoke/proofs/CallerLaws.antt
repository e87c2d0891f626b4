-- The first domain of an empty machine may call.
use Rattle.std.proofs.Common.{◌≡◌, ◌≢◌, ◌<◌, ℕ, true, false, [], length, Result, Ok, refl, ap, sym, subst, ◌∙◌, arith, inr, ⊎_elim}
use Rattle.std.proofs.lemmas.Bool.{cases_eq}
use Rattle.kn_base.specs.declared.key.NodeId.{NodeId}
use Rattle.kn_base.specs.declared.key.Key.{Key}
use Rattle.kn_base.specs.declared.key.Key.TheVariants.{Null, Start, Domain as DomainKey}
use Rattle.kernel_tables.specs.declared.entry.NodeOwner.TheVariants.{Tree, Domain as DomainOwner}
use Rattle.kernel_tables.specs.declared.entry.Entry.TheVariants.{Taken}
use Rattle.kernel_tables.specs.Kernel.{Kernel}
use Rattle.kernel_tables.specs.Rows.{spelled_or_null, key_table, fixed_rows, is_fixed, of_domain}
use Rattle.space_bank.specs.Bank.{BankGood, TakesNode}
use Rattle.space_bank.specs.Fixed.{FreshNodes}
use Rattle.space_bank.specs.Setup.{empty_bank}
use Rattle.space_bank.specs.Shares.{Shares, PutsNodeInHand, nothing_outside}
use Rattle.space_bank.proofs.FreeListLaws.{entry_inside}
use Rattle.kernel_forest.proofs.RowLaws.{domains_apart, fixed_apart, rows-node_taken}
use Rattle.unix_model.specs.Tables.{at}
use Rattle.unix_model.proofs.TableLaws.{at-with_at, at-with_at-other}
use Rattle.domain.specs.declared.types.State.{State}
use Rattle.domain.specs.declared.types.State.TheVariants.{Available, Running, Waiting}
use Rattle.domain.specs.Domains.{Domain, Life, domains, domain_at, lives}
use Rattle.domain.specs.Life.{MakesDomain}
use Rattle.domain.specs.Lives.{IsService, HasLife}
use Rattle.domain.specs.Rules.{NumberFits}
use Rattle.domain.proofs.RowLaws.{written_both}
use Rattle.domain.proofs.Writing.{fixed_key}
use Rattle.domain.specs.Slots.{room_of, SlotsDiffer}
use Rattle.invoke.specs.Room.{room, slot_in, Seat, key_while, names_while}
use Rattle.invoke.specs.declared.types.InvokeFault.{InvokeFault}
use Rattle.invoke.specs.Steps.{Forks, Given, Stepped, lives_or, starts_in, step, with_state}
use Rattle.invoke.specs.Invokes.{IsCaller, Goes}
use Rattle.tests_domain.proofs.Ready.{ready, first, empty_taken}
use Rattle.tests_domain.proofs.ServiceLaws.{fresh_service}
use Rattle.tests_domain.specs.First.{IsFirst}
use Rattle.tests_invoke.specs.Caller.{IsFresh}
use Rattle.tests_invoke.proofs.PeopleLaws.{nobody_lives}

room_null : (kernel : Kernel) → BankGood kernel → FreshNodes kernel.keys → fixed_rows kernel 7 5 ≡ Null
unfolding key_table
room_null kernel good fresh = sym (fixed_key kernel 7 5 good (omega arith) (omega arith)) ∙ ap spelled_or_null (fresh.room 5 (omega arith))

pub is_fresh : (k0 k1 : Kernel) (space : NodeId) → k0 ≡ empty_bank 64 100 → BankGood k0 → FreshNodes k0.keys → Shares k0 nothing_outside [] → TakesNode k0 k1 space.0 Tree → PutsNodeInHand k0 k1 space.0 → IsFresh k1 space.0
is_fresh k0 k1 space e good fresh counted takes puts =
    let inside : space.0 < length k0.node_entries = entry_inside k0.node_entries space.0 (good.nodes.entries_good.spelled space.0 takes.high) in
    let same = rows-node_taken k0 k1 space.0 Tree inside refl takes is_fixed fixed_apart in
    record {
      ready = ready k0 k1 space e good fresh counted takes puts;
      room = ap (λ (f : ℕ → ℕ → Key). f 7 5) same ∙ room_null k0 good fresh;
      directories = subst (λ f. IsService f 3) (sym same) (fresh_service k0 3 good fresh (omega arith) (omega arith));
      nobody = λ root. ap (λ (rows : ℕ → ℕ → Key). (at (domain_at rows) root).live) (rows-node_taken k0 k1 space.0 Tree inside refl takes of_domain domains_apart) ∙ nobody_lives k0 root good (empty_taken k0 e);
    }

module _ (k0 k1 : Kernel) (space root : ℕ) (is : IsFresh k0 space) (made : MakesDomain k0 k1 5 space root) where
  is_first : IsFirst k1 root
  is_first = first k0 k1 space root is.ready made

  other_fixed : (node place : ℕ) → node < 11 → fixed_rows k1 node place ≡ fixed_rows k0 node place
  other_fixed node place low = ap (λ (f : ℕ → ℕ → Key). f node place) made.fixed_now
      ∙ written_both (fixed_rows k0) 11 5 (DomainKey (record { 0 = root })) (λ k. k ≡ fixed_rows k0 node place) node place (λ e g. absurd (omega arith)) refl

  slot_is : slot_in k1 root ≡ 5
  slot_is = ap (λ (d : Domain). d.slot) is_first.domain

  pub life_is : at (lives k1) root ≡ record { state = Running; count = 0 }
  life_is = ap (λ (l : ℕ → Life). at l root) made.lives_now ∙ at-with_at (lives k0) root (record { state = Running; count = 0 })

  place_null : at (room k1) 5 ≡ Null
  unfolding at room_of
  place_null = other_fixed 7 5 (omega arith) ∙ is.room

  pub is_caller : IsCaller k1 5 root
  is_caller = record {
    used = is_first.named;
    own = slot_is;
    seated = record {
      live = ap (λ (d : Domain). d.live) is_first.domain;
      place = subst (λ n. n < 64) (sym slot_is) (omega arith);
      key = ap (λ n. at (room k1) n) slot_is ∙ place_null ∙ ap (λ (l : Life). key_while l.state root l.count) (sym life_is);
      named = made.entry_of_root ∙ ap (λ (l : Life). Taken DomainOwner (names_while l.state)) (sym life_is);
    };
  }

  pub has_directories : HasLife k1 3
  has_directories = inr (record { low = is.directories.low; high = is.directories.high; fits = subst (NumberFits 6) (sym (other_fixed 3 6 (omega arith))) is.directories.fits })

  only_one : (other : ℕ) → (at (domains k1) other).live ≡ true → other ≡ root
  only_one other live = ⊎_elim
      (λ (e : other ≡ root). e)
      (λ (d : other ≢ root).
      let no : false ≡ true = sym (is.nobody other) ∙ sym (ap (λ (f : ℕ → Domain). (at f other).live) made.domains_now ∙ ap (λ (d : Domain). d.live) (at-with_at-other (domains k0) root other _ d)) ∙ live in cc)
      (cases_eq other root)

  pub is_alone : SlotsDiffer (domains k1)
  is_alone one other live alive same = only_one one live ∙ sym (only_one other alive)

  pub is_apart : root ≢ 3
  is_apart e = let high = made.high in omega arith

-- ---- who is started runs

started_in : (state : State) (lives : ℕ → Life) (root byte : ℕ) (stepped : Stepped) → starts_in state lives root byte ≡ Ok stepped → (at stepped.lives root).state ≡ Running
started_in Available lives root byte stepped e =
    let same : with_state lives root Running ≡ stepped.lives = ap (λ (r : Result Stepped InvokeFault). lives_or lives r) e in
    ap (λ (l : ℕ → Life). (at l root).state) (sym same) ∙ ap (λ (l : Life). l.state) (at-with_at lives root (record { state = Running; count = (at lives root).count }))
started_in Running lives root byte stepped e = cc
started_in Waiting lives root byte stepped e = cc

pub started_runs : (old new : Kernel) (root : NodeId) (byte : ℕ) (given : Given) (seat : Seat) → Goes old new (Forks (Start root byte)) given seat → (at (lives new) root.0).state ≡ Running
unfolding step
started_runs old new root byte given seat goes = ap (λ (l : ℕ → Life). (at l root.0).state) goes.invokes.lives_now
    ∙ started_in (at (lives old) root.0).state (lives old) root.0 byte (record { lives = goes.now; given = given }) goes.steps
