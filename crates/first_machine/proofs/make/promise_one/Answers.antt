use Rattle.std.proofs.Common.{◌≡◌, ◌+◌, Bool, true, false, if◌then◌else◌, [], ap, sym, subst, ◌∙◌}
use Rattle.kernel_tables.specs.Kernel.{Kernel, kernel_of}
use Rattle.space_bank.specs.Bank.{with_word_at}
use Rattle.space_bank.specs.Fixed.{FixedNodes, FreshFiles, FreshNodes, UnusedGood}
use Rattle.space_bank.specs.Shares.{Shares, nothing_outside}
use Rattle.space_bank.specs.Setup.{empty_bank}
use Rattle.first_machine.specs.First.{promised_bank}
use Rattle.first_machine.proofs.make.promise_one.Goals as goal

-- the tables with one page more promised, where it was granted
abbrev with-promise : Kernel → Kernel
with-promise kernel = record kernel { machine = record kernel.machine { promised = kernel.machine.promised + 1 } }

was-granted : (granted : Bool) (old new : Kernel) → granted ≡ true → new ≡ (if granted then with-promise old else old) → new ≡ with-promise old
was-granted true old new granted e = e
was-granted false old new granted e = cc

-- .. and with 2 as the next process id
abbrev with-next : Kernel → Kernel
with-next kernel = record kernel { machine = with_word_at kernel.machine 12 2 }

-- .. both of them
both-done : (old mid new : Kernel) (granted : Bool) → granted ≡ true → mid ≡ (if granted then with-promise old else old) → new ≡ with-next mid → new ≡ with-next (with-promise old)
both-done old mid new granted was after written = written ∙ ap with-next (was-granted granted old mid was after)

both-from : (start old new : Kernel) → old ≡ start → new ≡ with-next (with-promise old) → new ≡ with-next (with-promise start)
both-from start old new made done = done ∙ ap (λ (k : Kernel). with-next (with-promise k)) made

pub returns-clause-begun : goal.returns-clause-begun
unfolding promised_bank empty_bank
returns-clause-begun g c =
    let k0 = kernel_of (g.T.Store.memory c.setup.new.store) in
    let k1 = kernel_of (g.T.Store.memory c.promise-granted.new.store) in
    let k2 = kernel_of (g.T.Store.memory c.set_machine_word.new.store) in
    let now : k2 ≡ with-next (with-promise k0) = both-done k0 k1 k2 c.promise-granted.result c.if-prove.false c.promise-granted.ensures.after c.set_machine_word.ensures.written in
    record {
      is = both-from (empty_bank c.args.pages c.args.quantum) k0 k2 c.setup.ensures.made now;
      good = c.set_machine_word.ensures.good;
      shares = subst (λ (k : Kernel). Shares k nothing_outside []) (sym now) c.setup.ensures.shares;
      unused = subst (λ (k : Kernel). UnusedGood k.page_zero k.other_words) (sym now) c.setup.ensures.unused;
      nodes = subst (λ (k : Kernel). FreshNodes k.keys) (sym now) c.setup.ensures.nodes;
      fixed = subst (λ (k : Kernel). FixedNodes k.keys) (sym now) c.setup.ensures.fixed;
      files = subst (λ (k : Kernel). FreshFiles k.inodes k.descriptions) (sym now) c.setup.ensures.files;
    }
