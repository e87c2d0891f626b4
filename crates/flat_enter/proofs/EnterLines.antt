-- A call that is refused.
use Rattle.std.proofs.Common.{◌≡◌, ℕ, Some, Err, ap, sym, ◌∙◌}
use Rattle.unix_model.specs.declared.calls.Call.{Call}
use Rattle.unix_model.specs.declared.calls.Errno.{Errno}
use Rattle.unix_model.specs.Calls.{call_of}
use Rattle.unix_model.specs.Enter.{call_enters, entered, entered_line, or_refused}
use Rattle.unix_model.specs.Process.{Process, argument, refused}
use Rattle.unix_model.specs.State.{Unix}

pub enter-refused : (unix : Unix) (slot : ℕ) (process : Process) (call : Call) (number a0 a1 a2 : ℕ) (errno : Errno) → number ≡ argument process 7 → call_of number ≡ Some call
    → a0 ≡ argument process 0 → a1 ≡ argument process 1 → a2 ≡ argument process 2 → call_enters unix slot process a0 a1 a2 call ≡ Err errno
    → entered call_of unix slot process ≡ refused process errno
unfolding entered_line
enter-refused unix slot process call number a0 a1 a2 errno number_is there first second third line =
    let found : call_of (argument process 7) ≡ Some call = ap call_of (sym number_is) ∙ there in
    let same : call_enters unix slot process (argument process 0) (argument process 1) (argument process 2) call ≡ Err errno =
    ap (λ (k : ℕ). call_enters unix slot process k (argument process 1) (argument process 2) call) (sym first)
    ∙ (ap (λ (k : ℕ). call_enters unix slot process a0 k (argument process 2) call) (sym second)
    ∙ (ap (λ (k : ℕ). call_enters unix slot process a0 a1 k call) (sym third) ∙ line)) in
    rw found (ap (or_refused process) same)
