-- How a property of a line goes through the tests of the table of calls: a test, something that the rest uses, a step,
-- and a choice, each with what it tells the rest.
use Rattle.std.proofs.Common.{◌≡◌, ℕ, Bool, true, false, Option, Some, None, Result, Ok, Err, List, ◌++◌, refl, subst}
use Rattle.std.specs.Prelude.{if◌then◌else◌}
use Rattle.unix_model.specs.declared.calls.Errno.{Errno}
use Rattle.unix_model.specs.Effect.{Line, Waits, Goes, Takes, Puts}
use Rattle.unix_model.specs.Refusals.{◌>>=◌, ◌>>◌, refuse◌when◌, refuse◌where_not◌, refuse◌unless◌}
use Rattle.unix_model.specs.State.{Unix}

-- a property of what a step gives, where it gives something
abbrev pub Tells : {A E : Type 0} → (A → Type 0) → Result A E → Type 0
Tells P (Err errno) = Unit {0}
Tells P (Ok x) = P x

pub tells-nothing : {A E : Type 0} (P : A → Type 0) (errno : E) → Tells P (Err errno)
tells-nothing P errno = tt

pub tells-of : {A E : Type 0} (P : A → Type 0) (step : Result A E) (x : A) → Tells P step → step ≡ Ok x → P x
tells-of P step x holds e = subst (Tells P) e holds

pub tells-map : {A E : Type 0} (P R : A → Type 0) → ((x : A) → P x → R x) → (step : Result A E) → Tells P step → Tells R step
tells-map P R goes (Ok x) holds = goes x holds
tells-map P R goes (Err errno) holds = tt

-- a property of the state that a line gives, where it gives one; and what it takes from the input is its front, and what
-- it leaves is the rest
abbrev pub Gives : (Unix → Type 0) → (input : List ℕ) → Line → Type 0
Gives P input (Err errno) = Unit {0}
Gives P input (Ok Waits) = Unit {0}
Gives P input (Ok (Goes state)) = P state
Gives P input (Ok (Takes state taken left)) = P state × (taken ++ left ≡ input)
Gives P input (Ok (Puts state put)) = P state

module _ {B E : Type 0} (Q : Result B E → Type 0) (refused : (e : E) → Q (Err e)) where
  pub through : {A : Type 0} (step : Result A E) (rest : A → Result B E) → ((x : A) → step ≡ Ok x → Q (rest x)) → Q (step >>= rest)
  through (Ok x) rest holds = holds x refl
  through (Err errno) rest holds = refused errno

  pub either : (test : Bool) (first second : Result B E) → (test ≡ true → Q first) → (test ≡ false → Q second) → Q (if test then first else second)
  either true first second holds other = holds refl
  either false first second holds other = other refl

module _ {B : Type 0} (Q : Result B Errno → Type 0) (refused : (errno : Errno) → Q (Err errno)) where
  pub needs : {A : Type 0} (errno : Errno) (found : Option A) (rest : A → Result B Errno) → ((x : A) → found ≡ Some x → Q (rest x)) → Q ((refuse errno unless found) >>= rest)
  needs errno (Some x) rest holds = holds x refl
  needs errno None rest holds = refused errno

  pub asks : (errno : Errno) (test : Bool) (rest : Result B Errno) → (test ≡ true → Q rest) → Q ((refuse errno where_not test) >> rest)
  asks errno true rest holds = holds refl
  asks errno false rest holds = refused errno

  pub bars : (errno : Errno) (test : Bool) (rest : Result B Errno) → (test ≡ false → Q rest) → Q ((refuse errno when test) >> rest)
  bars errno true rest holds = refused errno
  bars errno false rest holds = holds refl
