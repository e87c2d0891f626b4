-- Lines of the console's input.
use Rattle.std.proofs.Common.{◌≡◌, ℕ, zero, suc, ◌-◌, ◌<◌, ◌≤◌, take, drop, length, Bool, true, false, Option, Some, None, List, [], ◌∷◌, ◌++◌, arith, refl, ap, sym, ◌∙◌, subst, inl, inr, append_assoc, append-nil}
use Rattle.std.proofs.lemmas.Bool.{cases_Bool}
use Rattle.std.proofs.lemmas.List.{take-append-drop, length-take-le}
use Rattle.std.proofs.lemmas.Bool.Decides.{nat_tests}
use Rattle.std.specs.Prelude.{◌≢◌, ◌==◌, if◌then◌else◌}
use Rattle.kn_io.specs.Source.{Takes, IsAtEnd}
use Rattle.unix_model.specs.FileCalls.{line_left, line_taken}
use Rattle.console_domain.specs.Lines.{TakesFront, LosesFront}

-- of a line of at most so many bytes these were taken, and so many more may be
pub record Begins (count : ℕ) (bytes line : List ℕ) (room : ℕ) (now : Option (List ℕ)) : Type 0 where
  pub rest : List ℕ
  pub rest_is : now ≡ Some rest
  pub bytes_are : bytes ≡ line ++ rest
  pub taken_is : line_taken count bytes ≡ line ++ line_taken room rest
  pub left_is : line_left count bytes ≡ line_left room rest

pub taken-next : (room byte : ℕ) (rest : List ℕ) → 0 < room → line_taken room (byte ∷ rest) ≡ byte ∷ (if byte == 10 then [] else line_taken (room - 1) rest)
taken-next zero byte rest some = absurd (omega arith)
taken-next (suc room) byte rest some = let less : room ≡ suc room - 1 = omega arith in ap (λ (n : ℕ). byte ∷ (if byte == 10 then [] else line_taken n rest)) less

left-next : (room byte : ℕ) (rest : List ℕ) → 0 < room → line_left room (byte ∷ rest) ≡ (if byte == 10 then rest else line_left (room - 1) rest)
left-next zero byte rest some = absurd (omega arith)
left-next (suc room) byte rest some = let less : room ≡ suc room - 1 = omega arith in ap (λ (n : ℕ). if byte == 10 then rest else line_left n rest) less

taken-none : (room : ℕ) → line_taken room [] ≡ []
taken-none zero = refl
taken-none (suc room) = refl

left-none : (room : ℕ) → line_left room [] ≡ []
left-none zero = refl
left-none (suc room) = refl

pub begins : (count : ℕ) (bytes : List ℕ) (now : Option (List ℕ)) → now ≡ Some bytes → Begins count bytes [] count now
begins count bytes now told = record { rest = bytes; rest_is = told; bytes_are = refl; taken_is = refl; left_is = refl }

-- what the source is left with, by its next byte
told-next : (old now : Option (List ℕ)) (rest : List ℕ) (byte : ℕ) → old ≡ Some rest → Takes old (byte ∷ []) now → (more : List ℕ) × (now ≡ Some more) × (rest ≡ byte ∷ more)
told-next old (Some more) rest byte told takes = (more, refl, cc)
told-next old None rest byte told takes = let no : Some rest ≡ None = sym told ∙ takes in cc

module _ (count : ℕ) (bytes line : List ℕ) (room byte : ℕ) (old now : Option (List ℕ)) (some : 0 < room) (begun : Begins count bytes line room old) (takes : Takes old (byte ∷ []) now) where
  -- the next byte ends the line
  ends-line : (byte == 10) ≡ true → Begins count bytes (line ++ byte ∷ []) 0 now
  ends-line ends =
      let next : (more : List ℕ) × (now ≡ Some more) × (begun.rest ≡ byte ∷ more) = told-next old now begun.rest byte begun.rest_is takes in
      record {
        rest = next.0;
        rest_is = next.1;
        bytes_are = begun.bytes_are ∙ (ap (λ (rest : List ℕ). line ++ rest) next.2 ∙ sym (append_assoc line (byte ∷ []) next.0));
        taken_is = begun.taken_is ∙ (ap (λ (rest : List ℕ). line ++ line_taken room rest) next.2 ∙ (ap (λ (more : List ℕ). line ++ more) (taken-next room byte next.0 some ∙ ap (λ (test : Bool). byte ∷ (if test then [] else line_taken (room - 1) next.0)) ends) ∙ sym (append-nil (line ++ byte ∷ []))));
        left_is = begun.left_is ∙ (ap (line_left room) next.2 ∙ (left-next room byte next.0 some ∙ ap (λ (test : Bool). if test then next.0 else line_left (room - 1) next.0) ends));
      }

  -- it doesn't
  goes-on : (byte == 10) ≡ false → Begins count bytes (line ++ byte ∷ []) (room - 1) now
  goes-on goes =
      let next : (more : List ℕ) × (now ≡ Some more) × (begun.rest ≡ byte ∷ more) = told-next old now begun.rest byte begun.rest_is takes in
      record {
        rest = next.0;
        rest_is = next.1;
        bytes_are = begun.bytes_are ∙ (ap (λ (rest : List ℕ). line ++ rest) next.2 ∙ sym (append_assoc line (byte ∷ []) next.0));
        taken_is = begun.taken_is ∙ (ap (λ (rest : List ℕ). line ++ line_taken room rest) next.2 ∙ (ap (λ (more : List ℕ). line ++ more) (taken-next room byte next.0 some ∙ ap (λ (test : Bool). byte ∷ (if test then [] else line_taken (room - 1) next.0)) goes) ∙ sym (append_assoc line (byte ∷ []) (line_taken (room - 1) next.0))));
        left_is = begun.left_is ∙ (ap (line_left room) next.2 ∙ (left-next room byte next.0 some ∙ ap (λ (test : Bool). if test then next.0 else line_left (room - 1) next.0) goes));
      }

  module _ (next : List ℕ) (added : next ≡ line ++ byte ∷ []) where
    pub line-ends : byte ≡ 10 → Begins count bytes next 0 now
    line-ends feed =
        let test : (byte == 10) ≡ true = grind (arith, nat_tests) in
        subst (λ (line : List ℕ). Begins count bytes line 0 now) (sym added) (ends-line test)

    pub line-goes : byte ≢ 10 → Begins count bytes next (room - 1) now
    line-goes other =
        let test : (byte == 10) ≡ false = grind (arith, nat_tests) in
        subst (λ (line : List ℕ). Begins count bytes line (room - 1) now) (sym added) (goes-on test)

-- a line that has no more room, or no more bytes, is whole
module _ (count : ℕ) (bytes line : List ℕ) (old now : Option (List ℕ)) (room : ℕ) where
  pub full-taken : room ≡ 0 → Begins count bytes line room now → line ≡ line_taken count bytes
  full-taken full begun = sym (begun.taken_is ∙ (ap (λ (n : ℕ). line ++ line_taken n begun.rest) full ∙ append-nil line))

  pub full-left : room ≡ 0 → Begins count bytes line room now → now ≡ Some (line_left count bytes)
  full-left full begun = begun.rest_is ∙ ap (λ (rest : List ℕ). Some rest) (sym (begun.left_is ∙ ap (λ (n : ℕ). line_left n begun.rest) full))

  pub at-end : Begins count bytes line room old → now ≡ old → IsAtEnd old → Begins count bytes line 0 now
  at-end begun same end =
      let none : begun.rest ≡ [] = end begun.rest begun.rest_is in
      record {
        rest = begun.rest;
        rest_is = same ∙ begun.rest_is;
        bytes_are = begun.bytes_are;
        taken_is = begun.taken_is ∙ ap (λ (more : List ℕ). line ++ more) (ap (line_taken room) none ∙ taken-none room);
        left_is = begun.left_is ∙ (ap (line_left room) none ∙ (left-none room ∙ sym none));
      }

  -- what was taken is a front of the line
  pub begun-front : Begins count bytes line room now → TakesFront bytes (line_taken count bytes) now
  begun-front begun = record { front = line; behind = line_taken room begun.rest; left = begun.rest; front_is = sym begun.taken_is; input_is = begun.bytes_are; left_is = begun.rest_is }

-- a byte more was
pub lost-front : (count : ℕ) (bytes line : List ℕ) (room byte : ℕ) (old now : Option (List ℕ)) → 0 < room → Begins count bytes line room old → Takes old (byte ∷ []) now
    → TakesFront bytes (line_taken count bytes) now
lost-front count bytes line room byte old now some begun takes = elim (cases_Bool (byte == 10)) as (λ _. TakesFront bytes (line_taken count bytes) now) [
  | inl ends ↦ begun-front count bytes (line ++ byte ∷ []) now now 0 (ends-line count bytes line room byte old now some begun takes ends)
  | inr goes ↦ begun-front count bytes (line ++ byte ∷ []) now now (room - 1) (goes-on count bytes line room byte old now some begun takes goes)
]

-- A front of the line was taken to the front of a list, of which the rest is as before.
pub begun-lost : (count : ℕ) (bytes : List ℕ) (now : Option (List ℕ)) (room taken : ℕ) (old new : List ℕ) → Begins count bytes (take taken new) room now
    → taken ≤ length new → drop taken new ≡ drop taken old → LosesFront bytes (line_taken count bytes) now old new
unfolding begun-front
begun-lost count bytes now room taken old new begun within behind = record {
  taken = begun-front count bytes (take taken new) now now room begun;
  into = sym (take-append-drop taken new) ∙ ap (λ (rest : List ℕ). take taken new ++ rest) (behind ∙ ap (λ (n : ℕ). drop n old) (sym (length-take-le taken new within)));
}
