-- Lines behind an entry line, one after the other.
use Rattle.std.proofs.Common.{◌≡◌, ℕ, suc, ◌+◌, ◌-◌, ◌<◌, ◌≤◌, Bool, true, false, true≢false, List, [], ◌++◌, Option, Some, None, Ok, Err, refl, sym, ap, ◌∙◌, append_assoc, append-nil, add_assoc, zero-add, arith}
use Rattle.bundle.specs.declared.fault.BundleKind.{BundleKind}
use Rattle.bundle.specs.declared.fault.BundleKind.TheVariants.{BadHex}
use Rattle.bundle.specs.declared.said.Form.{Form}
use Rattle.bundle.specs.Outcomes.{next_line}
use Rattle.bundle.specs.Parts.{Part, Whole, Broken, behind, line_bytes, part_of}
use Rattle.bundle.specs.declared.fault.BundleFault.TheVariants.{At}
use Rattle.bundle.specs.Streams.{TakesLine, FailsLine}
use Rattle.bundle.specs.Views.{AddsIf}

-- no lines before others
pub behind-none : (part : Part) → part ≡ behind [] 0 part
behind-none (Whole more rest) = refl
behind-none (Broken more kind count) = ap (λ n. Broken more kind n) (sym (zero-add count))

-- one line more before others
behind-one : (bytes more : List ℕ) (lines : ℕ) (part : Part) → behind bytes lines (behind more 1 part) ≡ behind (bytes ++ more) (lines + 1) part
behind-one bytes more lines (Whole others rest) = ap (λ all. Whole all rest) (sym (append_assoc bytes more others))
behind-one bytes more lines (Broken others kind count) =
    rw (append_assoc bytes more others, add_assoc lines 1 count) refl

-- a line that gives something
pub line-more : (form : Form) (done left : ℕ) (given more bytes line rest : List ℕ) → next_line bytes ≡ Ok (record { line = line; rest = rest }) → line_bytes form line ≡ Some more
    → behind given done (part_of form (suc left) bytes) ≡ behind (given ++ more) (done + 1) (part_of form left rest)
unfolding part_of
line-more form done left given more bytes line rest next gives = rw (next) (rw gives (behind-one given more done (part_of form left rest)))

-- a line that gives nothing
pub line-bad : (form : Form) (done left : ℕ) (given bytes line rest : List ℕ) → next_line bytes ≡ Ok (record { line = line; rest = rest }) → line_bytes form line ≡ None
    → behind given done (part_of form (suc left) bytes) ≡ Broken given BadHex done
unfolding part_of
line-bad form done left given bytes line rest next gives =
    let none : done + 0 ≡ done = omega arith in
    rw next (rw gives (rw none (ap (λ all. Broken all BadHex done) (append-nil given))))

-- a line that isn't there
pub line-wrong : (form : Form) (done left : ℕ) (given bytes : List ℕ) (kind : BundleKind) → next_line bytes ≡ Err kind → behind given done (part_of form (suc left) bytes) ≡ Broken given kind done
unfolding part_of
line-wrong form done left given bytes kind next =
    let none : done + 0 ≡ done = omega arith in
    rw next (rw none (ap (λ all. Broken all kind done) (append-nil given)))

-- no line is left
pub lines-end : (form : Form) (done : ℕ) (given rest : List ℕ) → behind given done (part_of form 0 rest) ≡ Whole given rest
unfolding part_of
lines-end form done given rest = ap (λ all. Whole all rest) (append-nil given)

-- ---- reading them

-- so many lines gave these bytes, and the rest is left
abbrev pub ReadSo : Form → ℕ → Option (List ℕ) → List ℕ → ℕ → Option (List ℕ) → Type 0
ReadSo form count old given done left =
    (bytes : List ℕ) → old ≡ Some bytes → (rest : List ℕ) × (left ≡ Some rest) × (part_of form count bytes ≡ behind given done (part_of form (count - done) rest))

adds-true : (gives : Option (List ℕ)) (old new : List ℕ) (told : Bool) → told ≡ true → AddsIf gives old told new → (more : List ℕ) × (gives ≡ Some more) × (new ≡ old ++ more)
adds-true None old new told says adds = absurd (true≢false (sym says ∙ adds.0))
adds-true (Some more) old new told says adds = (more, refl, adds.1)

adds-false : (gives : Option (List ℕ)) (old new : List ℕ) (told : Bool) → told ≡ false → AddsIf gives old told new → (gives ≡ None) × (new ≡ old)
adds-false None old new told says adds = (refl, adds.1)
adds-false (Some more) old new told says adds = absurd (true≢false (sym adds.0 ∙ says))

one-left : (count done : ℕ) → done < count → count - done ≡ suc (count - (done + 1))
one-left count done more = omega arith

none-left : (count done : ℕ) → done ≤ count → count ≤ done → (count - done ≡ 0) × (done ≡ count)
none-left count done few all = (omega arith, omega arith)

pub read-more : (form : Form) (count done : ℕ) (old left now : Option (List ℕ)) (given new line first : List ℕ) (told : Bool)
    → ReadSo form count old given done left → first ≡ [] → done < count → TakesLine first left line now → told ≡ true → AddsIf (line_bytes form line) given told new
    → ReadSo form count old new (done + 1) now
read-more form count done old left now given new line first told so_far none more takes says adds = λ bytes is.
    let r = so_far bytes is in
    let next = (rw none at takes) r.0 r.1 in
    let added = adds-true (line_bytes form line) given new told says adds in (
      next.0,
      next.1,
      r.2 ∙ ap (λ n. behind given done (part_of form n r.0)) (one-left count done more)
          ∙ line-more form done (count - (done + 1)) given added.0 r.0 line next.0 next.2 added.1
          ∙ ap (λ all. behind all (done + 1) (part_of form (count - (done + 1)) next.0)) (sym added.2),
    )

pub read-bad : (form : Form) (count done number at : ℕ) (old left now : Option (List ℕ)) (given new line first : List ℕ) (told : Bool)
    → ReadSo form count old given done left → first ≡ [] → done < count → TakesLine first left line now → told ≡ false → AddsIf (line_bytes form line) given told new → at ≡ number + done + 1
    → (bytes : List ℕ) → old ≡ Some bytes → (before : ℕ) × (part_of form count bytes ≡ Broken new BadHex before) × (at ≡ number + (before + 1))
read-bad form count done number at old left now given new line first told so_far none more takes says adds stands bytes is =
    let r = so_far bytes is in
    let next = (rw none at takes) r.0 r.1 in
    let added = adds-false (line_bytes form line) given new told says adds in (
      done,
      r.2 ∙ ap (λ n. behind given done (part_of form n r.0)) (one-left count done more)
          ∙ line-bad form done (count - (done + 1)) given r.0 line next.0 next.2 added.0
          ∙ ap (λ all. Broken all BadHex done) (sym added.1),
      omega (arith, stands),
    )

pub read-wrong : (form : Form) (count done number begun at : ℕ) (kind : BundleKind) (old left : Option (List ℕ)) (given first : List ℕ)
    → ReadSo form count old given done left → first ≡ [] → done < count → FailsLine (begun + 1) first left (At kind at) → begun ≡ number + done
    → (bytes : List ℕ) → old ≡ Some bytes → (before : ℕ) × (part_of form count bytes ≡ Broken given kind before) × (at ≡ number + (before + 1))
read-wrong form count done number begun at kind old left given first so_far none more fails stands bytes is =
    let r = so_far bytes is in
    let next = (rw none at fails) r.0 r.1 in (
      done,
      r.2 ∙ ap (λ n. behind given done (part_of form n r.0)) (one-left count done more)
          ∙ line-wrong form done (count - (done + 1)) given r.0 kind next.0,
      omega (arith, stands, next.1),
    )

pub read-whole : (form : Form) (count done : ℕ) (old left : Option (List ℕ)) (given : List ℕ)
    → ReadSo form count old given done left → done ≤ count → count ≤ done
    → (bytes : List ℕ) → old ≡ Some bytes → (rest : List ℕ) × (left ≡ Some rest) × (part_of form count bytes ≡ Whole given rest)
read-whole form count done old left given so_far few all bytes is =
    let r = so_far bytes is in
    (r.0, r.1, r.2 ∙ ap (λ n. behind given done (part_of form n r.0)) (none-left count done few all).0 ∙ lines-end form done given r.0)
