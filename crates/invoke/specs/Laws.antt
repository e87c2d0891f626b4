-- What holds of any list of invocations.
use Rattle.std.specs.Prelude.{◌≡◌, ◌<◌, ℕ, ◌^◌, List, [], ◌∷◌, ◌++◌, length, Ok, Err}
use Rattle.kn_base.specs.declared.key.Key.{Key}
use Rattle.kn_base.specs.declared.key.Key.TheVariants.{Resume}
use Rattle.domain.specs.Domains.{Life}
use Rattle.invoke.specs.declared.types.InvokeFault.TheVariants.{VoidKey}
use Rattle.invoke.specs.Steps.{Step, Stepped, Calls, Forks, Returns, step, after_all}

-- the invocation uses a key to reach whom it names
abbrev pub Uses : Key → Step → Type 0
Uses key (Calls root other) = ⊥
Uses key (Forks other) = other ≡ key
Uses key (Returns root other) = other ≡ key

-- In a list of fewer than 2^64 invocations, from any lives on, a resume key that was used without being refused is void in each
-- later use. So of all its uses one at most makes a domain run.
abbrev pub ResumeLaw : Type 0
ResumeLaw =
    (lives : ℕ → Life) (before between : List Step) (first later : Step) (root count : ℕ) (stepped : Stepped)
    → length (before ++ first ∷ between ++ later ∷ []) < 2 ^ 64
    → Uses (Resume (record { 0 = root }) count) first → Uses (Resume (record { 0 = root }) count) later
    → step (after_all lives before) first ≡ Ok stepped
    → step (after_all lives (before ++ first ∷ between)) later ≡ Err VoidKey
