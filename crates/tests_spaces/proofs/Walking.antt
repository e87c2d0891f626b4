-- Spaces in a list stay spaces.
use Rattle.std.proofs.Common.{◌≡◌, ℕ, zero, suc, List, [], ◌∷◌, ◌++◌, arith, sym, subst}
use Rattle.std.proofs.lemmas.List.Elements.{All-append}
use Rattle.kernel_tables.specs.Kernel.{Kernel}
use Rattle.seg_tree.specs.declared.spaces.Space.{Space}
use Rattle.tests_spaces.specs.Ready.{AreSpaces, AreSpacesBut, IsTestSpace, KeepsOthers, KeepsSpaces}

pub spaces_kept : (old new : Kernel) (spaces : List Space) → KeepsSpaces old new → AreSpaces old spaces → AreSpaces new spaces
spaces_kept old new spaces keeps are = λ k d inside. keeps.stay _ (are k d inside)

one : (kernel : Kernel) (space : Space) → IsTestSpace kernel space.0.0 → AreSpaces kernel (space ∷ [])
one kernel space is zero d inside = is
one kernel space is (suc k) d inside = absurd (omega arith)

space_more : (kernel : Kernel) (spaces : List Space) (space : Space) → AreSpaces kernel spaces → IsTestSpace kernel space.0.0 → AreSpaces kernel (spaces ++ space ∷ [])
space_more kernel spaces space are is = All-append (λ (s : Space). IsTestSpace kernel s.0.0) spaces (space ∷ []) are (one kernel space is)

-- .. that was put behind them
pub put_behind : (kernel : Kernel) (before after : List Space) (space : Space) → after ≡ before ++ space ∷ [] → AreSpaces kernel before → IsTestSpace kernel space.0.0 → AreSpaces kernel after
put_behind kernel before after space is are added = subst (AreSpaces kernel) (sym is) (space_more kernel before space are added)

-- all but one of these are spaces once that one was dropped, and while further calls keep all
pub others_kept : (old mid new : Kernel) (gone : ℕ) (spaces : List Space) → KeepsOthers old mid gone → KeepsSpaces mid new → AreSpaces old spaces → AreSpacesBut new gone spaces
others_kept old mid new gone spaces drops keeps are = λ k d inside apart. keeps.stay _ (drops.stay _ apart (are k d inside))
