-- A program has one file.
use Rattle.std.proofs.Common.{◌≡◌, ◌≢◌, ◌⊎◌, ℕ, ◌<◌, ◌^◌, List, [], ◌∷◌, ◌++◌, length, Some, inl, inr, refl, ap, sym, ◌∙◌}
use Rattle.unix_model.specs.declared.instructions.Instr.{Instr}
use Rattle.unix_model.specs.declared.instructions.Instr.TheVariants.{Lui, Auipc, Jal, Jalr, Branch, Load, Store, OpImm, Op, Fence, Ecall, Ebreak}
use Rattle.unix_model.specs.Instructions.{decoded}
use Rattle.rv_asm.specs.Files.{IsFile, SpellAll, Spells, head, word}
use Rattle.rv_asm.specs.Programs.{Program}

-- one word for each instruction but FENCE
abbrev pub OneWord : Type 0
OneWord = (first second : ℕ) (instr : Instr) → first < 2 ^ 32 → second < 2 ^ 32 → decoded first ≡ Some instr → decoded second ≡ Some instr → instr ≢ Fence → first ≡ second

fence_or_not : (instruction : Instr) → (instruction ≡ Fence) ⊎ (instruction ≢ Fence)
fence_or_not (Lui rd imm) = inr (λ is. cc)
fence_or_not (Auipc rd imm) = inr (λ is. cc)
fence_or_not (Jal rd imm) = inr (λ is. cc)
fence_or_not (Jalr rd rs1 imm) = inr (λ is. cc)
fence_or_not (Branch op rs1 rs2 imm) = inr (λ is. cc)
fence_or_not (Load op rd rs1 imm) = inr (λ is. cc)
fence_or_not (Store op rs1 rs2 imm) = inr (λ is. cc)
fence_or_not (OpImm op rd rs1 imm) = inr (λ is. cc)
fence_or_not (Op op rd rs1 rs2) = inr (λ is. cc)
fence_or_not Fence = inl refl
fence_or_not Ecall = inr (λ is. cc)
fence_or_not Ebreak = inr (λ is. cc)

one_spelling : OneWord → (instruction : Instr) (first second : ℕ) → Spells instruction first → Spells instruction second → first ≡ second
one_spelling one instruction first second spells again =
    elim (fence_or_not instruction) as (λ _. first ≡ second) [
      | inl fence ↦ spells.fence fence ∙ sym (again.fence fence)
      | inr other ↦ one first second instruction spells.small again.small spells.decodes again.decodes other
    ]

one_text : OneWord → (instructions : List Instr) (first second : List ℕ) → SpellAll instructions first → SpellAll instructions second → first ≡ second
one_text one [] first second none nothing = none ∙ sym nothing
one_text one (instruction ∷ instructions) first second (number, spells, rest, is, others) (other, again, remains, same, further) =
    is
    ∙ ap (λ n. word n ++ rest) (one_spelling one instruction number other spells again)
    ∙ ap (λ r. word other ++ r) (one_text one instructions rest remains others further)
    ∙ sym same

pub one_file : OneWord → (program : Program) (first second : List ℕ) → IsFile program first → IsFile program second → first ≡ second
one_file one program first second is again =
    is.whole
    ∙ ap (λ text. head (length text) (length program.bytes) ++ text ++ program.bytes) (one_text one program.instructions is.text again.text is.spelled again.spelled)
    ∙ sym again.whole
