-- Calls that leave all spaces but one, one after another.
use Rattle.std.proofs.Common.{ℕ, [], refl, ◌∙◌}
use Rattle.kernel_tables.specs.Kernel.{Kernel}
use Rattle.forest.proofs.RootLaws.{root_trans}
use Rattle.kernel_forest.specs.Trees.{forest_of}
use Rattle.kernel_machine.specs.Standing.{LeavesSpaces}
use Rattle.seg_tree.proofs.Emptying.{unreleased_trans}

pub leaves_same : (kernel : Kernel) (space : ℕ) → LeavesSpaces kernel kernel space
leaves_same kernel space = record {
  spaces = λ other. (λ was. was, λ was. was);
  roots = λ other is. record { was = is; owner = refl; keeper = refl };
  memories = λ other is apart. refl;
  owned = λ other whose is apart was. was;
  trees = λ outside was. was;
  inside = λ outside was within. within;
  filled = λ was. was;
  rows_now = λ mine apart. refl;
  apart_now = refl;
  rest = refl;
}

pub leaves_trans : (k0 k1 k2 : Kernel) (space : ℕ) → LeavesSpaces k0 k1 space → LeavesSpaces k1 k2 space → LeavesSpaces k0 k2 space
leaves_trans k0 k1 k2 space a b = record {
  spaces = λ other. (λ was. (b.spaces other).0 ((a.spaces other).0 was), λ now. (a.spaces other).1 ((b.spaces other).1 now));
  roots = λ other now. let last = b.roots other now in root_trans (forest_of k0) (forest_of k1) (forest_of k2) [] [] other (a.roots other last.was) last;
  memories = λ other was apart. b.memories other ((a.spaces other).0 was) apart ∙ a.memories other was apart;
  owned = λ other whose was apart held. b.owned other whose ((a.spaces other).0 was) apart (a.owned other whose was apart held);
  trees = λ outside was. b.trees outside (a.trees outside was);
  inside = λ outside was within. b.inside outside (a.trees outside was) (a.inside outside was within);
  filled = λ was. b.filled (a.filled was);
  rows_now = λ mine apart. b.rows_now mine apart ∙ a.rows_now mine apart;
  apart_now = b.apart_now ∙ a.apart_now;
  rest = unreleased_trans k0 k1 k2 a.rest b.rest;
}
