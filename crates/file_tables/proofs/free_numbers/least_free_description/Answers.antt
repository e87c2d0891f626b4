use Rattle.std.proofs.Common.{sym, ◌∙◌}
use Rattle.kernel_tables.specs.Kernel.{kernel_of, description_at}
use Rattle.file_tables.specs.Numbers.{is_free_row, least_free}
use Rattle.file_tables.proofs.LeastLaws.{least_found}
use Rattle.file_tables.proofs.free_numbers.least_free_description.Goals as goal

pub returns-then-is_free_description-clause-least : goal.returns-then-is_free_description-clause-least
unfolding least_free
returns-then-is_free_description-clause-least g c =
    sym (least_found (λ number. is_free_row (description_at (kernel_of (g.T.Store.memory c.args.store.now)) number)) c.loop-number.number 2048 c.loop-number.invariant
    (sym c.is_free_description.ensures.answer ∙ c.if-is_free_description.true) c.loop-number-test.true)
