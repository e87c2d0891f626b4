use Rattle.std.proofs.Common.{◌+◌, ℕ, arith, ap, sym, ◌∙◌, Some}
use Rattle.std.specs.Prelude.{nat_le}
use Rattle.unix_model.proofs.RoomLaws.{pages-few, promised-put, room-by}
use Rattle.flat_state.specs.StateView.{unix_of}
use Rattle.flat_state.specs.ProcessView.{process_of}
use Rattle.flat_state.proofs.state.State.fits.Goals as goal

pub overflow_add-promised : goal.overflow_add-promised
overflow_add-promised c = omega (arith, c.promised.ensures.few, c.pages.ensures, pages-few (Some (process_of c.args.process.now)))

pub overflow_add-result : goal.overflow_add-result
overflow_add-result c = omega (arith, c.promised.ensures.few, c.pages.ensures, pages-few (Some (process_of c.args.process.now)), c.requires.few)

pub returns : goal.returns
returns c = λ slot after inside free same promises.
    let all : ℕ = c.promised.result + c.pages.result in
    ap (λ pages. nat_le (all + c.args.more) (pages + c.args.less)) (sym same)
    ∙ room-by after c.args.more c.args.less all
    (omega (arith, promises, c.promised.ensures.promised, c.pages.ensures, promised-put (unix_of c.args.self.now) slot (process_of c.args.process.now) inside free))
