use Rattle.std.proofs.Common.{Some}
use Rattle.std.proofs.Math.Path.{fun_ext}
use Rattle.std.proofs.lemmas.Map.Text.{hash_map_updates_str}
use Rattle.rv_asm.proofs.labels.Labels.insert.Goals as goal

pub returns : goal.returns
returns c = fun_ext (λ other. hash_map_updates_str c.args.name.now c.args.self.now.places c.insert.new.self (Some c.args.place) c.in_ok-insert.ensures.updates other)
