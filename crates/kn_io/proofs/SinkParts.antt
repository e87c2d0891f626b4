-- What the sinks of this crate got where a put failed.
use Rattle.std.proofs.Common.{◌≡◌, List, ℕ, [], sym, ◌∙◌, refl, append-nil}
use Rattle.kn_io.specs.Sink.{GrewByPrefix}
use Rattle.kn_io.specs.InMemory.{sink_bytes, sink_grew}
use Rattle.kn_io.specs.Adapters.{grew_untold}
use Rattle.kn_io.specs.declared.mem_sink.MemSink.{MemSink}
use Rattle.kn_io.specs.declared.adapters.WriteSink.{WriteSink}

-- Where the bytes are as before, a front was put: none of the piece.
pub sink_part : (old new : MemSink) (bytes : List ℕ) → sink_bytes new ≡ sink_bytes old → GrewByPrefix sink_grew old bytes new
unfolding GrewByPrefix
sink_part old new bytes same = ([], bytes, refl, same ∙ sym (append-nil (sink_bytes old)))

-- Where nothing is told, any front may have been put.
pub untold_part : {W : Type 0} (old new : WriteSink W) (bytes : List ℕ) → GrewByPrefix grew_untold old bytes new
unfolding GrewByPrefix
untold_part old new bytes = (bytes, [], append-nil bytes, tt)

pub ruleset parts = (sink_part, untold_part)
