-- The bytes and the calls of the sources and sinks in memory.
use Rattle.std.specs.Prelude.{◌≡◌, ℕ, List, [], ◌++◌, Some, drop}
use Rattle.std.proofs.Common.{append_assoc, append-nil, ap, ◌∙◌, sym}
use Rattle.kn_io.specs.Calls.{Calls}
use Rattle.kn_io.specs.declared.call_counter.CallCounter.{CallCounter}
use Rattle.kn_io.specs.declared.byte_source.ByteSource.{ByteSource}
use Rattle.kn_io.specs.declared.mem_source.MemSource.{MemSource}
use Rattle.kn_io.specs.declared.mem_sink.MemSink.{MemSink}

-- What was counted.
abbrev pub counted_calls : CallCounter → Calls
counted_calls counter = record { fails = counter.fails.items; count = counter.count; faults = counter.faults }

-- The bytes that a list of bytes has still to give.
abbrev pub bytes_left : ByteSource → List ℕ
bytes_left source = drop source.at source.bytes.items

-- The bytes that a source in memory has still to give.
abbrev pub source_left : MemSource → List ℕ
source_left source = bytes_left source.bytes

-- The calls of a source in memory.
abbrev pub source_calls : MemSource → Calls
source_calls source = counted_calls source.calls

-- How many calls of a source in memory failed.
abbrev pub source_faults : MemSource → ℕ
source_faults source = (source_calls source).faults

-- The bytes that were put into a sink in memory.
abbrev pub sink_bytes : MemSink → List ℕ
sink_bytes sink = sink.bytes.items

-- How many bytes a sink in memory takes in all.
abbrev pub sink_room : MemSink → ℕ
sink_room sink = sink.room

-- A sink in memory got these bytes: they were appended.
abbrev pub sink_grew : MemSink → List ℕ → MemSink → Type 0
sink_grew old bytes new = sink_bytes new ≡ sink_bytes old ++ bytes

-- The calls of a sink in memory.
abbrev pub sink_calls : MemSink → Calls
sink_calls sink = counted_calls sink.calls

-- How many calls of a sink in memory failed.
abbrev pub sink_faults : MemSink → ℕ
sink_faults sink = (sink_calls sink).faults

-- Getting nothing changes nothing.
pub sink_grew-nothing : (sink : MemSink) → sink_grew sink [] sink
sink_grew-nothing sink = sym (append-nil (sink_bytes sink))

-- Two pieces in turn are one.
pub sink_grew-joined : (a b c : MemSink) (x y : List ℕ) → sink_grew a x b → sink_grew b y c → sink_grew a (x ++ y) c
sink_grew-joined a b c x y first second =
    second ∙ ap (λ bytes. bytes ++ y) first ∙ append_assoc (sink_bytes a) x y

-- What is told is what was put.
pub sink_grew-told : (a b : MemSink) (x t : List ℕ) → Some (sink_bytes a) ≡ Some t → sink_grew a x b → Some (sink_bytes b) ≡ Some (t ++ x)
sink_grew-told a b x t told grown = let e : sink_bytes a ≡ t = cc in ap (λ bytes. Some bytes) (grown ∙ ap (λ bytes. bytes ++ x) e)
