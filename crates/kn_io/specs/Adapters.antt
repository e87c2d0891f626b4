-- The streams behind the adapters, as far as the standard library knows them.
use Rattle.std.specs.Prelude.{◌≡◌, ℕ, List, [], ◌++◌, Option, Some, None}
use Rattle.std.specs.Io.Iter.{bytes_remaining}
use Rattle.kn_io.specs.declared.adapters.ReadSource.{ReadSource}
use Rattle.kn_io.specs.declared.adapters.WriteSink.{WriteSink}

-- The bytes that the reader of a source has left, where it knows them.
abbrev pub reader_left : {R : Type 0} → (R → Option (List ℕ)) → ReadSource R → Option (List ℕ)
reader_left remaining source = bytes_remaining remaining source.bytes

-- How many reads failed.
abbrev pub read_faults : {R : Type 0} → ReadSource R → ℕ
read_faults source = source.faults

-- The writer of a sink.
abbrev pub written_to : {W : Type 0} → WriteSink W → W
written_to sink = sink.writer

-- How many writes failed.
abbrev pub write_faults : {W : Type 0} → WriteSink W → ℕ
write_faults sink = sink.faults

-- Of what a writer got, nothing is told.
abbrev pub grew_untold : {W : Type 0} → WriteSink W → List ℕ → WriteSink W → Type 0
grew_untold old bytes new = Unit {0}

pub grew_untold-nothing : {W : Type 0} (sink : WriteSink W) → grew_untold sink [] sink
grew_untold-nothing sink = tt

pub grew_untold-joined : {W : Type 0} (a b c : WriteSink W) (x y : List ℕ) → grew_untold a x b → grew_untold b y c → grew_untold a (x ++ y) c
grew_untold-joined a b c x y first second = tt

pub grew_untold-told : {W : Type 0} (a b : WriteSink W) (x t : List ℕ) → None ≡ Some t → grew_untold a x b → None ≡ Some (t ++ x)
grew_untold-told a b x t told grown = let no : None ≡ Some t = told in cc
