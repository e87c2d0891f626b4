use Rattle.std.proofs.Common.{arith}
use Rattle.unix_model.proofs.PathLaws.{split-first, split-none}
use Rattle.bundle.specs.Paths.{is_nul}
use Rattle.bundle.proofs.PathLaws.{none-any, none-before, nul-bad, nul-is, slash-is}
use Rattle.bundle.proofs.paths.name_end.Goals as goal

pub returns-then-byte-eq47 : goal.returns-then-byte-eq47
returns-then-byte-eq47 c =
    let here = slash-is _ c.if-byte-eq47.true in
    record {
      inside = c.loop-i-test.true;
      here = here;
      cut = split-first c.args.bytes.now c.loop-i.i c.loop-i-test.true c.loop-i.invariant.no_slash here;
      no_nul = none-before is_nul c.args.bytes.now c.loop-i.i (omega (arith, c.loop-i-test.true)) c.loop-i.invariant.no_nul;
    }

pub returns-then-byte-eq0 : goal.returns-then-byte-eq0
returns-then-byte-eq0 c = nul-bad c.args.bytes.now c.loop-i.i c.loop-i-test.true c.loop-i.invariant.no_slash (nul-is _ c.if-byte-eq0.true)

pub returns : goal.returns
returns c = record {
  no_slash = λ k below. c.loop-i.invariant.no_slash k (omega (arith, below, c.loop-i-test.false));
  cut = split-none c.args.bytes.now (λ k below. c.loop-i.invariant.no_slash k (omega (arith, below, c.loop-i-test.false)));
  no_nul = none-any is_nul c.args.bytes.now (λ k below. c.loop-i.invariant.no_nul k (omega (arith, below, c.loop-i-test.false)));
}
