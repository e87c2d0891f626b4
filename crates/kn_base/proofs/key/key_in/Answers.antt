use Rattle.std.proofs.Common.{◌≡◌, ◌==◌, ℕ, Option, sym, ◌∙◌, ap}
use Rattle.std.specs.Bool.{then_some}
use Rattle.kn_base.specs.declared.key.Key.{Key}
use Rattle.kn_base.specs.declared.key.Key.TheVariants.{Number}
use Rattle.kn_base.specs.Keys.{spelled_key, sixteen, counted_body}
use Rattle.kn_base.proofs.ReadLaws.{null_read, number_read, page_read, node_read, segment_read, start_read, resume_read, domain_read, meter_read, service_read}
use Rattle.kn_base.proofs.key.key_in.Goals as goal

-- a key that was read by the tests of its kind
by_kind : (kind is side word count : ℕ) (read wanted : Option Key) → read ≡ wanted → kind ≡ is → spelled_key (sixteen is side (counted_body word count)) ≡ wanted
    → read ≡ spelled_key (sixteen kind side (counted_body word count))
by_kind kind is side word count read wanted e k law = e ∙ sym law ∙ sym (ap (λ n. spelled_key (sixteen n side (counted_body word count))) k)

pub returns-in-0 : goal.returns-in-0
returns-in-0 c =
    by_kind c.args.kind 0 c.args.side c.args.word c.args.count c.then_some.result _ c.then_some.ensures c.in-0.is
    (null_read c.args.side c.args.word c.args.count c.ranges.word.fits c.ranges.count.fits)

pub returns-in-1 : goal.returns-in-1
returns-in-1 c =
    by_kind c.args.kind 1 c.args.side c.args.word c.args.count c.then_some-in-1.result _ (c.then_some-in-1.ensures ∙ ap (λ body. then_some (c.args.side == 0) (Number body)) c.requires) c.in-1.is
    (number_read c.args.side c.args.word c.args.count c.ranges.word.fits c.ranges.count.fits)

pub returns-in-2 : goal.returns-in-2
returns-in-2 c =
    by_kind c.args.kind 2 c.args.side c.args.word c.args.count c.then_some-in-2.result _ c.then_some-in-2.ensures c.in-2.is
    (page_read c.args.side c.args.word c.args.count c.ranges.word.fits c.ranges.count.fits)

pub returns-in-3 : goal.returns-in-3
returns-in-3 c =
    by_kind c.args.kind 3 c.args.side c.args.word c.args.count c.then_some-in-3.result _ c.then_some-in-3.ensures c.in-3.is
    (node_read c.args.side c.args.word c.args.count c.ranges.word.fits c.ranges.count.fits)

pub returns-in-4 : goal.returns-in-4
returns-in-4 c =
    by_kind c.args.kind 4 c.args.side c.args.word c.args.count c.then_some-in-4.result _ c.then_some-in-4.ensures c.in-4.is
    (segment_read c.args.side c.args.word c.args.count c.ranges.word.fits c.ranges.count.fits)

pub returns-in-5 : goal.returns-in-5
returns-in-5 c =
    by_kind c.args.kind 5 c.args.side c.args.word c.args.count c.then_some-in-5.result _ c.then_some-in-5.ensures c.in-5.is
    (start_read c.args.side c.args.word c.args.count c.ranges.word.fits c.ranges.count.fits)

pub returns-in-6 : goal.returns-in-6
returns-in-6 c =
    by_kind c.args.kind 6 c.args.side c.args.word c.args.count c.then_some-in-6.result _ c.then_some-in-6.ensures c.in-6.is
    (resume_read c.args.side c.args.word c.args.count c.ranges.word.fits c.ranges.count.fits)

pub returns-in-7 : goal.returns-in-7
returns-in-7 c =
    by_kind c.args.kind 7 c.args.side c.args.word c.args.count c.then_some-in-7.result _ c.then_some-in-7.ensures c.in-7.is
    (domain_read c.args.side c.args.word c.args.count c.ranges.word.fits c.ranges.count.fits)

pub returns-in-8 : goal.returns-in-8
returns-in-8 c =
    by_kind c.args.kind 8 c.args.side c.args.word c.args.count c.then_some-in-8.result _ c.then_some-in-8.ensures c.in-8.is
    (meter_read c.args.side c.args.word c.args.count c.ranges.word.fits c.ranges.count.fits)

pub returns-in-9 : goal.returns-in-9
returns-in-9 c =
    by_kind c.args.kind 9 c.args.side c.args.word c.args.count c.then_some-in-9.result _ c.then_some-in-9.ensures c.in-9.is
    (service_read c.args.side c.args.word c.args.count c.ranges.word.fits c.ranges.count.fits)
