-- Where the loop stops, and what it has read so far.
use Rattle.std.proofs.Common.{refl, ◌∙◌, true≢false, arith}
use Rattle.input.specs.Reads.{full}
use Rattle.input.proofs.Memory.{still_memory, still_closed, still_same, stops, goes_on, stops_failed, stops_ended, counts}
use Rattle.input.proofs.read_source.Goals as goal

pub returns-in_default : goal.returns-in_default
returns-in_default g c =
    let i = c.loop-size.invariant in
    let r = c.in_default.ensures.reads_more in
    record {
      read = record { long = r.extends.long ∙ i.1; inside = omega (arith, r.extends.long, i.0) };
      memory = λ e. stops _ refl (i.3 e) r.extends (stops_failed (r.gives (still_memory i.2 e)) c.loop-size-test.true);
      closed = λ e _. record { nothing = i.4 e; failed = refl };
    }

pub returns-then-count-eq0 : goal.returns-then-count-eq0
returns-then-count-eq0 g c =
    let i = c.loop-size.invariant in
    let r = c.in-Some.ensures.reads_more in
    record {
      read = record { long = r.extends.long ∙ i.1; inside = omega (arith, r.extends.long, i.0) };
      memory = λ e. stops _ refl (i.3 e) r.extends (stops_ended (r.gives (still_memory i.2 e)) c.if-count-eq0.true c.loop-size-test.true);
      closed = λ e _. absurd (true≢false (r.closed (still_closed i.2 e)));
    }

pub loop-size-preserved : goal.loop-size-preserved
loop-size-preserved g c =
    let i = c.loop-size.invariant in
    let r = c.in-Some.ensures.reads_more in (
      r.inside,
      r.extends.long ∙ i.1,
      still_same i.2 c.in-Some.ensures.same_source,
      λ e. goes_on (i.3 e) (counts (r.gives (still_memory i.2 e))) (omega (arith, c.if-count-eq0.false)) c.loop-size-test.true,
      λ e. absurd (true≢false (r.closed (still_closed i.2 e))),
    )

pub returns : goal.returns
returns g c =
    let i = c.loop-size.invariant in
    record {
      read = record { long = i.1; inside = i.0 };
      memory = λ e. stops _ refl (i.3 e) record { long = refl; kept = refl } (full (omega (arith, c.loop-size-test.false)));
      closed = λ e k. absurd (omega (arith, i.1, i.4 e, k, c.loop-size-test.false));
    }
