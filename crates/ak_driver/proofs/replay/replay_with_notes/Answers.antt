use Rattle.std.proofs.Common.{ℕ, ◌≤◌, List, Err, length, refl, sym, ap, subst, ◌∙◌, arith}
use Rattle.ak_outside.specs.Lines.{LineState, to_come}
use Rattle.ak_outside.specs.declared.lines.Next.TheVariants.{Line, TooLong, End, Failed}
use Rattle.ak_schedule.specs.Line.{most_bytes}
use Rattle.ak_driver.specs.declared.replay.Replay.{Replay}
use Rattle.ak_driver.specs.ReplayContracts.{IsReady, Turns, TurnAnswers, progress_of}
use Rattle.ak_driver.specs.StatusContracts.{ReplayCause}
use Rattle.ak_driver.proofs.Completeness.{caused, completed}
use Rattle.ak_driver.proofs.HeadlineLemmas.{promised_apart}
use Rattle.ak_driver.proofs.PromiseLemmas.{known_ends}
use Rattle.ak_driver.proofs.ReplayLoop.{progress_line}
use Rattle.ak_driver.proofs.Streamed.{follows_start, follows_flush, follows_line, follows_stop, follows_long, follows_end, follows_unwritten, follows_failed, flushed_all, at_source_end, gives_as, cause_as, not_both}
use Rattle.ak_driver.proofs.replay.replay_with_notes.Goals as goal

pub lines-init : goal.lines-init
lines-init g c = (
  subst (λ (r : Replay). IsReady r.stage r.steps) (sym c.new-replay.ensures) refl,
  refl,
  refl,
  λ is. absurd (not_both _ is (ap (λ (s : LineState). s.ended) c.new-reader.ensures)),
  follows_start (g.S.Source.remaining c.args.input.now) (g.W.Sink.written c.args.output.now) c.new-reader.result c.new-replay.result _ c.new-reader.ensures c.new-replay.ensures c.new-out.ensures.items,
)

pub returns-in-None-clause-promise : goal.returns-in-None-clause-promise
returns-in-None-clause-promise g c =
    follows_unwritten (g.S.Source.remaining c.args.input.now) (to_come c.lines.reader (g.S.Source.remaining c.lines.input)) (g.S.Source.remaining c.next_line.new.input) c.lines.reader.ended
    (g.W.Sink.written c.args.output.now) (g.W.Sink.written c.lines.output) (g.W.Sink.written c.next_line.new.output) (progress_of c.lines.replay) c.lines.out.items c.lines.invariant.4 c.in-None.ensures.fails.1

pub returns-in-None-clause-headline : goal.returns-in-None-clause-headline
returns-in-None-clause-headline g c =
    promised_apart (g.S.Source.remaining c.args.input.now) (g.S.Source.remaining c.next_line.new.input) _ (g.W.Sink.written c.args.output.now) (g.W.Sink.written c.next_line.new.output)
    (returns-in-None-clause-promise g c)

pub returns-in-Some-Failed-clause-promise : goal.returns-in-Some-Failed-clause-promise
returns-in-Some-Failed-clause-promise g c =
    let known = g.S.Source.remaining c.args.input.now in
    let coming = to_come c.lines.reader (g.S.Source.remaining c.lines.input) in
    let left = g.S.Source.remaining c.next_line.new.input in
    let old = g.W.Sink.written c.args.output.now in
    let now = g.W.Sink.written c.next_line.new.output in
    let p = progress_of c.lines.replay in
    let out = c.next_line.new.out.items in
    follows_failed known coming left c.lines.reader.ended c.next_line.new.reader old now (g.W.Sink.written c.written.new.output) p out c.written.result _ _
    (follows_flush known coming c.lines.reader.ended old (g.W.Sink.written c.lines.output) now p c.lines.out.items out c.in-Some-Failed.field-0 c.lines.invariant.4 c.in-Some-Failed.ensures.flushes.0)
    c.in-Some-Failed.ensures.stays
    (gives_as c.in-Some-Failed.field-0 Failed c.next_line.new.reader coming (to_come c.next_line.new.reader left) c.in-Some-Failed.field-0-is c.in-Some-Failed.ensures.next.0)
    (flushed_all c.in-Some-Failed.field-0 c.lines.out.items out (g.W.Sink.written c.lines.output) now c.in-Some-Failed.field-0-is c.in-Some-Failed.ensures.flushes.0)
    c.written.ensures.written

pub returns-in-Some-Failed-clause-headline : goal.returns-in-Some-Failed-clause-headline
returns-in-Some-Failed-clause-headline g c =
    promised_apart (g.S.Source.remaining c.args.input.now) (g.S.Source.remaining c.next_line.new.input) c.written.result (g.W.Sink.written c.args.output.now) (g.W.Sink.written c.written.new.output)
    (returns-in-Some-Failed-clause-promise g c)

pub returns-in-Some-End-clause-promise : goal.returns-in-Some-End-clause-promise
returns-in-Some-End-clause-promise g c =
    let known = g.S.Source.remaining c.args.input.now in
    let coming = to_come c.lines.reader (g.S.Source.remaining c.lines.input) in
    let left = g.S.Source.remaining c.next_line.new.input in
    let after = to_come c.next_line.new.reader left in
    let old = g.W.Sink.written c.args.output.now in
    let now = g.W.Sink.written c.next_line.new.output in
    let p = progress_of c.lines.replay in
    let out = c.next_line.new.out.items in
    follows_end known coming after left c.lines.reader.ended old now (g.W.Sink.written c.ends.new.output) p out c.ends.result _ _
    (follows_flush known coming c.lines.reader.ended old (g.W.Sink.written c.lines.output) now p c.lines.out.items out c.in-Some-End.field-0 c.lines.invariant.4 c.in-Some-End.ensures.flushes.0)
    (gives_as c.in-Some-End.field-0 End c.next_line.new.reader coming after c.in-Some-End.field-0-is c.in-Some-End.ensures.next.0).1
    c.ends.ensures.ends

pub returns-in-Some-End-clause-end : goal.returns-in-Some-End-clause-end
returns-in-Some-End-clause-end g c =
    let known = g.S.Source.remaining c.args.input.now in
    let left = g.S.Source.remaining c.next_line.new.input in
    let coming = to_come c.lines.reader (g.S.Source.remaining c.lines.input) in
    known_ends known left c.ends.result
    (at_source_end known (g.S.Source.remaining c.lines.input) left c.lines.reader c.next_line.new.reader.ended (g.W.Sink.written c.args.output.now) (g.W.Sink.written c.lines.output) (progress_of c.lines.replay) c.lines.out.items
    c.lines.invariant.4 c.lines.invariant.3 c.in-Some-End.ensures.ended
    (gives_as c.in-Some-End.field-0 End c.next_line.new.reader coming (to_come c.next_line.new.reader left) c.in-Some-End.field-0-is c.in-Some-End.ensures.next.0).0)

pub returns-in-Some-End-clause-headline : goal.returns-in-Some-End-clause-headline
returns-in-Some-End-clause-headline g c =
    promised_apart (g.S.Source.remaining c.args.input.now) (g.S.Source.remaining c.next_line.new.input) c.ends.result (g.W.Sink.written c.args.output.now) (g.W.Sink.written c.ends.new.output)
    (returns-in-Some-End-clause-promise g c)

pub returns-in-Some-End-clause-complete : goal.returns-in-Some-End-clause-complete
returns-in-Some-End-clause-complete g c =
    let asked = cause_as c.in-Some-End.field-0 End (g.S.Source.faults c.lines.input) (g.S.Source.faults c.next_line.new.input) c.in-Some-End.field-0-is c.in-Some-End.ensures.next.1 in
    let cause = subst (λ (n : ℕ). ReplayCause c.ends.result 0 0 n (g.W.Sink.faults c.ends.new.output)) (c.in-Some-End.ensures.flushes.1 ∙ c.lines.invariant.2) c.ends.ensures.cause in
    λ bytes is reads writes.
    completed (g.S.Source.remaining c.args.input.now) c.ends.result (g.S.Source.faults c.args.input.now) (g.S.Source.faults c.next_line.new.input)
    (g.W.Sink.faults c.args.output.now) (g.W.Sink.faults c.ends.new.output) (g.W.Sink.written c.args.output.now) (g.W.Sink.written c.ends.new.output)
    (caused c.ends.result _ _ _ _ (asked ∙ c.lines.invariant.1) cause) (g.S.Source.remaining c.next_line.new.input) (returns-in-Some-End-clause-promise g c) bytes is reads writes

pub returns-in-Some-TooLong-clause-promise : goal.returns-in-Some-TooLong-clause-promise
returns-in-Some-TooLong-clause-promise g c =
    let known = g.S.Source.remaining c.args.input.now in
    let coming = to_come c.lines.reader (g.S.Source.remaining c.lines.input) in
    let left = g.S.Source.remaining c.next_line.new.input in
    let after = to_come c.next_line.new.reader left in
    let old = g.W.Sink.written c.args.output.now in
    let now = g.W.Sink.written c.next_line.new.output in
    let p = progress_of c.lines.replay in
    let out = c.next_line.new.out.items in
    let long = gives_as c.in-Some-TooLong.field-0 TooLong c.next_line.new.reader coming after c.in-Some-TooLong.field-0-is c.in-Some-TooLong.ensures.next.0 in
    follows_long known coming after left c.lines.reader.ended old now (g.W.Sink.written c.stops.new.output) p c.next_line.new.reader.line out c.long_code.result c.lines.replay.line c.stops.result _ _
    (follows_flush known coming c.lines.reader.ended old (g.W.Sink.written c.lines.output) now p c.lines.out.items out c.in-Some-TooLong.field-0 c.lines.invariant.4 c.in-Some-TooLong.ensures.flushes.0)
    long.0 long.1 c.long_code.ensures (sym (progress_line c.lines.replay.stage c.lines.replay.line)) c.stops.ensures.stops

pub returns-in-Some-TooLong-clause-headline : goal.returns-in-Some-TooLong-clause-headline
returns-in-Some-TooLong-clause-headline g c =
    promised_apart (g.S.Source.remaining c.args.input.now) (g.S.Source.remaining c.next_line.new.input) c.stops.result (g.W.Sink.written c.args.output.now) (g.W.Sink.written c.stops.new.output)
    (returns-in-Some-TooLong-clause-promise g c)

pub returns-in-Some-TooLong-clause-complete : goal.returns-in-Some-TooLong-clause-complete
returns-in-Some-TooLong-clause-complete g c =
    let asked = cause_as c.in-Some-TooLong.field-0 TooLong (g.S.Source.faults c.lines.input) (g.S.Source.faults c.next_line.new.input) c.in-Some-TooLong.field-0-is c.in-Some-TooLong.ensures.next.1 in
    let cause = subst (λ (n : ℕ). ReplayCause c.stops.result 0 0 n (g.W.Sink.faults c.stops.new.output)) (c.in-Some-TooLong.ensures.flushes.1 ∙ c.lines.invariant.2) c.stops.ensures.cause in
    λ bytes is reads writes.
    completed (g.S.Source.remaining c.args.input.now) c.stops.result (g.S.Source.faults c.args.input.now) (g.S.Source.faults c.next_line.new.input)
    (g.W.Sink.faults c.args.output.now) (g.W.Sink.faults c.stops.new.output) (g.W.Sink.written c.args.output.now) (g.W.Sink.written c.stops.new.output)
    (caused c.stops.result _ _ _ _ (asked ∙ c.lines.invariant.1) cause) (g.S.Source.remaining c.next_line.new.input) (returns-in-Some-TooLong-clause-promise g c) bytes is reads writes

pub turn-requires-clause-ready : goal.turn-requires-clause-ready
turn-requires-clause-ready g c = c.lines.invariant.0

-- a line that was given whole is short enough
pub turn-requires-clause-short : goal.turn-requires-clause-short
turn-requires-clause-short g c =
    let coming = to_come c.lines.reader (g.S.Source.remaining c.lines.input) in
    let after = to_come c.next_line.new.reader (g.S.Source.remaining c.next_line.new.input) in
    let given = gives_as c.in-Some-Line.field-0 (Line c.in-Some-Line.field-0-0) c.next_line.new.reader coming after c.in-Some-Line.field-0-is c.in-Some-Line.ensures.next.0 in
    subst (λ (l : List ℕ). length l ≤ most_bytes) (sym c.line-in-Some-Line.ensures) (let same = given.0 in let within = given.1 in omega (arith, same, within))

pub returns-in-Err-clause-promise : goal.returns-in-Err-clause-promise
returns-in-Err-clause-promise g c =
    let known = g.S.Source.remaining c.args.input.now in
    let coming = to_come c.lines.reader (g.S.Source.remaining c.lines.input) in
    let left = g.S.Source.remaining c.next_line.new.input in
    let after = to_come c.next_line.new.reader left in
    let old = g.W.Sink.written c.args.output.now in
    let now = g.W.Sink.written c.next_line.new.output in
    let p = progress_of c.lines.replay in
    let q = progress_of c.turn.new.self in
    let out = c.next_line.new.out.items in
    let line = c.next_line.new.reader.line in
    let given = gives_as c.in-Some-Line.field-0 (Line c.in-Some-Line.field-0-0) c.next_line.new.reader coming after c.in-Some-Line.field-0-is c.in-Some-Line.ensures.next.0 in
    follows_stop known coming after left c.lines.reader.ended c.next_line.new.reader.ended old now (g.W.Sink.written c.stops-in-Err.new.output) p q line out c.turn.new.out.items c.in-Err.stop c.turn.new.self.line c.stops-in-Err.result _ _
    (follows_flush known coming c.lines.reader.ended old (g.W.Sink.written c.lines.output) now p c.lines.out.items out c.in-Some-Line.field-0 c.lines.invariant.4 c.in-Some-Line.ensures.flushes.0)
    given.2
    (subst (λ (l : List ℕ). TurnAnswers (Err c.in-Err.stop) l p q out c.turn.new.out.items) c.line-in-Some-Line.ensures c.in-Err.ensures.turn)
    (c.in-Err.ensures.line ∙ sym (progress_line c.lines.replay.stage c.lines.replay.line))
    c.stops-in-Err.ensures.stops

pub returns-in-Err-clause-headline : goal.returns-in-Err-clause-headline
returns-in-Err-clause-headline g c =
    promised_apart (g.S.Source.remaining c.args.input.now) (g.S.Source.remaining c.next_line.new.input) c.stops-in-Err.result (g.W.Sink.written c.args.output.now) (g.W.Sink.written c.stops-in-Err.new.output)
    (returns-in-Err-clause-promise g c)

pub returns-in-Err-clause-complete : goal.returns-in-Err-clause-complete
returns-in-Err-clause-complete g c =
    let asked = cause_as c.in-Some-Line.field-0 (Line c.in-Some-Line.field-0-0) (g.S.Source.faults c.lines.input) (g.S.Source.faults c.next_line.new.input) c.in-Some-Line.field-0-is c.in-Some-Line.ensures.next.1 in
    let cause = subst (λ (n : ℕ). ReplayCause c.stops-in-Err.result 0 0 n (g.W.Sink.faults c.stops-in-Err.new.output)) (c.in-Some-Line.ensures.flushes.1 ∙ c.lines.invariant.2) c.stops-in-Err.ensures.cause in
    λ bytes is reads writes.
    completed (g.S.Source.remaining c.args.input.now) c.stops-in-Err.result (g.S.Source.faults c.args.input.now) (g.S.Source.faults c.next_line.new.input)
    (g.W.Sink.faults c.args.output.now) (g.W.Sink.faults c.stops-in-Err.new.output) (g.W.Sink.written c.args.output.now) (g.W.Sink.written c.stops-in-Err.new.output)
    (caused c.stops-in-Err.result _ _ _ _ (asked ∙ c.lines.invariant.1) cause) (g.S.Source.remaining c.next_line.new.input) (returns-in-Err-clause-promise g c) bytes is reads writes

pub lines-preserved : goal.lines-preserved
lines-preserved g c =
    let known = g.S.Source.remaining c.args.input.now in
    let before = g.S.Source.remaining c.lines.input in
    let left = g.S.Source.remaining c.next_line.new.input in
    let coming = to_come c.lines.reader before in
    let after = to_come c.next_line.new.reader left in
    let old = g.W.Sink.written c.args.output.now in
    let now = g.W.Sink.written c.next_line.new.output in
    let p = progress_of c.lines.replay in
    let q = progress_of c.turn.new.self in
    let out = c.next_line.new.out.items in
    let line = c.next_line.new.reader.line in
    let given = gives_as c.in-Some-Line.field-0 (Line c.in-Some-Line.field-0-0) c.next_line.new.reader coming after c.in-Some-Line.field-0-is c.in-Some-Line.ensures.next.0 in
    let asked = cause_as c.in-Some-Line.field-0 (Line c.in-Some-Line.field-0-0) (g.S.Source.faults c.lines.input) (g.S.Source.faults c.next_line.new.input) c.in-Some-Line.field-0-is c.in-Some-Line.ensures.next.1 in
    let turned = c.in_default.ensures.turn in (
      c.in_default.ensures.ready,
      asked ∙ c.lines.invariant.1,
      c.in-Some-Line.ensures.flushes.1 ∙ c.lines.invariant.2,
      at_source_end known before left c.lines.reader c.next_line.new.reader.ended old (g.W.Sink.written c.lines.output) p c.lines.out.items c.lines.invariant.4 c.lines.invariant.3 c.in-Some-Line.ensures.ended,
      follows_line known coming after c.lines.reader.ended c.next_line.new.reader.ended old now p q line out c.turn.new.out.items turned.0
          (follows_flush known coming c.lines.reader.ended old (g.W.Sink.written c.lines.output) now p c.lines.out.items out c.in-Some-Line.field-0 c.lines.invariant.4 c.in-Some-Line.ensures.flushes.0)
          c.in-Some-Line.ensures.stays given.2
          (subst (λ (l : List ℕ). Turns p l q turned.0) c.line-in-Some-Line.ensures turned.1)
          turned.2,
    )
