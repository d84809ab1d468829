use Rattle.std.proofs.Common.{List, ℕ, Err, subst}
use Rattle.ak_schedule.specs.Schedule.{SpellsEvent}
use Rattle.ak_schedule.specs.Reading.{Reads}
use Rattle.ak_options.proofs.RequestLemmas.{read_so, not_read, fails_so}
use Rattle.ak_options.proofs.request.read_request.Goals as goal

pub returns-in-Some-request_of : goal.returns-in-Some-request_of
returns-in-Some-request_of c =
    let spelt = subst (λ (l : List ℕ). SpellsEvent l c.in-Ok.event) c.as_slice.ensures.value c.in-Ok.ensures in
    read_so c.args.text.now c.in-Some.line.items c.in-Ok.event c.in-Some-request_of.request c.in-Some-request_of.ensures.0 c.in-Some.ensures spelt c.in-Some-request_of.ensures.1

pub returns-in-None : goal.returns-in-None
returns-in-None c =
    let spelt = subst (λ (l : List ℕ). SpellsEvent l c.in-Ok.event) c.as_slice.ensures.value c.in-Ok.ensures in
    not_read c.args.text.now c.in-Some.line.items c.in-Ok.event c.in-Some.ensures spelt c.in-None.ensures

pub returns-in-Err : goal.returns-in-Err
returns-in-Err c =
    let read = subst (λ (l : List ℕ). Reads (SpellsEvent l) (Err c.in-Err.fault)) c.as_slice.ensures.value c.in-Err.ensures in
    fails_so c.args.text.now c.in-Some.line.items c.in-Err.fault c.in-Some.ensures read
