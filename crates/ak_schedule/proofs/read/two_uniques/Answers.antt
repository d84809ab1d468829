use Rattle.std.proofs.Common.{refl}
use Rattle.ak_schedule.specs.Line.{words}
use Rattle.ak_schedule.specs.Reading.{SpellsTwo}
use Rattle.ak_address.specs.Spelling.{SpellsUnique}
use Rattle.ak_schedule.proofs.EventWords.{refused, two_at}
use Rattle.ak_schedule.proofs.read.two_uniques.Goals as goal

pub returns-in-Err : goal.returns-in-Err
returns-in-Err c =
    let ws = words c.args.rest.now in
    refused (SpellsUnique c.in-Some.one.now) (SpellsTwo ws) c.in-Err.fault c.in-Err.ensures
    (λ pair whole. (pair.0, (two_at ws c.in-Some.one.now c.in-Some.other.now c.in-Some.ensures pair whole).0))
    (λ u spelt. let other = c.if-not-is_unique.ensures.0 refl in ((u, other.0), (c.in-Some.one.now, c.in-Some.other.now, c.in-Some.ensures, spelt, other.1)))

pub returns-in-Err-unique_of : goal.returns-in-Err-unique_of
returns-in-Err-unique_of c =
    let ws = words c.args.rest.now in
    refused (SpellsUnique c.in-Some.other.now) (SpellsTwo ws) c.in-Err-unique_of.fault c.in-Err-unique_of.ensures
    (λ pair whole. (pair.1, (two_at ws c.in-Some.one.now c.in-Some.other.now c.in-Some.ensures pair whole).1))
    (λ u spelt. ((c.in-Ok.one, u), (c.in-Some.one.now, c.in-Some.other.now, c.in-Some.ensures, c.in-Ok.ensures, spelt)))
