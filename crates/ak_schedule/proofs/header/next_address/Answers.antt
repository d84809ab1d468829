use Rattle.ak_address.specs.Spelling.{SpellsAddress}
use Rattle.ak_schedule.specs.Draft.{SpellsNext}
use Rattle.ak_schedule.proofs.Listing.{value_refused, not_twice}
use Rattle.ak_schedule.proofs.header.next_address.Goals as goal

pub returns-in-Err : goal.returns-in-Err
returns-in-Err c =
    value_refused (SpellsAddress c.args.name.now) (SpellsNext c.args.name.now c.args.listed.now) c.in-Err.fault c.in-Err.ensures (λ a next. (a, next.0))

pub returns-then-contains_address : goal.returns-then-contains_address
returns-then-contains_address c =
    not_twice c.args.name.now c.args.listed.now c.in-Ok.address c.in-Ok.ensures (c.contains_address.ensures.meaning.0 c.if-contains_address.true)
