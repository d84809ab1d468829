use Rattle.std.proofs.Common.{ap, ◌∙◌}
use Rattle.std.specs.FinMap as map
use Rattle.ak_field.specs.Reading.{last_of}
use Rattle.ak_field.proofs.Versions.{counted_read, reached_last}
use Rattle.ak_field.proofs.fields.Fields.add_count.Goals as goal

pub returns : goal.returns
returns c =
    let v = c.args.version.now in
    let n = c.in_ok-count.count in
    let who = c.in_ok-who.who in
    let read = rw c.last_counted.ensures at c.in_ok-who.ensures.read in
    let above = rw c.last_counted.ensures at c.in_ok-who.ensures.above in
    ((who, n), counted_read (last_of (map.entries v)) c.args.self.now c.next_unique.new.self c.number.new.self who n read c.in_ok-count.ensures.read, ap map.entries c.in_ok-reach.ensures.ok ∙ reached_last v who n above c.in_ok-count.ensures.range.0)
