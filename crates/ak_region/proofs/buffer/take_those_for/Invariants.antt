use Rattle.std.proofs.Common.{◌≡◌, ◌≤◌, ◌++◌, length, take, drop}
use Rattle.ak_region.specs.Region.{those_for, others_than_for}
use Rattle.ak_region.proofs.buffer.take_those_for.Given as goal

-- each message before the turn is gone or stands at the end
abbrev pub invariant-turns : goal.invariant-turns
invariant-turns l = record {
  gone : l.gone.items ≡ those_for l.division l.shard (take l._turn l.initial.buffer.items);
  left : l.buffer.items ≡ drop l._turn l.initial.buffer.items ++ others_than_for l.division l.shard (take l._turn l.initial.buffer.items);
  shorter : length l.buffer.items ≤ length l.initial.buffer.items;
  within : length l.buffer.items ≤ l.buffer.capacity;
}
