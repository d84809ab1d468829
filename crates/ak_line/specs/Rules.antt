-- What a table learns from a report of one shard, as a function of the placement: the rule of a grant.
use Rattle.std.specs.Prelude.{ℕ, ◌==◌, max, ltb, ◌&&◌, ◌||◌, Bool, if◌then◌else◌, Option, Some, None}
use Rattle.std.specs.Ordering.{is_lt}
use Rattle.ak_address.specs.Unique.{unique_cmp}
use Rattle.ak_line.specs.Name.{Name}
use Rattle.ak_line.specs.Shards.{Mark, Home, Placement}

-- the reported number is greater than the home's, or equal and the reporter is the later process
abbrev pub beats : Name → ℕ → Home → Bool
beats z n h = ltb h.number n || (h.number == n && is_lt (unique_cmp h.node z))

-- the home after a report that the node hosts the shard
abbrev pub claimed : Bool → Name → ℕ → Option Home → Option Home
claimed asking z n None = Some (record { node = z; number = n })
claimed asking z n (Some h) = if asking && beats z n h then Some (record { node = z; number = n }) else Some h

-- the placement after a report
abbrev pub learnt : Bool → Name → Mark → Placement → Placement
learnt asking z m e = record { last = max e.last m.number; home = if m.hosts then claimed asking z m.number e.home else e.home }
