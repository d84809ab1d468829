-- What nodes and coordinators know of shards: marks, tables, and what a table learns from a node's report.
use Rattle.std.specs.Prelude.{◌≡◌, ℕ, suc, ◌≤◌, ◌==◌, max, ltb, ◌&&◌, Bool, true, false, if◌then◌else◌, ◌⊎◌, Option, Some, None}
use Rattle.ak_line.specs.Name.{Name}

-- what a node knows of a shard: the greatest number that it was told, and whether it hosts the shard (then with that number)
pub record Mark : Type 0 where
  pub number : ℕ
  pub hosts : Bool

-- where a coordinator placed a shard, and with which number
pub record Home : Type 0 where
  pub node : Name
  pub number : ℕ

-- what a coordinator's table says of a shard: the greatest number of it, and its home
pub record Placement : Type 0 where
  pub last : ℕ
  pub home : Option Home

-- nothing was told of any shard
abbrev pub unmarked : ℕ → Mark
unmarked s = record { number = 0; hosts = false }

-- no shard has a number or a home
abbrev pub unplaced : ℕ → Placement
unplaced s = record { last = 0; home = None }

-- what stands under one number is replaced
abbrev pub put_at : {X : Type 0} → ℕ → X → (ℕ → X) → ℕ → X
put_at i x xs j = if j == i then x else xs j

-- a placement built from the asker's own mark
abbrev pub own_placement : Name → Mark → Placement
own_placement i m = record { last = m.number; home = if m.hosts then Some (record { node = i; number = m.number }) else None }

-- the shard goes to a node, with the next number
abbrev pub assigned : Name → Placement → Placement
assigned r e = record { last = suc e.last; home = Some (record { node = r; number = suc e.last }) }

-- the shard has no home; its number stays
abbrev pub freed : Placement → Placement
freed e = record e { home = None }

-- after a hand-off with a number: that number is marked, and a shard hosted with a greater one stays
abbrev pub yielded : ℕ → Mark → Mark
yielded n m = record { number = max m.number n; hosts = m.hosts && ltb n m.number }

-- what a placement becomes where a node's report of the shard is learnt: the last number covers the reported one; a node that hosts
-- the shard becomes its home where it had none, and while asking also where its number is not the lesser (of equal ones either stays)
pub record Learns (asks : Type 0) (z : Name) (m : Mark) (old new : Placement) : Type 0 where
  pub keeps : old.last ≤ new.last
  pub covers : m.number ≤ new.last
  pub home : ((new.home ≡ old.home) × (m.hosts ≡ true → (h : Home) × (old.home ≡ Some h) × (asks → m.number ≤ h.number)))
      ⊎ ((new.home ≡ Some (record { node = z; number = m.number })) × (m.hosts ≡ true) × ((h : Home) → old.home ≡ Some h → asks × (h.number ≤ m.number)))
