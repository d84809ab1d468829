-- How the run in which a shard moves is evaluated: the words in which regions and tables are written out, and one part of a tick.
use Rattle.std.proofs.Common.{◌≡◌, ℕ, Bool, true, false, not, cond, if◌then◌else◌, List, [], ◌∷◌, ◌++◌, Option, None, Some, is_some, refl, sym, ap, ◌∙◌}
use Rattle.std.specs.FinMap as finmap
use Rattle.std.specs.Ordering.{eq_by_cmp}
use Rattle.ak_address.specs.Unique.{UniqueModel, unique_cmp}
use Rattle.ak_address.specs.Uniques.{no_one}
use Rattle.ak_coordinator.specs.Table.{ShardEntry}
use Rattle.ak_coordinator.specs.declared.entry.Stage.{Stage}
use Rattle.ak_coordinator.specs.declared.entry.Stage.TheVariants.{Still}
use Rattle.ak_member.specs.Standing.{is_exiting, is_member_with}
use Rattle.ak_node.specs.declared.node.State.{State}
use Rattle.ak_node.specs.Node.{Outcome, known, me_of, status_of, is_member, is_gone, nothing, and_then, shards_do, on_shards, asks_as, gossips, rest, ends_phase, leaves as leaves_now, goes_on}
use Rattle.ak_region.specs.RegionModel.{Message}
use Rattle.ak_region.specs.Shards.{ShardSlot}
use Rattle.ak_sharding.specs.Coordinates as coordinates
use Rattle.ak_sharding.specs.Hosts as hosts
use Rattle.ak_sharding.specs.Packets as packets
use Rattle.ak_sharding.specs.Sharding.{delivery}
use Rattle.ak_sharding.proofs.NewEntities.{none_active}
use Rattle.ak_wire.specs.declared.action.Action.{Action}
use Rattle.ak_wire.specs.declared.action.Action.TheVariants.{Entity, Deliver}
use Rattle.ak_wire.specs.declared.envelope.Message as wire
use Rattle.ak_entity.specs.Active.{ActiveEntity, entity_cmp}
use Rattle.ak_address.proofs.OrderLemmas.{unique_total, unique_exact}
use Rattle.ak_world.proofs.ListedTables.{listed, table, set, is_ordered, kept, retain_listed}

-- what a region knows of a shard, and a message that waits
abbrev pub slot : Option ℕ → ℕ → Bool → Option UniqueModel → ShardSlot
slot hosted mark held home = record { hosted = hosted; mark = mark; held = held; home = home }

abbrev pub message_for : List ℕ → ℕ → Message
message_for entity payload = record { entity = entity; payload = payload }

-- what a coordinator knows of a shard that it has placed with a number, and of one that moves away, for which some are waited for
abbrev pub placed : ℕ → UniqueModel → ShardEntry
placed number who = record { last = number; home = Some (record { owner = who; number = number }); started = false; stage = Still; waits = no_one }

abbrev pub leaves : ℕ → UniqueModel → Stage → List UniqueModel → ShardEntry
leaves number who stage waits = record { last = number; home = Some (record { owner = who; number = number }); started = false; stage = stage; waits = set waits }

-- ---- what calls of tables give: one process less; and of entities, that nothing is known where none was active
abbrev pub is_other : UniqueModel → UniqueModel → Bool
is_other who other = not (eq_by_cmp unique_cmp other who)

module _ {X : Type 0} where
  pub remove_listed : (es : List (UniqueModel × X)) (who : UniqueModel) → is_ordered es ≡ true → is_ordered (kept (is_other who) es) ≡ true → finmap.remove (table es) who ≡ table (kept (is_other who) es)
  remove_listed es who ordered ordered_then =
      finmap.same_map unique_total unique_exact (finmap.remove (table es) who) (finmap.retain_keys (table es) (is_other who))
      (λ q. finmap.get-remove unique_total (table es) who q
      ∙ turned (eq_by_cmp unique_cmp q who) (finmap.get (table es) q)
      ∙ sym (finmap.get-retain_keys (table es) (is_other who) q (λ x tied. ap (is_other who) (sym (unique_exact q x tied)))))
      ∙ retain_listed es (is_other who) ordered ordered_then
    where
      turned : (b : Bool) (o : Option X) → cond b None o ≡ cond (not b) o None
      turned true o = refl
      turned false o = refl

pub ruleset shared = (listed, remove_listed, none_active)

-- ---- a message of shards comes to a member, and with it a message that waited starts the first entity there
pub in_starting : (from : UniqueModel) (what : wire.Message) (n last : State) (first later : List Action) (entity : List ℕ) (payload : ℕ) → is_member n ≡ true
    → shards_do (λ a s. packets.on_shard_message a from what s) n ≡ (last, first ++ ((delivery (is_some (finmap.get (finmap.empty {X = ActiveEntity} {R = entity_cmp}) entity)) entity payload ++ []) ++ later))
    → on_shards from what n ≡ (last, first ++ (Entity entity ∷ Deliver entity payload ∷ later))
in_starting from what n last first later entity payload member starting =
    ap (λ b. if b then shards_do (λ a s. packets.on_shard_message a from what s) n else nothing n) member
    ∙ starting
    ∙ ap (λ (o : Option ActiveEntity). (last, first ++ ((delivery (is_some o) entity payload ++ []) ++ later))) (none_active entity)

-- ---- a tick
-- of what a node does in a tick that stays: its part for the singleton, as the coordinator, for whom messages wait, and a gossip
pub in_coordinating : (word : ℕ) (n m c : State) (asked ordered homes gossiped : List Action) → is_gone n ≡ false → is_member_with is_exiting (known n).view.standings (me_of n) ≡ false
    → asks_as (status_of n) n ≡ (m, asked) → shards_do coordinates.coordinates m ≡ (c, ordered) → shards_do hosts.asks_homes c ≡ (c, homes) → gossips word c ≡ (c, gossiped)
    → goes_on word n ≡ (c, ((asked ++ ordered) ++ homes) ++ gossiped)
in_coordinating word n m c asked ordered homes gossiped gone staying asking coordinating asking_homes gossiping =
    ap (λ b. if b then nothing n else (if is_member_with is_exiting (known n).view.standings (me_of n) then and_then (leaves_now word) (ends_phase n) else rest word n)) gone
    ∙ ap (λ b. if b then and_then (leaves_now word) (ends_phase n) else rest word n) staying
    ∙ ap (λ (o : Outcome). and_then (gossips word) (and_then (shards_do hosts.asks_homes) (and_then (shards_do coordinates.coordinates) o))) asking
    ∙ ap (λ (o : Outcome). and_then (gossips word) (and_then (shards_do hosts.asks_homes) (o.0, asked ++ o.1))) coordinating
    ∙ ap (λ (o : Outcome). and_then (gossips word) (o.0, (asked ++ ordered) ++ o.1)) asking_homes
    ∙ ap (λ (o : Outcome). (o.0, ((asked ++ ordered) ++ homes) ++ o.1)) gossiping
