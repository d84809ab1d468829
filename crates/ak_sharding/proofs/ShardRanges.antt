-- All messages of shards, the homes that are asked for, and the table while the part in the singleton changes: the ranges are kept.
use Rattle.std.proofs.Common.{◌≡◌, ℕ, zero, suc, ◌+◌, ◌==◌, ◌<◌, ◌≤◌, Bool, true, false, List, [], ◌∷◌, length, map, replicate, Contains, Option, None, Some, is_some, refl, sym, ap, subst, arith, true≢false, if◌then◌else◌}
use Rattle.ak_address.specs.Unique.{UniqueModel, IsUnique}
use Rattle.ak_address.proofs.Elements.{contains_first, contains_rest, in_map}
use Rattle.ak_coordinator.specs.Table.{ShardTable}
use Rattle.ak_coordinator.specs.Entry.{unplaced}
use Rattle.ak_field.specs.Lists.{AllAfter, IsReport}
use Rattle.ak_field.specs.Ranges.{IsShard}
use Rattle.ak_promise.specs.Ballot.{BallotModel, IsBallot}
use Rattle.ak_region.specs.Shards.{ShardSlot}
use Rattle.ak_region.specs.Slot.{untold}
use Rattle.ak_region.specs.RegionModel.{RegionModel, Message}
use Rattle.ak_region.specs.Region.{entity_shard, wanted, report_of, reports_from, reports}
use Rattle.ak_region.proofs.WantedLaws.{wanted_is}
use Rattle.ak_settings.specs.Settings.{SettingsModel, division_of, number_of_shards}
use Rattle.ak_shard_id.specs.Division.{DivisionModel, many_shards}
use Rattle.ak_shard_id.proofs.DivisionLaws.{some_shards, shard_within}
use Rattle.ak_shard_id.specs.declared.report.Report.{Report}
use Rattle.ak_singleton.specs.declared.phase.Phase.{Phase}
use Rattle.ak_singleton.specs.declared.phase.Phase.TheVariants.{Younger, Asking, Active, Ended}
use Rattle.ak_singleton.specs.declared.phase.TickRule.{TickRule}
use Rattle.ak_singleton.specs.declared.phase.TickRule.TheVariants.{Rests, Opens, HandsOver, Closes, Asks}
use Rattle.ak_singleton.specs.Singleton.{is_asking}
use Rattle.ak_wire.specs.declared.envelope.Message as wire
use Rattle.ak_wire.specs.Datagram.{IsBody}
use Rattle.ak_sharding.specs.Sharding.{ShardingModel, Around, to_process, nothing_told, new_sharding}
use Rattle.ak_sharding.specs.Hosts.{asks_homes_of, asks_homes}
use Rattle.ak_sharding.specs.Coordinates.{begins_table, ends_table, tabled_by, begins_if, learns_if, ended_table}
use Rattle.ak_sharding.specs.Packets.{on_shard_message}
use Rattle.ak_sharding.specs.Ranges.{AllOf, IfThere, SlotInRange, RegionInRange, EntryInRange, TableInRange, ReportInRange, InRange, AroundInRange, IsSentWell, GoesWell}
use Rattle.ak_sharding.proofs.RangesKept.{all_both, sent_to, home_in, host_shard_in, begin_in, hand_off_in, offer_in}
use Rattle.ak_sharding.proofs.TableRanges.{unplaced_in, learnt_all_in, get_home_in, started_in, ack_in, stopped_in}

-- ---- reports
pub one_number : (n : ℕ) → (n == 0) ≡ false → 1 ≤ n
one_number zero is = absurd (true≢false is)
one_number (suc n) is = omega arith

reports_from_in : (shard : ℕ) (slots : List ShardSlot) → AllOf SlotInRange slots → AllOf ReportInRange (reports_from shard slots)
reports_from_in shard [] all = tt
reports_from_in shard (slot ∷ slots) all = all_both ReportInRange (report_of shard slot) (reports_from (shard + 1) slots) (by_mark (slot.mark == 0) refl) (reports_from_in (shard + 1) slots all.1)
  where
    by_mark : (b : Bool) → (slot.mark == 0) ≡ b → AllOf ReportInRange (if b then [] else record { shard = shard; number = slot.mark; hosted = is_some slot.hosted } ∷ [])
    by_mark true is = tt
    by_mark false is = (record { some = one_number slot.mark is; bounded = all.0.mark }, tt)

-- reports of a packet with a spelling
pub told_in : (last : Option Report) (told : List Report) → AllAfter IsReport last told → AllOf ReportInRange told
told_in last [] all = tt
told_in last (report ∷ told) all = (all.0.number, told_in (Some report) told all.1)

-- ---- each message
pub message_in : (around : Around) → AroundInRange around → (s : ShardingModel) → InRange s → (from : UniqueModel) → IsUnique from → (what : wire.Message) → IsBody what → GoesWell (on_shard_message around from what s)
message_in around a s k from is (wire.TheVariants.GetHome b shard) body = get_home_in around a s k from b shard is body.0
message_in around a s k from is (wire.TheVariants.Home b shard owner) body = home_in around a s k b shard owner body.1.1
message_in around a s k from is (wire.TheVariants.HostShard b shard number) body = host_shard_in around a s k from b shard number is body.0 body.1.1
message_in around a s k from is (wire.TheVariants.ShardStarted b shard number) body = started_in around a s k from b shard number
message_in around a s k from is (wire.TheVariants.BeginHandOff b shard number) body = begin_in around a s k from b shard number is body.0 body.1.1
message_in around a s k from is (wire.TheVariants.BeginHandOffAck b shard number) body = ack_in around a s k from b shard number body.0
message_in around a s k from is (wire.TheVariants.HandOff b shard number) body = hand_off_in around a s k from b shard number is body.0 body.1.1
message_in around a s k from is (wire.TheVariants.ShardStopped b shard number) body = stopped_in around a s k from b shard number body.0
message_in around a s k from is (wire.TheVariants.Forward entity payload) body = offer_in around a s k entity payload body.0 body.1
message_in around a s k from is (wire.TheVariants.Offer entity payload) body = offer_in around a s k entity payload body.0 body.1
message_in around a s k from is other body = (k, tt)

-- ---- the homes that are asked for
wanted_in : (region : RegionModel) → RegionInRange region → (shard : ℕ) → Contains (wanted region) shard → IsShard shard
wanted_in region r shard there =
    let m = in_map (λ (message : Message). entity_shard region message.entity) region.messages shard ((wanted_is region shard).0 there).0 in
    let below = shard_within region.division m.0.entity r.each in
    let all = r.all in
    let few = r.few in
    subst IsShard (sym m.2) (omega (arith, below, all, few))

pub asks_homes_in : (around : Around) → AroundInRange around → (s : ShardingModel) → InRange s → GoesWell (asks_homes around s)
asks_homes_in around a s k = (k, by_last around.singleton.promise.last a.last)
  where
    each : (b : BallotModel) → IsBallot b → (shards : List ℕ) → ((shard : ℕ) → Contains shards shard → IsShard shard) → AllOf IsSentWell (map (λ shard. to_process around.me b.unique (wire.TheVariants.GetHome b shard)) shards)
    each b is [] all = tt
    each b is (shard ∷ shards) all = (sent_to around.me b.unique (wire.TheVariants.GetHome b shard) a.me is.unique refl (is, all shard (contains_first shard shards)), each b is shards (λ x there. all x (contains_rest shard x shards there)))

    by_last : (o : Option BallotModel) → IfThere IsBallot o → AllOf IsSentWell (asks_homes_of o around s)
    by_last None l = tt
    by_last (Some b) l = each b l (wanted s.region) (wanted_in s.region k.region)

-- ---- the table while the part in the singleton changes
many_unplaced : (n : ℕ) → AllOf EntryInRange (replicate n unplaced) × (length (replicate n unplaced) ≡ n)
many_unplaced zero = (tt, refl)
many_unplaced (suc n) = let m = many_unplaced n in ((unplaced_in, m.0), ap suc m.1)

begins_in : (me : UniqueModel) → IsUnique me → (s : ShardingModel) → InRange s → InRange (begins_table me s)
begins_in me is s k =
    let m = many_unplaced (length s.region.slots) in
    record { region = k.region; table = learnt_all_in true me (reports s.region) (replicate (length s.region.slots) unplaced) is (reports_from_in 0 s.region.slots k.region.slots) (subst (λ n. n ≤ 1000) (sym m.1) k.region.few, m.0) }

ends_in : (s : ShardingModel) → InRange s → InRange (ends_table s)
ends_in s k = record { region = k.region; table = tt }

pub tabled_in : (r : TickRule) (me : UniqueModel) → IsUnique me → (s : ShardingModel) → InRange s → InRange (tabled_by r me s)
tabled_in Rests me is s k = k
tabled_in Opens me is s k = begins_in me is s k
tabled_in HandsOver me is s k = k
tabled_in Closes me is s k = ends_in s k
tabled_in Asks me is s k = k

pub begins_if_in : (outdone : Bool) (me : UniqueModel) → IsUnique me → (s : ShardingModel) → InRange s → InRange (begins_if outdone me s)
begins_if_in true me is s k = begins_in me is s k
begins_if_in false me is s k = k

pub learns_if_in : (first : Bool) (around : Around) (from : UniqueModel) (told : List Report) → IsUnique from → AllOf ReportInRange told → (s : ShardingModel) → InRange s → InRange (learns_if first around from told s)
learns_if_in true around from told is r s k = record { region = k.region; table = learns_table s.table k.table }
  where
    learns_table : (o : Option ShardTable) → IfThere TableInRange o → IfThere TableInRange (Rattle.ak_sharding.specs.Coordinates.learns_reports (is_asking around.singleton.phase) from told o)
    learns_table None t = tt
    learns_table (Some table) t = learnt_all_in (is_asking around.singleton.phase) from told table is r t
learns_if_in false around from told is r s k = k

pub ended_in : (ph : Phase) (s : ShardingModel) → InRange s → InRange (ended_table ph s)
ended_in Younger s k = k
ended_in Asking s k = ends_in s k
ended_in Active s k = ends_in s k
ended_in Ended s k = k

-- ---- a process starts
many_untold : (n : ℕ) → AllOf SlotInRange (replicate n untold) × (length (replicate n untold) ≡ n)
many_untold zero = (tt, refl)
many_untold (suc n) = let m = many_untold n in ((record { mark = omega arith; home = tt }, m.0), ap suc m.1)

pub told_nothing_in : (division : DivisionModel) (most : ℕ) → 1 ≤ division.each → many_shards division ≤ 1000 → InRange (nothing_told division most)
told_nothing_in division most some few =
    let m = many_untold (many_shards division) in
    record {
      region = record {
        each = some;
        all = m.1;
        some = subst (λ n. 1 ≤ n) (sym m.1) (some_shards division some);
        few = subst (λ n. n ≤ 1000) (sym m.1) few;
        slots = m.0;
        waiting = tt;
      };
      table = tt;
    }

pub new_in : (settings : SettingsModel) → 1 ≤ settings.shards → number_of_shards settings ≤ 1000 → InRange (new_sharding settings)
new_in settings some few = told_nothing_in (division_of settings) settings.buffer some few
