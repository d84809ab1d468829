use Rattle.std.proofs.Common.{◌-◌, ◌<◌, ◌^◌, arith}
use Rattle.std.specs.Int.{w64}
use Rattle.ak_promise.specs.Ballot.{IsBallot}
use Rattle.ak_field.specs.Reading.{wide_at}
use Rattle.ak_field.specs.Ranges.{IsProcess, IsEntity, IsHeader, IsShard}
use Rattle.ak_field.specs.Spelling.{eight_bytes, format, header, process, ballot, shard, flag, entity, version, reports}
use Rattle.ak_field.specs.Fields.{header_at, shard_at, flag_at, process_at, ballot_at, entity_at}
use Rattle.ak_field.specs.Lists.{version_at, reports_at, IsShort, AreReports}
use Rattle.ak_field.proofs.ListFields.{version_field, reports_field}
use Rattle.ak_field.specs.Parts.{parts_at, parts, AreSpelled}
use Rattle.ak_field.proofs.PartFields.{parts_field}
use Rattle.ak_field.proofs.Combined.{prefix_free}
use Rattle.ak_field.proofs.Small.{wide_field, wide64}
use Rattle.ak_field.proofs.Whole.{header_field, shard_field, flag_field, process_field, ballot_field, entity_field}
use Rattle.ak_field.proofs.laws.no_spelling_begins_another.Goals as goal

pub returns : goal.returns
returns c = record {
  headers = prefix_free header_at header IsHeader header_field;
  numbers = prefix_free (wide_at w64) eight_bytes (λ n. n < 2 ^ 64) (wide_field w64 (2 ^ 64) wide64);
  shards = prefix_free shard_at shard IsShard shard_field;
  flags = prefix_free flag_at flag (λ _. Unit {0}) flag_field;
  receivers = prefix_free (process_at 0 (2 ^ 64 - 1)) process (IsProcess 0 (2 ^ 64 - 1)) (process_field 0 (2 ^ 64 - 1) (omega arith));
  ballots = prefix_free ballot_at ballot IsBallot ballot_field;
  entities = prefix_free (entity_at format) entity IsEntity (entity_field format);
  versions = prefix_free version_at version IsShort version_field;
  reports = prefix_free reports_at reports AreReports reports_field;
  parts = prefix_free parts_at parts AreSpelled parts_field;
}
