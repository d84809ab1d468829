use Rattle.ak_field.proofs.Whole.{header_field, length_field, number_field, shard_field, flag_field, process_field, unique_field, ballot_field, entity_field}
use Rattle.ak_field.proofs.ListFields.{version_field, reports_field}
use Rattle.ak_field.proofs.PartFields.{parts_field}
use Rattle.ak_field.proofs.laws.fields_are_their_spellings.Goals as goal

pub returns : goal.returns
returns c = record {
  headers = header_field;
  lengths = length_field;
  numbers = number_field;
  shards = shard_field;
  flags = flag_field;
  receivers = process_field;
  uniques = unique_field;
  ballots = ballot_field;
  entities = entity_field;
  versions = version_field;
  reports = reports_field;
  parts = parts_field;
}
