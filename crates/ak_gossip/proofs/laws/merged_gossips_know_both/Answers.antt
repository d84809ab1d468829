use Rattle.ak_address.proofs.TableLaws.{get-merged_tables}
use Rattle.ak_clock.proofs.VersionLaws.{count-merged}
use Rattle.ak_member.specs.Standing.{merged_standing}
use Rattle.ak_member.specs.View.{later_row}
use Rattle.ak_gossip.proofs.laws.merged_gossips_know_both.Goals as goal

pub returns : goal.returns
returns c = record {
  standing = λ own incoming who. get-merged_tables merged_standing own.view.standings incoming.view.standings who;
  row = λ own incoming observer. get-merged_tables later_row own.view.rows incoming.view.rows observer;
  count = λ own incoming author. count-merged own.version incoming.version author;
}
