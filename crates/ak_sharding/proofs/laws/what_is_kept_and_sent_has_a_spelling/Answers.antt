use Rattle.ak_sharding.proofs.RangesKept.{forgets_in}
use Rattle.ak_sharding.proofs.TableRanges.{coordinates_in}
use Rattle.ak_sharding.proofs.ShardRanges.{message_in, asks_homes_in, tabled_in, begins_if_in, learns_if_in}
use Rattle.ak_sharding.proofs.ReportRanges.{reports_spelled}
use Rattle.ak_sharding.proofs.laws.what_is_kept_and_sent_has_a_spelling.Goals as goal

pub returns-clause-message : goal.returns-clause-message
returns-clause-message c around s from what a k is body = message_in around a s k from is what body

pub returns-clause-coordinator : goal.returns-clause-coordinator
returns-clause-coordinator c around s a k = coordinates_in around a s k

pub returns-clause-asked : goal.returns-clause-asked
returns-clause-asked c around s a k = asks_homes_in around a s k

pub returns-clause-forgotten : goal.returns-clause-forgotten
returns-clause-forgotten c around s a k = forgets_in around a s k

pub returns-clause-ticked : goal.returns-clause-ticked
returns-clause-ticked c rule me s is k = tabled_in rule me is s k

pub returns-clause-outdone : goal.returns-clause-outdone
returns-clause-outdone c outdone me s is k = begins_if_in outdone me is s k

pub returns-clause-learnt : goal.returns-clause-learnt
returns-clause-learnt c first around from told s is r k = learns_if_in first around from told is r s k

pub returns-clause-reported : goal.returns-clause-reported
returns-clause-reported c s k = reports_spelled s.region k.region
