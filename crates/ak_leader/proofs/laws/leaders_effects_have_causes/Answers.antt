use Rattle.ak_leader.proofs.LedLaws.{led_from, led_members, led_up, led_leaving, led_confirmed, led_unconfirmed, led_leader}
use Rattle.ak_leader.proofs.laws.leaders_effects_have_causes.Goals as goal

pub returns : goal.returns
returns c = record { caused = led_from; about_members = led_members; made_up_was_waiting = led_up; nobody_made_leaving = led_leaving; removed_confirmed = led_confirmed; removed_unconfirmed = led_unconfirmed; leader_only_exits = led_leader }
