use Rattle.std.proofs.Common.{refl}
use Rattle.ak_membership.proofs.RestLemmas.{closes_at_rest}
use Rattle.ak_membership.proofs.state.MembershipState.close_at_rest.Goals as goal

pub returns : goal.returns
returns c = closes_at_rest c.args.self.now c.begin_anew.new.self c.requires c.begin_anew.ensures _ refl
