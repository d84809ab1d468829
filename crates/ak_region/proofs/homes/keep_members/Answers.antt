use Rattle.std.proofs.Common.{rules}
use Rattle.std.proofs.lemmas.Fn.{filter_same}
use Rattle.ak_member.specs.Standing.{is_member}
use Rattle.ak_region.proofs.homes.keep_members.Goals as goal

pub returns : goal.returns
returns c = filter_same _ (is_member c.args.members.now) _ (λ x b f t. search rules) _ _ c.retain.ensures.filtered
