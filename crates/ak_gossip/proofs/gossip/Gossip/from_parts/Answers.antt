use Rattle.std.proofs.Common.{◌≡◌, sym, ap, ◌∙◌, subst}
use Rattle.ak_gossip.specs.Gossip.{GossipState, IsGossip}
use Rattle.ak_gossip.specs.Parts.{parts_of}
use Rattle.ak_gossip.proofs.PartsBack.{made_of, made_is_gossip, parts_back}
use Rattle.ak_gossip.proofs.PartsLaws.{one_gossip}
use Rattle.ak_gossip.proofs.gossip.Gossip.from_parts.Goals as goal

pub invariant_of-result : goal.invariant_of-result
invariant_of-result c =
    let is : c.in_ok-known.known ≡ made_of c.args.parts.now =
    c.in_ok-known.ensures
    ∙ (λ i. record { version = c.in_ok-version.ensures i; view = record { standings = c.in_ok-members.ensures i; rows = c.in_ok-rows.ensures i }; seen = c.in_ok-seen.ensures i }) in
    subst IsGossip (sym is) (made_is_gossip c.args.parts.now c.requires)

pub returns : goal.returns
returns c =
    let made : GossipState = c.in_ok-known.known in
    let is : made ≡ made_of c.args.parts.now =
    c.in_ok-known.ensures
    ∙ (λ i. record { version = c.in_ok-version.ensures i; view = record { standings = c.in_ok-members.ensures i; rows = c.in_ok-rows.ensures i }; seen = c.in_ok-seen.ensures i }) in
    let parts : parts_of made ≡ c.args.parts.now = ap parts_of is ∙ parts_back c.args.parts.now c.requires in
    record {
      parts = parts;
      back = λ g p same. one_gossip made g (subst IsGossip (sym is) (made_is_gossip c.args.parts.now c.requires)) p (parts ∙ sym same);
    }
