-- A step of a node in its parts, each of which is evaluated by itself.
use Rattle.std.proofs.Common.{◌≡◌, ℕ, ◌+◌, true, false, if◌then◌else◌, List, [], ◌∷◌, ◌++◌, ap, ◌∙◌}
use Rattle.ak_membership.specs.declared.change.Change.{Change}
use Rattle.ak_membership.specs.declared.state.MembershipState.{MembershipState}
use Rattle.ak_membership.specs.Tick as ticks
use Rattle.ak_wire.specs.declared.action.Action.{Action}
use Rattle.ak_wire.specs.declared.action.Action as action
use Rattle.ak_node.specs.declared.node.State.{State}
use Rattle.ak_node.specs.declared.node.NodeEvent.{NodeEvent}
use Rattle.ak_node.specs.declared.node.NodeEvent as event
use Rattle.ak_member.specs.Standing.{is_exiting, is_member_with}
use Rattle.ak_sharding.specs.Coordinates as coordinates
use Rattle.ak_sharding.specs.Hosts as hosts
use Rattle.ak_node.specs.Node.{Outcome, known, me_of, status_of, is_member, is_gone, nothing, and_then, shards_do, ends, beats, update_by, ticked, asks_at, asks_as, gossips, rest, ends_phase, may_leave, exits, leaves, goes_on, rule, closes, forgets, activates, concludes, is_dead, running_step, step}

-- the rule of an event, the closing, the homes that are forgotten, and whether the node becomes active
pub in_stages : (e : NodeEvent) (n ruled closed last : State) (first second third : List Action) → n.runs ≡ true → is_dead (me_of n) e ≡ false
    → rule e (record n { steps = n.steps + 1 }) ≡ (ruled, first) → closes ruled ≡ (closed, second) → forgets closed ≡ closed → activates closed ≡ (last, third)
    → step e n ≡ (last, first ++ (second ++ third))
in_stages e n ruled closed last first second third running alive rules closing forgetting activating =
    let counted : State = record n { steps = n.steps + 1 } in
    ap (λ b. if b then running_step e counted else nothing n) running
    ∙ ap (λ b. if b then (counted, action.TheVariants.Dead ∷ []) else and_then concludes (rule e counted)) alive
    ∙ ap (and_then concludes) rules
    ∙ ap (λ (o : Outcome). (o.0, first ++ o.1)) (ap (λ (o : Outcome). and_then activates (forgets o.0, o.1)) closing ∙ ap (λ (s : State). and_then activates (s, second)) forgetting ∙ ap (λ (o : Outcome). (o.0, second ++ o.1)) activating)

-- of a tick: what the membership makes of it, whom heartbeats are sent, and what the node does then
pub in_ticks : (word : ℕ) (n last : State) (m : MembershipState) (change : Change) (heartbeats then_does : List Action) → is_member n ≡ true
    → ticks.tick n.membership ≡ (m, change) → beats (record n { membership = m }) ≡ heartbeats → goes_on word (record n { membership = m }) ≡ (last, then_does)
    → rule (event.TheVariants.Tick word) n ≡ (last, ((ends (record n { membership = m }) ++ heartbeats) ++ update_by change.number change.effects) ++ then_does)
in_ticks word n last m change heartbeats then_does member ticking beating going =
    let after : State = record n { membership = m } in
    ap (λ b. if b then and_then (goes_on word) (ticked n (ticks.tick n.membership)) else asks_at n.membership.target n) member
    ∙ ap (λ o. and_then (goes_on word) (ticked n o)) ticking
    ∙ ap (λ beaten. and_then (goes_on word) (after, ends after ++ beaten ++ update_by change.number change.effects)) beating
    ∙ ap (λ (o : Outcome). (o.0, ((ends after ++ heartbeats) ++ update_by change.number change.effects) ++ o.1)) going

-- of what a node does then that stays and for whose messages no home is asked: its part for the singleton, as the coordinator, and a
-- gossip
pub in_going : (word : ℕ) (n m : State) (asked gossiped : List Action) → is_gone n ≡ false → is_member_with is_exiting (known n).view.standings (me_of n) ≡ false
    → asks_as (status_of n) n ≡ (m, asked) → shards_do coordinates.coordinates m ≡ (m, []) → shards_do hosts.asks_homes m ≡ (m, []) → gossips word m ≡ (m, gossiped)
    → goes_on word n ≡ (m, ((asked ++ []) ++ []) ++ gossiped)
in_going word n m asked gossiped gone staying asking coordinating homes gossiping =
    ap (λ b. if b then nothing n else (if is_member_with is_exiting (known n).view.standings (me_of n) then and_then (leaves word) (ends_phase n) else rest word n)) gone
    ∙ ap (λ b. if b then and_then (leaves word) (ends_phase n) else rest word n) staying
    ∙ ap (λ (o : Outcome). and_then (gossips word) (and_then (shards_do hosts.asks_homes) (and_then (shards_do coordinates.coordinates) o))) asking
    ∙ ap (λ (o : Outcome). and_then (gossips word) (and_then (shards_do hosts.asks_homes) (o.0, asked ++ o.1))) coordinating
    ∙ ap (λ (o : Outcome). and_then (gossips word) (o.0, (asked ++ []) ++ o.1)) homes
    ∙ ap (λ (o : Outcome). (o.0, ((asked ++ []) ++ []) ++ o.1)) gossiping

-- of what a node does then that exits and hosts nothing: the end of its phase, and to whom it says that it stops
pub in_leaving : (word : ℕ) (n m last : State) (ended told : List Action) → is_gone n ≡ false → is_member_with is_exiting (known n).view.standings (me_of n) ≡ true
    → ends_phase n ≡ (m, ended) → may_leave m ≡ true → exits m ≡ (last, told) → goes_on word n ≡ (last, ended ++ told)
in_leaving word n m last ended told gone exiting ending may leaving =
    ap (λ b. if b then nothing n else (if is_member_with is_exiting (known n).view.standings (me_of n) then and_then (leaves word) (ends_phase n) else rest word n)) gone
    ∙ ap (λ b. if b then and_then (leaves word) (ends_phase n) else rest word n) exiting
    ∙ ap (and_then (leaves word)) ending
    ∙ ap (λ b. let o = if b then exits m else rest word m in (o.0, ended ++ o.1)) may
    ∙ ap (λ (o : Outcome). (o.0, ended ++ o.1)) leaving
