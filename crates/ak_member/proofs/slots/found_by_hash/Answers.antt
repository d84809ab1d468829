use Rattle.std.proofs.Common.{option_map, ap, ◌∙◌}
use Rattle.ak_address.specs.Unique.{UniqueModel}
use Rattle.ak_member.specs.declared.standing.Standing.{Standing}
use Rattle.ak_member.proofs.SlotLemmas.{found_in, key_found, pair_found}
use Rattle.ak_member.proofs.slots.found_by_hash.Goals as goal

pub returns : goal.returns
returns c =
    let who = c.args.who.now in
    let slots = c.args.slots.now.entries in
    pair_found c.get_key_value.result (λ p. p.0.now) (λ p. p.1.now) who _ (c.get_key_value.ensures.key ∙ key_found who slots) c.get_key_value.ensures.value
    ∙ ap (option_map {U = UniqueModel × Standing} (λ (x : Standing). (who, x))) (found_in who slots)
