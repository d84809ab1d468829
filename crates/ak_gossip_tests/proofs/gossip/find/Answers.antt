use Rattle.std.proofs.Common.{◌≡◌, ℕ, true, [], ◌∷◌, ◌++◌, Option, None, Some, is_some, option_map, refl, ap, ◌∙◌, arith}
use Rattle.ak_address.specs.Unique.{UniqueModel}
use Rattle.ak_address.specs.Uniques.{with_one}
use Rattle.std.specs.FinMap as map
use Rattle.ak_clock.specs.Version.{count}
use Rattle.ak_member.specs.declared.effect.Effect.TheVariants.{Observed}
use Rattle.ak_member.specs.declared.status.Status.{Status}
use Rattle.ak_member.specs.Standing.{member_of}
use Rattle.ak_gossip.proofs.MayUpdates.{found_may, found_there}
use Rattle.ak_gossip_tests.proofs.gossip.find.Goals as goal

abbrev named : UniqueModel → Option (Status × ℕ) → Option (UniqueModel × (Status × ℕ))
named who o = option_map {U = UniqueModel × (Status × ℕ)} (λ (m : Status × ℕ). (who, m)) o

-- a member that is named is there
named_there : (who : UniqueModel) (o : Option (Status × ℕ)) → is_some (named who o) ≡ true → is_some o ≡ true
named_there who None is = is
named_there who (Some m) is = refl

pub update-requires : goal.update-requires
update-requires c =
    let counted : c.count.result ≡ count c.args.gossip.now.version c.args.author.now = c.count.ensures.value ∙ ap (λ v. count v c.args.author.now) c.version.ensures in
    found_may c.args.author.now c.args.who.now c.insert.new.self c.push.new.self c.args.gossip.now
    (c.in_ok-push.ensures.ok ∙ ap (λ l. l ++ Observed c.insert.new.self ∷ []) c.empty-effects.ensures)
    (c.in_ok-insert.ensures.ok ∙ ap (λ s. with_one s c.args.who.now) c.empty-subjects.ensures)
    c.invariant.ensures (omega (arith, counted, c.if-count-lt-BOUND.true))
    (named_there c.args.author.now _ (found_there _ c.get.result _ (c.get.ensures ∙ ap (λ s. named c.args.author.now (member_of (map.get s c.args.author.now))) c.members.ensures) c.if-is_none.ensures))
    (named_there c.args.who.now _ (found_there _ c.get-else-is_none.result _ (c.get-else-is_none.ensures ∙ ap (λ s. named c.args.who.now (member_of (map.get s c.args.who.now))) c.members-else-is_none.ensures) c.if-is_none-2.ensures))
