use Rattle.std.proofs.Common.{◌≡◌, [], sym, subst}
use Rattle.ak_settings.specs.Settings.{IsSettings}
use Rattle.ak_generate.specs.Fixed.{addresses, fixed}
use Rattle.ak_generate.proofs.GenerateLemmas.{fixed_are_settings}
use Rattle.ak_generate.proofs.settings.fixed_settings.Goals as goal

pub invariant_of-result : goal.invariant_of-result
invariant_of-result c =
    let first : c.in_ok-listed.listed.items ≡ addresses = c.in_ok-listed.ensures {u = tt} in
    let second : c.in_ok-role.role.items ≡ addresses = c.in_ok-role.ensures {u = tt} in
    let third : c.new.result.items ≡ [] = c.new.ensures.items in
    subst (λ types. IsSettings (record fixed { listed = c.in_ok-listed.listed.items; role = c.in_ok-role.role.items; types = types })) (sym third)
    (subst (λ role. IsSettings (record fixed { listed = c.in_ok-listed.listed.items; role = role })) (sym second)
    (subst (λ listed. IsSettings (record fixed { listed = listed })) (sym first) fixed_are_settings))
