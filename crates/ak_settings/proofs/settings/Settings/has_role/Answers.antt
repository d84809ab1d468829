use Rattle.std.proofs.Common.{◌↔◌, IsTrue, Contains, ap, ◌∙◌, subst}
use Rattle.ak_settings.specs.Settings.{SettingsModel}
use Rattle.ak_settings.proofs.settings.Settings.has_role.Goals as goal

pub returns-clause-meaning : goal.returns-clause-meaning
returns-clause-meaning c =
    subst (λ role. IsTrue c.contains_address.result ↔ Contains role c.args.at.now) (c.deref.ensures.value ∙ ap (λ (s : SettingsModel). s.role) c.self.view_is) c.contains_address.ensures.meaning
