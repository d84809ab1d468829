use Rattle.std.proofs.Common.{◌↔◌, IsTrue, Contains, ap, ◌∙◌, subst}
use Rattle.ak_settings.specs.Settings.{SettingsModel}
use Rattle.ak_settings.proofs.settings.Settings.is_listed.Goals as goal

pub returns-clause-meaning : goal.returns-clause-meaning
returns-clause-meaning c =
    subst (λ listed. IsTrue c.contains_address.result ↔ Contains listed c.args.at.now) (c.deref.ensures.value ∙ ap (λ (s : SettingsModel). s.listed) c.self.view_is) c.contains_address.ensures.meaning
