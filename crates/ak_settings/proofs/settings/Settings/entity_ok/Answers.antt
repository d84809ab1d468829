use Rattle.std.proofs.Common.{ap, ◌∙◌}
use Rattle.ak_shard_id.specs.Division.{entity_ok}
use Rattle.ak_settings.specs.Settings.{SettingsModel}
use Rattle.ak_settings.proofs.settings.Settings.entity_ok.Goals as goal

pub returns : goal.returns
returns c =
    let each = c.args.self.now.shards in
    c.entity_ok.ensures each ∙ ap (λ types. entity_ok (record { types = types; each = each }) c.args.entity.now) (c.deref.ensures.value ∙ ap (λ (s : SettingsModel). s.types) c.self.view_is)
