use Rattle.ak_schedule.proofs.HeaderRuns.{read_spells, spelled_read}
use Rattle.ak_schedule.proofs.laws.headers_spell_settings.Goals as goal

pub returns : goal.returns
returns c = record { read = read_spells; back = spelled_read }
