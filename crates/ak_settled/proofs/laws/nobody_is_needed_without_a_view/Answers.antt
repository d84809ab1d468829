use Rattle.std.proofs.Common.{None, refl}
use Rattle.ak_address.proofs.TableLaws.{get-empty}
use Rattle.ak_settled.proofs.SettledLaws.{unknown}
use Rattle.ak_settled.proofs.laws.nobody_is_needed_without_a_view.Goals as goal

pub returns : goal.returns
returns c = λ margin who. let h = unknown margin None who (get-empty who) in (h.0, h.1, refl)
