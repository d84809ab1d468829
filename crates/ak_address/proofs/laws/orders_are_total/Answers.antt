use Rattle.ak_address.proofs.OrderLemmas.{address_total, address_exact, unique_total, unique_exact}
use Rattle.ak_address.proofs.laws.orders_are_total.Goals as goal

pub returns : goal.returns
returns c = record { addresses = (address_total, address_exact); uniques = (unique_total, unique_exact) }
