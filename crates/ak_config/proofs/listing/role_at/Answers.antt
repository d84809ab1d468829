use Rattle.std.proofs.Common.{sym, subst}
use Rattle.std.specs.Prelude.{List, Some}
use Rattle.ak_address.specs.Unique.{AddressModel}
use Rattle.ak_config.specs.ConfigContracts.{MayStand}
use Rattle.ak_config.proofs.ListingLemmas.{may_all_stand}
use Rattle.ak_config.proofs.listing.role_at.Goals as goal

-- a copy of those that are listed is of those that are listed
pub returns-in_ok-copy_addresses-in-None-clause-among : goal.returns-in_ok-copy_addresses-in-None-clause-among
returns-in_ok-copy_addresses-in-None-clause-among c =
    let listed = c.args.listed.now in
    subst (λ (role : List AddressModel). MayStand (Some listed) role) (sym c.in_ok-copy_addresses-in-None.ensures) (may_all_stand listed)
