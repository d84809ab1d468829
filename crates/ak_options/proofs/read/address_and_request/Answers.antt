use Rattle.std.proofs.Common.{◌≡◌, Err, subst}
use Rattle.ak_address.specs.Unique.{AddressModel}
use Rattle.ak_address.specs.Spelling.{ReadsAs}
use Rattle.ak_address.specs.declared.parse.AddressFault.{AddressFault}
use Rattle.ak_address.specs.declared.parse.AddressFault.TheVariants.{BadHost, BadPort}
use Rattle.ak_options.proofs.read.address_and_request.Goals as goal

at_fault : (value : AddressModel) (fault known : AddressFault) → fault ≡ known → ReadsAs {T = AddressModel} (Err fault) value → ReadsAs {T = AddressModel} (Err known) value
at_fault value fault known is read = subst (λ (f : AddressFault). ReadsAs {T = AddressModel} (Err f) value) is read

pub returns-in-Err-BadHost : goal.returns-in-Err-BadHost
returns-in-Err-BadHost c = λ request _. at_fault c.requires.0 c.in-Err-BadHost.field-0 BadHost c.in-Err-BadHost.field-0-is (c.in-Err-BadHost.ensures.only c.requires.0 c.requires.1)

pub returns-in-Err-BadPort : goal.returns-in-Err-BadPort
returns-in-Err-BadPort c = λ request _. at_fault c.requires.0 c.in-Err-BadPort.field-0 BadPort c.in-Err-BadPort.field-0-is (c.in-Err-BadPort.ensures.only c.requires.0 c.requires.1)
