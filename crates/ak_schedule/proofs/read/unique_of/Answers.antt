use Rattle.std.proofs.Common.{◌≡◌, Err, subst}
use Rattle.ak_address.specs.Unique.{UniqueModel}
use Rattle.ak_address.specs.Spelling.{ReadsAs}
use Rattle.ak_address.specs.declared.parse.AddressFault.{AddressFault}
use Rattle.ak_address.specs.declared.parse.AddressFault.TheVariants.{BadHost, BadPort, BadUid}
use Rattle.ak_schedule.proofs.read.unique_of.Goals as goal

at_fault : (value : UniqueModel) (fault known : AddressFault) → fault ≡ known → ReadsAs {T = UniqueModel} (Err fault) value → ReadsAs {T = UniqueModel} (Err known) value
at_fault value fault known is read = subst (λ (f : AddressFault). ReadsAs {T = UniqueModel} (Err f) value) is read

pub returns-in-Err-BadHost : goal.returns-in-Err-BadHost
returns-in-Err-BadHost c = λ value spelt. at_fault value c.in-Err-BadHost.field-0 BadHost c.in-Err-BadHost.field-0-is (c.in-Err-BadHost.ensures.only value spelt)

pub returns-in-Err-BadPort : goal.returns-in-Err-BadPort
returns-in-Err-BadPort c = λ value spelt. at_fault value c.in-Err-BadPort.field-0 BadPort c.in-Err-BadPort.field-0-is (c.in-Err-BadPort.ensures.only value spelt)

pub returns-in-Err-BadUid : goal.returns-in-Err-BadUid
returns-in-Err-BadUid c = λ value spelt. at_fault value c.in-Err-BadUid.field-0 BadUid c.in-Err-BadUid.field-0-is (c.in-Err-BadUid.ensures.only value spelt)
