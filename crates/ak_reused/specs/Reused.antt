-- Packets that a node sends again and again, and lists that it answers again.
use Rattle.std.specs.Prelude.{◌≡◌, List, [], Option, Some}
use Rattle.ak_address.specs.Unique.{AddressModel, UniqueModel}
use Rattle.ak_wire.specs.declared.action.Action.{Action}
use Rattle.ak_wire.specs.declared.envelope.Envelope.{Envelope}
use Rattle.ak_wire.specs.declared.envelope.Message.TheVariants as message

-- what a process sends to an address to be let in
abbrev pub request : UniqueModel → AddressModel → Envelope
request from to = record { from = from; to = to; uid = 0; message = message.Join }

-- what a process sends to one that it watches
abbrev pub heartbeat : UniqueModel → UniqueModel → Envelope
heartbeat from to = record { from = from; to = to.address; uid = to.uid; message = message.Heartbeat }

-- the room of a list that was given back has no action in it
abbrev pub IsRoom : Option (List Action) → Type 0
IsRoom room = (list : List Action) → room ≡ Some list → list ≡ []
