-- The events that are kept, with the places of what they name.
use Rattle.std.specs.Prelude.{◌≡◌, ℕ, List, [], ◌∷◌, ◌++◌, slice_get, Option, None, Some, option_to_list}
use Rattle.std.specs.Option.{option_map}
use Rattle.std.specs.List.{AllByRecursion}
use Rattle.ak_address.specs.Unique.{AddressModel, UniqueModel}
use Rattle.ak_schedule.specs.declared.event.Event.{Event}
use Rattle.ak_schedule.specs.declared.event.Event.TheVariants as event
use Rattle.ak_accepted.specs.declared.accepted.Form.{Form}
use Rattle.ak_accepted.specs.declared.accepted.Form.TheVariants.{Start, Found, Join, Tick, Deliver, Leave, Down, Offer, Stop}
use Rattle.ak_accepted.specs.declared.accepted.Part.{Part}
use Rattle.ak_accepted.specs.declared.accepted.Part.TheVariants.{Process, Target, Offered}

-- what is named, where it is of that kind
abbrev pub process_in : Option Part → Option UniqueModel
process_in (Some (Process who)) = Some who
process_in _ = None

abbrev pub target_in : Option Part → Option AddressModel
target_in (Some (Target at)) = Some at
target_in _ = None

abbrev pub offered_in : Option Part → Option (List ℕ × ℕ)
offered_in (Some (Offered entity payload)) = Some (entity, payload)
offered_in _ = None

-- what stands at a place
abbrev pub process_at : List Part → ℕ → Option UniqueModel
process_at parts place = process_in (slice_get parts place)

abbrev pub target_at : List Part → ℕ → Option AddressModel
target_at parts place = target_in (slice_get parts place)

abbrev pub offered_at : List Part → ℕ → Option (List ℕ × ℕ)
offered_at parts place = offered_in (slice_get parts place)

-- an event that names two
abbrev pub of_both : {A B : Type 0} → (A → B → Event) → Option A → Option B → Option Event
of_both happens (Some a) (Some b) = Some (happens a b)
of_both happens _ _ = None

-- the event, where all that it names stands at its places
abbrev pub event_of : List Part → Form → Option Event
event_of parts (Start who) = option_map (λ u. event.Start u) (process_at parts who)
event_of parts (Found who) = option_map (λ u. event.Found u) (process_at parts who)
event_of parts (Join who target) = of_both (λ u at. event.Join u at) (process_at parts who) (target_at parts target)
event_of parts (Tick word who) = option_map (λ u. event.Tick u word) (process_at parts who)
event_of parts (Deliver number) = Some (event.Deliver number)
event_of parts (Leave who member) = of_both (λ u other. event.Leave u other) (process_at parts who) (process_at parts member)
event_of parts (Down who member) = of_both (λ u other. event.Down u other) (process_at parts who) (process_at parts member)
event_of parts (Offer who offered) = of_both (λ u message. event.Offer u message.0 message.1) (process_at parts who) (offered_at parts offered)
event_of parts (Stop who) = option_map (λ u. event.Stop u) (process_at parts who)

-- the events, in their order
abbrev pub events_of : List Part → List Form → List Event
events_of parts [] = []
events_of parts (form ∷ forms) = option_to_list (event_of parts form) ++ events_of parts forms

-- each is an event
abbrev pub AreKept : List Part → List Form → Type 0
AreKept parts forms = AllByRecursion (λ form. (e : Event) × (event_of parts form ≡ Some e)) forms

-- what was named stays at its place, and more may follow it
abbrev pub Grows : List Part → List Part → Type 0
Grows old new = (more : List Part) × (new ≡ old ++ more)
