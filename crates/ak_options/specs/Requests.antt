-- What a node can be asked, in the words of a schedule's line. This project's choice.
use Rattle.std.specs.Prelude.{◌≡◌, ℕ, ◌+◌, ◌≤◌, ◌⊎◌, List, ◌∷◌, codes, length}
use Rattle.ak_address.specs.Unique.{UniqueModel}
use Rattle.ak_schedule.specs.Line.{words, most_bytes}
use Rattle.ak_schedule.specs.Schedule.{SpellsWords}
use Rattle.ak_schedule.specs.declared.event.Event as event
use Rattle.ak_options.specs.declared.command.Request.{Request}
use Rattle.ak_options.specs.declared.command.Request.TheVariants.{Leave, Down, Offer}

-- the process `a:1#1`
abbrev pub some_process : UniqueModel
some_process = record { address = record { host = codes "a"; port = 1 }; uid = 1 }

-- the event that a process is asked this
abbrev pub event_at : UniqueModel → Request → event.Event
event_at process (Leave member) = event.TheVariants.Leave process member
event_at process (Down member) = event.TheVariants.Down process member
event_at process (Offer entity payload) = event.TheVariants.Offer process entity payload

-- with ` a:1#1` after its first word the text is no longer than a line may be, and its words are those of the event line that
-- asks the process `a:1#1` this
pub record SpellsRequest (text : List ℕ) (request : Request) : Type 0 where
  pub short : length text + 6 ≤ most_bytes
  pub first : List ℕ
  pub others : List (List ℕ)
  pub whole : words text ≡ first ∷ others
  pub line : SpellsWords (first ∷ codes "a:1#1" ∷ others) (event_at some_process request)

-- the first word of a text that spells a request
abbrev pub IsRequestName : List ℕ → Type 0
IsRequestName name = (name ≡ codes "leave") ⊎ (name ≡ codes "down") ⊎ (name ≡ codes "offer")

-- a text as a line in which `a:1#1` comes after its first word
pub record IsLineOf (text line : List ℕ) : Type 0 where
  pub short : length text + 6 ≤ most_bytes
  pub fits : length line ≤ most_bytes
  pub first : List ℕ
  pub others : List (List ℕ)
  pub whole : words text ≡ first ∷ others
  pub named : IsRequestName first
  pub with_process : words line ≡ first ∷ codes "a:1#1" ∷ others
