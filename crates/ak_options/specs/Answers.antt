-- What the reading of a command line answers.
use Rattle.std.specs.Prelude.{ℕ, List, Option, None, Some, Result, Ok, Err, ⊤}
use Rattle.ak_address.specs.Unique.{AddressModel}
use Rattle.ak_address.specs.Spelling.{SpellsAddress}
use Rattle.std.specs.declared.alloc.AllocError.{AllocError}
use Rattle.ak_options.specs.declared.command.Command.{Command}
use Rattle.ak_options.specs.declared.command.Command.TheVariants.{Replay, Sweep, Node, Ctl}
use Rattle.ak_options.specs.declared.command.Request.{Request}
use Rattle.ak_options.specs.CommandLine.{AsksFor}
use Rattle.ak_options.specs.Requests.{SpellsRequest}

-- a command that holds texts, which take memory
abbrev pub HoldsTexts : Command → Type 0
HoldsTexts Replay = ⊥
HoldsTexts (Sweep first count events workers) = ⊥
HoldsTexts (Node config ticks) = ⊤
HoldsTexts (Ctl to say) = ⊤

-- the command that the words ask for; none exactly where they ask for none; memory runs out only where they ask for a command
-- that holds texts
abbrev pub Answers : List (List ℕ) → Result (Option Command) AllocError → Type 0
Answers words (Ok (Some command)) = AsksFor words command
Answers words (Ok None) = (command : Command) → AsksFor words command → ⊥
Answers words (Err _) = (command : Command) × AsksFor words command × HoldsTexts command

-- the same of an address and of what a node is asked, where the address is one
abbrev pub AnswersCtl : List ℕ → List ℕ → Result (Option (AddressModel × Request)) AllocError → Type 0
AnswersCtl address text (Ok (Some pair)) = SpellsAddress address pair.0 × SpellsRequest text pair.1
AnswersCtl address text (Ok None) = (request : Request) → SpellsRequest text request → ⊥
AnswersCtl address text (Err _) = (to : AddressModel) × (request : Request) × SpellsAddress address to × SpellsRequest text request
