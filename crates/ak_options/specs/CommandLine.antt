-- Which command lines are accepted, and what each asks for. This project's choice.
use Rattle.std.specs.Prelude.{◌≡◌, ◌⊎◌, ℕ, List, [], ◌∷◌, codes}
use Rattle.ak_address.specs.Unique.{AddressModel}
use Rattle.ak_address.specs.Spelling.{SpellsAddress}
use Rattle.ak_options.specs.declared.command.Command.{Command}
use Rattle.ak_options.specs.declared.command.Command.TheVariants.{Replay, Sweep, Node, Ctl}
use Rattle.ak_options.specs.declared.command.Request.{Request}
use Rattle.ak_options.specs.Options.{Pair, words_of, AreNamed, IsOnce, IsNumberOnce, IsNumberAtMostOnce}
use Rattle.ak_options.specs.Requests.{SpellsRequest}

-- the names of a command's options
abbrev pub sweep_options : List (List ℕ)
sweep_options = codes "--first" ∷ codes "--count" ∷ codes "--events" ∷ codes "--workers" ∷ []

abbrev pub node_options : List (List ℕ)
node_options = codes "--config" ∷ codes "--ticks" ∷ []

abbrev pub ctl_options : List (List ℕ)
ctl_options = codes "--to" ∷ codes "--say" ∷ []

-- the pairs say the first seed, how many seeds, how many events of each, and how many workers, 1 where they say none
pub record SaysSweep (pairs : List Pair) (first count events workers : ℕ) : Type 0 where
  pub named : AreNamed sweep_options pairs
  pub first_once : IsNumberOnce (codes "--first") 0 9000000000000000000 pairs first
  pub count_once : IsNumberOnce (codes "--count") 1 100000 pairs count
  pub events_once : IsNumberOnce (codes "--events") 1 2000 pairs events
  pub workers_at_most_once : IsNumberAtMostOnce (codes "--workers") 1 64 1 pairs workers

-- the pairs say the name of a configuration, which may be any bytes, and how many ticks
pub record SaysNode (pairs : List Pair) (config : List ℕ) (ticks : ℕ) : Type 0 where
  pub named : AreNamed node_options pairs
  pub config_once : IsOnce (codes "--config") pairs config
  pub ticks_once : IsNumberOnce (codes "--ticks") 0 1000000000 pairs ticks

-- the pairs say where a node is, and what it is asked
pub record SaysCtl (pairs : List Pair) (to : AddressModel) (say : Request) : Type 0 where
  pub named : AreNamed ctl_options pairs
  pub address : List ℕ
  pub to_once : IsOnce (codes "--to") pairs address
  pub to_spelled : SpellsAddress address to
  pub text : List ℕ
  pub say_once : IsOnce (codes "--say") pairs text
  pub say_spelled : SpellsRequest text say

-- the first word
abbrev pub command_name : Command → List ℕ
command_name Replay = codes "replay"
command_name (Sweep first count events workers) = codes "sweep"
command_name (Node config ticks) = codes "node"
command_name (Ctl to say) = codes "ctl"

-- a word is the name of a command
abbrev pub IsCommandName : List ℕ → Type 0
IsCommandName word = (word ≡ codes "replay") ⊎ (word ≡ codes "sweep") ⊎ (word ≡ codes "node") ⊎ (word ≡ codes "ctl")

-- the options
abbrev pub Says : List Pair → Command → Type 0
Says pairs Replay = pairs ≡ []
Says pairs (Sweep first count events workers) = SaysSweep pairs first count events workers
Says pairs (Node config ticks) = SaysNode pairs config ticks
Says pairs (Ctl to say) = SaysCtl pairs to say

-- The words ask for this command: its name, and then its options in pairs.
pub record AsksFor (words : List (List ℕ)) (command : Command) : Type 0 where
  pub pairs : List Pair
  pub whole : words ≡ command_name command ∷ words_of pairs
  pub says : Says pairs command
