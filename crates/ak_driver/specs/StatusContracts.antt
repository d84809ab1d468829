-- Words of how a run ends.
use Rattle.std.specs.Prelude.{◌≡◌, ◌⊎◌, List, ℕ, [], ◌∷◌, ◌++◌, Option, codes}
use Rattle.ak_address.specs.Unique.{AddressModel}
use Rattle.ak_options.specs.CommandLine.{AsksFor}
use Rattle.ak_options.specs.declared.command.Command.TheVariants.{Sweep, Node, Ctl}
use Rattle.ak_options.specs.declared.command.Request.{Request}
use Rattle.ak_outside.specs.declared.folder.MemoryFile.{MemoryFile}
use Rattle.ak_driver.specs.WordsContracts.{NamesCommand}
use Rattle.ak_outside.specs.Outside.{Rose}
use Rattle.ak_sweep.specs.declared.line.Line.{Line}
use Rattle.ak_sweeps.specs.SweepPromise.{Sweeps, IsCompleted, EachKeepsApart}
use Rattle.ak_sweeps.specs.SweepText.{AreLines}
use Rattle.ak_turns.specs.Control.{WritesLine, Controls, ControlCause}
use Rattle.ak_outside.specs.Endings.{Written, memory_line}
use Rattle.ak_turns.specs.NodePromise.{RunsNode, NodeCause}
use Rattle.ak_turns.specs.Outside.{Output, Wire}
use Rattle.ak_outside.specs.declared.status.Status.{Status}
use Rattle.ak_outside.specs.declared.status.Status.TheVariants.{Done, Double, Usage, Configuration, Schedule, Read, Write, Memory, Link, Turns}

-- A replay ends in one of six ways, by the counts of faults of its source and of its sink before and after: where it is
-- done, with a double or without, at a refused line and out of memory neither count rose; a failed read is the source's and the sink's did not rise;
-- a failed write is the sink's.
abbrev pub ReplayCause : Status → ℕ → ℕ → ℕ → ℕ → Type 0
ReplayCause Done r0 r1 w0 w1 = (r1 ≡ r0) × (w1 ≡ w0)
ReplayCause Double r0 r1 w0 w1 = (r1 ≡ r0) × (w1 ≡ w0)
ReplayCause Usage r0 r1 w0 w1 = ⊥
ReplayCause Configuration r0 r1 w0 w1 = ⊥
ReplayCause Schedule r0 r1 w0 w1 = (r1 ≡ r0) × (w1 ≡ w0)
ReplayCause Read r0 r1 w0 w1 = Rose r0 r1 × (w1 ≡ w0)
ReplayCause Write r0 r1 w0 w1 = Rose w0 w1
ReplayCause Memory r0 r1 w0 w1 = (r1 ≡ r0) × (w1 ≡ w0)
ReplayCause Link r0 r1 w0 w1 = ⊥
ReplayCause Turns r0 r1 w0 w1 = ⊥

-- the words ask for a replay
abbrev pub AsksReplay : List (List ℕ) → Type 0
AsksReplay words = words ≡ codes "replay" ∷ []

-- the words ask for a sweep: of so many seeds from the first one on, with so many events of each, by so many workers
abbrev pub AsksSweep : List (List ℕ) → ℕ → ℕ → ℕ → ℕ → Type 0
AsksSweep words first count events workers = AsksFor words (Sweep first count events workers)

-- the words ask for a node with the configuration of this name, and so many ticks
abbrev pub AsksNode : List (List ℕ) → List ℕ → ℕ → Type 0
AsksNode words config ticks = AsksFor words (Node config ticks)

-- the words ask to ask the node at an address this
abbrev pub AsksControl : List (List ℕ) → AddressModel → Request → Type 0
AsksControl words to say = AsksFor words (Ctl to say)

-- the words ask for no node
abbrev pub NoNode : List (List ℕ) → Type 0
NoNode words = (config : List ℕ) (ticks : ℕ) → AsksNode words config ticks → ⊥

-- nor to ask one
abbrev pub NoControl : List (List ℕ) → Type 0
NoControl words = (to : AddressModel) (say : Request) → AsksControl words to say → ⊥

-- the words ask for no command
pub record AsksOther (words : List (List ℕ)) : Type 0 where
  pub no_replay : AsksReplay words → ⊥
  pub no_sweep : (first count events workers : ℕ) → AsksSweep words first count events workers → ⊥
  pub no_node : NoNode words
  pub no_control : NoControl words

-- A sweep ended so, by its sink's count of faults before and after and by what was written: with the text of its lines; each of them
-- says that there is no double where it says that the margin was kept; and where the sink does not fail the text is whole, or memory
-- ran out.
pub record Swept (first count events : ℕ) (answer : Status) (w0 w1 : ℕ) (old new : Option (List ℕ)) : Type 0 where
  pub sweep : Sweeps first count events answer w0 w1 old new
  pub apart : (lines : List Line) → AreLines first count events lines → EachKeepsApart lines
  pub complete : (Rose w0 w1 → ⊥) → IsCompleted first count events answer old new

-- A node ran so, by the counts of faults of its folder, sink and link before and after, and by what these and its clock show; or there
-- was no memory for the words, and the link was left alone.
pub record RanNode (files : Option (List MemoryFile)) (config : List ℕ) (ticks : ℕ) (answer : Status) (f0 f1 : ℕ) (o0 o1 : Output) (w0 w1 : Wire) (l0 l1 : ℕ) (readings : Option (ℕ → ℕ)) : Type 0 where
  pub cause : NodeCause answer f0 f1 o0.faults o1.faults l0 l1
  pub runs : RunsNode files config ticks answer o0 o1 w0 w1 readings ⊎ (WritesLine Memory memory_line answer o0 o1 × (w1 ≡ w0))

-- A node was asked so; or there was no memory for the words, and the link was left alone.
pub record Asked (to : AddressModel) (say : Request) (answer : Status) (o0 o1 : Output) (w0 w1 : Wire) (l0 l1 : ℕ) : Type 0 where
  pub cause : ControlCause answer o0.faults o1.faults l0 l1
  pub controls : Controls answer to say o0 o1 w0 w1 ⊎ (WritesLine Memory memory_line answer o0 o1 × (w1 ≡ w0))

abbrev pub usage_line : List ℕ
usage_line = codes "error 2 usage" ++ 10 ∷ []

-- These words, which ask for no command, ended so: the line on usage was written; or the first of them is the name of a command, the
-- words found no memory, and the line on memory was written; or the sink failed on the way.
abbrev pub RefusesWords : List (List ℕ) → Status → ℕ → ℕ → Option (List ℕ) → Option (List ℕ) → Type 0
RefusesWords words answer w0 w1 old new =
    Written Usage usage_line answer w0 w1 old new ⊎ (NamesCommand words × Written Memory memory_line answer w0 w1 old new)
