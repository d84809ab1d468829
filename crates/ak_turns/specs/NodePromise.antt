-- What a node on the network promises from its configuration to its end, by the status that it answers (this project's choice).
use Rattle.std.specs.Prelude.{◌≡◌, ℕ, ◌<◌, ◌⊎◌, List, [], ◌∷◌, ◌++◌, length, codes, Option, Some, None, Result, Ok, Err, IfSome, ⊤}
use Rattle.ak_config.specs.declared.config.Config.{Config}
use Rattle.ak_config.specs.declared.fault.ConfigFault.{ConfigFault}
use Rattle.ak_config.specs.declared.fault.ConfigFault.TheVariants.{NotToml, Missing, Unknown, WrongType, Range, BadAddress, SelfUnlisted, Repeated, NoMemory}
use Rattle.ak_config.specs.Configuration.{read}
use Rattle.ak_outside.specs.declared.folder.MemoryFile.{MemoryFile}
use Rattle.ak_outside.specs.declared.link.Bound as bound
use Rattle.ak_outside.specs.declared.status.Status.{Status}
use Rattle.ak_outside.specs.declared.status.Status.TheVariants as status
use Rattle.ak_outside.specs.Folder.{content}
use Rattle.ak_outside.specs.Link.{Binds}
use Rattle.ak_outside.specs.Outside.{Rose}
use Rattle.ak_turns.specs.declared.end.End.{End}
use Rattle.ak_turns.specs.declared.end.End.TheVariants as end
use Rattle.ak_turns.specs.declared.node.Unloaded.{Unloaded}
use Rattle.ak_turns.specs.declared.node.Unloaded.TheVariants as unloaded
use Rattle.ak_turns.specs.Control.{WritesLine, SaysAlone}
use Rattle.ak_outside.specs.Endings.{read_line, memory_line}
use Rattle.ak_turns.specs.Endings.{link_line, turns_line}
use Rattle.ak_turns.specs.NodeRun.{Runs, summary}
use Rattle.ak_turns.specs.Outside.{Output, Wire}
use Rattle.ak_turns.specs.Steps.{Progress}

-- a configuration may have this many bytes
abbrev pub most_config : ℕ
most_config = 65536

-- where the files are known, the file of this name has these bytes
abbrev pub IsFile : Option (List MemoryFile) → List ℕ → List ℕ → Type 0
IsFile files name bytes = IfSome files (λ all. content name all ≡ Some bytes)

-- a configuration is refused with this fault
abbrev pub IsRefusedAs : Option (List MemoryFile) → List ℕ → ConfigFault → Type 0
IsRefusedAs files name fault = (bytes : List ℕ) × IsFile files name bytes × (read bytes ≡ Err fault)

abbrev pub HasNoFile : Option (List MemoryFile) → List ℕ → Type 0
HasNoFile files name = IfSome files (λ all. content name all ≡ None)

abbrev pub HasLargeFile : Option (List MemoryFile) → List ℕ → Type 0
HasLargeFile files name = IfSome files (λ all. (bytes : List ℕ) × (content name all ≡ Some bytes) × (most_config < length bytes))

-- the configuration that the file of this name is
abbrev pub IsConfigured : Option (List MemoryFile) → List ℕ → Config → Type 0
IsConfigured files name c = (bytes : List ℕ) × IsFile files name bytes × (read bytes ≡ Ok c)

-- what a load found
abbrev pub LoadsAs : Result Config Unloaded → Option (List MemoryFile) → List ℕ → Type 0
LoadsAs (Ok c) files name = IsConfigured files name c
LoadsAs (Err (unloaded.Refused fault)) files name = IsRefusedAs files name fault
LoadsAs (Err unloaded.NoFile) files name = HasNoFile files name
LoadsAs (Err unloaded.TooLarge) files name = HasLargeFile files name
LoadsAs (Err unloaded.Failed) files name = ⊤
LoadsAs (Err unloaded.NoMemory) files name = ⊤

-- the folder's count of faults rose where it failed, and nowhere else
abbrev pub LoadCause : Result Config Unloaded → ℕ → ℕ → Type 0
LoadCause (Ok c) f0 f1 = f1 ≡ f0
LoadCause (Err (unloaded.Refused fault)) f0 f1 = f1 ≡ f0
LoadCause (Err unloaded.NoFile) f0 f1 = f1 ≡ f0
LoadCause (Err unloaded.TooLarge) f0 f1 = f1 ≡ f0
LoadCause (Err unloaded.Failed) f0 f1 = Rose f0 f1
LoadCause (Err unloaded.NoMemory) f0 f1 = f1 ≡ f0

-- ---- the lines on a configuration
-- the code of a fault, and its key
abbrev pub fault_text : ConfigFault → List ℕ
fault_text NotToml = codes "C1"
fault_text (Missing key) = codes "C2 " ++ key
fault_text (Unknown key) = codes "C3 " ++ key
fault_text (WrongType key) = codes "C4 " ++ key
fault_text (Range key) = codes "C5 " ++ key
fault_text (BadAddress key) = codes "C6 " ++ key
fault_text (SelfUnlisted key) = codes "C7 " ++ key
fault_text (Repeated key) = codes "C8 " ++ key
fault_text (NoMemory _) = codes "memory"

abbrev pub refusal_line : List ℕ → List ℕ
refusal_line text = codes "error 3 " ++ text ++ 10 ∷ []

-- a configuration is refused: the line says so, or there is no memory for it
abbrev pub RefusesConfig : Status → List ℕ → Output → Output → Type 0
RefusesConfig answer text o0 o1 = WritesLine status.Configuration (refusal_line text) answer o0 o1 ⊎ WritesLine status.Memory memory_line answer o0 o1

-- what is written where there is no configuration
abbrev pub Refuses : Unloaded → Status → Output → Output → Type 0
Refuses (unloaded.Refused fault) answer o0 o1 = RefusesConfig answer (fault_text fault) o0 o1
Refuses unloaded.NoFile answer o0 o1 = WritesLine status.Configuration (refusal_line (codes "C9")) answer o0 o1
Refuses unloaded.TooLarge answer o0 o1 = WritesLine status.Configuration (refusal_line (codes "C10")) answer o0 o1
Refuses unloaded.Failed answer o0 o1 = WritesLine status.Read read_line answer o0 o1
Refuses unloaded.NoMemory answer o0 o1 = WritesLine status.Memory memory_line answer o0 o1

-- ---- the end of the turns
-- what is written last; a sink that has failed is written nothing
abbrev pub EndsAs : Result (Unit {0}) End → Progress → Status → Output → Output → Type 0
EndsAs (Ok u) p answer o0 o1 = WritesLine status.Done (summary p) answer o0 o1 ⊎ WritesLine status.Memory memory_line answer o0 o1
EndsAs (Err end.Memory) p answer o0 o1 = WritesLine status.Memory memory_line answer o0 o1
EndsAs (Err end.Write) p answer o0 o1 = (answer ≡ status.Write) × (o1 ≡ o0)
EndsAs (Err end.Link) p answer o0 o1 = WritesLine status.Link link_line answer o0 o1
EndsAs (Err end.Turns) p answer o0 o1 = WritesLine status.Turns turns_line answer o0 o1

-- ---- the promise
-- A node that has its address ran, and kept it.
abbrev pub RunsBound : Config → ℕ → Status → Output → Output → Wire → Wire → Option (ℕ → ℕ) → Type 0
RunsBound c ticks answer o0 o1 w0 w1 readings = (w1.bound ≡ w0.bound) × Runs c ticks answer o0 o1 w0 w1 readings

-- A node that was told this could not take its own address; or it took it, and ran.
abbrev pub RunsConfig : Config → ℕ → Status → Output → Output → Wire → Wire → Option (ℕ → ℕ) → Type 0
RunsConfig c ticks answer o0 o1 w0 w1 readings =
    (Binds w0.bound w1.bound (Some c.me.address) bound.TheVariants.Failed × SaysAlone answer status.Link link_line o0 o1 w0 w1)
    ⊎ (Binds w0.bound w1.bound (Some c.me.address) bound.TheVariants.Ready × Runs c ticks answer o0 o1 w0 w1 readings)

-- It ran with the configuration that its file is; or there was none, for this reason, and it left the link alone.
abbrev pub RunsNode : Option (List MemoryFile) → List ℕ → ℕ → Status → Output → Output → Wire → Wire → Option (ℕ → ℕ) → Type 0
RunsNode files name ticks answer o0 o1 w0 w1 readings =
    ((c : Config) × IsConfigured files name c × RunsConfig c ticks answer o0 o1 w0 w1 readings)
    ⊎ ((why : Unloaded) × LoadsAs (Err why) files name × Refuses why answer o0 o1 × (w1 ≡ w0))

-- each status by the counts of faults of the sink and of the link
abbrev pub ConfigCause : Status → ℕ → ℕ → ℕ → ℕ → Type 0
ConfigCause status.Done w0 w1 l0 l1 = (w1 ≡ w0) × (l1 ≡ l0)
ConfigCause status.Turns w0 w1 l0 l1 = (w1 ≡ w0) × (l1 ≡ l0)
ConfigCause status.Memory w0 w1 l0 l1 = (w1 ≡ w0) × (l1 ≡ l0)
ConfigCause status.Link w0 w1 l0 l1 = (w1 ≡ w0) × Rose l0 l1
ConfigCause status.Write w0 w1 l0 l1 = Rose w0 w1
ConfigCause status.Double w0 w1 l0 l1 = ⊥
ConfigCause status.Usage w0 w1 l0 l1 = ⊥
ConfigCause status.Configuration w0 w1 l0 l1 = ⊥
ConfigCause status.Schedule w0 w1 l0 l1 = ⊥
ConfigCause status.Read w0 w1 l0 l1 = ⊥

-- each status by the counts of faults of the folder, of the sink and of the link: `Read` where the folder failed, `Write` where the
-- sink did, `Link` where the link did; at the others none rose
abbrev pub NodeCause : Status → ℕ → ℕ → ℕ → ℕ → ℕ → ℕ → Type 0
NodeCause status.Done f0 f1 w0 w1 l0 l1 = (f1 ≡ f0) × (w1 ≡ w0) × (l1 ≡ l0)
NodeCause status.Turns f0 f1 w0 w1 l0 l1 = (f1 ≡ f0) × (w1 ≡ w0) × (l1 ≡ l0)
NodeCause status.Memory f0 f1 w0 w1 l0 l1 = (f1 ≡ f0) × (w1 ≡ w0) × (l1 ≡ l0)
NodeCause status.Configuration f0 f1 w0 w1 l0 l1 = (f1 ≡ f0) × (w1 ≡ w0) × (l1 ≡ l0)
NodeCause status.Read f0 f1 w0 w1 l0 l1 = Rose f0 f1 × (w1 ≡ w0) × (l1 ≡ l0)
NodeCause status.Link f0 f1 w0 w1 l0 l1 = (f1 ≡ f0) × (w1 ≡ w0) × Rose l0 l1
NodeCause status.Write f0 f1 w0 w1 l0 l1 = Rose w0 w1
NodeCause status.Double f0 f1 w0 w1 l0 l1 = ⊥
NodeCause status.Usage f0 f1 w0 w1 l0 l1 = ⊥
NodeCause status.Schedule f0 f1 w0 w1 l0 l1 = ⊥
