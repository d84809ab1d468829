-- What an answer says of a folder of files. This project's choice.
use Rattle.std.specs.Prelude.{◌≡◌, ℕ, ◌<◌, ◌≤◌, nat_eq, List, [], ◌∷◌, length, Option, Some, None, IfSome, if◌then◌else◌, ⊤}
use Rattle.std.specs.Cmp.Lexicographic.{pointwise}
use Rattle.ak_outside.specs.declared.folder.MemoryFile.{MemoryFile}
use Rattle.ak_outside.specs.declared.folder.Loaded.{Loaded}
use Rattle.ak_outside.specs.declared.folder.Loaded.TheVariants.{Bytes, TooLarge, NoFile, Failed, NoMemory}
use Rattle.ak_outside.specs.Outside.{Rose}

-- the bytes of the first file that has the name
abbrev pub content : List ℕ → List MemoryFile → Option (List ℕ)
content name [] = None
content name (file ∷ others) = if pointwise nat_eq file.name name then Some file.bytes else content name others

-- the bytes of the file of that name; or it has more than may be; or no file has the name
abbrev pub GivesFile : List MemoryFile → List ℕ → ℕ → Loaded → Type 0
GivesFile files name most (Bytes bytes) = content name files ≡ Some bytes
GivesFile files name most TooLarge = (bytes : List ℕ) × (content name files ≡ Some bytes) × (most < length bytes)
GivesFile files name most NoFile = content name files ≡ None
GivesFile files name most Failed = ⊤
GivesFile files name most (NoMemory _) = ⊤

-- what was loaded has no more bytes than may be
abbrev pub FitsMost : Loaded → ℕ → Type 0
FitsMost (Bytes bytes) most = length bytes ≤ most
FitsMost TooLarge most = ⊤
FitsMost NoFile most = ⊤
FitsMost Failed most = ⊤
FitsMost (NoMemory _) most = ⊤

-- a failed load has its cause, and another counts no fault
abbrev pub LoadCause : ℕ → ℕ → Loaded → Type 0
LoadCause old new (Bytes bytes) = new ≡ old
LoadCause old new TooLarge = new ≡ old
LoadCause old new NoFile = new ≡ old
LoadCause old new Failed = Rose old new
LoadCause old new (NoMemory _) = new ≡ old

-- a search in files that are known does not fail
abbrev pub FoundSo : Loaded → Type 0
FoundSo (Bytes bytes) = ⊤
FoundSo TooLarge = ⊤
FoundSo NoFile = ⊤
FoundSo Failed = ⊥
FoundSo (NoMemory _) = ⊤

abbrev pub HasFailed : Loaded → Type 0
HasFailed (Bytes bytes) = ⊥
HasFailed TooLarge = ⊥
HasFailed NoFile = ⊥
HasFailed Failed = ⊤
HasFailed (NoMemory _) = ⊥

-- where the bytes of a file are known they were read whole, or are more than may be
abbrev pub ReadsFile : Option (List ℕ) → ℕ → Loaded → Type 0
ReadsFile known most (Bytes bytes) = IfSome known (λ all. bytes ≡ all)
ReadsFile known most TooLarge = IfSome known (λ all. most < length all)
ReadsFile known most NoFile = ⊥
ReadsFile known most Failed = ⊤
ReadsFile known most (NoMemory _) = ⊤
