-- A folder and a link in memory, as their callers see them, and what one call does to each. This project's choice.
use Rattle.std.specs.Prelude.{◌≡◌, ℕ, ◌-◌, ◌^◌, ◌++◌, Bool, ◌==◌, List, [], ◌∷◌, slice_get, Option, Some, None, if◌then◌else◌}
use Rattle.ak_address.specs.Unique.{AddressModel}
use Rattle.ak_outside.specs.declared.folder.MemoryFile.{MemoryFile}
use Rattle.ak_outside.specs.declared.folder.Loaded.{Loaded}
use Rattle.ak_outside.specs.declared.folder.Loaded.TheVariants as loaded
use Rattle.ak_outside.specs.declared.link.Taken.{Taken}
use Rattle.ak_outside.specs.declared.link.Bound.{Bound}
use Rattle.ak_outside.specs.declared.link.Bound.TheVariants as bound
use Rattle.ak_outside.specs.declared.link.Sent.{Sent}
use Rattle.ak_outside.specs.declared.link.Sent.TheVariants as sent
use Rattle.ak_outside.specs.declared.link.Heard.{Heard}
use Rattle.ak_outside.specs.declared.link.Heard.TheVariants as heard
use Rattle.ak_outside.specs.Outside.{counted}
use Rattle.ak_outside.specs.Memory.{is_listed}
use Rattle.ak_outside.specs.Link.{Sends}

-- the calls of one kind: the numbers of those that fail, and how many were made
pub record CallsMade : Type 0 where
  pub failing : List ℕ
  pub made : ℕ

abbrev pub one_made : CallsMade → CallsMade
one_made calls = record { failing = calls.failing; made = counted calls.made }

-- whether the next call is to fail
abbrev pub fails_next : CallsMade → Bool
fails_next calls = is_listed calls.failing (counted calls.made)

-- the files, the calls, and the count of faults
pub record Shelf : Type 0 where
  pub files : List MemoryFile
  pub loads : CallsMade
  pub faults : ℕ

-- what comes, the packets taken, the address named, the calls of each kind, and the counts of faults, of losses and of calls that
-- found no memory
pub record Wire : Type 0 where
  pub coming : List (Option (List ℕ))
  pub taken : List Taken
  pub bound : Option AddressModel
  pub binds : CallsMade
  pub sends : CallsMade
  pub receives : CallsMade
  pub faults : ℕ
  pub losses : ℕ
  pub starved : ℕ

-- the sends that were asked are known while their number is
abbrev pub known_sends : Wire → Option Sends
known_sends w = if w.sends.made == 2 ^ 64 - 1 then None else Some (record { asked = w.sends.made; taken = w.taken })

-- a listed load failed, and is counted as a call and as a fault
abbrev pub LoadFailed : Shelf → Shelf → Loaded → Type 0
LoadFailed old new answer = (answer ≡ loaded.Failed) × (new ≡ record old { loads = one_made old.loads; faults = counted old.faults })

-- another load is counted as a call
abbrev pub LoadDone : Shelf → Shelf → Loaded → Type 0
LoadDone old new (loaded.Bytes bytes) = new ≡ record old { loads = one_made old.loads }
LoadDone old new loaded.TooLarge = new ≡ record old { loads = one_made old.loads }
LoadDone old new loaded.NoFile = new ≡ record old { loads = one_made old.loads }
LoadDone old new loaded.Failed = ⊥
LoadDone old new (loaded.NoMemory _) = new ≡ record old { loads = one_made old.loads }

-- a listed bind failed, and is counted as a call and as a fault
abbrev pub BindFailed : Wire → Wire → Bound → Type 0
BindFailed old new answer = (answer ≡ bound.Failed) × (new ≡ record old { binds = one_made old.binds; faults = counted old.faults })

-- another bind is ready, or found no memory, which is counted as a fault and by itself
abbrev pub BindDone : Wire → Wire → Option AddressModel → Bound → Type 0
BindDone old new at bound.Ready = new ≡ record old { bound = at; binds = one_made old.binds }
BindDone old new at bound.Failed = new ≡ record old { binds = one_made old.binds; faults = counted old.faults; starved = counted old.starved }

-- a listed send failed, and is counted as a call and as a loss
abbrev pub SendFailed : Wire → Wire → Sent → Type 0
SendFailed old new answer = (answer ≡ sent.Failed) × (new ≡ record old { sends = one_made old.sends; losses = counted old.losses })

-- another send took the packet, or found no memory, which is counted as a loss and by itself
abbrev pub SendDone : Wire → Wire → AddressModel → List ℕ → Sent → Type 0
SendDone old new to bytes sent.Sent =
    new ≡ record old { taken = old.taken ++ (record { number = counted old.sends.made; to = to; bytes = bytes }) ∷ []; sends = one_made old.sends }
SendDone old new to bytes sent.Failed = new ≡ record old { sends = one_made old.sends; losses = counted old.losses; starved = counted old.starved }

-- a listed receive failed, and is counted as a call and as a fault
abbrev pub ReceiveFailed : Wire → Wire → Heard → Type 0
ReceiveFailed old new answer = (answer ≡ heard.Failed) × (new ≡ record old { receives = one_made old.receives; faults = counted old.faults })

-- another receive gives what comes next, and is counted as a call
abbrev pub ReceiveDone : Wire → Wire → Heard → Type 0
ReceiveDone old new (heard.Packet n) = new ≡ record old { coming = new.coming; receives = one_made old.receives }
ReceiveDone old new heard.Quiet = new ≡ record old { coming = new.coming; receives = one_made old.receives }
ReceiveDone old new heard.Failed = ⊥

-- the packet at an index
abbrev pub taken_at : Wire → ℕ → Option Taken
taken_at w place = slice_get w.taken place
