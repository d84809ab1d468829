-- What a node on the network promises, by the status that it answers.
use Rattle.std.specs.Prelude.{◌≡◌, ℕ, ◌⊎◌, List, [], ◌∷◌, ◌++◌, codes, Option, None, Some, IfSome, ◌≤◌, length}
use Rattle.std.specs.Fmt.{decimal}
use Rattle.std.specs.Io.KnownBytes.{Appends}
use Rattle.ak_config.specs.declared.config.Config.{Config}
use Rattle.ak_outside.specs.declared.status.Status.{Status}
use Rattle.ak_outside.specs.declared.status.Status.TheVariants as status
use Rattle.ak_outside.specs.Link.{Sends}
use Rattle.ak_outside.specs.Outside.{Rose, AppendsPrefix}
use Rattle.ak_wire.specs.Wire.{put}
use Rattle.ak_turns.specs.declared.happening.Happening.{Happening}
use Rattle.ak_turns.specs.declared.timer.Timer.{Timer}
use Rattle.ak_outside.specs.Endings.{memory_line}
use Rattle.ak_turns.specs.Endings.{link_line, turns_line}
use Rattle.ak_turns.specs.Outside.{Output, Wire}
use Rattle.ak_turns.specs.Steps.{Progress, Step, at_start, progress_after, text_of, all_sends, happenings, AreAnswered, NoneLost}
use Rattle.ak_turns.specs.Turns.{Turn, Come, ComesBy, Taken, GoesOn, HearsAll, ReadsAll, heard_by, time_after, first_time, most_idle}

-- A run of a node, all lists with the last one first: what its clock read before the first turn; the whole turns; what was heard in a
-- turn that did not come to its reading, where there was one; the steps that were taken and printed; and a step that was begun and
-- not printed, where there was one.
pub record Run : Type 0 where
  pub first : ℕ
  pub turns : List Turn
  pub half : List (Option (List ℕ))
  pub steps : List Step
  pub cut : List Step

abbrev pub start_of : Config → Progress
start_of c = at_start c.me c.settings

-- the time at the end of a run
abbrev pub time_of : Config → Run → Timer
time_of c r = time_after (first_time c r.first) r.turns

abbrev pub progress_at : Config → Run → Progress
progress_at c r = progress_after (start_of c) r.steps

-- what was heard without a reading came as this
abbrev pub HalfComes : List (Option (List ℕ)) → Option Happening → Type 0
HalfComes [] come = come ≡ None
HalfComes (heard ∷ others) come = (others ≡ []) × ComesBy heard come

-- The steps are the first ones of what came by the turns.
pub record IsFirstSteps (c : Config) (ticks : ℕ) (r : Run) : Type 0 where
  pub earlier : List Happening
  pub come : Come c r.first r.turns earlier
  pub heard : Option Happening
  pub half_comes : HalfComes r.half heard
  pub more : List Happening
  pub all : put heard earlier ≡ more ++ (happenings r.cut ++ happenings r.steps)
  pub one_cut : length r.cut ≤ 1
  pub taken : Taken ticks (first_time c r.first) r.turns
  pub goes_on : (r.half ≡ []) ⊎ GoesOn ticks (time_of c r)

-- The steps are all that came by the turns.
pub record IsWhole (c : Config) (ticks : ℕ) (r : Run) : Type 0 where
  pub come : Come c r.first r.turns (happenings r.steps)
  pub taken : Taken ticks (first_time c r.first) r.turns
  pub half_none : r.half ≡ []
  pub cut_none : r.cut ≡ []

-- a run may end so: its ticks are done; too many turns made none; the link failed where another turn was due; or memory ran out
abbrev pub EndsSo : Config → ℕ → Run → Status → Type 0
EndsSo c ticks r status.Done = IsWhole c ticks r × ((time_of c r).ticks ≡ ticks)
EndsSo c ticks r status.Turns = IsWhole c ticks r × ((time_of c r).idle ≡ most_idle)
EndsSo c ticks r status.Link = IsWhole c ticks r × GoesOn ticks (time_of c r)
EndsSo c ticks r status.Memory = IsFirstSteps c ticks r
EndsSo c ticks r status.Double = ⊥
EndsSo c ticks r status.Usage = ⊥
EndsSo c ticks r status.Configuration = ⊥
EndsSo c ticks r status.Schedule = ⊥
EndsSo c ticks r status.Read = ⊥
EndsSo c ticks r status.Write = ⊥

-- what is printed last: how many steps were numbered and sends asked, or what went wrong
abbrev pub summary : Progress → List ℕ
summary p = codes "steps " ++ decimal p.steps ++ 10 ∷ [] ++ codes "packets " ++ decimal p.asked ++ 10 ∷ []

abbrev pub last_lines : Progress → Status → List ℕ
last_lines p status.Done = summary p
last_lines p status.Turns = turns_line
last_lines p status.Link = link_line
last_lines p status.Memory = memory_line
last_lines p status.Read = []
last_lines p status.Double = []
last_lines p status.Usage = []
last_lines p status.Configuration = []
last_lines p status.Schedule = []
last_lines p status.Write = []

-- the text of a run that ends so: of each step, and what is printed last
abbrev pub run_text : Config → Run → Status → List ℕ
run_text c r ends = text_of (start_of c) r.steps ++ last_lines (progress_at c r) ends

-- the link took the packets of the steps, but those whose send failed, each as it is spelled; and of a step that was cut the first ones
abbrev pub SendsRun : Config → Run → Option Sends → Option Sends → Type 0
SendsRun c r old new =
    IfSome new (λ after. (before : Sends) × (old ≡ Some before)
    × (after ≡ all_sends (progress_at c r) (all_sends (start_of c) before r.steps) r.cut))

-- no send was lost and the count of losses stayed; or it rose
abbrev pub LosesRun : Run → ℕ → ℕ → Type 0
LosesRun r old new = (NoneLost r.steps × NoneLost r.cut × (new ≡ old)) ⊎ Rose old new

-- what the link and the clock gave, where it is known
abbrev pub HearsRun : Run → Option (List (Option (List ℕ))) → Type 0
HearsRun r coming = IfSome coming (λ all. (left : List (Option (List ℕ))) × HearsAll all left (r.half ++ heard_by r.turns))

abbrev pub ReadsRun : Run → Option (ℕ → ℕ) → Type 0
ReadsRun r readings = IfSome readings (λ all. ReadsAll all r.first r.turns)

-- a run that ended with this status wrote its whole text, and the sink's count of faults stayed; or its sink failed after a prefix of it
abbrev pub WritesRun : Config → ℕ → Run → Status → Output → Output → Type 0
WritesRun c ticks r answer old new =
    (ends : Status) × EndsSo c ticks r ends
    × (((answer ≡ ends) × (new.faults ≡ old.faults) × Appends old.written new.written (run_text c r ends))
    ⊎ ((answer ≡ status.Write) × Rose old.faults new.faults × AppendsPrefix old.written new.written (run_text c r ends)))

-- What a node that was told this did, once it had its address.
pub record Runs (c : Config) (ticks : ℕ) (answer : Status) (o0 o1 : Output) (w0 w1 : Wire) (readings : Option (ℕ → ℕ)) : Type 0 where
  pub run : Run
  pub answered : AreAnswered (start_of c) run.steps
  pub writes : WritesRun c ticks run answer o0 o1
  pub sends : SendsRun c run w0.sends w1.sends
  pub loses : LosesRun run w0.losses w1.losses
  pub hears : HearsRun run w0.coming
  pub reads : ReadsRun run readings
