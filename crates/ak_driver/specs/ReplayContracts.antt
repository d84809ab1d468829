-- Words of the contracts of a replay's calls.
use Rattle.std.specs.Prelude.{◌≡◌, ◌≢◌, ℕ, ◌+◌, ◌<◌, ◌≤◌, ◌⊎◌, Option, is_some, List, [], ◌∷◌, ◌++◌, Bool, true, false, length, Result, Ok, Err}
use Rattle.std.specs.List.{concat}
use Rattle.ak_settings.specs.Settings.{SettingsModel}
use Rattle.ak_schedule.specs.Draft.{Drafted, ReadsExtra, ReadsHeader}
use Rattle.ak_schedule.specs.Line.{words, most_bytes, IsPassedOver}
use Rattle.ak_schedule.specs.Schedule.{SpellsEvent, NamesExtra, NamesList, extras}
use Rattle.ak_schedule.specs.declared.event.Event.{Event}
use Rattle.ak_schedule.specs.declared.fault.LineFault.{LineFault}
use Rattle.ak_schedule.specs.declared.fault.LineFault as fault
use Rattle.ak_world.specs.declared.world.Refused as refused
use Rattle.ak_driver.specs.declared.replay.Code.{Code}
use Rattle.ak_driver.specs.declared.replay.Code.TheVariants.{Malformed, BadHeader, PastLimit, Invalid}
use Rattle.ak_driver.specs.declared.replay.Stop.{Stop}
use Rattle.ak_driver.specs.declared.replay.Stop.TheVariants.{Refused, NoMemory}
use Rattle.ak_driver.specs.declared.replay.Stage.{Stage}
use Rattle.ak_driver.specs.declared.replay.Stage.TheVariants.{Heading, Running}
use Rattle.ak_world.specs.World.{Done, empty_world, happens}
use Rattle.ak_world.specs.WorldContracts.{WorldModel}
use Rattle.ak_driver.specs.declared.replay.Replay.{Replay}
use Rattle.std.specs.Io.KnownBytes.{Appends}
use Rattle.ak_outside.specs.declared.lines.Next.{Next}
use Rattle.ak_outside.specs.declared.lines.Next.TheVariants.{Failed}
use Rattle.ak_outside.specs.declared.status.Status.{Status}
use Rattle.ak_outside.specs.declared.status.Status as status
use Rattle.ak_world.specs.declared.margin.Margin.{Margin}
use Rattle.ak_world.specs.Margin.{IsMargin}
use Rattle.ak_world.specs.Double.{Doubled, IsFirstDouble}
use Rattle.ak_driver.specs.ReplayText.{Progress, Judgement, Judged, IsRefused, WantsHeader, WantsExtra, WantsEvent, HasRoom, Finished, turn, header_count, most_lines, most_events, ending_text, refusal_text}
use Rattle.ak_outside.specs.Endings.{Written, memory_line}
use Rattle.ak_world.specs.StepText.{step_text}

-- why the world did not apply an event ends a replay so
abbrev pub stop_of : refused.Refused → Stop
stop_of (refused.TheVariants.Invalid why) = Refused (Invalid why)
stop_of (refused.TheVariants.NoMemory _) = NoMemory

-- no event was applied while headers are read, and as many as there were steps, one at least, after that
abbrev pub IsReady : Stage → ℕ → Type 0
IsReady (Heading draft) steps = steps ≡ 0
IsReady (Running world) steps = (length world.events ≡ steps) × (1 ≤ steps)

-- a header is missing, or the world has begun
abbrev pub IsOpened : Stage → ℕ → Type 0
IsOpened (Heading draft) steps = draft.read < header_count
IsOpened (Running world) steps = length world.events ≡ steps

-- the world of these settings, before its first event
abbrev pub world_of : SettingsModel → WorldModel
world_of settings = record { settings = settings; state = empty_world; events = []; spent = false }

-- the world begins where all headers are read
abbrev pub Opens : Stage → Stage → Type 0
Opens (Heading draft) new =
    ((draft.read ≡ header_count) × (new ≡ Running (world_of draft.settings))) ⊎ ((draft.read < header_count) × (new ≡ Heading draft))
Opens (Running world) new = new ≡ Running world

-- how far a replay has come at a stage, by the number of the next line
abbrev pub progress : Stage → ℕ → Progress
progress (Heading draft) line = record { line = line; headers = draft.read; extra = draft.extra; settings = draft.settings; events = []; world = empty_world }
progress (Running world) line = record { line = line; headers = header_count; extra = length extras; settings = world.settings; events = world.events; world = world.state }

abbrev pub progress_of : Replay → Progress
progress_of r = progress r.stage r.line

-- the line is for this world, which p has reached: an event was applied, or the line is no optional header and is not passed over
pub record IsFor (p : Progress) (world : WorldModel) (line : List ℕ) : Type 0 where
  pub same : p ≡ record { line = p.line; headers = header_count; extra = p.extra; settings = world.settings; events = world.events; world = world.state }
  pub in_limit : p.line ≤ most_lines
  pub no_extra : world.events ≡ [] → length line ≤ most_bytes → NamesExtra (words line) → ⊥
  pub passed : IsPassedOver line → (p.extra ≡ length extras) × (1 ≤ length world.events)

-- the same of the world of a replay
abbrev pub Stands : Progress → Replay → List ℕ → Type 0
Stands p r line = (world : WorldModel) × (r.stage ≡ Running world) × (p.line ≡ r.line) × IsFor p world line

-- the line is the next header, or an optional one that may still come
abbrev pub IsHeading : List ℕ → Drafted → Drafted → Type 0
IsHeading line old new = ((old.read < header_count) × ReadsHeader line old new) ⊎ ((old.read ≡ header_count) × ReadsExtra line old new)

-- the line is none: it is not the next one, or it begins with the word of an optional one and is none that may still come
abbrev pub IsNoHeading : List ℕ → Drafted → Type 0
IsNoHeading line old =
    ((old.read < header_count) × ((next : Drafted) → ReadsHeader line old next → ⊥))
    ⊎ ((old.read ≡ header_count) × NamesExtra (words line) × ((next : Drafted) → ReadsExtra line old next → ⊥))

-- all headers are read, and the line begins with the word of no optional one
abbrev pub IsAfterHeadings : List ℕ → Drafted → Drafted → Type 0
IsAfterHeadings line old new = (old.read ≡ header_count) × (new ≡ old) × (NamesExtra (words line) → ⊥)

-- addresses or names are held while the line is read: it is for the first header, or begins with the word of a role or of types
abbrev pub HoldsList : List ℕ → Drafted → Type 0
HoldsList line old = (old.read ≡ 0) ⊎ ((old.read ≡ header_count) × NamesList (words line))

-- what is read of a line while headers are; memory runs out where addresses or names are held alone
abbrev pub HeaderLineAnswers : Result Bool LineFault → List ℕ → Drafted → Drafted → Type 0
HeaderLineAnswers (Ok true) line old new = IsHeading line old new
HeaderLineAnswers (Ok false) line old new = IsAfterHeadings line old new
HeaderLineAnswers (Err fault.TheVariants.Malformed) line old new = ⊥
HeaderLineAnswers (Err fault.TheVariants.BadHeader) line old new = (new ≡ old) × IsNoHeading line old
HeaderLineAnswers (Err (fault.TheVariants.NoMemory _)) line old new = (new ≡ old) × HoldsList line old

-- what one line does while headers are read: it is passed over, or it is a header; or it is for the world
abbrev pub HeadingAnswers : Result Bool Stop → List ℕ → Drafted → Drafted → Type 0
HeadingAnswers (Ok true) line old new = (IsPassedOver line × (new ≡ old)) ⊎ ((IsPassedOver line → ⊥) × IsHeading line old new)
HeadingAnswers (Ok false) line old new = (IsPassedOver line → ⊥) × IsAfterHeadings line old new
HeadingAnswers (Err (Refused BadHeader)) line old new = (new ≡ old) × (IsPassedOver line → ⊥) × IsNoHeading line old
HeadingAnswers (Err (Refused Malformed)) line old new = ⊥
HeadingAnswers (Err (Refused PastLimit)) line old new = ⊥
HeadingAnswers (Err (Refused (Invalid why))) line old new = ⊥
HeadingAnswers (Err NoMemory) line old new = (new ≡ old) × (IsPassedOver line → ⊥) × HoldsList line old

-- the line spells an event that the world accepts, and its step is printed
pub record Runs (line : List ℕ) (number : ℕ) (old new : WorldModel) (before after : List ℕ) : Type 0 where
  pub event : Event
  pub done : Done
  pub spelled : SpellsEvent line event
  pub happened : happens old.settings event old.state ≡ Ok done
  pub world : new ≡ record { settings = old.settings; state = done.world; events = old.events ++ event ∷ []; spent = false }
  pub text : after ≡ before ++ step_text (length old.state.packets + 1) number event done

-- what one line does after the headers, when so many events were applied: it is passed over, or its step is taken; memory runs out
-- at a line that spells an event alone
abbrev pub RunningAnswers : Result Bool Stop → List ℕ → ℕ → WorldModel → WorldModel → List ℕ → List ℕ → Type 0
RunningAnswers (Ok true) line steps old new before after = (steps < most_events) × Runs line (steps + 1) old new before after
RunningAnswers (Ok false) line steps old new before after = IsPassedOver line × (new ≡ old) × (after ≡ before)
RunningAnswers (Err (Refused Malformed)) line steps old new before after =
    (steps < most_events) × (IsPassedOver line → ⊥) × ((event : Event) → SpellsEvent line event → ⊥) × (after ≡ before)
RunningAnswers (Err (Refused (Invalid why))) line steps old new before after =
    (steps < most_events) × (event : Event) × SpellsEvent line event × (happens old.settings event old.state ≡ Err why) × (after ≡ before)
RunningAnswers (Err (Refused BadHeader)) line steps old new before after = ⊥
RunningAnswers (Err (Refused PastLimit)) line steps old new before after = (most_events ≤ steps) × (IsPassedOver line → ⊥) × (after ≡ before)
RunningAnswers (Err NoMemory) line steps old new before after = (steps < most_events) × (event : Event) × SpellsEvent line event × (after ≡ before)

-- what a line does that brings no event: it is passed over, or refused with this code
abbrev pub PassesOver : Result Bool Stop → List ℕ → Code → Type 0
PassesOver (Ok went) line code = IsPassedOver line × (went ≡ false)
PassesOver (Err (Refused why)) line code = (IsPassedOver line → ⊥) × (why ≡ code)
PassesOver (Err NoMemory) line code = ⊥

-- a line is accepted, and brings a replay from p to q with this text
pub record Turns (p : Progress) (line : List ℕ) (q : Progress) (text : List ℕ) : Type 0 where
  pub judgement : Judgement
  pub judged : Judged p line judgement
  pub next : q ≡ (turn p judgement).0
  pub text_is : text ≡ concat (turn p judgement).1

-- memory runs out within the limits alone: where the first header, a role or types are wanted, which hold addresses or names, or at
-- a line that spells an event
abbrev pub MayRunOut : Progress → List ℕ → Type 0
MayRunOut p line =
    (WantsHeader p line × (p.headers ≡ 0)) ⊎ ((WantsExtra p line × NamesList (words line)) ⊎ (WantsEvent p line × HasRoom p × (event : Event) × SpellsEvent line event))

-- what one line does: it is accepted and its text is printed, or refused and nothing is printed, or memory runs out
abbrev pub TurnAnswers : Result (Unit {0}) Stop → List ℕ → Progress → Progress → List ℕ → List ℕ → Type 0
TurnAnswers (Ok u) line p q before after = (text : List ℕ) × Turns p line q text × (after ≡ before ++ text)
TurnAnswers (Err (Refused code)) line p q before after = IsRefused p line code × (after ≡ before)
TurnAnswers (Err NoMemory) line p q before after = MayRunOut p line × (after ≡ before)

-- what comes after the last line: the summary, and whether there is a double; or a header is missing
abbrev pub FinishAnswers : Result Bool Stop → Progress → List ℕ → List ℕ → Type 0
FinishAnswers (Ok doubled) p before after =
    (header_count ≤ p.headers) × (margin : Margin) × (double : Option Doubled) × IsMargin p.settings p.events margin × IsFirstDouble p.settings p.events double
    × (doubled ≡ is_some double) × (after ≡ before ++ ending_text (Finished p margin double))
FinishAnswers (Err (Refused BadHeader)) p before after = (p.headers < header_count) × (after ≡ before)
FinishAnswers (Err (Refused Malformed)) p before after = ⊥
FinishAnswers (Err (Refused PastLimit)) p before after = ⊥
FinishAnswers (Err (Refused (Invalid why))) p before after = ⊥
FinishAnswers (Err NoMemory) p before after = (header_count ≤ p.headers) × (after ≡ before)

-- the status of a replay whose lines were all accepted, by whether there is a double
abbrev pub finished_status : Bool → Status
finished_status true = status.TheVariants.Double
finished_status false = status.TheVariants.Done

-- how a replay ends in the output, after the text that it has printed, by the sink's counts of faults
abbrev pub Ended : Result Bool Stop → ℕ → List ℕ → Status → ℕ → ℕ → Option (List ℕ) → Option (List ℕ) → Type 0
Ended (Ok doubled) line text answer w0 w1 old new = Written (finished_status doubled) text answer w0 w1 old new
Ended (Err (Refused code)) line text answer w0 w1 old new =
    Written status.TheVariants.Schedule (text ++ refusal_text code line) answer w0 w1 old new
    ⊎ Written status.TheVariants.Memory (text ++ memory_line) answer w0 w1 old new
Ended (Err NoMemory) line text answer w0 w1 old new = Written status.TheVariants.Memory (text ++ memory_line) answer w0 w1 old new

-- After the last line a replay ends so in the output, by what it has printed before and by the sink's counts of faults.
abbrev pub EndsWith : Progress → List ℕ → Status → ℕ → ℕ → Option (List ℕ) → Option (List ℕ) → Type 0
EndsWith p before answer w0 w1 old new =
    (end : Result Bool Stop) × (after : List ℕ) × FinishAnswers end p before after × Ended end p.line after answer w0 w1 old new

-- What was printed before the next line is as it was, where the source need not be asked, or it is written.
abbrev pub Flushes : Next → List ℕ → List ℕ → Option (List ℕ) → Option (List ℕ) → Type 0
Flushes next before after old new = ((new ≡ old) × (after ≡ before) × (next ≢ Failed)) ⊎ (Appends old new before × (after ≡ []))
