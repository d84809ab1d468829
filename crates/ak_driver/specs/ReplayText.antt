-- What a replay of a recorded schedule prints, and its status: by the grammar of a line and the rules of the world.
use Rattle.std.specs.Prelude.{◌≡◌, ℕ, ◌+◌, ◌<◌, ◌≤◌, ◌⊎◌, List, [], ◌∷◌, ◌++◌, ◌==◌, codes, map, length, take, Option, None, Some, Ok, Err}
use Rattle.std.specs.List.{concat, slice_split}
use Rattle.std.specs.Fmt.{decimal}
use Rattle.ak_schedule.specs.Line.{lines, words, most_bytes, without_cr, IsPassedOver}
use Rattle.ak_settings.specs.Settings.{SettingsModel}
use Rattle.ak_schedule.specs.Schedule.{SpellsEvent, NamesExtra, extras}
use Rattle.ak_schedule.specs.Draft.{first_draft, ReadsHeader, ReadsExtra}
use Rattle.ak_schedule.specs.declared.event.Event.{Event}
use Rattle.ak_world.specs.declared.world.Reason.{Reason}
use Rattle.ak_world.specs.declared.world.Reason.TheVariants.{Unlisted, UniqueUsed, AddressInUse, SecondFound, UnknownNode, NodeStopped, NoPacket, TooManyPackets, TooManyStarts, BadEntity}
use Rattle.ak_driver.specs.declared.replay.Code.{Code}
use Rattle.ak_driver.specs.declared.replay.Code.TheVariants.{Malformed, BadHeader, PastLimit, Invalid}
use Rattle.ak_world.specs.declared.margin.Margin.{Margin}
use Rattle.ak_world.specs.Margin.{IsMargin}
use Rattle.ak_world.specs.Double.{Doubled, IsFirstDouble}
use Rattle.ak_world.specs.World.{WorldState, Done, empty_world, happens}
use Rattle.ak_world.specs.StepText.{step_text, summary_text}

-- a schedule may have this many lines, and events
abbrev pub most_lines : ℕ
most_lines = 200000

abbrev pub most_events : ℕ
most_events = 50000

abbrev pub header_count : ℕ
header_count = 9

-- how far a replay has come
pub record Progress : Type 0 where
  -- the number of the next line, from 1 on
  pub line : ℕ
  -- how many headers were read, the index of the first optional header that may still come, and what they set
  pub headers : ℕ
  pub extra : ℕ
  pub settings : SettingsModel
  -- the events that were accepted, and the world after them
  pub events : List Event
  pub world : WorldState

-- before the first line no header is read
abbrev pub at_start : Progress
at_start = record { line = 1; headers = first_draft.read; extra = first_draft.extra; settings = first_draft.settings; events = []; world = empty_world }

abbrev pub reason_text : Reason → List ℕ
reason_text Unlisted = codes "S3"
reason_text UniqueUsed = codes "S4"
reason_text AddressInUse = codes "S5"
reason_text SecondFound = codes "S6"
reason_text UnknownNode = codes "S7"
reason_text NodeStopped = codes "S8"
reason_text (NoPacket sent) = codes "S9"
reason_text TooManyPackets = codes "S10"
reason_text TooManyStarts = codes "S11"
reason_text BadEntity = codes "S14"

abbrev pub code_text : Code → List ℕ
code_text Malformed = codes "S1"
code_text BadHeader = codes "S2"
code_text (Invalid why) = reason_text why
code_text PastLimit = codes "S12"

abbrev pub refusal_text : Code → ℕ → List ℕ
refusal_text code line = codes "error 4 " ++ code_text code ++ codes " line " ++ decimal line ++ 10 ∷ []

-- a header, or an event, is wanted of a line that is not passed over
pub record WantsHeader (p : Progress) (line : List ℕ) : Type 0 where
  pub in_limit : p.line ≤ most_lines
  pub not_passed : IsPassedOver line → ⊥
  pub heading : p.headers < header_count

-- an optional header is wanted of a line that is not too long and begins with the word of one, after the headers and before the
-- first event
pub record WantsExtra (p : Progress) (line : List ℕ) : Type 0 where
  pub in_limit : p.line ≤ most_lines
  pub not_passed : IsPassedOver line → ⊥
  pub running : header_count ≤ p.headers
  pub none_yet : p.events ≡ []
  pub short : length line ≤ most_bytes
  pub named : NamesExtra (words line)

-- an event of any other line after the headers
pub record WantsEvent (p : Progress) (line : List ℕ) : Type 0 where
  pub in_limit : p.line ≤ most_lines
  pub not_passed : IsPassedOver line → ⊥
  pub running : header_count ≤ p.headers
  pub no_extra : p.events ≡ [] → length line ≤ most_bytes → NamesExtra (words line) → ⊥

-- fewer events were accepted than may be
abbrev pub HasRoom : Progress → Type 0
HasRoom p = length p.events < most_events

-- the line is the next header, and sets its setting
abbrev pub SetsNext : Progress → List ℕ → SettingsModel → Type 0
SetsNext p line settings = ReadsHeader line (record { read = p.headers; extra = p.extra; settings = p.settings }) (record { read = p.headers + 1; extra = p.extra; settings = settings })

-- the line is an optional header that may still come, and sets its setting
abbrev pub SetsLater : Progress → List ℕ → ℕ → SettingsModel → Type 0
SetsLater p line extra settings = ReadsExtra line (record { read = p.headers; extra = p.extra; settings = p.settings }) (record { read = p.headers; extra = extra; settings = settings })

-- what an accepted line is: passed over, a header, an optional header, or an event that happens in the world
pub data Judgement : Type 0 where
  Passes : Judgement
  Sets : SettingsModel → Judgement
  SetsExtra : ℕ → SettingsModel → Judgement
  Steps : Event → Done → Judgement

-- a line is accepted as this
abbrev pub Judged : Progress → List ℕ → Judgement → Type 0
Judged p line Passes = (p.line ≤ most_lines) × IsPassedOver line
Judged p line (Sets settings) = WantsHeader p line × SetsNext p line settings
Judged p line (SetsExtra extra settings) = WantsExtra p line × SetsLater p line extra settings
Judged p line (Steps event done) = WantsEvent p line × HasRoom p × SpellsEvent line event × (happens p.settings event p.world ≡ Ok done)

-- a line is refused with this code: it spells no event; it is not the next header, or begins with the word of an optional one and
-- is none that may still come; it comes after the last that may be; or it spells an event that the world refuses
abbrev pub IsRefused : Progress → List ℕ → Code → Type 0
IsRefused p line Malformed = WantsEvent p line × HasRoom p × ((event : Event) → SpellsEvent line event → ⊥)
IsRefused p line BadHeader =
    (WantsHeader p line × ((settings : SettingsModel) → SetsNext p line settings → ⊥))
    ⊎ (WantsExtra p line × ((extra : ℕ) (settings : SettingsModel) → SetsLater p line extra settings → ⊥))
IsRefused p line PastLimit = (most_lines < p.line) ⊎ (WantsEvent p line × (most_events ≤ length p.events))
IsRefused p line (Invalid why) = WantsEvent p line × HasRoom p × (event : Event) × SpellsEvent line event × (happens p.settings event p.world ≡ Err why)

-- what an accepted line makes of a replay: how far it has come then, and the text of the step that it adds; after an event no
-- header may come
abbrev pub turn : Progress → Judgement → Progress × List (List ℕ)
turn p Passes = (record p { line = p.line + 1 }, [])
turn p (Sets settings) = (record p { line = p.line + 1; headers = p.headers + 1; settings = settings }, [])
turn p (SetsExtra extra settings) = (record p { line = p.line + 1; extra = extra; settings = settings }, [])
turn p (Steps event done) = (
  record p { line = p.line + 1; extra = length extras; events = p.events ++ event ∷ []; world = done.world },
  step_text (length p.world.packets + 1) (length p.events + 1) event done ∷ [],
)

-- how a replay ends: after its last line, with the margin and the first double of its events, or at a line that is refused
pub data Ending : Type 0 where
  Finished : Progress → Margin → Option Doubled → Ending
  Stopped : Code → ℕ → Ending

-- after the last line a replay is finished, or a header is missing
abbrev pub EndsAs : Progress → Ending → Type 0
EndsAs p ending =
    ((header_count ≤ p.headers) × (margin : Margin) × (double : Option Doubled) × IsMargin p.settings p.events margin × IsFirstDouble p.settings p.events double × (ending ≡ Finished p margin double))
    ⊎ ((p.headers < header_count) × (ending ≡ Stopped BadHeader p.line))

-- From here a replay of these lines takes steps with these texts, and ends so.
abbrev pub Replays : Progress → List (List ℕ) → List (List ℕ) → Ending → Type 0
Replays p [] steps ending = (steps ≡ []) × EndsAs p ending
Replays p (line ∷ lines) steps ending =
    ((code : Code) × IsRefused p line code × (steps ≡ []) × (ending ≡ Stopped code p.line))
    ⊎ ((judgement : Judgement) × Judged p line judgement
    × (rest : List (List ℕ)) × Replays (turn p judgement).0 lines rest ending × (steps ≡ (turn p judgement).1 ++ rest))

-- what is printed at the end, and the status
abbrev pub ending_text : Ending → List ℕ
ending_text (Finished p margin double) = summary_text (length p.events) margin double p.world
ending_text (Stopped code line) = refusal_text code line

abbrev pub ending_status : Ending → ℕ
ending_status (Finished p margin None) = 0
ending_status (Finished p margin (Some double)) = 1
ending_status (Stopped code line) = 4

-- the bytes of a schedule have these texts of steps and this end
abbrev pub ReplaysAs : List ℕ → List (List ℕ) → Ending → Type 0
ReplaysAs bytes steps ending = Replays at_start (lines bytes) steps ending

-- the bytes of a schedule have this replay text and status: the texts of all steps, and the end
abbrev pub IsReplay : List ℕ → ℕ → List ℕ → Type 0
IsReplay bytes status text =
    (steps : List (List ℕ)) × (ending : Ending) × ReplaysAs bytes steps ending × (status ≡ ending_status ending) × (text ≡ concat steps ++ ending_text ending)

-- the texts of some first steps of a replay of these bytes, whole
abbrev pub IsFirstSteps : List ℕ → List ℕ → Type 0
IsFirstSteps bytes text =
    (steps : List (List ℕ)) × (ending : Ending) × ReplaysAs bytes steps ending × (count : ℕ) × (text ≡ concat (take count steps))

-- these lines are accepted, one after another from p to q, with the texts of these steps
abbrev pub Accepts : Progress → List (List ℕ) → List (List ℕ) → Progress → Type 0
Accepts p [] steps q = (steps ≡ []) × (q ≡ p)
Accepts p (line ∷ lines) steps q =
    (judgement : Judgement) × Judged p line judgement
    × (rest : List (List ℕ)) × Accepts (turn p judgement).0 lines rest q × (steps ≡ (turn p judgement).1 ++ rest)

-- the texts of the steps of all lines that end with LF in these bytes, each of which is accepted; what stands after the last LF is no
-- line yet
abbrev pub IsTextOfEnded : List ℕ → List ℕ → Type 0
IsTextOfEnded bytes text =
    (ended : List (List ℕ)) × (last : List ℕ) × (slice_split (λ b. b == 10) bytes ≡ ended ++ last ∷ [])
    × (steps : List (List ℕ)) × (q : Progress) × Accepts at_start (map without_cr ended) steps q × (text ≡ concat steps)
