-- A schedule has one replay at most, and the world that it reaches is the run of its settings over the events that it accepted.
use Rattle.std.proofs.Common.{◌≡◌, ℕ, ◌<◌, ◌≤◌, ◌⊎◌, List, [], ◌∷◌, ◌++◌, Option, None, Some, Result, Ok, Err, length, refl, sym, ap, subst, inl, inr, ◌∙◌, arith}
use Rattle.std.specs.List.{concat}
use Rattle.ak_schedule.specs.declared.event.Event.{Event}
use Rattle.ak_schedule.specs.declared.draft.Header as header
use Rattle.ak_schedule.specs.Draft.{Drafted}
use Rattle.ak_schedule.specs.Line.{lines, IsPassedOver}
use Rattle.ak_settings.specs.Settings.{SettingsModel}
use Rattle.ak_schedule.specs.Schedule.{SetsHeader, SpellsEvent}
use Rattle.ak_schedule.proofs.OneWay.{one_event, one_extra, one_settings}
use Rattle.ak_driver.specs.declared.replay.Code.{Code}
use Rattle.ak_driver.specs.declared.replay.Code.TheVariants.{Malformed, BadHeader, PastLimit, Invalid}
use Rattle.ak_world.specs.declared.world.Reason.{Reason}
use Rattle.ak_world.specs.World.{WorldState, Done, empty_world, happens, after, run}
use Rattle.ak_world.proofs.WorldLemmas.{run-push}
use Rattle.ak_world.specs.declared.margin.Margin.{Margin}
use Rattle.ak_world.proofs.MarginRuns.{one_margin}
use Rattle.ak_world.specs.Double.{Doubled}
use Rattle.ak_world.proofs.DoubleMarks.{one_first}
use Rattle.ak_driver.specs.ReplayText.{Progress, Judgement, Passes, Sets, SetsExtra, Steps, Ending, Finished, Stopped, Judged, IsRefused, WantsHeader, WantsExtra, WantsEvent, HasRoom, SetsNext, SetsLater, EndsAs, Replays, ReplaysAs, IsReplay, turn, at_start, ending_text, ending_status, most_lines, most_events, header_count}

-- ---- what a line is, from which its judgement or its code follows
data Finding : Type 0 where
  Over : Finding
  Passed : Finding
  Header : SettingsModel → Finding
  NoHeader : Finding
  Extra : ℕ → SettingsModel → Finding
  NoExtra : Finding
  Full : Finding
  NoEvent : Finding
  Happens : Event → Result Done Reason → Finding

abbrev Found : Progress → List ℕ → Finding → Type 0
Found p line Over = most_lines < p.line
Found p line Passed = (p.line ≤ most_lines) × IsPassedOver line
Found p line (Header settings) = WantsHeader p line × SetsNext p line settings
Found p line NoHeader = WantsHeader p line × ((settings : SettingsModel) → SetsNext p line settings → ⊥)
Found p line (Extra extra settings) = WantsExtra p line × SetsLater p line extra settings
Found p line NoExtra = WantsExtra p line × ((extra : ℕ) (settings : SettingsModel) → SetsLater p line extra settings → ⊥)
Found p line Full = WantsEvent p line × (most_events ≤ length p.events)
Found p line NoEvent = WantsEvent p line × HasRoom p × ((event : Event) → SpellsEvent line event → ⊥)
Found p line (Happens event result) = WantsEvent p line × HasRoom p × SpellsEvent line event × (happens p.settings event p.world ≡ result)

-- a line is accepted as this, or refused with this code
data Verdict : Type 0 where
  Accepts : Judgement → Verdict
  Refuses : Code → Verdict

abbrev verdict : Finding → Verdict
verdict Over = Refuses PastLimit
verdict Passed = Accepts Passes
verdict (Header settings) = Accepts (Sets settings)
verdict NoHeader = Refuses BadHeader
verdict (Extra extra settings) = Accepts (SetsExtra extra settings)
verdict NoExtra = Refuses BadHeader
verdict Full = Refuses PastLimit
verdict NoEvent = Refuses Malformed
verdict (Happens event (Ok done)) = Accepts (Steps event done)
verdict (Happens event (Err why)) = Refuses (Invalid why)

abbrev Is : Progress → List ℕ → Verdict → Type 0
Is p line (Accepts judgement) = Judged p line judgement
Is p line (Refuses code) = IsRefused p line code

abbrev Finds : Progress → List ℕ → Verdict → Type 0
Finds p line v = (finding : Finding) × Found p line finding × (v ≡ verdict finding)

refusal : (p : Progress) (line : List ℕ) (code : Code) → IsRefused p line code → Finds p line (Refuses code)
refusal p line Malformed j = (NoEvent, j, refl)
refusal p line BadHeader (inl j) = (NoHeader, j, refl)
refusal p line BadHeader (inr j) = (NoExtra, j, refl)
refusal p line PastLimit (inl over) = (Over, over, refl)
refusal p line PastLimit (inr full) = (Full, full, refl)
refusal p line (Invalid why) j = (Happens j.2 (Err why), (j.0, j.1, j.3, j.4), refl)

finds : (p : Progress) (line : List ℕ) (v : Verdict) → Is p line v → Finds p line v
finds p line (Accepts Passes) j = (Passed, j, refl)
finds p line (Accepts (Sets settings)) j = (Header settings, j, refl)
finds p line (Accepts (SetsExtra extra settings)) j = (Extra extra settings, j, refl)
finds p line (Accepts (Steps event done)) j = (Happens event (Ok done), j, refl)
finds p line (Refuses code) j = refusal p line code j

-- ---- a line is found to be one thing
same_header : (p : Progress) (line : List ℕ) (one other : SettingsModel) → SetsNext p line one → SetsNext p line other → one ≡ other
same_header p line one other h g =
    let same : h.which ≡ g.which = cc (h.next, g.next) in
    one_settings g.which line p.settings one other (subst (λ (w : header.Header). SetsHeader w line p.settings one) same h.sets) g.sets

-- an optional header is wanted, or an event
unlike : (p : Progress) (line : List ℕ) → WantsExtra p line → WantsEvent p line → ⊥
unlike p line extra event = event.no_extra extra.none_yet extra.short extra.named

-- how far a draft has come with an optional header
abbrev later : Progress → ℕ → SettingsModel → Drafted
later p extra settings = record { read = p.headers; extra = extra; settings = settings }

same_extra : (p : Progress) (line : List ℕ) (m n : ℕ) (one other : SettingsModel) → SetsLater p line m one → SetsLater p line n other → later p m one ≡ later p n other
same_extra p line m n one other h g = one_extra line (later p p.extra p.settings) (later p m one) (later p n other) h g

one_finding : (p : Progress) (line : List ℕ) (one other : Finding) → Found p line one → Found p line other → one ≡ other
one_finding p line Over Over h g = refl
one_finding p line Over other h g = absurd (omega arith)
one_finding p line one Over h g = absurd (omega arith)
one_finding p line Passed Passed h g = refl
one_finding p line Passed other h g = absurd (g.0.not_passed h.1)
one_finding p line one Passed h g = absurd (h.0.not_passed g.1)
one_finding p line (Header settings) (Header other) h g = ap Header (same_header p line settings other h.1 g.1)
one_finding p line (Header settings) NoHeader h g = absurd (g.1 settings h.1)
one_finding p line NoHeader (Header settings) h g = absurd (h.1 settings g.1)
one_finding p line NoHeader NoHeader h g = refl
one_finding p line (Extra extra settings) (Extra other_extra other) h g =
    let same = same_extra p line extra other_extra settings other h.1 g.1 in
    (λ i. Extra ((same i).extra) ((same i).settings))
one_finding p line (Extra extra settings) NoExtra h g = absurd (g.1 extra settings h.1)
one_finding p line NoExtra (Extra extra settings) h g = absurd (h.1 extra settings g.1)
one_finding p line NoExtra NoExtra h g = refl
one_finding p line (Extra extra settings) Full h g = absurd (unlike p line h.0 g.0)
one_finding p line (Extra extra settings) NoEvent h g = absurd (unlike p line h.0 g.0)
one_finding p line (Extra extra settings) (Happens event result) h g = absurd (unlike p line h.0 g.0)
one_finding p line NoExtra Full h g = absurd (unlike p line h.0 g.0)
one_finding p line NoExtra NoEvent h g = absurd (unlike p line h.0 g.0)
one_finding p line NoExtra (Happens event result) h g = absurd (unlike p line h.0 g.0)
one_finding p line Full (Extra extra settings) h g = absurd (unlike p line g.0 h.0)
one_finding p line NoEvent (Extra extra settings) h g = absurd (unlike p line g.0 h.0)
one_finding p line (Happens event result) (Extra extra settings) h g = absurd (unlike p line g.0 h.0)
one_finding p line Full NoExtra h g = absurd (unlike p line g.0 h.0)
one_finding p line NoEvent NoExtra h g = absurd (unlike p line g.0 h.0)
one_finding p line (Happens event result) NoExtra h g = absurd (unlike p line g.0 h.0)
one_finding p line Full Full h g = refl
one_finding p line NoEvent NoEvent h g = refl
one_finding p line NoEvent (Happens event result) h g = absurd (h.2 event g.2)
one_finding p line (Happens event result) NoEvent h g = absurd (g.2 event h.2)
one_finding p line (Happens event result) (Happens other answer) h g =
    let same : event ≡ other = one_event line event other h.2 g.2 in
    let results : result ≡ answer = cc in
    cc
one_finding p line one other h g = absurd (omega arith)

one_verdict : (p : Progress) (line : List ℕ) (one other : Verdict) → Is p line one → Is p line other → one ≡ other
one_verdict p line one other h g =
    let a = finds p line one h in
    let b = finds p line other g in
    a.2 ∙ ap verdict (one_finding p line a.0 b.0 a.1 b.1) ∙ sym b.2

abbrev judgement_in : Verdict → Judgement
judgement_in (Accepts judgement) = judgement
judgement_in (Refuses code) = Passes

abbrev code_in : Verdict → Code
code_in (Accepts judgement) = Malformed
code_in (Refuses code) = code

-- an accepted line is accepted as one thing, and is not refused
pub one_judgement : (p : Progress) (line : List ℕ) (one other : Judgement) → Judged p line one → Judged p line other → one ≡ other
one_judgement p line one other h g = ap judgement_in (one_verdict p line (Accepts one) (Accepts other) h g)

pub not_refused : (p : Progress) (line : List ℕ) (judgement : Judgement) (code : Code) → Judged p line judgement → IsRefused p line code → ⊥
not_refused p line judgement code h g = let same = one_verdict p line (Accepts judgement) (Refuses code) h g in cc

-- ---- a whole replay
abbrev Same : List (List ℕ) → Ending → List (List ℕ) → Ending → Type 0
Same s x t y = (s ≡ t) × (x ≡ y)

one_end : (p : Progress) (x y : Ending) → EndsAs p x → EndsAs p y → x ≡ y
one_end p x y (inl h) (inl g) =
    let margin = one_margin p.settings p.events h.1 g.1 h.3 g.3 in
    let double = one_first p.settings p.events h.2 g.2 h.4 g.4 in
    h.5 ∙ (λ i. Finished p (margin i) (double i)) ∙ sym g.5
one_end p x y (inl h) (inr g) = absurd (omega arith)
one_end p x y (inr h) (inl g) = absurd (omega arith)
one_end p x y (inr h) (inr g) = h.1 ∙ sym g.1

one_from : (others : List (List ℕ)) (p : Progress) (s t : List (List ℕ)) (x y : Ending) → Replays p others s x → Replays p others t y → Same s x t y
one_from [] p s t x y h g = (h.0 ∙ sym g.0, one_end p x y h.1 g.1)
one_from (line ∷ others) p s t x y (inl h) (inl g) =
    let same = ap code_in (one_verdict p line (Refuses h.0) (Refuses g.0) h.1 g.1) in
    (h.2 ∙ sym g.2, h.3 ∙ ap (λ (c : Code). Stopped c p.line) same ∙ sym g.3)
one_from (line ∷ others) p s t x y (inl h) (inr g) = absurd (not_refused p line g.0 h.0 g.1 h.1)
one_from (line ∷ others) p s t x y (inr h) (inl g) = absurd (not_refused p line h.0 g.0 h.1 g.1)
one_from (line ∷ others) p s t x y (inr h) (inr g) =
    let same = one_judgement p line h.0 g.0 h.1 g.1 in
    let rest = one_from others (turn p g.0).0 h.2 g.2 x y (subst (λ (j : Judgement). Replays (turn p j).0 others h.2 x) same h.3) g.3 in
    (h.4 ∙ (λ i. (turn p (same i)).1 ++ rest.0 i) ∙ sym g.4, rest.1)

pub one_replay : (bytes : List ℕ) (s t : ℕ) (x y : List ℕ) → IsReplay bytes s x → IsReplay bytes t y → (s ≡ t) × (x ≡ y)
one_replay bytes s t x y h g =
    let same = one_from (lines bytes) at_start h.0 g.0 h.1 g.1 h.2 g.2 in
    (h.3 ∙ ap ending_status same.1 ∙ sym g.3, h.4 ∙ (λ i. concat (same.0 i) ++ ending_text (same.1 i)) ∙ sym g.4)

status_of : (ending : Ending) → (ending_status ending ≡ 0) ⊎ ((ending_status ending ≡ 1) ⊎ (ending_status ending ≡ 4))
status_of (Finished p margin None) = inl refl
status_of (Finished p margin (Some double)) = inr (inl refl)
status_of (Stopped code line) = inr (inr refl)

pub replay_status : (bytes : List ℕ) (s : ℕ) (x : List ℕ) → IsReplay bytes s x → (s ≡ 0) ⊎ ((s ≡ 1) ⊎ (s ≡ 4))
replay_status bytes s x h = subst (λ (k : ℕ). (k ≡ 0) ⊎ ((k ≡ 1) ⊎ (k ≡ 4))) (sym h.3) (status_of h.1)

-- ---- the world that is reached
-- while headers are read nothing has happened, and the world is the run of the settings over the accepted events
record IsRun (p : Progress) : Type 0 where
  heading : p.headers < header_count → p.events ≡ []
  is_run : p.world ≡ run p.settings p.events

turn_run : (p : Progress) (line : List ℕ) (judgement : Judgement) → Judged p line judgement → IsRun p → IsRun (turn p judgement).0
turn_run p line Passes j r = record { heading = r.heading; is_run = r.is_run }
turn_run p line (Sets settings) j r =
    let none = r.heading j.0.heading in
    record { heading = λ _. none; is_run = r.is_run ∙ ap (run p.settings) none ∙ ap (run settings) (sym none) }
turn_run p line (SetsExtra extra settings) j r =
    let none = j.0.none_yet in
    record { heading = λ _. none; is_run = r.is_run ∙ ap (run p.settings) none ∙ ap (run settings) (sym none) }
turn_run p line (Steps event done) j r = record {
  heading = λ few. absurd (let all = j.0.running in omega arith);
  is_run =
      sym (ap (after p.world) j.3)
      ∙ ap (λ (w : WorldState). after w (happens p.settings event w)) r.is_run
      ∙ sym (run-push p.settings empty_world p.events event);
}

abbrev progress_in : Ending → Progress
progress_in (Finished p margin double) = p
progress_in (Stopped code line) = at_start

finished_run : (others : List (List ℕ)) (p q : Progress) (margin : Margin) (double : Option Doubled) (steps : List (List ℕ)) → Replays p others steps (Finished q margin double) → IsRun p → IsRun q
finished_run [] p q margin double steps (none, inl h) r = subst IsRun (let same : Finished q margin double ≡ Finished p h.1 h.2 = h.5 in sym (ap progress_in same)) r
finished_run [] p q margin double steps (none, inr h) r = absurd (cc)
finished_run (line ∷ others) p q margin double steps (inl h) r = absurd (cc)
finished_run (line ∷ others) p q margin double steps (inr h) r = finished_run others (turn p h.0).0 q margin double h.2 h.3 (turn_run p line h.0 h.1 r)

pub reached : (bytes : List ℕ) (steps : List (List ℕ)) (p : Progress) (margin : Margin) (double : Option Doubled) → ReplaysAs bytes steps (Finished p margin double) → p.world ≡ run p.settings p.events
reached bytes steps p margin double r = (finished_run (lines bytes) at_start p margin double steps r (record { heading = λ _. refl; is_run = refl })).is_run
