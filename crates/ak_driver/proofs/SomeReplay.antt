-- Each schedule has a replay: its steps and its end.
use Rattle.std.proofs.Common.{◌≡◌, ℕ, ◌<◌, ◌≤◌, List, [], ◌∷◌, ◌++◌, Option, Some, None, Result, Ok, Err, slice_get, length, refl, subst, inl, inr, ◌⊎◌, arith}
use Rattle.std.proofs.lemmas.Option.{slice_get-get_or}
use Rattle.ak_schedule.specs.declared.event.Event.{Event}
use Rattle.ak_schedule.specs.declared.draft.Header as header
use Rattle.ak_schedule.specs.Draft.{ReadsExtra}
use Rattle.ak_schedule.specs.Line.{lines, words, most_bytes, IsPassedOver}
use Rattle.ak_settings.specs.Settings.{SettingsModel}
use Rattle.ak_schedule.specs.Schedule.{headers, NamesExtra, SetsHeader, SpellsEvent}
use Rattle.ak_schedule.proofs.Deciding.{Tells, Finds, at_most, below, named_extra, passed_over, set_extra, set_header, spelled_event}
use Rattle.ak_world.specs.declared.world.Reason.{Reason}
use Rattle.ak_world.specs.World.{Done, happens}
use Rattle.ak_driver.specs.declared.replay.Code.{Code}
use Rattle.ak_driver.specs.declared.replay.Code.TheVariants.{Malformed, BadHeader, PastLimit, Invalid}
use Rattle.ak_world.proofs.MarginRuns.{some_margin}
use Rattle.ak_world.proofs.SomeDouble.{some_double}
use Rattle.ak_driver.specs.ReplayText.{Progress, Judgement, Passes, Sets, SetsExtra, Steps, Ending, Finished, Stopped, Judged, IsRefused, WantsHeader, WantsExtra, WantsEvent, HasRoom, SetsNext, Replays, IsReplay, turn, at_start, ending_status, most_lines, most_events, header_count}

-- ---- each line is accepted or refused
abbrev pub Found : Progress → List ℕ → Type 0
Found p line = ((code : Code) × IsRefused p line code) ⊎ ((judgement : Judgement) × Judged p line judgement)

happened : (p : Progress) (line : List ℕ) (event : Event) (r : Result Done Reason) → WantsEvent p line → HasRoom p → SpellsEvent line event
    → happens p.settings event p.world ≡ r → Found p line
happened p line event (Ok done) wants room spells is = inr (Steps event done, (wants, room, spells, is))
happened p line event (Err why) wants room spells is = inl (Invalid why, (wants, room, event, spells, is))

event_found : (p : Progress) (line : List ℕ) → WantsEvent p line → Tells (length p.events < most_events) → Finds (SpellsEvent line) → Found p line
event_found p line wants (inr full) spelled = inl (PastLimit, inr (wants, omega arith))
event_found p line wants (inl room) (inl event) = happened p line event.0 (happens p.settings event.0 p.world) wants room event.1 refl
event_found p line wants (inl room) (inr none) = inl (Malformed, (wants, room, λ event spells. none (event, spells)))

-- the header that comes next, where one does
next_header : (p : Progress) (line : List ℕ) (o : Option header.Header) → slice_get headers p.headers ≡ o → p.headers < header_count → Finds (SetsNext p line)
next_header p line None is wanted = absurd (let some : slice_get headers p.headers ≡ Some _ = slice_get-get_or headers p.headers header.TheVariants.Listed wanted in cc)
next_header p line (Some which) is wanted = elim (set_header which line p.settings) [
  | inl set ↦ inl (set.0, record { which = which; next = is; sets = set.1; count = refl; same_extra = refl })
  | inr none ↦ inr (λ set. none (set.0, sets_which set.1))
]
  where
    sets_which : {settings : SettingsModel} → SetsNext p line settings → SetsHeader which line p.settings settings
    sets_which {settings} read =
        let same : read.which ≡ which = cc (read.next, is) in
        subst (λ (h : header.Header). SetsHeader h line p.settings settings) same read.sets

header_found : (p : Progress) (line : List ℕ) → WantsHeader p line → Finds (SetsNext p line) → Found p line
header_found p line wants (inl set) = inr (Sets set.0, (wants, set.1))
header_found p line wants (inr none) = inl (BadHeader, inl (wants, λ settings sets. none (settings, sets)))

-- an optional header where one is wanted
extra_found : (p : Progress) (line : List ℕ) → WantsExtra p line → Finds (ReadsExtra line (record { read = p.headers; extra = p.extra; settings = p.settings })) → Found p line
extra_found p line wants (inl read) =
    let r = read.1 in
    inr (SetsExtra read.0.extra read.0.settings, (wants, record { which = r.which; index = r.index; next = r.next; later = r.later; sets = r.sets; same_read = refl; past = r.past }))
extra_found p line wants (inr none) =
    inl (BadHeader, inr (wants, λ extra settings read. none (record { read = p.headers; extra = extra; settings = settings }, read)))

-- an event or an optional header where all headers are read
after_headers : (p : Progress) (line : List ℕ) → p.line ≤ most_lines → (IsPassedOver line → ⊥) → header_count ≤ p.headers → Tells (p.events ≡ []) → Tells (length line ≤ most_bytes) → Tells (NamesExtra (words line))
    → Found p line
after_headers p line within wanted running (inl none) (inl short) (inl named) =
    extra_found p line (record { in_limit = within; not_passed = wanted; running = running; none_yet = none; short = short; named = named })
    (set_extra line (record { read = p.headers; extra = p.extra; settings = p.settings }))
after_headers p line within wanted running (inr some) short named =
    event_found p line (record { in_limit = within; not_passed = wanted; running = running; no_extra = λ none s n. some none }) (below (length p.events) most_events) (spelled_event line)
after_headers p line within wanted running none (inr long) named =
    event_found p line (record { in_limit = within; not_passed = wanted; running = running; no_extra = λ none s n. long s }) (below (length p.events) most_events) (spelled_event line)
after_headers p line within wanted running none short (inr other) =
    event_found p line (record { in_limit = within; not_passed = wanted; running = running; no_extra = λ none s n. other n }) (below (length p.events) most_events) (spelled_event line)

none_yet : (events : List Event) → Tells (events ≡ [])
none_yet [] = inl refl
none_yet (event ∷ events) = inr (λ h. cc)

found_in : (p : Progress) (line : List ℕ) → p.line ≤ most_lines → Tells (IsPassedOver line) → Tells (p.headers < header_count) → Found p line
found_in p line within (inl passed) heading = inr (Passes, (within, passed))
found_in p line within (inr wanted) (inl heading) =
    header_found p line (record { in_limit = within; not_passed = wanted; heading = heading }) (next_header p line (slice_get headers p.headers) refl heading)
found_in p line within (inr wanted) (inr running) =
    after_headers p line within wanted (omega arith) (none_yet p.events) (at_most (length line) most_bytes) (named_extra (words line))

found : (p : Progress) (line : List ℕ) → Tells (p.line ≤ most_lines) → Found p line
found p line (inl within) = found_in p line within (passed_over line) (below p.headers header_count)
found p line (inr past) = inl (PastLimit, inl (omega arith))

-- ---- a whole replay
abbrev pub SomeEnd : Progress → List (List ℕ) → Type 0
SomeEnd p lines = (steps : List (List ℕ)) × (ending : Ending) × Replays p lines steps ending

end_from : (p : Progress) → Tells (p.headers < header_count) → SomeEnd p []
end_from p (inl few) = ([], Stopped BadHeader p.line, (refl, inr (few, refl)))
end_from p (inr all) =
    let m = some_margin p.settings p.events in
    let d = some_double p.settings p.events in
    ([], Finished p m.0 d.0, (refl, inl (omega arith, m.0, d.0, m.1, d.1, refl)))

goes : (p : Progress) (line : List ℕ) (others : List (List ℕ)) → Found p line → ((q : Progress) → SomeEnd q others) → SomeEnd p (line ∷ others)
goes p line others (inl refused) rest = ([], Stopped refused.0 p.line, inl (refused.0, refused.1, refl, refl))
goes p line others (inr here) rest =
    let on = rest (turn p here.0).0 in
    ((turn p here.0).1 ++ on.0, on.1, inr (here.0, here.1, on.0, on.2, refl))

pub some_from : (lines : List (List ℕ)) (p : Progress) → (steps : List (List ℕ)) × (ending : Ending) × Replays p lines steps ending
some_from [] p = end_from p (below p.headers header_count)
some_from (line ∷ others) p = goes p line others (found p line (at_most p.line most_lines)) (some_from others)

pub some_replay : (bytes : List ℕ) → (status : ℕ) × (text : List ℕ) × IsReplay bytes status text
some_replay bytes =
    let on = some_from (lines bytes) at_start in
    (ending_status on.1, _, (on.0, on.1, on.2, refl, refl))
