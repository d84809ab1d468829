-- What one line does to a replay, from what its calls answer.
use Rattle.std.proofs.Common.{◌≡◌, ℕ, ◌+◌, ◌<◌, ◌≤◌, Bool, true, false, List, [], ◌∷◌, ◌++◌, if◌then◌else◌, Result, Ok, Err, length, refl, sym, ap, subst, ◌∙◌, arith, append-nil, length-append, inl, inr}
use Rattle.ak_schedule.specs.declared.draft.Extra.TheVariants.{Role, Types}
use Rattle.ak_schedule.specs.Draft.{Drafted, ReadsExtra, ReadsHeader}
use Rattle.ak_schedule.specs.Line.{words, most_bytes, IsPassedOver}
use Rattle.ak_schedule.specs.Schedule.{NamesExtra, NamesList, extras}
use Rattle.ak_schedule.proofs.OneWay.{begins_extra}
use Rattle.ak_schedule.proofs.PassedOver.{no_event}
use Rattle.ak_driver.specs.declared.replay.Code.TheVariants.{Malformed, BadHeader, PastLimit, Invalid}
use Rattle.ak_driver.specs.declared.replay.Replay.{Replay}
use Rattle.ak_driver.specs.declared.replay.Stop.{Stop}
use Rattle.ak_driver.specs.declared.replay.Stop.TheVariants.{Refused, NoMemory}
use Rattle.ak_driver.specs.declared.replay.Stage.{Stage}
use Rattle.ak_driver.specs.declared.replay.Stage.TheVariants.{Heading, Running}
use Rattle.ak_world.specs.StepText.{step_text}
use Rattle.ak_world.specs.World.{empty_world}
use Rattle.ak_world.specs.WorldContracts.{WorldModel}
use Rattle.ak_driver.specs.ReplayText.{Progress, Passes, Sets, SetsExtra, Steps, most_lines, header_count}
use Rattle.ak_driver.specs.ReplayContracts.{progress, progress_of, world_of, IsReady, IsOpened, Opens, IsFor, Stands, Turns, TurnAnswers, HeadingAnswers, RunningAnswers, FinishAnswers}

-- a line that is passed over changes nothing but its number
passed_turn : (line before after : List ℕ) (p : Progress) → p.line ≤ most_lines → IsPassedOver line → after ≡ before
    → (text : List ℕ) × Turns p line (record p { line = p.line + 1 }) text × (after ≡ before ++ text)
passed_turn line before after p few passed same = (
  [],
  record { judgement = Passes; judged = (few, passed); next = refl; text_is = refl },
  same ∙ sym (append-nil before),
)

-- ---- a line while headers are read
-- the next header
header_turn : (line : List ℕ) (old new : Drafted) (n : ℕ) → (IsPassedOver line → ⊥) → old.read < header_count → ReadsHeader line old new → n ≤ most_lines
    → Turns (progress (Heading old) n) line (progress (Heading new) (n + 1)) []
header_turn line old new n wanted few r within = record {
  judgement = Sets new.settings;
  judged = (
    record { in_limit = within; not_passed = wanted; heading = few },
    record { which = r.which; next = r.next; sets = r.sets; count = refl; same_extra = refl },
  );
  next = (λ i. record { line = n + 1; headers = r.count i; extra = r.same_extra i; settings = new.settings; events = []; world = empty_world });
  text_is = refl;
}

-- an optional header
extra_turn : (line : List ℕ) (old new : Drafted) (n : ℕ) → (IsPassedOver line → ⊥) → old.read ≡ header_count → ReadsExtra line old new → n ≤ most_lines
    → Turns (progress (Heading old) n) line (progress (Heading new) (n + 1)) []
extra_turn line old new n wanted all r within = record {
  judgement = SetsExtra new.extra new.settings;
  judged = (
    record {
      in_limit = within;
      not_passed = wanted;
      running = omega (arith, all);
      none_yet = refl;
      short = r.sets.short;
      named = (let it = begins_extra r.which (words line) old.settings new.settings r.sets.words in (r.which, it.0, it.1));
    },
    record { which = r.which; index = r.index; next = r.next; later = r.later; sets = r.sets; same_read = refl; past = r.past },
  );
  next = (λ i. record { line = n + 1; headers = r.same_read i; extra = new.extra; settings = new.settings; events = []; world = empty_world });
  text_is = refl;
}

-- a line that is accepted
heading_turn : (line before after : List ℕ) (old new : Drafted) (n : ℕ) → HeadingAnswers (Ok true) line old new → n ≤ most_lines → after ≡ before
    → (text : List ℕ) × Turns (progress (Heading old) n) line (progress (Heading new) (n + 1)) text × (after ≡ before ++ text)
heading_turn line before after old new n (inl h) few same =
    subst
    (λ (d : Drafted). (text : List ℕ) × Turns (progress (Heading old) n) line (progress (Heading d) (n + 1)) text × (after ≡ before ++ text))
    (sym h.1)
    (passed_turn line before after (progress (Heading old) n) few h.0 same)
heading_turn line before after old new n (inr (wanted, inl h)) few same = ([], header_turn line old new n wanted h.0 h.1 few, same ∙ sym (append-nil before))
heading_turn line before after old new n (inr (wanted, inr h)) few same = ([], extra_turn line old new n wanted h.0 h.1 few, same ∙ sym (append-nil before))

-- what lists addresses or names begins with the word of an optional header
names_list : (ws : List (List ℕ)) → NamesList ws → NamesExtra ws
names_list ws (rest, inl is) = (Role, rest, is)
names_list ws (rest, inr is) = (Types, rest, is)

-- a line that is no header, or none that may come
heading_refused : (e : Stop) (line before after : List ℕ) (old new : Drafted) (q : Progress) (n : ℕ) → HeadingAnswers (Err e) line old new → length line ≤ most_bytes
    → n ≤ most_lines → after ≡ before → TurnAnswers (Err e) line (progress (Heading old) n) q before after
heading_refused (Refused Malformed) line before after old new q n h short few same = absurd h
heading_refused (Refused PastLimit) line before after old new q n h short few same = absurd h
heading_refused (Refused (Invalid why)) line before after old new q n h short few same = absurd h
heading_refused (Refused BadHeader) line before after old new q n (kept, wanted, inl h) short few same = (
  inl (
    record { in_limit = few; not_passed = wanted; heading = h.0 },
    λ settings s. h.1 (record { read = old.read + 1; extra = old.extra; settings = settings })
        (record { which = s.which; next = s.next; sets = s.sets; count = refl; same_extra = refl }),
  ),
  same,
)
heading_refused (Refused BadHeader) line before after old new q n (kept, wanted, inr h) short few same = (
  inr (
    record { in_limit = few; not_passed = wanted; running = omega (arith, h.0); none_yet = refl; short = short; named = h.1 },
    λ extra settings s. h.2 (record { read = old.read; extra = extra; settings = settings })
        (record { which = s.which; index = s.index; next = s.next; later = s.later; sets = s.sets; same_read = refl; past = s.past }),
  ),
  same,
)
heading_refused NoMemory line before after old new q n (kept, wanted, inl first) short few same =
    (inl (record { in_limit = few; not_passed = wanted; heading = omega (arith, first) }, first), same)
heading_refused NoMemory line before after old new q n (kept, wanted, inr h) short few same =
    (inr (inl (record { in_limit = few; not_passed = wanted; running = omega (arith, h.0); none_yet = refl; short = short; named = names_list (words line) h.1 }, h.1)), same)

-- ---- a line in the world
-- the progress of a replay that has reached this world, by its next line and the first optional header that may still come
abbrev standing : ℕ → ℕ → WorldModel → Progress
standing line extra w = record { line = line; headers = header_count; extra = extra; settings = w.settings; events = w.events; world = w.state }

-- no optional header may come, or the line is none
abbrev NoneCome : WorldModel → List ℕ → Type 0
NoneCome w line = w.events ≡ [] → length line ≤ most_bytes → NamesExtra (words line) → ⊥

-- a line that is accepted
running_turn : (went : Bool) (line before after : List ℕ) (old new : WorldModel) (n extra steps : ℕ)
    → RunningAnswers (Ok went) line steps old new before after → length old.events ≡ steps → n ≤ most_lines → NoneCome old line → (IsPassedOver line → extra ≡ length extras)
    → (text : List ℕ) × Turns (standing n extra old) line (progress (Running new) (n + 1)) text × (after ≡ before ++ text)
running_turn true line before after old new n extra steps (room, h) e few none passes = (
  step_text (length old.state.packets + 1) (steps + 1) h.event h.done,
  record {
    judgement = Steps h.event h.done;
    judged = (
      record { in_limit = few; not_passed = λ passed. no_event line h.event passed h.spelled; running = omega arith; no_extra = none },
      omega (arith, e, room),
      h.spelled,
      h.happened,
    );
    next = ap (λ (w : WorldModel). progress (Running w) (n + 1)) h.world;
    text_is = ap (λ k. step_text (length old.state.packets + 1) (k + 1) h.event h.done) (sym e) ∙ sym (append-nil _);
  },
  h.text,
)
running_turn false line before after old new n extra steps h e few none passes =
    subst
    (λ (w : WorldModel). (text : List ℕ) × Turns (standing n extra old) line (progress (Running w) (n + 1)) text × (after ≡ before ++ text))
    (sym h.1)
    (subst
    (λ (k : ℕ). (text : List ℕ) × Turns (standing n extra old) line (standing (n + 1) k old) text × (after ≡ before ++ text))
    (passes h.0)
    (passed_turn line before after (standing n extra old) few h.0 h.2))

-- a line that is not accepted
running_refused : (e : Stop) (line before after : List ℕ) (old new : WorldModel) (q : Progress) (n extra steps : ℕ)
    → RunningAnswers (Err e) line steps old new before after → length old.events ≡ steps → n ≤ most_lines → NoneCome old line
    → TurnAnswers (Err e) line (standing n extra old) q before after
running_refused (Refused Malformed) line before after old new q n extra steps h same few none =
    ((record { in_limit = few; not_passed = h.1; running = omega arith; no_extra = none }, omega (arith, same, h.0), h.2), h.3)
running_refused (Refused (Invalid why)) line before after old new q n extra steps h same few none = (
  (
    record { in_limit = few; not_passed = λ passed. no_event line h.1 passed h.2; running = omega arith; no_extra = none },
    omega (arith, same, h.0),
    h.1,
    h.2,
    h.3,
  ),
  h.4,
)
running_refused (Refused BadHeader) line before after old new q n extra steps h same few none = absurd h
running_refused (Refused PastLimit) line before after old new q n extra steps h same few none =
    (inr (record { in_limit = few; not_passed = h.1; running = omega arith; no_extra = none }, omega (arith, same, h.0)), h.2)
running_refused NoMemory line before after old new q n extra steps h same few none = (
  inr (inr (
    record { in_limit = few; not_passed = λ passed. no_event line h.1 passed h.2; running = omega arith; no_extra = none },
    omega (arith, same, h.0),
    h.1,
    h.2,
  )),
  h.3,
)

-- ---- the same, of what a replay's stage is found to be
pub turn_header : (stage : Stage) (line before after : List ℕ) (old new : Drafted) (n : ℕ) → stage ≡ Heading old
    → HeadingAnswers (Ok true) line old new → n ≤ most_lines → after ≡ before
    → (text : List ℕ) × Turns (progress stage n) line (progress (Heading new) (n + 1)) text × (after ≡ before ++ text)
turn_header stage line before after old new n is h few same =
    subst
    (λ (s : Stage). (text : List ℕ) × Turns (progress s n) line (progress (Heading new) (n + 1)) text × (after ≡ before ++ text))
    (sym is)
    (heading_turn line before after old new n h few same)

pub turn_refused : (stage : Stage) (r : Result (Unit {0}) Stop) (e : Stop) (line before after : List ℕ) (old new : Drafted) (q : Progress) (n : ℕ)
    → r ≡ Err e → stage ≡ Heading old → HeadingAnswers (Err e) line old new → length line ≤ most_bytes → n ≤ most_lines → after ≡ before
    → TurnAnswers r line (progress stage n) q before after
turn_refused stage r e line before after old new q n was is h short few same =
    subst
    (λ (s : Stage). TurnAnswers r line (progress s n) q before after)
    (sym is)
    (subst (λ (t : Result (Unit {0}) Stop). TurnAnswers t line (progress (Heading old) n) q before after) (sym was)
    (heading_refused e line before after old new q n h short few same))

one_world : (s : Stage) (w v : WorldModel) → s ≡ Running w → s ≡ Running v → w ≡ v
one_world s w v one other = cc

-- the world of a replay is the one that is found
is_for : (r : Replay) (w : WorldModel) (p : Progress) (line : List ℕ) → r.stage ≡ Running w → Stands p r line → IsFor p w line
is_for r w p line is s = subst (λ (v : WorldModel). IsFor p v line) (one_world r.stage s.0 w s.1 is) s.3

pub turn_event : (r : Replay) (went : Bool) (line before after : List ℕ) (old new : WorldModel) (steps : ℕ) → r.stage ≡ Running old → IsOpened r.stage steps
    → RunningAnswers (Ok went) line steps old new before after → (p : Progress) → Stands p r line
    → (text : List ℕ) × Turns p line (progress (Running new) (r.line + 1)) text × (after ≡ before ++ text)
turn_event r went line before after old new steps is opened h p s =
    let f = is_for r old p line is s in
    let same : length old.events ≡ steps = subst (λ (t : Stage). IsOpened t steps) is opened in
    subst
    (λ (q : Progress). (text : List ℕ) × Turns q line (progress (Running new) (r.line + 1)) text × (after ≡ before ++ text))
    (sym f.same)
    (subst
    (λ (n : ℕ). (text : List ℕ) × Turns (standing p.line p.extra old) line (progress (Running new) (n + 1)) text × (after ≡ before ++ text))
    s.2
    (running_turn went line before after old new p.line p.extra steps h same f.in_limit f.no_extra (λ passed. (f.passed passed).0)))

pub turn_declined : (r : Replay) (result : Result (Unit {0}) Stop) (e : Stop) (line before after : List ℕ) (old new : WorldModel) (q : Progress) (steps : ℕ)
    → result ≡ Err e → r.stage ≡ Running old → IsOpened r.stage steps → RunningAnswers (Err e) line steps old new before after → (p : Progress) → Stands p r line
    → TurnAnswers result line p q before after
turn_declined r result e line before after old new q steps was is opened h p s =
    let f = is_for r old p line is s in
    let same : length old.events ≡ steps = subst (λ (t : Stage). IsOpened t steps) is opened in
    subst (λ (t : Result (Unit {0}) Stop). TurnAnswers t line p q before after) (sym was)
    (subst (λ (o : Progress). TurnAnswers (Err e) line o q before after) (sym f.same)
    (running_refused e line before after old new q p.line p.extra steps h same f.in_limit f.no_extra))

-- a headings stage has no world
pub no_world : (r : Replay) (draft : Drafted) (p : Progress) (line : List ℕ) → r.stage ≡ Heading draft → Stands p r line → ⊥
no_world r draft p line is s = not_both r.stage draft s.0 is s.1
  where
    not_both : (t : Stage) (d : Drafted) (w : WorldModel) → t ≡ Heading d → t ≡ Running w → ⊥
    not_both t d w one other = cc

-- after the line one event at least was applied
pub still_ready : (r : Replay) (went : Bool) (line before after : List ℕ) (old new : WorldModel) (steps : ℕ) → r.stage ≡ Running old → IsOpened r.stage steps
    → RunningAnswers (Ok went) line steps old new before after → (p : Progress) → Stands p r line → (now : ℕ) → now ≡ (if went then steps + 1 else steps) → IsReady (Running new) now
still_ready r true line before after old new steps is opened h p s now e =
    let same : length old.events ≡ steps = subst (λ (t : Stage). IsOpened t steps) is opened in
    (ap (λ (w : WorldModel). length w.events) h.1.world ∙ length-append old.events (h.1.event ∷ []) ∙ ap (λ k. k + 1) same ∙ sym e, omega (arith, e))
still_ready r false line before after old new steps is opened h p s now e =
    let same : length old.events ≡ steps = subst (λ (t : Stage). IsOpened t steps) is opened in
    let some = ((is_for r old p line is s).passed h.0).1 in
    (ap (λ (w : WorldModel). length w.events) h.1 ∙ same ∙ sym e, omega (arith, e, same, some))

-- ---- the world that a line is for
-- it has just begun, and the line is its first
pub stands_opened : (stage : Stage) (old new : Drafted) (r : Replay) (line : List ℕ) (n : ℕ) → stage ≡ Heading old → HeadingAnswers (Ok false) line old new
    → Opens (Heading new) r.stage → r.line ≡ n → n ≤ most_lines → Stands (progress stage n) r line
stands_opened stage old new r line n is h opens at few =
    subst (λ (s : Stage). Stands (progress s n) r line) (sym is)
    (first (subst (λ (d : Drafted). Opens (Heading d) r.stage) h.1.1 opens))
  where
    first : Opens (Heading old) r.stage → Stands (progress (Heading old) n) r line
    first (inl o) = (
      world_of old.settings,
      o.1,
      sym at,
      record {
        same = (λ i. record { line = n; headers = h.1.0 i; extra = old.extra; settings = old.settings; events = []; world = empty_world });
        in_limit = few;
        no_extra = λ none short. h.1.2;
        passed = λ passed. absurd (h.0 passed);
      },
    )
    first (inr o) = absurd (let all = h.1.0 in omega (arith, o.0, all))

-- it has begun, and an event was applied
pub stands_running : (r : Replay) (w : WorldModel) (line : List ℕ) → r.stage ≡ Running w → IsReady r.stage r.steps → r.line ≤ most_lines → Stands (progress_of r) r line
stands_running r w line is ready few =
    let some : (length w.events ≡ r.steps) × (1 ≤ r.steps) = subst (λ (s : Stage). IsReady s r.steps) is ready in
    subst (λ (s : Stage). Stands (progress s r.line) r line) (sym is) (
      w,
      is,
      refl,
      record {
        same = refl;
        in_limit = few;
        no_extra = λ none. absurd (let empty = ap length none in omega (arith, some.0, some.1, empty));
        passed = λ passed. (refl, omega (arith, some.0, some.1));
      },
    )

-- ---- what opening leaves
pub opened_ready : (old new : Stage) (steps now : ℕ) → IsReady old steps → Opens old new → now ≡ steps → IsOpened new now
opened_ready (Heading draft) new steps now ready (inl o) e = subst (λ (s : Stage). IsOpened s now) (sym o.1) (sym (e ∙ ready))
opened_ready (Heading draft) new steps now ready (inr o) e = subst (λ (s : Stage). IsOpened s now) (sym o.1) o.0
opened_ready (Running world) new steps now ready o e = subst (λ (s : Stage). IsOpened s now) (sym o) (ready.0 ∙ sym e)

-- what a replay has printed at its end is the same of a world that has just begun
same_finish : (r : Result Bool Stop) (draft : Drafted) (n : ℕ) (before after : List ℕ) → draft.read ≡ header_count
    → FinishAnswers r (standing n (length extras) (world_of draft.settings)) before after → FinishAnswers r (progress (Heading draft) n) before after
same_finish r draft n before after all f =
    subst
    (λ (k : ℕ). FinishAnswers r (record { line = n; headers = k; extra = draft.extra; settings = draft.settings; events = []; world = empty_world }) before after)
    (sym all)
    (whatever_may_come r f)
  where
    whatever_may_come : (t : Result Bool Stop) → FinishAnswers t (standing n (length extras) (world_of draft.settings)) before after
        → FinishAnswers t (standing n draft.extra (world_of draft.settings)) before after
    whatever_may_come (Ok doubled) h = h
    whatever_may_come (Err (Refused BadHeader)) h = h
    whatever_may_come (Err (Refused Malformed)) h = h
    whatever_may_come (Err (Refused PastLimit)) h = h
    whatever_may_come (Err (Refused (Invalid why))) h = h
    whatever_may_come (Err NoMemory) h = h

pub finish_opened : (r : Result Bool Stop) (old new : Stage) (n : ℕ) (before after : List ℕ) → Opens old new
    → FinishAnswers r (progress new n) before after → FinishAnswers r (progress old n) before after
finish_opened r (Heading draft) new n before after (inl o) f =
    same_finish r draft n before after o.0 (subst (λ (s : Stage). FinishAnswers r (progress s n) before after) o.1 f)
finish_opened r (Heading draft) new n before after (inr o) f = subst (λ (s : Stage). FinishAnswers r (progress s n) before after) o.1 f
finish_opened r (Running world) new n before after o f = subst (λ (s : Stage). FinishAnswers r (progress s n) before after) o f
