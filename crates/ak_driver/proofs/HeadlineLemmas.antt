-- A replay that ends with its margin kept, under a static quorum of more than half of the addresses with the role, has no double.
use Rattle.std.proofs.Common.{◌≡◌, ◌≢◌, ℕ, ◌<◌, ◌≤◌, List, [], ◌∷◌, ◌++◌, Option, None, Some, length, refl, sym, ap, subst, inl, inr, ◌∙◌, take, take_all, arith, append_assoc}
use Rattle.std.specs.Prelude.{codes, IfSome}
use Rattle.std.specs.List.{concat}
use Rattle.std.specs.Fmt.{decimal}
use Rattle.std.specs.Io.KnownBytes.{Appends}
use Rattle.ak_address.specs.Unique.{UniqueModel}
use Rattle.ak_address.proofs.Elements.{contains_nothing}
use Rattle.ak_outside.specs.declared.status.Status.{Status}
use Rattle.ak_outside.specs.declared.status.Status.TheVariants as status
use Rattle.ak_schedule.specs.declared.event.Event.{Event}
use Rattle.ak_schedule.specs.declared.event.Event.TheVariants.{Start}
use Rattle.ak_schedule.specs.declared.draft.Extra as extra
use Rattle.ak_schedule.specs.declared.draft.Header as header
use Rattle.ak_schedule.specs.Line.{lines, words}
use Rattle.ak_settings.specs.Settings.{SettingsModel}
use Rattle.ak_schedule.specs.Schedule.{Sets, SetsExtra, SpellsEvent, SpellsWords}
use Rattle.ak_world.specs.declared.margin.Margin.{Margin}
use Rattle.ak_world.specs.declared.margin.Margin.TheVariants.{Kept}
use Rattle.ak_world.specs.Double.{Doubled, IsFirstDouble}
use Rattle.ak_world.specs.Margin.{IsMargin, IsBrokenBy}
use Rattle.ak_world.specs.SettledLine.{IsOverHalf}
use Rattle.ak_world.specs.StepText.{summary_text}
use Rattle.ak_world.specs.Uids.{HaveUids}
use Rattle.ak_world.specs.World.{WorldState, run}
use Rattle.ak_world.proofs.DoubleMargins.{broken_by}
use Rattle.ak_world.proofs.DoubleMarks.{one_first}
use Rattle.ak_world.proofs.DoubleRuns.{no_double-of_run}
use Rattle.ak_world.proofs.UidsOfStarts.{uids_of_starts, next_uids}
use Rattle.ak_driver.specs.Headline.{kept_lines, KeepsEntitiesApart}
use Rattle.ak_driver.specs.ReplayPromise.{Prints, Promises}
use Rattle.ak_driver.specs.ReplayText.{Progress, Judgement, Passes, Sets as SetsAll, SetsExtra as SetsMore, Steps, Ending, Finished, Stopped, Judged, Replays, ReplaysAs, IsReplay, turn, at_start, ending_text, header_count}
use Rattle.ak_driver.proofs.OneReplay.{one_replay}

-- ---- each process that starts has a uid from 1 on
start_uid : (line : List ℕ) (event : Event) → SpellsEvent line event → (u : UniqueModel) → event ≡ Start u → 1 ≤ u.uid
start_uid line event spells u is = (subst (λ (e : Event). SpellsWords (words line) e) is spells.words).2.range.uid

no_uids : (settings : SettingsModel) → HaveUids (run settings [])
no_uids settings = uids_of_starts settings [] (λ u there. absurd (contains_nothing (Start u) there))

-- ---- a margin is at least one tick
margin_set : (which : header.Header) (ws : List (List ℕ)) (old new : SettingsModel) → 1 ≤ old.margin → Sets which ws old new → 1 ≤ new.margin
margin_set header.TheVariants.Listed ws old new least s = subst (λ (x : SettingsModel). 1 ≤ x.margin) (sym s.2) least
margin_set header.TheVariants.Strategy ws old new least s = subst (λ (x : SettingsModel). 1 ≤ x.margin) (sym s.2) least
margin_set header.TheVariants.Margin ws old new least s = subst (λ (x : SettingsModel). 1 ≤ x.margin) (sym s.2) s.1.2.from
margin_set header.TheVariants.Deadline ws old new least s = subst (λ (x : SettingsModel). 1 ≤ x.margin) (sym s.2) least
margin_set header.TheVariants.Stable ws old new least s = subst (λ (x : SettingsModel). 1 ≤ x.margin) (sym s.2) least
margin_set header.TheVariants.Shards ws old new least s = subst (λ (x : SettingsModel). 1 ≤ x.margin) (sym s.2) least
margin_set header.TheVariants.Buffer ws old new least s = subst (λ (x : SettingsModel). 1 ≤ x.margin) (sym s.2) least
margin_set header.TheVariants.Threshold ws old new least s = subst (λ (x : SettingsModel). 1 ≤ x.margin) (sym s.2) least
margin_set header.TheVariants.Limit ws old new least s = subst (λ (x : SettingsModel). 1 ≤ x.margin) (sym s.2) least

margin_kept : (which : extra.Extra) (ws : List (List ℕ)) (old new : SettingsModel) → SetsExtra which ws old new → new.margin ≡ old.margin
margin_kept extra.TheVariants.Weakly ws old new s = ap (λ (x : SettingsModel). x.margin) s.2
margin_kept extra.TheVariants.Role ws old new s = ap (λ (x : SettingsModel). x.margin) s.2
margin_kept extra.TheVariants.Types ws old new s = ap (λ (x : SettingsModel). x.margin) s.2

-- ---- of a replay
record Sound (p : Progress) : Type 0 where
  heading : p.headers < header_count → p.events ≡ []
  uids : HaveUids (run p.settings p.events)
  margin : 1 ≤ p.settings.margin

turn_sound : (p : Progress) (line : List ℕ) (judgement : Judgement) → Judged p line judgement → Sound p → Sound (turn p judgement).0
turn_sound p line Passes j s = record { heading = s.heading; uids = s.uids; margin = s.margin }
turn_sound p line (SetsAll settings) j s =
    let none = s.heading j.0.heading in
    record {
      heading = λ _. none;
      uids = subst (λ (l : List Event). HaveUids (run settings l)) (sym none) (no_uids settings);
      margin = margin_set j.1.which (words line) p.settings settings s.margin j.1.sets.words;
    }
turn_sound p line (SetsMore extra settings) j s =
    let none = j.0.none_yet in
    record {
      heading = λ _. none;
      uids = subst (λ (l : List Event). HaveUids (run settings l)) (sym none) (no_uids settings);
      margin = subst (λ (n : ℕ). 1 ≤ n) (sym (margin_kept j.1.which (words line) p.settings settings j.1.sets.words)) s.margin;
    }
turn_sound p line (Steps event done) j s = record {
  heading = λ few. absurd (let all = j.0.running in omega (arith, few, all));
  uids = next_uids p.settings p.events event s.uids (start_uid line event j.2);
  margin = s.margin;
}

-- what is so at the end
record SoundEnd (q : Progress) (margin : Margin) (double : Option Doubled) : Type 0 where
  sound : Sound q
  kept : IsMargin q.settings q.events margin
  first : IsFirstDouble q.settings q.events double

abbrev AtEnd : Ending → Type 0
AtEnd (Finished q margin double) = SoundEnd q margin double
AtEnd (Stopped code number) = Unit {0}

sound_end : (others : List (List ℕ)) (p q : Progress) (margin : Margin) (double : Option Doubled) (steps : List (List ℕ)) → Replays p others steps (Finished q margin double) → Sound p → SoundEnd q margin double
sound_end [] p q margin double steps (none, inl h) s =
    subst AtEnd (sym h.5) (record { sound = s; kept = h.3; first = h.4 })
sound_end [] p q margin double steps (none, inr h) s = absurd (cc)
sound_end (line ∷ others) p q margin double steps (inl h) s = absurd (cc)
sound_end (line ∷ others) p q margin double steps (inr h) s = sound_end others (turn p h.0).0 q margin double h.2 h.3 (turn_sound p line h.0 h.1 s)

-- no double at its end
module _ (bytes : List ℕ) (steps : List (List ℕ)) (q : Progress) (margin : Margin) (double : Option Doubled) (quorum : ℕ) (r : ReplaysAs bytes steps (Finished q margin double)) (over_half : IsOverHalf q.settings quorum) where
  at_end : SoundEnd q margin double
  at_end = sound_end (lines bytes) at_start q margin double steps r (record { heading = λ _. refl; uids = no_uids at_start.settings; margin = omega arith })

  none_at_end : margin ≡ Kept → double ≡ None
  none_at_end is =
      let e = at_end in
      let all : take (length q.events) q.events ≡ q.events = take_all (length q.events) q.events (omega arith) in
      let kept = subst (λ (m : Margin). IsMargin q.settings q.events m) is e.kept in
      let none = no_double-of_run q.settings q.events e.sound.uids e.sound.margin quorum (length q.events) over_half (subst (λ (l : List Event). IsMargin q.settings l Kept) (sym all) kept) in
      one_first q.settings q.events double None e.first (subst (λ (l : List Event). IsFirstDouble q.settings l None) all none)

  broken_at_end : (d : Doubled) → double ≡ Some d → IsBrokenBy margin d.step
  broken_at_end d is =
      let e = at_end in
      broken_by q.settings q.events e.sound.uids e.sound.margin quorum over_half d (subst (λ (o : Option Doubled). IsFirstDouble q.settings q.events o) is e.first) margin e.kept

-- its text ends so
kept_text : (steps : ℕ) (w : WorldState) → (before : List ℕ) × (summary_text steps Kept None w ≡ before ++ kept_lines)
kept_text steps w = (
  codes "steps " ++ decimal steps ++ 10 ∷ [] ++ codes "packets " ++ decimal (length w.packets) ++ 10 ∷ [] ++ codes "history " ++ decimal (length w.history) ++ 10 ∷ [],
  in_order (codes "steps ") (decimal steps) (codes "packets ") (decimal (length w.packets)) (codes "history ") (decimal (length w.history)) (codes "margin kept") (codes "doubles none") (10 ∷ []),
)
  where
    in_order : (a b c d e f m n l : List ℕ) → a ++ b ++ l ++ c ++ d ++ l ++ e ++ f ++ l ++ (m ++ l) ++ (n ++ l) ≡ (a ++ b ++ l ++ c ++ d ++ l ++ e ++ f ++ l) ++ (m ++ l ++ n ++ l)
    in_order a b c d e f m n l = simp append_assoc

says_kept : (bytes : List ℕ) (steps : List (List ℕ)) (q : Progress) (double : Option Doubled) → double ≡ None → ReplaysAs bytes steps (Finished q Kept double) → (status : ℕ) (text : List ℕ) → IsReplay bytes status text
    → (status ≡ 0) × ((before : List ℕ) × (text ≡ before ++ kept_lines))
says_kept bytes steps q double none r status text is =
    let here : ReplaysAs bytes steps (Finished q Kept None) = subst (λ (d : Option Doubled). ReplaysAs bytes steps (Finished q Kept d)) none r in
    let same = one_replay bytes status 0 text (concat steps ++ ending_text (Finished q Kept None)) is (steps, Finished q Kept None, here, refl, refl) in
    let last = kept_text (length q.events) q.world in
    (same.0, (concat steps ++ last.0, same.1 ∙ ap (λ (t : List ℕ). concat steps ++ t) last.1 ∙ sym (append_assoc (concat steps) last.0 kept_lines)))

-- ---- what is printed
module _ (bytes : List ℕ) (steps : List (List ℕ)) (q : Progress) (double : Option Doubled) (none : double ≡ None) (r : ReplaysAs bytes steps (Finished q Kept double)) (left old new : Option (List ℕ)) where
  never_doubled : (answer : Status) → Prints bytes left answer old new → answer ≢ status.Double
  never_doubled answer p is =
      let doubled = subst (λ (s : Status). Prints bytes left s old new) is p in
      let zero_is = (says_kept bytes steps q double none r 1 doubled.0 doubled.1).0 in
      omega (arith, zero_is)

  says : (answer : Status) → Prints bytes left answer old new → answer ≡ status.Done → (before : List ℕ) × Appends old new (before ++ kept_lines)
  says answer p is =
      let done = subst (λ (s : Status). Prints bytes left s old new) is p in
      let last = (says_kept bytes steps q double none r 0 done.0 done.1).1 in
      (last.0, subst (λ (t : List ℕ). Appends old new t) last.1 done.2)

pub keeps_apart : (bytes : List ℕ) (answer : Status) (left old new : Option (List ℕ)) → Prints bytes left answer old new → KeepsEntitiesApart bytes answer old new
keeps_apart bytes answer left old new p = λ steps end margin double quorum r over_half. record {
  kept = λ is.
      let none = none_at_end bytes steps end margin double quorum r over_half is in
      let kept = subst (λ (m : Margin). ReplaysAs bytes steps (Finished end m double)) is r in
      record { none = none; not_doubled = never_doubled bytes steps end double none kept left old new answer p; says = says bytes steps end double none kept left old new answer p };
  broken = broken_at_end bytes steps end margin double quorum r over_half;
}

pub promised_apart : (known left : Option (List ℕ)) (answer : Status) (old new : Option (List ℕ)) → Promises known left answer old new → IfSome known (λ bytes. KeepsEntitiesApart bytes answer old new)
promised_apart None left answer old new p = tt
promised_apart (Some bytes) left answer old new p = keeps_apart bytes answer left old new p
