-- The addresses that a replay lists, and those of them that have the role, at its end: different ones, and those that have the role
-- are listed. So a quorum of more than half of the listed ones is one of more than half of those that have the role.
use Rattle.std.proofs.Common.{◌≡◌, ℕ, ◌*◌, ◌<◌, ◌≤◌, ◌⊎◌, inl, inr, Bool, true, false, List, [], ◌∷◌, length, Option, Some, slice_get, refl, sym, ap, ◌∙◌, subst, arith, true≢false}
use Rattle.ak_settings.specs.declared.settings.Strategy.TheVariants.{StaticQuorum}
use Rattle.ak_settings.specs.Settings.{SettingsModel, IsRole}
use Rattle.ak_schedule.specs.declared.draft.Extra.{Extra}
use Rattle.ak_schedule.specs.declared.draft.Extra.TheVariants as extra
use Rattle.ak_schedule.specs.declared.draft.Header.{Header}
use Rattle.ak_schedule.specs.declared.draft.Header.TheVariants as header
use Rattle.ak_schedule.specs.Line.{lines, words}
use Rattle.ak_schedule.specs.Schedule.{headers, Sets, SetsExtra}
use Rattle.ak_world.specs.SettledLine.{IsOverHalf}
use Rattle.ak_world.proofs.RoleLemmas.{role_over_half}
use Rattle.ak_world.specs.declared.margin.Margin.{Margin}
use Rattle.ak_world.specs.Double.{Doubled}
use Rattle.ak_driver.specs.declared.replay.Code.{Code}
use Rattle.ak_driver.specs.ReplayText as judged
use Rattle.ak_driver.specs.ReplayText.{Progress, Judgement, Passes, Steps, Judged, SetsNext, Ending, Finished, Stopped, Replays, ReplaysAs, at_start, turn}

-- ---- ends
abbrev end_of : Ending → Progress → Progress
end_of (Finished p margin double) other = p
end_of (Stopped code line) other = other

abbrev is_finished : Ending → Bool
is_finished (Finished p margin double) = true
is_finished (Stopped code line) = false

same_end : (p q : Progress) (m n : Margin) (d e : Option Doubled) → Finished p m d ≡ Finished q n e → p ≡ q
same_end p q m n d e is = ap (λ ending. end_of ending p) is

never_stopped : (p : Progress) (m : Margin) (d : Option Doubled) (code : Code) (line : ℕ) → Finished p m d ≡ Stopped code line → ⊥
never_stopped p m d code line is = true≢false (ap is_finished is)

-- ---- one header
abbrev HasRole : SettingsModel → Type 0
HasRole s = IsRole s.listed s.role

header_role : (which : Header) (ws : List (List ℕ)) (old new : SettingsModel) → HasRole old ⊎ (which ≡ header.Listed) → Sets which ws old new → HasRole new
header_role header.Listed ws old new k (listed, spells, is) = subst HasRole (sym is) (record { listing = spells.3; among = λ a there. there })
header_role header.Strategy ws old new k (strategy, spells, is) = elim k [ inl has ↦ subst HasRole (sym is) has | inr other ↦ absurd cc ]
header_role header.Margin ws old new k (n, spells, is) = elim k [ inl has ↦ subst HasRole (sym is) has | inr other ↦ absurd cc ]
header_role header.Deadline ws old new k (n, spells, is) = elim k [ inl has ↦ subst HasRole (sym is) has | inr other ↦ absurd cc ]
header_role header.Stable ws old new k (n, spells, is) = elim k [ inl has ↦ subst HasRole (sym is) has | inr other ↦ absurd cc ]
header_role header.Shards ws old new k (n, spells, is) = elim k [ inl has ↦ subst HasRole (sym is) has | inr other ↦ absurd cc ]
header_role header.Buffer ws old new k (n, spells, is) = elim k [ inl has ↦ subst HasRole (sym is) has | inr other ↦ absurd cc ]
header_role header.Threshold ws old new k (n, spells, is) = elim k [ inl has ↦ subst HasRole (sym is) has | inr other ↦ absurd cc ]
header_role header.Limit ws old new k (n, spells, is) = elim k [ inl has ↦ subst HasRole (sym is) has | inr other ↦ absurd cc ]

extra_role : (which : Extra) (ws : List (List ℕ)) (old new : SettingsModel) → HasRole old → SetsExtra which ws old new → HasRole new
extra_role extra.Weakly ws old new has (n, spells, is) = subst HasRole (sym is) has
extra_role extra.Role ws old new has (role, spells, is) = subst HasRole (sym is) spells.3
extra_role extra.Types ws old new has (types, spells, is) = subst HasRole (sym is) has

-- ---- a whole replay
-- no header is read, or some have the role
abbrev RoleThen : Progress → Type 0
RoleThen p = (p.headers ≡ 0) ⊎ ((1 ≤ p.headers) × HasRole p.settings)

first_header : (which : Header) → slice_get headers 0 ≡ Some which → which ≡ header.Listed
first_header header.Listed is = refl
first_header header.Strategy is = absurd cc
first_header header.Margin is = absurd cc
first_header header.Deadline is = absurd cc
first_header header.Stable is = absurd cc
first_header header.Shards is = absurd cc
first_header header.Buffer is = absurd cc
first_header header.Threshold is = absurd cc
first_header header.Limit is = absurd cc

next_role : (p : Progress) (line : List ℕ) (settings : SettingsModel) → RoleThen p → SetsNext p line settings → HasRole settings
next_role p line settings (inl none) h = header_role h.which (words line) p.settings settings (inr (first_header h.which (sym (ap (slice_get headers) none) ∙ h.next))) h.sets.words
next_role p line settings (inr some) h = header_role h.which (words line) p.settings settings (inl some.1) h.sets.words

turn_role : (p : Progress) (line : List ℕ) (j : Judgement) → RoleThen p → Judged p line j → RoleThen (turn p j).0
turn_role p line Passes k is = k
turn_role p line (judged.Sets settings) k is = inr (omega arith, next_role p line settings k is.1)
turn_role p line (judged.SetsExtra index settings) (inl none) is = let read = is.0.running in absurd (omega arith)
turn_role p line (judged.SetsExtra index settings) (inr some) is = inr (some.0, extra_role is.1.which (words line) p.settings settings some.1 is.1.sets.words)
turn_role p line (Steps event done) k is = k

replay_role : (p : Progress) (lines steps : List (List ℕ)) (end : Progress) (margin : Margin) (double : Option Doubled) → RoleThen p → Replays p lines steps (Finished end margin double) → HasRole end.settings
replay_role p [] steps end margin double k is = elim is.1 [
  | inl finished ↦ elim k [
    | inl none ↦ let read = finished.0 in absurd (omega arith)
    | inr some ↦ subst (λ (q : Progress). HasRole q.settings) (sym (same_end end p margin finished.1 double finished.2 finished.5)) some.1
  ]
  | inr stopped ↦ absurd (never_stopped end margin double _ _ stopped.1)
]
replay_role p (line ∷ lines) steps end margin double k is = elim is [
  | inl refused ↦ absurd (never_stopped end margin double _ _ refused.3)
  | inr taken ↦ replay_role (turn p taken.0).0 lines taken.2 end margin double (turn_role p line taken.0 k taken.1) taken.3
]

pub replays_have_role : (bytes : List ℕ) (steps : List (List ℕ)) (end : Progress) (margin : Margin) (double : Option Doubled) → ReplaysAs bytes steps (Finished end margin double) → IsRole end.settings.listed end.settings.role
replays_have_role bytes steps end margin double is = replay_role at_start (lines bytes) steps end margin double (inl refl) is

pub listed_suffice : (bytes : List ℕ) (steps : List (List ℕ)) (end : Progress) (margin : Margin) (double : Option Doubled) (quorum : ℕ) → ReplaysAs bytes steps (Finished end margin double)
    → end.settings.strategy ≡ StaticQuorum quorum → length end.settings.listed < 2 * quorum → IsOverHalf end.settings quorum
listed_suffice bytes steps end margin double quorum is = role_over_half end.settings quorum (replays_have_role bytes steps end margin double is)
