-- What is due after an event: the view is shown where it is another, the node watches its ring by it, the node stops where it
-- is gone, and a settled view is noted (this project's choice).
use Rattle.std.specs.Prelude.{ℕ, Bool, true, false, ◌&&◌, ◌||◌, not, is_some, if◌then◌else◌}
use Rattle.ak_clock.specs.Version.{Counts, relation}
use Rattle.ak_clock.specs.declared.version.Relation as clock
use Rattle.ak_detector.specs.Detector.{watching}
use Rattle.ak_settled.specs.Settled.{version_of, after_note}
use Rattle.ak_settled.specs.SettledView.{SettledModel}
use Rattle.ak_membership.specs.declared.change.Closing.{Closing}
use Rattle.ak_membership.specs.declared.state.MembershipState.{MembershipState}
use Rattle.ak_membership.specs.Membership.{is_gone}
use Rattle.ak_membership.specs.Tick.{has_settled}

abbrev pub is_same : clock.Relation → Bool
is_same clock.TheVariants.Same = true
is_same clock.TheVariants.Before = false
is_same clock.TheVariants.After = false
is_same clock.TheVariants.Concurrent = false

abbrev pub is_other : Counts → Counts → Bool
is_other old new = not (is_same (relation old new))

-- what is known has another version than at the last closing
abbrev pub is_viewed : MembershipState → Bool
is_viewed m = is_other m.shown m.gossip.version

-- the node stops where a rule stopped it, and where its own view shows it as Down or as a tombstone
abbrev pub stops : Bool → MembershipState → Bool
stops stopping m = stopping || is_gone m

-- a settled view is to be noted: its version is not that of the noted one
abbrev pub is_noted : MembershipState → Bool
is_noted m = has_settled m && (not (is_some m.settled.view) || is_other (version_of m.settled.view) m.gossip.version)

-- nothing is noted by a node that stops
abbrev pub notes : Bool → MembershipState → Bool
notes stopping m = not (stops stopping m) && is_noted m

-- the settled view after the closing
abbrev pub settled_after : Bool → MembershipState → SettledModel
settled_after stopping m = if notes stopping m then after_note m.gossip.version m.gossip.view.standings m.settled else m.settled

-- how long the view stood still: not at all where members are shown otherwise than at the last closing
abbrev pub stable_after : MembershipState → ℕ
stable_after m = if m.moved then 0 else m.stable

-- what is known after the closing, whose version counts as shown, and what is due
abbrev pub close : Bool → MembershipState → MembershipState × Closing
close stopping m = (
  record m {
    shown = m.gossip.version;
    stable = stable_after m;
    moved = false;
    detector = watching m.me m.gossip.view.standings m.settings.deadline m.detector;
    settled = settled_after stopping m;
  },
  record { viewed = is_viewed m; stopped = stops stopping m; settled = notes stopping m },
)
