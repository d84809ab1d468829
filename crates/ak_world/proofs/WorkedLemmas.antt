-- How the worked runs are evaluated: the words in which states are written out, and one event after another.
use Rattle.std.proofs.Common.{◌≡◌, ℕ, List, [], ◌∷◌, ◌++◌, slice_get, Option, Some, None, Ok, refl, ap, ◌∙◌, subst}
use Rattle.ak_address.specs.Unique.{UniqueModel}
use Rattle.ak_member.specs.declared.standing.Standing.{Standing}
use Rattle.ak_gossip.specs.Gossip.{GossipState}
use Rattle.ak_promise.specs.Ballot.{BallotModel}
use Rattle.ak_settled.specs.SettledView.{SettledModel}
use Rattle.ak_settings.specs.Settings.{SettingsModel}
use Rattle.ak_schedule.specs.declared.event.Event.{Event}
use Rattle.ak_wire.specs.declared.envelope.Envelope.{Envelope}
use Rattle.ak_wire.specs.declared.envelope.Message.{Message}
use Rattle.ak_node.specs.declared.node.State.{State}
use Rattle.ak_world.specs.declared.margin.Margin.TheVariants.{Kept}
use Rattle.ak_world.specs.Margin.{IsMargin}
use Rattle.ak_world.specs.MarginMark.{first_end, broken_by}
use Rattle.ak_world.specs.Singletons.{IsActiveSingleton, RunsSingleton}
use Rattle.ak_world.specs.World.{WorldState, Done, empty_world, happens, after, run}
use Rattle.ak_world.proofs.ListedTables.{table, set}
use Rattle.ak_world.proofs.MarginRuns.{kept_at_first, mark_goes_on}
use Rattle.ak_world.proofs.TellsRuns.{tells_exactly}
use Rattle.ak_world.proofs.WorldLemmas.{run-push}

-- ---- what is known while nobody observes, and what is settled then while no tombstone waits
abbrev pub gossip_of : List (UniqueModel × ℕ) → List (UniqueModel × Standing) → List UniqueModel → GossipState
gossip_of counts standings seen = record { version = table counts; view = record { standings = table standings; rows = table [] }; seen = set seen }

abbrev pub settled_as : GossipState → SettledModel
settled_as g = record { view = Some (record { version = g.version; standings = g.view.standings; counters = table [] }); just_ended = [] }

abbrev pub ballot : ℕ → UniqueModel → BallotModel
ballot term who = record { term = term; unique = who }

abbrev pub packet : UniqueModel → UniqueModel → Message → Envelope
packet from to what = record { from = from; to = to.address; uid = to.uid; message = what }

-- ---- a run that comes to a world, with its margin kept
pub record Comes (settings : SettingsModel) (events : List Event) (w : WorldState) : Type 0 where
  pub run_is : run settings events ≡ w
  pub kept : IsMargin settings events Kept

pub comes_first : (settings : SettingsModel) → Comes settings [] empty_world
comes_first settings = record { run_is = refl; kept = kept_at_first settings }

still_kept : (step : ℕ) (acted : Option ℕ) → broken_by step acted None ≡ Kept
still_kept step (Some node) = refl
still_kept step None = refl

-- an event at which no margin of a process that runs ends
pub comes_next : (settings : SettingsModel) (events : List Event) (w : WorldState) (e : Event) (done : Done) → happens settings e w ≡ Ok done → first_end done.world.nodes done.actions ≡ None
    → Comes settings events w → Comes settings (events ++ e ∷ []) done.world
comes_next settings events w e done did none c =
    let did_then : happens settings e (run settings events) ≡ Ok done = ap (happens settings e) c.run_is ∙ did in
    record {
      run_is = run-push settings empty_world events e ∙ ap (after (run settings events)) did_then;
      kept = subst (IsMargin settings (events ++ e ∷ [])) (ap (broken_by _ done.node) none ∙ still_kept _ done.node) (mark_goes_on settings events e done did_then Kept c.kept);
    }

-- a node of that world that runs and is active
pub active_in : (settings : SettingsModel) (events : List Event) (w : WorldState) (i : ℕ) (n : State) → Comes settings events w → slice_get w.nodes i ≡ Some n → RunsSingleton n → IsActiveSingleton settings events i
active_in settings events w i n c at active = (tells_exactly settings events i).1 (n, ap (λ (v : WorldState). slice_get v.nodes i) c.run_is ∙ at, active)
