-- A world as a census: what an accepted event makes of it, and which events are refused for packets alone.
use Rattle.std.proofs.Common.{◌≡◌, ◌⊎◌, inl, inr, ℕ, zero, suc, Bool, true, List, [], ◌∷◌, ◌++◌, map, reverse, length, slice_get, slice_set, Contains, Some, IsTrue, refl, sym, ap, ◌∙◌, subst}
use Rattle.std.specs.List.{filter}
use Rattle.std.proofs.lemmas.List.{map-append, reverse-append, length-reverse, length-map}
use Rattle.std.proofs.lemmas.Option.{same_Some}
use Rattle.ak_address.specs.Unique.{UniqueModel}
use Rattle.ak_address.specs.Uniques.{has}
use Rattle.ak_address.proofs.CountersLaws.{has-set_of, set_from, is_among}
use Rattle.ak_address.proofs.Elements.{in_filter, filter_in, in_map, map_in, contains_at, index_of}
use Rattle.ak_address.proofs.TableLaws.{same_key}
use Rattle.ak_schedule.specs.declared.event.Event.{Event}
use Rattle.ak_schedule.specs.declared.event.Event.TheVariants.{Start, Deliver}
use Rattle.ak_node.specs.declared.node.State.{State}
use Rattle.ak_node.specs.declared.node.NodeEvent.{NodeEvent}
use Rattle.ak_node.specs.Node.{me_of, started, step}
use Rattle.ak_node.proofs.StepChanges.{step_changes}
use Rattle.ak_generate.specs.Fixed.{fixed}
use Rattle.ak_generate.specs.Census.{Census, started_by, founded_by, Starts, IsGiven, Follows}
use Rattle.ak_generate.specs.Census as census
use Rattle.ak_world.specs.Margin.{Runs}
use Rattle.ak_world.specs.World.{WorldState, stepped, starts, is_process}
use Rattle.ak_world.proofs.IndexLemmas.{set_or, set_elsewhere, prefix_at, push_here, push_at}
use Rattle.ak_sweeps.specs.GeneratedRun.{running, sight_of}

-- as much of a world as a generator's events ask of it; the process that was started last stands first
abbrev pub census_of : WorldState → Census
census_of w = record { started = reverse (map me_of w.nodes); running = running w.nodes; founded = w.founded; packets = length w.packets }

pub same_sight : (w : WorldState) → sight_of w ≡ census.sight_of (census_of w)
same_sight w = ap (λ n. record { running = running w.nodes; starts = n; packets = length w.packets }) (sym (length-reverse (map me_of w.nodes) ∙ length-map w.nodes me_of))

-- ---- who runs
pub running_there : (nodes : List State) (who : UniqueModel) → IsTrue (has (running nodes) who) → Runs nodes who
running_there nodes who is =
    let named = in_map me_of (filter (λ (n : State). n.runs) nodes) who (set_from (map me_of (filter (λ (n : State). n.runs) nodes)) who is) in
    let kept = in_filter (λ (n : State). n.runs) nodes named.0 named.1 in
    let at = index_of nodes named.0 kept.0 in
    record { index = at.0; node = named.0; at = at.1; is_who = sym named.2; runs = kept.1 }

pub there_running : (nodes : List State) (who : UniqueModel) → Runs nodes who → IsTrue (has (running nodes) who)
there_running nodes who r =
    has-set_of (map me_of (filter (λ (n : State). n.runs) nodes)) who
    ∙ is_among (map me_of (filter (λ (n : State). n.runs) nodes)) who
    (subst (Contains (map me_of (filter (λ (n : State). n.runs) nodes))) r.is_who
    (map_in me_of (filter (λ (n : State). n.runs) nodes) r.node (filter_in (λ (n : State). n.runs) nodes r.node (contains_at nodes r.index r.node r.at) r.runs)))

pub is_who_of : (u : UniqueModel) (n : State) → is_process u n ≡ true → me_of n ≡ u
is_who_of u n is = same_key (me_of n) u is

-- ---- a step of one node
same_processes : (nodes : List State) (index : ℕ) (n x : State) → slice_get nodes index ≡ Some n → me_of x ≡ me_of n → map me_of (slice_set nodes index x) ≡ map me_of nodes
same_processes [] index n x at same = absurd (cc)
same_processes (m ∷ nodes) zero n x at same = ap (λ u. u ∷ map me_of nodes) (same ∙ ap me_of (sym (same_Some m n at)))
same_processes (m ∷ nodes) (suc index) n x at same = ap (λ us. me_of m ∷ us) (same_processes nodes index n x at same)

module _ (nodes : List State) (index : ℕ) (n x : State) (at : slice_get nodes index ≡ Some n) (runs : IsTrue n.runs) (same : me_of x ≡ me_of n) where
  pub ran_before : (one : UniqueModel) → Runs (slice_set nodes index x) one → Runs nodes one
  ran_before one r = elim (set_or nodes index r.index x r.node r.at) [
    | inl new ↦ record { index = index; node = n; at = at; is_who = sym same ∙ ap me_of (sym new) ∙ r.is_who; runs = runs }
    | inr there ↦ record { index = r.index; node = r.node; at = there; is_who = r.is_who; runs = r.runs }
  ]

  pub runs_after : (one : UniqueModel) → Runs nodes one → Runs (slice_set nodes index x) one ⊎ (one ≡ me_of n)
  runs_after one r = elim (set_elsewhere nodes index r.index x r.node r.at) [
    | inl here ↦ inr (sym r.is_who ∙ ap me_of (same_Some r.node n (sym r.at ∙ ap (slice_get nodes) here ∙ at)))
    | inr there ↦ inl (record { index = r.index; node = r.node; at = there; is_who = r.is_who; runs = r.runs })
  ]

-- an event that starts nobody is given to a node that runs
pub step_follows : (w : WorldState) (happened : Event) (e : NodeEvent) (index : ℕ) (n : State) (founded : Bool) → slice_get w.nodes index ≡ Some n → IsTrue n.runs
    → ((us : List UniqueModel) → started_by happened us ≡ us) → founded ≡ founded_by happened w.founded → ((one : UniqueModel) → Starts happened one → ⊥) → IsGiven happened (me_of n)
    → Follows (census_of w) happened (census_of (stepped index (step e n) (record w { founded = founded })).world)
step_follows w happened e index n founded at runs keeps founds nobody given =
    let x = (step e n).0 in
    record {
      started = ap reverse (same_processes w.nodes index n x at (step_changes e n runs).same_me) ∙ sym (keeps (reverse (map me_of w.nodes)));
      founded = founds;
      begins = λ one starts. absurd (nobody one starts);
      ran = λ one is. inl (there_running w.nodes one (ran_before w.nodes index n x at runs (step_changes e n runs).same_me one (running_there (slice_set w.nodes index x) one is)));
      stays = λ one is. elim (runs_after w.nodes index n x at runs (step_changes e n runs).same_me one (running_there w.nodes one is)) [
        | inl goes ↦ inl (there_running (slice_set w.nodes index x) one goes)
        | inr him ↦ inr (subst (IsGiven happened) (sym him) given)
      ];
    }

-- nobody is reached
pub nothing_follows : (w : WorldState) (number : ℕ) → Follows (census_of w) (Deliver number) (census_of w)
nothing_follows w number = record {
  started = refl;
  founded = refl;
  begins = λ one starts. absurd starts;
  ran = λ one is. inl is;
  stays = λ one is. inl is;
}

-- a process starts
pub start_follows : (w : WorldState) (u : UniqueModel) → Follows (census_of w) (Start u) (census_of (starts fixed u w).world)
start_follows w u =
    let new = started u fixed in
    record {
      started = ap reverse (map-append me_of w.nodes (new ∷ [])) ∙ reverse-append (map me_of w.nodes) (u ∷ []);
      founded = refl;
      begins = λ one is. there_running (w.nodes ++ new ∷ []) one (record { index = length w.nodes; node = new; at = push_here w.nodes new; is_who = sym is; runs = refl });
      ran = λ one is.
          let r = running_there (w.nodes ++ new ∷ []) one is in
          push_at (λ j m. me_of m ≡ one → IsTrue m.runs → IsTrue (has (running w.nodes) one) ⊎ (one ≡ u)) w.nodes new
          (λ j m at who runs. inl (there_running w.nodes one (record { index = j; node = m; at = at; is_who = who; runs = runs })))
          (λ who runs. inr (sym who)) r.index r.node r.at r.is_who r.runs;
      stays = λ one is.
          let r = running_there w.nodes one is in
          inl (there_running (w.nodes ++ new ∷ []) one (record { index = r.index; node = r.node; at = prefix_at w.nodes (new ∷ []) r.index r.node r.at; is_who = r.is_who; runs = r.runs }));
    }
