-- How far a generated run has come. There is one for each seed, and in it no event is refused for another reason than packets.
use Rattle.std.proofs.Common.{◌≡◌, inl, inr, ℕ, zero, suc, ◌≤◌, List, [], ◌∷◌, ◌++◌, Option, Some, None, Result, Ok, Err, refl, sym, ap, ◌∙◌, subst, arith, append-nil, append_assoc}
use Rattle.std.proofs.lemmas.Option.{same_Some}
use Rattle.ak_address.specs.Unique.{UniqueModel}
use Rattle.ak_schedule.specs.declared.event.Event.{Event}
use Rattle.ak_schedule.specs.declared.event.Event.TheVariants.{Start}
use Rattle.ak_schedule.specs.Schedule.{IsEvent}
use Rattle.ak_generate.specs.Fixed.{fixed}
use Rattle.ak_generate.specs.Census.{MayHappen, IsSeen}
use Rattle.ak_generate.specs.Census as census
use Rattle.ak_generate.specs.Generated.{next_event}
use Rattle.ak_generate.specs.Generator.{GeneratorModel, seeded, after_next}
use Rattle.ak_generate.specs.Words.{words_of}
use Rattle.ak_generate.proofs.SeenLemmas.{sees_nothing, sees_what_follows, what_is_given_may_happen, what_is_given_is_one}
use Rattle.ak_world.specs.declared.world.Reason.{Reason}
use Rattle.ak_world.specs.declared.world.Reason.TheVariants as reason
use Rattle.ak_world.specs.Uids.{HaveUids}
use Rattle.ak_world.specs.World.{WorldState, Done, empty_world, happens, after, run}
use Rattle.ak_world.proofs.FoldRuns.{run_sound}
use Rattle.ak_world.proofs.UidsOfStarts.{next_uids}
use Rattle.ak_world.proofs.WorldLemmas.{run-push}
use Rattle.ak_sweeps.specs.GeneratedRun.{sight_of, next, IsOver, GoesOn, IsRun}
use Rattle.ak_sweeps.proofs.Censuses.{census_of, same_sight}
use Rattle.ak_sweeps.proofs.Answers.{AreApart, IsFullAtMost, event_answer, full_is, happened_follows, start_room}

-- a world after generated events and no others, with the generator that gave them
pub record Reached (g : GeneratorModel) (w : WorldState) (events : List Event) : Type 0 where
  pub is_run : w ≡ run fixed events
  pub seen : IsSeen (census_of w) g (sight_of w)
  pub uids : HaveUids (run fixed events)

pub reached_start : (seed : ℕ) → Reached (seeded seed) empty_world []
reached_start seed = record { is_run = refl; seen = sees_nothing seed; uids = λ index n at. absurd (cc) }

module _ (g : GeneratorModel) (w : WorldState) (events : List Event) (r : Reached g w events) (event : Event) (comes : next g w ≡ Some event) where
  may_happen : MayHappen (census_of w) event
  may_happen = what_is_given_may_happen (census_of w) g (sight_of w) (Some event) (sym comes) r.seen

  are_apart : AreApart w
  are_apart = subst AreApart (sym r.is_run) (run_sound fixed events).apart

  pub reached_answer : IsFullAtMost (happens fixed event w)
  reached_answer = event_answer w are_apart event may_happen

  module _ (done : Done) (happened : happens fixed event w ≡ Ok done) where
    goes_on_run : done.world ≡ run fixed (events ++ event ∷ [])
    goes_on_run = sym (ap (after w) happened) ∙ ap (λ x. after x (happens fixed event x)) r.is_run ∙ sym (run-push fixed empty_world events event)

    seen_next : IsSeen (census_of done.world) (after_next g (sight_of w)) (sight_of done.world)
    seen_next =
        subst (IsSeen (census_of done.world) (after_next g (sight_of w))) (sym (same_sight done.world))
        (subst (λ s. IsSeen (census_of done.world) (after_next g s) (census.sight_of (census_of done.world))) (sym (same_sight w))
        (sees_what_follows (census_of w) (census_of done.world) g event (subst (IsSeen (census_of w) g) (same_sight w) r.seen)
        (ap (λ s. next_event g.opened s (words_of g.words)) (sym (same_sight w)) ∙ comes) (happened_follows w event done happened)))

    starter : (u : UniqueModel) → event ≡ Start u → 1 ≤ u.uid
    starter u is =
        let few = start_room w u done (ap (λ e. happens fixed e w) (sym is) ∙ happened) in
        let one : IsEvent event = what_is_given_is_one (census_of w) g (sight_of w) (Some event) (sym comes) r.seen (omega arith) in
        (subst IsEvent is one).uid

    pub reached_next : Reached (after_next g (sight_of w)) done.world (events ++ event ∷ [])
    reached_next = record { is_run = goes_on_run; seen = seen_next; uids = next_uids fixed events event r.uids starter }

-- ---- a run goes on in one way
-- the rest of a run, at most so many events, where each further run has one
module _ (most : ℕ) (g : GeneratorModel) (w : WorldState) (events : List Event) (r : Reached g w events) (further : (h : GeneratorModel) (v : WorldState) (es : List Event) → Reached h v es → (rest : List Event) × GoesOn most h v rest) where
  by_answer : (event : Event) (a : Result Done Reason) → next g w ≡ Some event → happens fixed event w ≡ a → (rest : List Event) × GoesOn (suc most) g w rest
  by_answer event (Ok done) comes happened =
      let rest = further (after_next g (sight_of w)) done.world (events ++ event ∷ []) (reached_next g w events r event comes done happened) in
      (event ∷ rest.0, inr (event, done, comes, happened, rest.0, rest.1, refl))
  by_answer event (Err why) comes refused =
      let full = full_is why (subst IsFullAtMost refused (reached_answer g w events r event comes)) in
      ([], inl (inr (event, comes, refused ∙ ap (λ y. Err y) full), refl))

  by_next : (o : Option Event) → next g w ≡ o → (rest : List Event) × GoesOn (suc most) g w rest
  by_next None is = ([], inl (inl is, refl))
  by_next (Some event) is = by_answer event (happens fixed event w) is refl

pub some_rest : (most : ℕ) (g : GeneratorModel) (w : WorldState) (events : List Event) → Reached g w events → (rest : List Event) × GoesOn most g w rest
some_rest zero g w events r = ([], refl)
some_rest (suc most) g w events r = by_next most g w events r (some_rest most) (next g w) refl

differ : (done : Done) (why : Reason) (a : Result Done Reason) → a ≡ Ok done → a ≡ Err why → ⊥
differ done why a is other = absurd (cc)

-- what comes next happens, so a run is not over
not_over : (g : GeneratorModel) (w : WorldState) (event : Event) (done : Done) → next g w ≡ Some event → happens fixed event w ≡ Ok done → IsOver g w → ⊥
not_over g w event done comes happened (inl none) = absurd (cc)
not_over g w event done comes happened (inr refused) =
    let same : refused.0 ≡ event = same_Some refused.0 event (sym refused.1 ∙ comes) in
    let answer : happens fixed event w ≡ Err reason.TooManyPackets = ap (λ e. happens fixed e w) (sym same) ∙ refused.2 in
    differ done reason.TooManyPackets (happens fixed event w) happened answer

same_ok : (one other : Done) (a : Result Done Reason) → a ≡ Ok one → a ≡ Ok other → one ≡ other
same_ok one other a p q = cc

pub one_rest : (most : ℕ) (g : GeneratorModel) (w : WorldState) (one other : List Event) → GoesOn most g w one → GoesOn most g w other → one ≡ other
one_rest zero g w one other p q = p ∙ sym q
one_rest (suc most) g w one other (inl p) (inl q) = p.1 ∙ sym q.1
one_rest (suc most) g w one other (inl p) (inr q) = absurd (not_over g w q.0 q.1 q.2 q.3 p.0)
one_rest (suc most) g w one other (inr p) (inl q) = absurd (not_over g w p.0 p.1 p.2 p.3 q.0)
one_rest (suc most) g w one other (inr p) (inr q) =
    let event : p.0 ≡ q.0 = same_Some p.0 q.0 (sym p.2 ∙ q.2) in
    let done : p.1 ≡ q.1 = same_ok p.1 q.1 (happens fixed q.0 w) (ap (λ e. happens fixed e w) (sym event) ∙ p.3) q.3 in
    let rest : p.4 ≡ q.4 = one_rest most (after_next g (sight_of w)) q.1.world p.4 q.4 (subst (λ (d : Done). GoesOn most (after_next g (sight_of w)) d.world p.4) done p.5) q.5 in
    p.6 ∙ ap (λ e. e ∷ p.4) event ∙ ap (λ es. q.0 ∷ es) rest ∙ sym q.6

-- ---- at the end of a run each process has a uid from 1 on
uids_at_end : (most : ℕ) (g : GeneratorModel) (w : WorldState) (events rest : List Event) → Reached g w events → GoesOn most g w rest → HaveUids (run fixed (events ++ rest))
uids_at_end zero g w events rest r on = subst (λ es. HaveUids (run fixed es)) (sym (append-nil events) ∙ ap (λ es. events ++ es) (sym on)) r.uids
uids_at_end (suc most) g w events rest r (inl over) = subst (λ es. HaveUids (run fixed es)) (sym (append-nil events) ∙ ap (λ es. events ++ es) (sym over.1)) r.uids
uids_at_end (suc most) g w events rest r (inr on) =
    subst (λ es. HaveUids (run fixed es)) (append_assoc events (on.0 ∷ []) on.4 ∙ ap (λ es. events ++ es) (sym on.6))
    (uids_at_end most (after_next g (sight_of w)) on.1.world (events ++ on.0 ∷ []) on.4 (reached_next g w events r on.0 on.2 on.1 on.3) on.5)

pub uids_of_run : (seed most : ℕ) (events : List Event) → IsRun seed most events → HaveUids (run fixed events)
uids_of_run seed most events on = uids_at_end most (seeded seed) empty_world [] events (reached_start seed) on
