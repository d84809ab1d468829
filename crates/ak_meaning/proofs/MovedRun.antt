-- What the run in which a shard moves shows.
use Rattle.std.proofs.Common.{◌≡◌, inl, inr, ℕ, true, List, [], ◌∷◌, Option, Some, None, is_some, length, take, slice_get, IsTrue, refl, sym, ap, ◌∙◌, subst, arith, le_refl, take_all, true≢false}
use Rattle.std.proofs.lemmas.Option.{same_Some}
use Rattle.std.specs.FinMap as finmap
use Rattle.ak_address.specs.Unique.{UniqueModel}
use Rattle.ak_entity.specs.Active.{ActiveEntity}
use Rattle.ak_entity.proofs.EntityLaws.{own_delivery}
use Rattle.ak_node.specs.declared.node.State.{State}
use Rattle.ak_node.specs.Node.{me_of}
use Rattle.ak_settings.specs.Settings.{SettingsModel, shard_by}
use Rattle.ak_schedule.specs.declared.event.Event.{Event}
use Rattle.ak_shard_id.specs.Division.{shard_in}
use Rattle.ak_sharding.specs.Alive.{IsActive, Hosts}
use Rattle.ak_world.specs.declared.margin.Margin.TheVariants.{Kept}
use Rattle.ak_world.specs.Margin.{IsMargin}
use Rattle.ak_world.specs.SettledLine.{IsOverHalf}
use Rattle.ak_world.specs.Worked.{a_1, c_1}
use Rattle.ak_world.specs.World.{WorldState, run}
use Rattle.ak_world.proofs.DoubleKept.{kept_was_active}
use Rattle.ak_world.proofs.DoubleRuns.{IsKept, was_kept}
use Rattle.ak_world.proofs.OneHomeRuns.{all_well}
use Rattle.ak_world.proofs.WorkedLemmas.{Comes}
use Rattle.ak_meaning.specs.Instances.{IsHome, IsNoHome}
use Rattle.ak_meaning.specs.Moved.{spread, cart, moving}
use Rattle.ak_meaning.proofs.MovedFirst.{a_22}
use Rattle.ak_meaning.proofs.MovedSecond.{a_39, c_41}
use Rattle.ak_meaning.proofs.MovedWorlds.{done_22, done_41, comes_22, comes_41}

pub is_over_half : IsOverHalf spread 2
is_over_half = (refl, omega arith)

pub is_kept : IsMargin spread moving Kept
is_kept = comes_41.kept

module _ (settings : SettingsModel) (events : List Event) (w : WorldState) (c : Comes settings events w) (index : ℕ) (n : State) (at : slice_get w.nodes index ≡ Some n) where
  whole : take (length events) events ≡ events
  whole = take_all (length events) events (le_refl (length events))

  at_end : slice_get (run settings events).nodes index ≡ Some n
  at_end = ap (λ (v : WorldState). slice_get v.nodes index) c.run_is ∙ at

  then_too : slice_get (run settings (take (length events) events)).nodes index ≡ Some n
  then_too = ap (λ l. slice_get (run settings l).nodes index) whole ∙ at_end

  -- a running node that hosts the shard, and keeps the entity
  hosts_there : (who : UniqueModel) (shard : ℕ) (entity : List ℕ) → me_of n ≡ who → IsTrue n.runs → Hosts n.sharding shard → shard_by settings entity ≡ shard → IsActive n.sharding entity → IsHome settings events index who shard entity
  hosts_there who shard entity is runs hosts of_shard active = record {
    node = n;
    at = at_end;
    is_who = is;
    runs = runs;
    hosts = hosts;
    is_of = of_shard;
    active = kept_was_active settings events index entity (length events) (n, then_too, runs, active);
  }

  -- and one that does not host the shard, and so keeps no entity of it
  hosts_none : (who : UniqueModel) (shard : ℕ) (entity : List ℕ) → me_of n ≡ who → IsTrue n.runs → ¬ Hosts n.sharding shard → shard_by settings entity ≡ shard → IsNoHome settings events index who shard entity
  hosts_none who shard entity is runs left of_shard = record {
    node = n;
    at = at_end;
    is_who = is;
    runs = runs;
    left = left;
    ended = λ active. elim (was_kept settings events index entity (length events) 0 active) [
      | inl kept ↦ not_kept kept
      | inr starts ↦ absurd (true≢false (sym (ap is_some starts.1.did.at) ∙ ap is_some (none_at events)))
    ];
  }
    where
      none_at : (l : List Event) → slice_get l (length l) ≡ None
      none_at [] = refl
      none_at (e ∷ l) = none_at l

      by_entity : (o : Option ActiveEntity) → finmap.get n.sharding.entities entity ≡ o → is_some o ≡ true → Hosts n.sharding shard
      by_entity None is none = absurd (true≢false (sym none))
      by_entity (Some a) is some =
          let well = all_well settings events index n at_end in
          let of_its_shard = well.0 entity a is in
          subst (Hosts n.sharding) (of_its_shard.0 ∙ ap (λ d. shard_in d entity) well.1 ∙ of_shard) of_its_shard.1

      not_kept : IsKept settings events index entity (run settings (take (length events) events)) → ⊥
      not_kept k =
          let same : k.0 ≡ n = same_Some k.0 n (sym k.1 ∙ then_too) in
          left (by_entity (finmap.get n.sharding.entities entity) refl (subst (λ (m : State). IsActive m.sharding entity) same k.3))

pub is_first_home : IsHome spread (take 22 moving) 0 a_1 0 cart
is_first_home = hosts_there spread (take 22 moving) done_22.world comes_22 0 a_22 refl a_1 0 cart refl refl refl refl (ap is_some (own_delivery _ 0 1 cart))

pub is_second_home : IsHome spread moving 2 c_1 0 cart
is_second_home = hosts_there spread moving done_41.world comes_41 2 c_41 refl c_1 0 cart refl refl refl refl (ap is_some (own_delivery _ 0 4 cart))

pub has_left : IsNoHome spread moving 0 a_1 0 cart
has_left = hosts_none spread moving done_41.world comes_41 0 a_39 refl a_1 0 cart refl refl (λ hosts. true≢false (sym hosts)) refl
