-- What is known already of each world of a run, together: it is the basis of what is said of settled versions.
use Rattle.std.proofs.Common.{[], refl, sym, subst}
use Rattle.ak_address.proofs.Elements.{contains_nothing}
use Rattle.ak_settings.specs.Settings.{SettingsModel}
use Rattle.ak_schedule.specs.declared.event.Event.{Event}
use Rattle.ak_world.specs.World.{WorldState, happens}
use Rattle.ak_world.specs.Remembered.{Remembered, remembers_answer, nothing_remembered}
use Rattle.ak_world.proofs.ByStart.{ByStart, answered_by_start, nothing_by_start}
use Rattle.ak_world.proofs.ClosedRuns.{Closing, answered_closing}
use Rattle.ak_world.proofs.FoldRuns.{empty_sound, happens_next}
use Rattle.ak_world.proofs.HeldInOrder.{InOrder, answered_in_order}
use Rattle.ak_world.proofs.OneFounder.{OneFounder, happened_to_founder, nobody_founds}
use Rattle.ak_world.proofs.Processes.{Processes, answered_processes, processes}
use Rattle.ak_world.proofs.RememberedLemmas.{answer-world}
use Rattle.ak_world.proofs.SeenHeld.{IsSeeing, answered_seeing}
use Rattle.ak_world.proofs.WhatHappened.{happened}

pub record Basis (settings : SettingsModel) (r : Remembered) : Type 0 where
  pub processes : Processes settings r.world
  pub by_start : ByStart settings r.world.nodes
  pub one_founder : OneFounder r.world
  pub closing : Closing r
  pub seeing : IsSeeing r
  pub in_order : InOrder r.held r.world.nodes

pub basis_next : (settings : SettingsModel) (r : Remembered) → Basis settings r → (e : Event) → Basis settings (remembers_answer r (happens settings e r.world))
basis_next settings r k e =
    let a = happens settings e r.world in
    let is = happened settings r.world e in
    let world_is = answer-world r a in
    let next = happens_next settings e r.world k.processes.sound in
    record {
      processes = subst (Processes settings) (sym world_is) (answered_processes settings r.world k.processes a is next.sound);
      by_start = subst (λ (w : WorldState). ByStart settings w.nodes) (sym world_is) (answered_by_start settings r.world k.by_start a is);
      one_founder = subst OneFounder (sym world_is) (happened_to_founder settings r.world k.one_founder e);
      closing = answered_closing r k.closing settings a is next.sound;
      seeing = answered_seeing r k.seeing settings a is;
      in_order = answered_in_order r k.processes.sound k.in_order settings a is;
    }

pub nothing_based : (settings : SettingsModel) → Basis settings nothing_remembered
nothing_based settings = record {
  processes = processes settings [];
  by_start = nothing_by_start settings;
  one_founder = nobody_founds;
  closing = record {
    sound = empty_sound;
    entries = refl;
    at_nodes = λ index n at. absurd (cc);
    at_packets = λ index p g at carries. absurd (cc);
    at_bases = λ e base there. absurd (contains_nothing (e, base) there);
  };
  seeing = record { at_nodes = λ index n at. absurd (cc); at_packets = λ index p g at carries. absurd (cc) };
  in_order = record { below = λ who v there. absurd (contains_nothing (who, v) there); comparable = λ who v w there also. absurd (contains_nothing (who, v) there) };
}
