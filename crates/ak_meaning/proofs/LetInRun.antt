-- What the run in which a member is let in shows.
use Rattle.std.proofs.Common.{◌≡◌, false, [], ◌∷◌, take, refl, sym, ◌∙◌, subst, arith, true≢false}
use Rattle.std.proofs.lemmas.Option.{same_Some}
use Rattle.ak_converge.specs.Convergence.{is_settled}
use Rattle.ak_history.specs.declared.entry.Entry.{Entry}
use Rattle.ak_member.specs.declared.effect.Effect.TheVariants.{Rise}
use Rattle.ak_member.specs.declared.status.Status.TheVariants.{WeaklyUp, Up}
use Rattle.ak_node.specs.Node.{known}
use Rattle.ak_settings.specs.Settings.{settling_size}
use Rattle.ak_world.specs.declared.margin.Margin.TheVariants.{Kept}
use Rattle.ak_world.specs.Margin.{HasNumber, IsMargin, Runs}
use Rattle.ak_world.specs.Noting.{HasSettled}
use Rattle.ak_world.specs.Worked.{a_1, c_1}
use Rattle.ak_world.specs.World.{run}
use Rattle.ak_world.proofs.ListedTables.{listed}
use Rattle.ak_meaning.specs.Instances.{IsSaid, KnowsMember, RunsSettled}
use Rattle.ak_meaning.specs.LetIn.{lenient, letting_in}
use Rattle.ak_meaning.proofs.InstanceRuns.{at_world, in_world}
use Rattle.ak_meaning.proofs.LetInSteps.{a_9, a_10, a_13, a_14}
use Rattle.ak_meaning.proofs.LetInWorlds.{done_9, done_10, done_13, done_14, comes_9, comes_10, comes_13, comes_14}

pub is_kept : IsMargin lenient letting_in Kept
is_kept = comes_14.kept

pub leader_is : HasNumber (run lenient letting_in).nodes 0 a_1
leader_is = record { node = a_14; at = at_world lenient letting_in done_14.world 0 a_14 comes_14 refl; is_who = refl }

pub leader_runs : Runs (run lenient (take 9 letting_in)).nodes a_1
leader_runs = record { index = 0; node = a_9; at = at_world lenient (take 9 letting_in) done_9.world 0 a_9 comes_9 refl; is_who = refl; runs = refl }

tests_unsettled : is_settled (settling_size lenient.strategy) lenient.role (known a_9).view (known a_9).seen ≡ false
tests_unsettled = simp listed

pub is_unsettled_first : ¬ RunsSettled lenient (take 9 letting_in) 0
is_unsettled_first r =
    let same : r.node ≡ a_9 = same_Some r.node a_9 (sym r.at ∙ at_world lenient (take 9 letting_in) done_9.world 0 a_9 comes_9 refl) in
    true≢false (sym (subst (HasSettled lenient) same r.settled) ∙ tests_unsettled)

pub is_let_in : KnowsMember lenient (take 10 letting_in) 0 c_1 WeaklyUp
is_let_in = record { node = a_10; at = at_world lenient (take 10 letting_in) done_10.world 0 a_10 comes_10 refl; member = (0, simp listed) }

abbrev letting : Entry
letting = record { author = a_1; number = 5; effects = Rise c_1 WeaklyUp 0 ∷ [] }

pub letting_said : IsSaid lenient (take 10 letting_in) (Rise c_1 WeaklyUp 0)
letting_said = (letting, in_world lenient (take 10 letting_in) done_10.world 0 letting comes_10 refl, (0, omega arith, refl))

pub is_settled_then : RunsSettled lenient (take 13 letting_in) 0
is_settled_then = record { node = a_13; at = at_world lenient (take 13 letting_in) done_13.world 0 a_13 comes_13 refl; runs = refl; settled = simp listed }

pub comes_up : KnowsMember lenient letting_in 0 c_1 Up
comes_up = record { node = a_14; at = at_world lenient letting_in done_14.world 0 a_14 comes_14 refl; member = (3, simp listed) }

abbrev rising : Entry
rising = record { author = a_1; number = 6; effects = Rise c_1 Up 3 ∷ [] }

pub rise_said : IsSaid lenient letting_in (Rise c_1 Up 3)
rise_said = (rising, in_world lenient letting_in done_14.world 0 rising comes_14 refl, (0, omega arith, refl))
