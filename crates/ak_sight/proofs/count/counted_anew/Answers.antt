use Rattle.std.proofs.Common.{[], ◌∷◌, ◌++◌, ◌&&◌, if◌then◌else◌, option_to_list, subst, sym, ap, ◌∙◌, arith}
use Rattle.std.specs.FinMap as map
use Rattle.ak_converge.specs.Tally.{uses_of, with_use}
use Rattle.ak_member.specs.Age.{role_addresses}
use Rattle.ak_sight.specs.Counted.{KeptTallyModel, addresses_among, is_counted, roles_among}
use Rattle.ak_sight.proofs.CountLemmas.{UsedTo, used_none, used_passed, used_end, noted_one, noted_role, noted_roles, passed_role}
use Rattle.ak_sight.proofs.count.counted_anew.Goals as goal
use Rattle.ak_sight.proofs.count.counted_anew.Goals.{in-Some+in_ok-note, in_default}

pub pairs-init : goal.pairs-init
pairs-init c =
    let role = c.args.role.now in
    let es = map.entries c.args.new.now in
    record {
      used = subst (λ (t : KeptTallyModel). UsedTo role t.numbers.uses es 0 (uses_of (role_addresses role c.args.new.now))) (sym c.empty-tally.ensures) (used_none role es);
      roles = ap (λ (t : KeptTallyModel). t.roles ++ roles_among role es) c.empty-tally.ensures;
    }

pub pairs-preserved : goal.pairs-preserved
pairs-preserved c =
    let role = c.args.role.now in
    let es = map.entries c.args.new.now in
    let pair = c.pairs.pair in
    let before = c.pairs.tally in
    let after = c.match-pair.tally in
    elim c.match-pair.branch [
      | in-Some+in_ok-note w ↦
          let done = w.in_ok-note.ensures {u = tt} in
          let who = w.in-Some.who.now in
          let standing = w.in-Some.standing in
          record {
            used = noted_one role who standing before.numbers.uses after.numbers.uses es pair _ w.in-Some.ensures
                (ap (λ (t : KeptTallyModel). t.numbers.uses) w.tally-is ∙ done.uses ∙ ap (λ b. if b && is_counted standing then with_use before.numbers.uses who.address else before.numbers.uses) w.has_role-has_role.ensures)
                c.pairs.invariant.used;
            roles = noted_role role who standing before.roles after.roles es pair w.in-Some.ensures
                (ap (λ (t : KeptTallyModel). t.roles) w.tally-is ∙ done.roles ∙ ap (λ b. before.roles ++ b ∷ []) w.has_role-has_role.ensures) c.pairs.invariant.roles;
          }
      | in_default w ↦
          record {
            used = used_passed role before.numbers.uses after.numbers.uses es pair _ (ap (λ o. addresses_among role (option_to_list o)) w.in_default.ensures) (ap (λ (t : KeptTallyModel). t.numbers.uses) w.tally-is) c.pairs.invariant.used;
            roles = passed_role role before.roles after.roles es pair w.in_default.ensures (ap (λ (t : KeptTallyModel). t.roles) w.tally-is) c.pairs.invariant.roles;
          }
    ]

pub returns-clause-uses : goal.returns-clause-uses
returns-clause-uses c =
    used_end c.args.role.now c.pairs.tally.numbers.uses (map.entries c.args.new.now) c.pairs.pair _ (let past = map.len-entries c.args.new.now in omega (arith, c.uniques-pair-end.ensures, c.pairs-test.false)) c.pairs.invariant.used

pub returns-clause-roles : goal.returns-clause-roles
returns-clause-roles c =
    noted_roles c.args.role.now c.pairs.tally.roles (map.entries c.args.new.now) c.pairs.pair (let past = map.len-entries c.args.new.now in omega (arith, c.uniques-pair-end.ensures, c.pairs-test.false)) c.pairs.invariant.roles
