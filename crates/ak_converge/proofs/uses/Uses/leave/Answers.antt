use Rattle.std.proofs.Common.{◌-◌, ◌≤◌, ◌<◌, Some, None, is_some, sym, ap, ◌∙◌, arith}
use Rattle.std.specs.FinMap as map
use Rattle.ak_converge.specs.Tally.{uses_at}
use Rattle.ak_converge.proofs.UsesLaws.{uses_are, left_more, left_last}
use Rattle.ak_converge.proofs.uses.Uses.leave.Goals as goal
use Rattle.ak_converge.proofs.uses.Uses.leave.Goals.{in-Some, in-None}

pub overflow_sub-uses : goal.overflow_sub-uses
overflow_sub-uses c =
    let is = uses_are c.self.inside.counts.entries c.args.at.now c.args.self.now (Some c.in-Some.uses.now) c.self.view_is c.in-Some.ensures.value in
    omega (arith, is, c.requires)

pub returns-then-at-gt1 : goal.returns-then-at-gt1
returns-then-at-gt1 c =
    let many : 1 < uses_at c.args.self.now c.args.at.now = let is = c.at.ensures in let more = c.if-at-gt1.true in omega arith in
    elim c.match-get_mut.branch [
      | in-Some w ↦
          let less = w.in-Some.uses.now - 1 in
          ap (λ (inside : _). map.from_entries inside.counts.entries) w.self-inside-is
          ∙ left_more c.self.inside.counts.entries (c.get_mut.follows.lender less).entries c.args.at.now c.args.self.now w.in-Some.uses.now c.self.view_is w.in-Some.ensures.value many ((c.get_mut.follows.holds less).3 (sym (ap is_some w.in-Some.ensures.value))).0
      | in-None w ↦
          let none = uses_are c.self.inside.counts.entries c.args.at.now c.args.self.now None c.self.view_is w.in-None.ensures.value in
          absurd (omega (arith, none, many))
    ]

pub returns : goal.returns
returns c =
    let few : uses_at c.args.self.now c.args.at.now ≤ 1 = let is = c.at.ensures in let most = c.if-at-gt1.false in omega arith in
    left_last c.self.inside.counts.entries c.swap_remove.new.self.entries c.args.at.now c.args.self.now c.self.view_is few c.swap_remove.ensures.updates.0
