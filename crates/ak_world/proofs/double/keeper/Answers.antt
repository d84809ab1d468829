use Rattle.std.proofs.Common.{◌+◌, ℕ, Option, sym, ◌∙◌, take, subst, arith}
use Rattle.ak_world.specs.DoubleMark.{FirstKeeper}
use Rattle.ak_world.specs.WorldContracts.{states}
use Rattle.ak_world.proofs.DoubleLoops.{keeper_next, passed_itself, passed_idle, passed_later, keeper_whole}
use Rattle.ak_world.proofs.WorldLemmas.{length-states, state-at}
use Rattle.ak_world.proofs.double.keeper.Goals.{then-index-but+then-keeps+then-comes_first, else-index-but, else-index-but-via-then-index-but+then-keeps+else-comes_first, else-index-but-via-then-index-but+else-keeps, else-index-but-via-else-index-but}
use Rattle.ak_world.proofs.double.keeper.Goals as goal

pub nodes-preserved : goal.nodes-preserved
nodes-preserved c =
    let all = states c.args.nodes.now in
    let entity = c.args.entity.now in
    let but = c.args.but in
    let index = c.nodes.index in
    let found = c.nodes.found in
    let first = c.nodes.invariant in
    let on = λ (f : Option ℕ). FirstKeeper (take (index + 1) all) entity but f in
    elim c.if-index-but.branch [
      | then-index-but+then-keeps+then-comes_first w ↦
          let n = w.index-nodes-index.result in
          subst on (sym w.found-is)
          (keeper_next all entity but index n.state (state-at c.args.nodes.now index n c.nodes-test.true w.index-nodes-index.is) found first w.if-index-but.true
          (sym w.keeps.ensures ∙ w.if-keeps.true) (sym w.comes_first.ensures ∙ w.if-comes_first.true))
      | else-index-but w ↦ subst on (sym w.found-is)
          (elim w.else-index-but.branch [
            | else-index-but-via-then-index-but+then-keeps+else-comes_first v ↦
                let n = v.index-nodes-index.result in
                passed_later all entity but index n.state (state-at c.args.nodes.now index n c.nodes-test.true v.index-nodes-index.is) found first (sym v.comes_first.ensures ∙ v.if-comes_first.false)
            | else-index-but-via-then-index-but+else-keeps v ↦
                let n = v.index-nodes-index.result in
                passed_idle all entity but index n.state (state-at c.args.nodes.now index n c.nodes-test.true v.index-nodes-index.is) found first (sym v.keeps.ensures ∙ v.if-keeps.false)
            | else-index-but-via-else-index-but v ↦ passed_itself all entity but index found first v.if-index-but.false
          ])
    ]

pub returns : goal.returns
returns c = keeper_whole (states c.args.nodes.now) c.args.entity.now c.args.but c.nodes.index c.nodes.found (let past = c.nodes-test.false in omega (arith, past, length-states c.args.nodes.now)) c.nodes.invariant
