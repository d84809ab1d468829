use Rattle.std.proofs.Common.{refl, sym, ap, ◌∙◌, arith}
use Rattle.ak_address.specs.Unique.{UniqueModel}
use Rattle.ak_world.specs.WorldContracts.{state_of}
use Rattle.ak_world.proofs.WorldLemmas.{start-listed, start-known, start-used, many-nodes, few-nodes, start-answer, same-answer}
use Rattle.ak_world.proofs.world.Scene.start.Goals as goal

pub returns-then-not-is_listed-clause-scenes : goal.returns-then-not-is_listed-clause-scenes
returns-then-not-is_listed-clause-scenes c =
    let l = start-listed c.args.self.now.settings.listed c.who.inside.address c.args.who.now _ _ (ap (λ (u : UniqueModel). u.address) c.who.view_is) c.is_listed.ensures.value c.if-not-is_listed.true in
    let answer = start-answer c.args.self.now.settings c.args.who.now (state_of c.args.self.now) _ _ _ _ _ l refl refl refl refl in
    record { reason = answer; unchanged = refl }

pub returns-then-is_some-clause-scenes : goal.returns-then-is_some-clause-scenes
returns-then-is_some-clause-scenes c =
    let l = start-listed c.args.self.now.settings.listed c.who.inside.address c.args.who.now _ _ (ap (λ (u : UniqueModel). u.address) c.who.view_is) c.is_listed.ensures.value c.if-not-is_listed.false in
    let a = start-known c.args.self.now.nodes.items _ c.args.who.now _ _ _ c.node_of.ensures c.deref.ensures.value c.is_some.ensures c.if-is_some.true in
    let answer = start-answer c.args.self.now.settings c.args.who.now (state_of c.args.self.now) _ _ _ _ _ l a refl refl refl in
    record { reason = answer; unchanged = refl }

pub returns-then-is_in_use-clause-scenes : goal.returns-then-is_in_use-clause-scenes
returns-then-is_in_use-clause-scenes c =
    let l = start-listed c.args.self.now.settings.listed c.who.inside.address c.args.who.now _ _ (ap (λ (u : UniqueModel). u.address) c.who.view_is) c.is_listed.ensures.value c.if-not-is_listed.false in
    let a = start-known c.args.self.now.nodes.items _ c.args.who.now _ _ _ c.node_of.ensures c.deref.ensures.value c.is_some.ensures c.if-is_some.false in
    let b = start-used c.args.self.now.nodes.items _ c.who.inside.address c.args.who.now _ _ (ap (λ (u : UniqueModel). u.address) c.who.view_is) c.is_in_use.ensures c.deref-2.ensures.value c.if-is_in_use.true in
    let answer = start-answer c.args.self.now.settings c.args.who.now (state_of c.args.self.now) _ _ _ _ _ l a b refl refl in
    record { reason = answer; unchanged = refl }

pub returns-then-is_full-clause-scenes : goal.returns-then-is_full-clause-scenes
returns-then-is_full-clause-scenes c =
    let l = start-listed c.args.self.now.settings.listed c.who.inside.address c.args.who.now _ _ (ap (λ (u : UniqueModel). u.address) c.who.view_is) c.is_listed.ensures.value c.if-not-is_listed.false in
    let a = start-known c.args.self.now.nodes.items _ c.args.who.now _ _ _ c.node_of.ensures c.deref.ensures.value c.is_some.ensures c.if-is_some.false in
    let b = start-used c.args.self.now.nodes.items _ c.who.inside.address c.args.who.now _ _ (ap (λ (u : UniqueModel). u.address) c.who.view_is) c.is_in_use.ensures c.deref-2.ensures.value c.if-is_in_use.false in
    let f = sym c.is_full.ensures ∙ c.if-is_full.true in
    let answer = start-answer c.args.self.now.settings c.args.who.now (state_of c.args.self.now) _ _ _ _ _ l a b f refl in
    record { reason = answer; unchanged = refl }

pub returns-then-len-ge-MOST_STARTS-clause-scenes : goal.returns-then-len-ge-MOST_STARTS-clause-scenes
returns-then-len-ge-MOST_STARTS-clause-scenes c =
    let l = start-listed c.args.self.now.settings.listed c.who.inside.address c.args.who.now _ _ (ap (λ (u : UniqueModel). u.address) c.who.view_is) c.is_listed.ensures.value c.if-not-is_listed.false in
    let a = start-known c.args.self.now.nodes.items _ c.args.who.now _ _ _ c.node_of.ensures c.deref.ensures.value c.is_some.ensures c.if-is_some.false in
    let b = start-used c.args.self.now.nodes.items _ c.who.inside.address c.args.who.now _ _ (ap (λ (u : UniqueModel). u.address) c.who.view_is) c.is_in_use.ensures c.deref-2.ensures.value c.if-is_in_use.false in
    let f = sym c.is_full.ensures ∙ c.if-is_full.false in
    let d = many-nodes c.args.self.now.nodes.items (omega arith) in
    let answer = start-answer c.args.self.now.settings c.args.who.now (state_of c.args.self.now) _ _ _ _ _ l a b f d in
    record { reason = answer; unchanged = refl }

pub returns-clause-scenes : goal.returns-clause-scenes
returns-clause-scenes c =
    let l = start-listed c.args.self.now.settings.listed c.who.inside.address c.args.who.now _ _ (ap (λ (u : UniqueModel). u.address) c.who.view_is) c.is_listed.ensures.value c.if-not-is_listed.false in
    let a = start-known c.args.self.now.nodes.items _ c.args.who.now _ _ _ c.node_of.ensures c.deref.ensures.value c.is_some.ensures c.if-is_some.false in
    let b = start-used c.args.self.now.nodes.items _ c.who.inside.address c.args.who.now _ _ (ap (λ (u : UniqueModel). u.address) c.who.view_is) c.is_in_use.ensures c.deref-2.ensures.value c.if-is_in_use.false in
    let f = sym c.is_full.ensures ∙ c.if-is_full.false in
    let d = few-nodes c.args.self.now.nodes.items (omega arith) in
    let answer = start-answer c.args.self.now.settings c.args.who.now (state_of c.args.self.now) _ _ _ _ _ l a b f d in
    same-answer _ _ _ _ _ answer c.start_node.ensures.scenes
