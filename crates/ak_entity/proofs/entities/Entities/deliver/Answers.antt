use Rattle.std.proofs.Common.{Some, ◌++◌, not, is_some, sym, ap, ◌∙◌}
use Rattle.std.specs.FinMap as map
use Rattle.std.proofs.lemmas.Map.Steps.{set_value_same}
use Rattle.ak_address.proofs.Failing.{on_err}
use Rattle.ak_entity.specs.Entities.{delivered}
use Rattle.ak_entity.specs.Stored.{pairs_of}
use Rattle.ak_entity.proofs.StoredLemmas.{stored_get, inserted_into, written, put_sorted, put_is}
use Rattle.ak_entity.proofs.entities.Entities.deliver.Goals as goal

pub invariant_of-self : goal.invariant_of-self
invariant_of-self c =
    put_sorted c.self.inside.active.entries c.self.invariant c.args.self.now c.self.view_is c.bytes.result.now c.take.new.self (c.get_mut.follows.lender c.take.new.self).entries
    (ap pairs_of (c.get_mut.follows.holds c.take.new.self).0 ∙ written c.self.inside.active.entries c.self.invariant c.args.self.now c.self.view_is c.bytes.result.now c.take.new.self c.in-Some.active.now (sym c.in-Some.ensures.value))

pub returns-in_err-take-clause-err : goal.returns-in_err-take-clause-err
returns-in_err-take-clause-err c = on_err c.from_residual.result (
    ap (λ es. map.from_sorted (pairs_of es)) (
    (c.get_mut.follows.holds c.take.new.self).0
    ∙ set_value_same _ c.self.inside.active.entries c.take.new.self (sym c.in-Some.ensures.value ∙ ap Some (sym c.in_err-take.ensures.err))
    )
    ∙ c.self.view_is)

pub invariant_of-self-in-Some : goal.invariant_of-self-in-Some
invariant_of-self-in-Some c =
    put_sorted c.self.inside.active.entries c.self.invariant c.args.self.now c.self.view_is c.bytes.result.now c.take.new.self (c.get_mut.follows.lender c.take.new.self).entries
    (ap pairs_of (c.get_mut.follows.holds c.take.new.self).0 ∙ written c.self.inside.active.entries c.self.invariant c.args.self.now c.self.view_is c.bytes.result.now c.take.new.self c.in-Some.active.now (sym c.in-Some.ensures.value))

pub returns-in-Some-clause-started : goal.returns-in-Some-clause-started
returns-in-Some-clause-started c =
    ap (λ o. not (is_some o)) (
    c.in-Some.ensures.value
    ∙ stored_get c.self.inside.active.entries c.self.invariant c.args.self.now c.self.view_is c.bytes.result.now
    ∙ ap (map.get c.args.self.now) c.bytes.ensures
    )

pub returns-in-Some-clause-ok : goal.returns-in-Some-clause-ok
returns-in-Some-clause-ok c =
    put_is c.self.inside.active.entries c.self.invariant c.args.self.now c.self.view_is c.bytes.result.now c.take.new.self (c.get_mut.follows.lender c.take.new.self).entries
    (ap pairs_of (c.get_mut.follows.holds c.take.new.self).0 ∙ written c.self.inside.active.entries c.self.invariant c.args.self.now c.self.view_is c.bytes.result.now c.take.new.self c.in-Some.active.now (sym c.in-Some.ensures.value))
    ∙ ap (map.insert c.args.self.now c.bytes.result.now) (c.in_ok-take.ensures.ok ∙ ap (delivered c.args.shard c.args.payload) (
    c.in-Some.ensures.value
    ∙ stored_get c.self.inside.active.entries c.self.invariant c.args.self.now c.self.view_is c.bytes.result.now
    ))
    ∙ ap (λ id. map.insert c.args.self.now id (delivered c.args.shard c.args.payload (map.get c.args.self.now id))) c.bytes.ensures

pub invariant_of-self-2 : goal.invariant_of-self-2
invariant_of-self-2 c =
    let key = c.extend_from_slice.new.self in
    put_sorted c.self.inside.active.entries c.self.invariant c.args.self.now c.self.view_is key.items c.in_ok-active.active c.insert.new.self.entries
    (inserted_into key c.in_ok-active.active c.self.inside.active.entries c.get_mut.follows.lender-at-none.entries c.insert.new.self.entries (ap (λ m. m.entries) c.get_mut.follows.holds-at-none) c.in_ok-insert.ensures.entries)

pub returns-clause-started : goal.returns-clause-started
returns-clause-started c =
    ap (λ o. not (is_some o)) (
    c.in_default.ensures.value
    ∙ stored_get c.self.inside.active.entries c.self.invariant c.args.self.now c.self.view_is c.bytes.result.now
    ∙ ap (map.get c.args.self.now) c.bytes.ensures
    )

pub returns-clause-ok : goal.returns-clause-ok
returns-clause-ok c =
    let key = c.extend_from_slice.new.self in
    let absent = c.in_default.ensures.value ∙ stored_get c.self.inside.active.entries c.self.invariant c.args.self.now c.self.view_is c.bytes.result.now ∙ ap (map.get c.args.self.now) c.bytes.ensures in
    put_is c.self.inside.active.entries c.self.invariant c.args.self.now c.self.view_is key.items c.in_ok-active.active c.insert.new.self.entries
    (inserted_into key c.in_ok-active.active c.self.inside.active.entries c.get_mut.follows.lender-at-none.entries c.insert.new.self.entries (ap (λ m. m.entries) c.get_mut.follows.holds-at-none) c.in_ok-insert.ensures.entries)
    ∙ ap (map.insert c.args.self.now key.items) (c.in_ok-active.ensures ∙ ap (delivered c.args.shard c.args.payload) absent)
    ∙ ap (λ id. map.insert c.args.self.now id (delivered c.args.shard c.args.payload (map.get c.args.self.now c.args.entity.now)))
    (c.in_ok-extend_from_slice.ensures.items ∙ ap (λ xs. xs ++ c.bytes-2.result.now) c.new-key.ensures.items ∙ c.bytes-2.ensures)
