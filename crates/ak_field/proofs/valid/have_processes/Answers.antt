use Rattle.std.proofs.Common.{refl, arith}
use Rattle.std.proofs.lemmas.Option.{slice_get_read, slice_get_within}
use Rattle.ak_address.specs.Unique.{IsUnique}
use Rattle.ak_gossip.specs.declared.part.Part.{Part}
use Rattle.ak_field.proofs.ValidLists.{so_far}
use Rattle.ak_field.proofs.valid.have_processes.Goals as goal

pub list-preserved : goal.list-preserved
list-preserved c =
    let at = slice_get_read c.args.list.now _ c.list.one-index c.one-item.result refl c.list-test.true c.one-item.is in
    so_far c.args.list.now (λ (p : Part). IsUnique p.unique) c.list.one-index c.one-item.result c.list.invariant at (c.is_process.ensures.0 c.if-not-is_process.false)

pub returns : goal.returns
returns c = (λ _ i p at. c.list.invariant i p (omega (arith, slice_get_within c.args.list.now i p at, c.list-test.false)) at, λ _. refl)
