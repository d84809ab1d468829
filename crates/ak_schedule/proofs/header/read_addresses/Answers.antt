use Rattle.std.proofs.Common.{◌≡◌, ◌∷◌, [], ◌++◌, List, arith, sym, subst}
use Rattle.std.proofs.lemmas.Grind.{common_steps}
use Rattle.std.proofs.lemmas.Result.{err_from_is_err_and}
use Rattle.ak_address.specs.Unique.{AddressModel}
use Rattle.ak_schedule.specs.Line.{words}
use Rattle.ak_schedule.specs.Draft.{RefusesValue, SpellsNext}
use Rattle.ak_schedule.proofs.Listing.{SpelledSoFar, spelled_more, spelled_all, listing_refused}
use Rattle.ak_schedule.proofs.header.read_addresses.Goals as goal

pub returns : goal.returns
returns c =
    spelled_all (words c.args.names.now) (words c.names.rest.now) c.names.listed.items c.in_default.ensures c.names.invariant (grind (arith, common_steps))

pub names-preserved : goal.names-preserved
names-preserved c =
    let before = c.names.listed.items in
    let name = c.in-Some.name.now in
    let address = c.in_ok-address.address in
    let pushed : c.push.new.self.items ≡ before ++ address ∷ [] = grind (arith, common_steps) in
    let next = subst (λ (listed : List AddressModel). SpellsNext name listed address) c.deref.ensures.value c.in_ok-address.ensures in
    subst (SpelledSoFar (words c.args.names.now) (words c.in-Some.after_it.now)) (sym pushed)
    (spelled_more (words c.args.names.now) (words c.names.rest.now) (words c.in-Some.after_it.now) name before address c.in-Some.ensures.first c.names.invariant next)

pub returns-in_err-address : goal.returns-in_err-address
returns-in_err-address c =
    let before = c.names.listed.items in
    let name = c.in-Some.name.now in
    let fault = c.in_err-address.field-0.0 in
    let next = subst (λ (listed : List AddressModel). RefusesValue (SpellsNext name listed) fault) c.deref.ensures.value c.in_err-address.ensures in
    let p = err_from_is_err_and c.from_residual.result c.from_residual.ensures.1 in
    rw (p.1, p.2) (listing_refused (words c.args.names.now) (words c.names.rest.now) (words c.in-Some.after_it.now) name before fault c.in-Some.ensures.first c.names.invariant next)
