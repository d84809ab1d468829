use Rattle.std.proofs.Common.{◌∙◌, refl, sym, ap}
use Rattle.std.specs.Ordering.{is_lt}
use Rattle.std.proofs.lemmas.Option.{slice_get_read}
use Rattle.ak_allocation.proofs.AllocationLemmas.{later_first, this_first, only_first, there}
use Rattle.ak_allocation.proofs.allocation.first_with.Goals as goal

pub returns-then-is_lt : goal.returns-then-is_lt
returns-then-is_lt c =
    later_first c.args.side c.args.loads.now c.args.index c.in-Some.other c.index-loads-index.result c.index-loads-other.result
    (slice_get_read c.args.loads.now _ c.args.index c.index-loads-index.result refl c.requires.within c.index-loads-index.is)
    (there c.args.loads.now c.args.other c.in-Some.other c.index-loads-other.result _ c.in-Some.is c.requires.other c.index-loads-other.is)
    (rw c.in-Some.is at c.requires.other)
    (ap is_lt (sym c.compare.ensures) ∙ sym c.is_lt.ensures ∙ c.if-is_lt.true)

pub returns-else-is_lt : goal.returns-else-is_lt
returns-else-is_lt c =
    this_first c.args.side c.args.loads.now c.args.index c.in-Some.other c.index-loads-index.result c.index-loads-other.result
    (slice_get_read c.args.loads.now _ c.args.index c.index-loads-index.result refl c.requires.within c.index-loads-index.is)
    (there c.args.loads.now c.args.other c.in-Some.other c.index-loads-other.result _ c.in-Some.is c.requires.other c.index-loads-other.is)
    (rw c.in-Some.is at c.requires.other)
    (ap is_lt (sym c.compare.ensures) ∙ sym c.is_lt.ensures ∙ c.if-is_lt.false)

pub returns-in-None : goal.returns-in-None
returns-in-None c = only_first c.args.side c.args.loads.now c.args.index c.requires.within (rw c.in-None.is at c.requires.other)
