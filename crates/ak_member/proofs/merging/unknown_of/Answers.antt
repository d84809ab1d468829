use Rattle.std.proofs.Common.{◌≡◌, ◌+◌, ◌-◌, None, Some, drop, reverse, ap, ◌∙◌, sym, append-nil, arith}
use Rattle.std.proofs.lemmas.List.{drop_all}
use Rattle.std.specs.FinMap as map
use Rattle.ak_member.specs.Merging.{unknown}
use Rattle.ak_member.specs.Slots.{standings_of}
use Rattle.ak_member.proofs.MergeLemmas.{unknown_from}
use Rattle.ak_member.proofs.merging.unknown_of.Goals as goal

pub pairs-init : goal.pairs-init
pairs-init c =
    let s = standings_of c.args.other.now.entries in
    record {
      in_range = omega (arith, c.len-pair.ensures, map.len-entries s);
      so_far =
          ap reverse c.new-new.ensures.items
          ∙ ap (unknown (standings_of c.args.slots.now.entries)) (sym (drop_all c.len-pair.result (map.entries s) (omega (arith, c.len-pair.ensures, map.len-entries s))));
    }

pub pairs-preserved-in-Some : goal.pairs-preserved-in-Some
pairs-preserved-in-Some c =
    let es = map.entries (standings_of c.args.other.now.entries) in
    let own = standings_of c.args.slots.now.entries in
    let next : c.pairs.pair ≡ (c.pairs.pair - 1) + 1 = omega (arith, c.pairs-test.true) in
    record {
      in_range = omega (arith, c.pairs.invariant.in_range);
      so_far =
          unknown_from own es (c.pairs.pair - 1) (Some (c.in-Some.who.now, c.in-Some.standing.now)) c.pairs.new.items _ c.in-Some.ensures
          (c.pairs.invariant.so_far ∙ ap (λ i. unknown own (drop i es)) next)
          c.in_ok-near.ensures;
    }

pub pairs-preserved : goal.pairs-preserved
pairs-preserved c =
    let es = map.entries (standings_of c.args.other.now.entries) in
    let own = standings_of c.args.slots.now.entries in
    let next : c.pairs.pair ≡ (c.pairs.pair - 1) + 1 = omega (arith, c.pairs-test.true) in
    record {
      in_range = omega (arith, c.pairs.invariant.in_range);
      so_far =
          unknown_from own es (c.pairs.pair - 1) None c.pairs.new.items c.pairs.new.items c.in_default.ensures
          (c.pairs.invariant.so_far ∙ ap (λ i. unknown own (drop i es)) next)
          (sym (append-nil c.pairs.new.items));
    }
