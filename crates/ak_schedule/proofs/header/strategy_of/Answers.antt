use Rattle.std.proofs.Common.{◌≡◌, ◌∷◌, codes, refl}
use Rattle.ak_schedule.specs.Line.{words}
use Rattle.ak_schedule.proofs.Listing.{strategy_words}
use Rattle.ak_schedule.proofs.header.strategy_of.Goals as goal

pub returns-then-is_text : goal.returns-then-is_text
returns-then-is_text c =
    let ws = words c.args.line.now in
    let rest = words c.in-Some-next_word.rest.now in
    let first : c.in-Some.name.now ≡ codes "strategy" = c.is_text.ensures.0 c.if-not-is_text.false in
    let second : c.in-Some-next_word.name.now ≡ codes "static-quorum" = c.is_text-2.ensures.0 c.if-is_text.true in
    let whole : ws ≡ c.in-Some.name.now ∷ words c.in-Some.rest.now = c.in-Some.ensures.first in
    let after_it : words c.in-Some.rest.now ≡ c.in-Some-next_word.name.now ∷ rest = c.in-Some-next_word.ensures.first in
    let same : ws ≡ codes "strategy" ∷ codes "static-quorum" ∷ rest = rw (whole, after_it, first, second) refl in
    strategy_words ws (codes "strategy" ∷ codes "static-quorum" ∷ rest) c.read_quorum.result same c.read_quorum.ensures

pub returns-then-is_text-2 : goal.returns-then-is_text-2
returns-then-is_text-2 c =
    let ws = words c.args.line.now in
    let rest = words c.in-Some-next_word.rest.now in
    let first : c.in-Some.name.now ≡ codes "strategy" = c.is_text.ensures.0 c.if-not-is_text.false in
    let second : c.in-Some-next_word.name.now ≡ codes "keep-oldest" = c.is_text-3.ensures.0 c.if-is_text-2.true in
    let whole : ws ≡ c.in-Some.name.now ∷ words c.in-Some.rest.now = c.in-Some.ensures.first in
    let after_it : words c.in-Some.rest.now ≡ c.in-Some-next_word.name.now ∷ rest = c.in-Some-next_word.ensures.first in
    let same : ws ≡ codes "strategy" ∷ codes "keep-oldest" ∷ rest = rw (whole, after_it, first, second) refl in
    strategy_words ws (codes "strategy" ∷ codes "keep-oldest" ∷ rest) c.read_oldest.result same c.read_oldest.ensures
