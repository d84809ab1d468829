use Rattle.std.proofs.Common.{◌≡◌, true, false, ◌&&◌, length, refl, sym, ◌∙◌}
use Rattle.std.specs.Prelude.{nat_le, option_map}
use Rattle.toml.specs.View.{items_view}
use Rattle.ak_config.specs.Configuration.{are_texts}
use Rattle.ak_config.proofs.ListingLemmas.{listing_refused, listing_read}
use Rattle.ak_config.proofs.listing.listing_in.Goals as goal

pub returns-then-not-is_few-clause-gives : goal.returns-then-not-is_few-clause-gives
returns-then-not-is_few-clause-gives c =
    let items = c.args.items.now in
    let texts : are_texts (items_view items) ≡ true = sym c.are_texts.ensures ∙ c.if-not-are_texts.false in
    let few : (nat_le 1 (length items) && nat_le (length items) 32) ≡ false = sym c.is_few.ensures.value ∙ c.if-not-is_few.true in
    rw (listing_refused c.args.key.now (option_map (λ some. some.now) c.args.among) items texts few, c.in_ok-name-2.ensures) refl

pub returns-clause-gives : goal.returns-clause-gives
returns-clause-gives c =
    let items = c.args.items.now in
    let texts : are_texts (items_view items) ≡ true = sym c.are_texts.ensures ∙ c.if-not-are_texts.false in
    let few : (nat_le 1 (length items) && nat_le (length items) 32) ≡ true = sym c.is_few.ensures.value ∙ c.if-not-is_few.false in
    rw (listing_read c.args.key.now (option_map (λ some. some.now) c.args.among) items texts few) c.addresses_in.ensures.gives
