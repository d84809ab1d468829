use Rattle.std.proofs.Common.{◌≡◌, ◌∷◌, codes, refl, sym, ap, ◌∙◌}
use Rattle.std.specs.List.{list_all}
use Rattle.ak_address.specs.Unique.{AddressModel}
use Rattle.ak_settings.specs.Settings.{is_listed}
use Rattle.ak_schedule.specs.Line.{words}
use Rattle.ak_schedule.proofs.Listing.{role_spelled, role_unlisted}
use Rattle.ak_schedule.proofs.header.read_role.Goals as goal

pub returns-then-are_among : goal.returns-then-are_among
returns-then-are_among c =
    let ws = words c.args.line.now in
    let rest = words c.in-Some.rest.now in
    let whole : ws ≡ c.in-Some.name.now ∷ rest = c.in-Some.ensures.first in
    let first : c.in-Some.name.now ≡ codes "role" = c.is_text.ensures.0 c.if-not-is_text.false in
    let cut : ws ≡ codes "role" ∷ rest = rw (whole, first) refl in
    role_spelled ws rest c.args.listed.now c.in-Ok.role.items cut c.in-Ok.ensures
    (ap (list_all (λ (a : AddressModel). is_listed c.args.listed.now a)) (sym c.deref.ensures.value) ∙ sym c.are_among.ensures ∙ c.if-are_among.true)

pub returns-in-Ok : goal.returns-in-Ok
returns-in-Ok c =
    let ws = words c.args.line.now in
    let rest = words c.in-Some.rest.now in
    let whole : ws ≡ c.in-Some.name.now ∷ rest = c.in-Some.ensures.first in
    let first : c.in-Some.name.now ≡ codes "role" = c.is_text.ensures.0 c.if-not-is_text.false in
    let cut : ws ≡ codes "role" ∷ rest = rw (whole, first) refl in
    role_unlisted ws rest c.args.listed.now c.in-Ok.role.items cut c.in-Ok.ensures
    (ap (list_all (λ (a : AddressModel). is_listed c.args.listed.now a)) (sym c.deref.ensures.value) ∙ sym c.are_among.ensures ∙ c.if-are_among.false)
