use Rattle.std.proofs.Common.{◌≡◌, ◌<◌, true, ℕ, List, insert, if◌then◌else◌, sym, subst, ap, ◌∙◌, arith}
use Rattle.std.specs.List.{AllByRecursion}
use Rattle.ak_address.specs.Pairs.{index}
use Rattle.ak_member.specs.Ages.{AgeKey, age_cmp, has_age, has_age_but, key_at, keyed, AreByAge}
use Rattle.ak_member.proofs.AgeLemmas.{counts_all_but, counted_key, goes_within, room_for, entered, no_other_there}
use Rattle.ak_member.proofs.ages.enter.Goals as goal

pub index_of_age-requires-clause-counted : goal.index_of_age-requires-clause-counted
index_of_age-requires-clause-counted c =
    subst (λ (places : List ℕ). AllByRecursion (λ place. has_age c.args.slots.now.entries place ≡ true) places) (sym c.deref.ensures.value) (counts_all_but c.args.slots.now.entries c.args.slot c.args.by_age.now.items c.requires.left)

pub insert-requires : goal.insert-requires
insert-requires c =
    let slots = c.args.slots.now.entries in
    let within = goes_within (has_age_but c.args.slot slots) (key_at slots) c.args.by_age.now.items c.requires.left (c.in-Some.number, c.in-Some.who.now) c.in-Err.index (c.in-Err.ensures ∙ ap (λ (ps : List ℕ). index age_cmp (c.in-Some.number, c.in-Some.who.now) (keyed (key_at slots) ps)) c.deref.ensures.value) in
    omega (arith, within, c.args.by_age.now.ok.0)

-- there is room for it
pub returns-in-Err-clause-all : goal.returns-in-Err-clause-all
returns-in-Err-clause-all c =
    let slots = c.args.slots.now.entries in
    let places = c.args.by_age.now.items in
    let k = counted_key slots c.args.slot (c.in-Some.number, c.in-Some.who.now) c.in-Some.ensures in
    let goes = c.in-Err.ensures ∙ ap (λ (ps : List ℕ). index age_cmp (c.in-Some.number, c.in-Some.who.now) (keyed (key_at slots) ps)) c.deref.ensures.value ∙ ap (λ (a : AgeKey). index age_cmp a (keyed (key_at slots) places)) k.1 in
    let room : c.args.by_age.now.len < c.args.by_age.now.cap = omega (arith, room_for slots c.args.slot places c.requires.left k.0, c.requires.room, c.args.by_age.now.ok.0) in
    let put = c.insert.ensures.items ∙ ap (λ b. if b then insert places c.in-Err.index c.args.slot else places) (c.insert.ensures.succeeds room) in
    subst (AreByAge slots) (sym put) (entered slots c.args.slot places c.requires.left c.in-Err.index k.0 goes)

pub returns-in-Err-clause-room : goal.returns-in-Err-clause-room
returns-in-Err-clause-room c =
    let slots = c.args.slots.now.entries in
    let k = counted_key slots c.args.slot (c.in-Some.number, c.in-Some.who.now) c.in-Some.ensures in
    let room : c.args.by_age.now.len < c.args.by_age.now.cap = omega (arith, room_for slots c.args.slot c.args.by_age.now.items c.requires.left k.0, c.requires.room, c.args.by_age.now.ok.0) in
    (c.insert.ensures.in_place room).1.0

-- no other slot stands where it goes
pub returns-in_default-index_of_age-clause-all : goal.returns-in_default-index_of_age-clause-all
returns-in_default-index_of_age-clause-all c =
    let slots = c.args.slots.now.entries in
    let places = c.args.by_age.now.items in
    let k = counted_key slots c.args.slot (c.in-Some.number, c.in-Some.who.now) c.in-Some.ensures in
    let stands = c.in_default-index_of_age.ensures ∙ ap (λ (ps : List ℕ). index age_cmp (c.in-Some.number, c.in-Some.who.now) (keyed (key_at slots) ps)) c.deref.ensures.value ∙ ap (λ (a : AgeKey). index age_cmp a (keyed (key_at slots) places)) k.1 in
    absurd (no_other_there slots c.args.slot places c.requires.left c.len.ensures.unique k.0 c.in_default-index_of_age.field-0 stands)
