use Rattle.std.proofs.Common.{◌≡◌, true, ℕ, List, sym, subst, ap, ◌∙◌, arith}
use Rattle.std.specs.List.{AllByRecursion}
use Rattle.ak_address.specs.Pairs.{index}
use Rattle.ak_member.specs.Ages.{AgeKey, age_cmp, has_age, has_age_but, key_at, keyed, Lists}
use Rattle.ak_member.proofs.AgeLemmas.{counts_all, counted_key, listed_here, listed_nowhere, taken_out}
use Rattle.ak_member.proofs.ages.leave.Goals as goal

pub index_of_age-requires-clause-counted : goal.index_of_age-requires-clause-counted
index_of_age-requires-clause-counted c =
    subst (λ (places : List ℕ). AllByRecursion (λ place. has_age c.args.slots.now.entries place ≡ true) places) (sym c.deref.ensures.value) (counts_all c.args.slots.now.entries c.args.by_age.now.items c.requires)

pub remove-requires : goal.remove-requires
remove-requires c =
    let slots = c.args.slots.now.entries in
    let places = c.args.by_age.now.items in
    let h = listed_here (has_age slots) (key_at slots) places c.requires (c.in-Some.number, c.in-Some.who.now) c.in-Ok.index (c.in-Ok.ensures ∙ ap (λ (ps : List ℕ). index age_cmp (c.in-Some.number, c.in-Some.who.now) (keyed (key_at slots) ps)) c.deref.ensures.value) in
    omega (arith, h.1, c.args.by_age.now.ok.0)

-- a slot that counts stands in the list
pub returns-in-Ok-clause-left : goal.returns-in-Ok-clause-left
returns-in-Ok-clause-left c =
    let slots = c.args.slots.now.entries in
    let places = c.args.by_age.now.items in
    let k = counted_key slots c.args.slot (c.in-Some.number, c.in-Some.who.now) c.in-Some.ensures in
    let stands = c.in-Ok.ensures ∙ ap (λ (ps : List ℕ). index age_cmp (c.in-Some.number, c.in-Some.who.now) (keyed (key_at slots) ps)) c.deref.ensures.value ∙ ap (λ (a : AgeKey). index age_cmp a (keyed (key_at slots) places)) k.1 in
    subst (Lists (has_age_but c.args.slot slots) (key_at slots)) (sym c.remove.ensures.items) (taken_out (has_age slots) (key_at slots) places c.requires c.args.slot c.in-Ok.index k.0 stands)

pub returns-in_default-index_of_age-clause-left : goal.returns-in_default-index_of_age-clause-left
returns-in_default-index_of_age-clause-left c =
    let slots = c.args.slots.now.entries in
    let places = c.args.by_age.now.items in
    let k = counted_key slots c.args.slot (c.in-Some.number, c.in-Some.who.now) c.in-Some.ensures in
    let goes = c.in_default-index_of_age.ensures ∙ ap (λ (ps : List ℕ). index age_cmp (c.in-Some.number, c.in-Some.who.now) (keyed (key_at slots) ps)) c.deref.ensures.value ∙ ap (λ (a : AgeKey). index age_cmp a (keyed (key_at slots) places)) k.1 in
    absurd (listed_nowhere (has_age slots) (key_at slots) places c.requires c.args.slot c.in_default-index_of_age.field-0 k.0 goes)
