use Rattle.std.proofs.Common.{◌≡◌, ◌∷◌, ◌∙◌, true, false, Some, None, string_bytes, refl, sym, ap}
use Rattle.std.proofs.lemmas.Map.Iter.{rest_more, rest_all}
use Rattle.std.specs.Map.Iter.{deref}
use Rattle.std.specs.Map.{keys_of}
use Rattle.std.specs.List.Sorted.{IsStrictlySortedBy}
use Rattle.std.specs.String.{string_cmp}
use Rattle.toml.specs.View.{table_view}
use Rattle.ak_config.specs.Configuration.{is_key, least_unknown, known_keys}
use Rattle.ak_config.proofs.KeyLemmas.{least_in, least_of_keys, first_is_least}
use Rattle.ak_config.proofs.keys.known_keys.Goals as goal

pub keys-init : goal.keys-init
keys-init c =
    let start : c.into_iter-key-iterator.result ≡ keys_of c.args.table.now.entries = cc in
    rw start (c.keys-key-items.ensures.ordered, least_of_keys c.args.table.now.entries)

pub returns-then-not-is_key : goal.returns-then-not-is_key
unfolding known_keys
returns-then-not-is_key c =
    let key = c.in-Some.key.now in
    let here : c.keys.key-iterator ≡ key ∷ c.next.new.self = rest_more deref _ _ c.next.result c.in-Some.key c.in-Some.is c.next.ensures.steps in
    let unknown : is_key (string_bytes key) ≡ false = sym (c.is_key.ensures ∙ ap is_key c.as_str.ensures.value) ∙ c.if-not-is_key.true in
    let sorted : IsStrictlySortedBy string_cmp (key ∷ c.next.new.self) = rw here at c.keys.invariant.0 in
    let least : least_unknown (table_view c.args.table.now) ≡ Some (string_bytes key) = c.keys.invariant.1 ∙ ap least_in here ∙ first_is_least key c.next.new.self sorted unknown in
    let name : c.in_ok-name.field-0 ≡ string_bytes key = c.in_ok-name.ensures ∙ c.as_str-then-not-is_key.ensures.value in
    rw (least, name) refl

pub keys-preserved : goal.keys-preserved
unfolding IsStrictlySortedBy
keys-preserved c =
    let key = c.in-Some.key.now in
    let here : c.keys.key-iterator ≡ key ∷ c.next.new.self = rest_more deref _ _ c.next.result c.in-Some.key c.in-Some.is c.next.ensures.steps in
    let sorted : IsStrictlySortedBy string_cmp (key ∷ c.next.new.self) = rw here at c.keys.invariant.0 in
    let known : is_key (string_bytes key) ≡ true = sym (c.is_key.ensures ∙ ap is_key c.as_str.ensures.value) ∙ c.if-not-is_key.false in
    (sorted.1, c.keys.invariant.1 ∙ ap least_in here ∙ rw known refl)

pub returns : goal.returns
unfolding known_keys
returns c =
    let here = rest_all deref c.keys.key-iterator c.next.new.self c.next.result c.in-None.is c.next.ensures.steps in
    let least : least_unknown (table_view c.args.table.now) ≡ None = c.keys.invariant.1 ∙ ap least_in here in
    rw least refl
