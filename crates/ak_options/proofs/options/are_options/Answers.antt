use Rattle.std.proofs.Common.{rules, ℕ, List, map, IsTrue, sym, ◌∙◌}
use Rattle.std.specs.List.{list_any}
use Rattle.std.specs.Prelude.{nat_eq}
use Rattle.std.specs.Cmp.Lexicographic.{pointwise}
use Rattle.std.proofs.lemmas.Bool.{false≢true}
use Rattle.ak_options.proofs.OptionLemmas.{contained, options_first, options_more, empty_options, single_word, empty_test}
use Rattle.ak_options.proofs.options.are_options.Goals as goal

pub returns-then-not-is_one_of : goal.returns-then-not-is_one_of
returns-then-not-is_one_of c =
    let names : List (List ℕ) = map (λ one. one.now) c.args.names.now in (
      (λ h. absurd (false≢true h)),
      (λ options.
          let parts = options_first names c.pairs.left.now c.in-Some.name.now c.in-Some.field-0-1.now c.in-Some.rest.now c.in-Some.ensures (c.pairs.invariant.0 options) in
          let found : IsTrue (list_any (λ one. pointwise nat_eq one.now c.in-Some.name.now) c.args.names.now) = (contained c.args.names.now c.in-Some.name.now).1 parts.0 in
          sym c.if-not-is_one_of.true ∙ c.is_one_of.ensures ∙ found),
    )

pub pairs-preserved : goal.pairs-preserved
pairs-preserved c =
    let names : List (List ℕ) = map (λ one. one.now) c.args.names.now in
    let one = (contained c.args.names.now c.in-Some.name.now).0 (search rules) in (
      (λ options. (options_first names c.pairs.left.now c.in-Some.name.now c.in-Some.field-0-1.now c.in-Some.rest.now c.in-Some.ensures (c.pairs.invariant.0 options)).1),
      (λ options. c.pairs.invariant.1 (options_more names c.pairs.left.now c.in-Some.name.now c.in-Some.field-0-1.now c.in-Some.rest.now c.in-Some.ensures one options)),
    )

pub returns : goal.returns
returns c =
    let names : List (List ℕ) = map (λ one. one.now) c.args.names.now in
    let test = empty_test c.pairs.left.now c.is_empty.result c.is_empty.ensures in (
      (λ empty. c.pairs.invariant.1 (empty_options names c.pairs.left.now (test.0 empty))),
      (λ options. test.1 (single_word names c.pairs.left.now c.in_default.ensures (c.pairs.invariant.0 options))),
    )
