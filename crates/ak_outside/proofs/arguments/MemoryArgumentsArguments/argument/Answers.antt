use Rattle.std.proofs.Common.{◌≡◌, ℕ, List, Some, length, sym, ap, ◌∙◌}
use Rattle.std.specs.List.{slice_get}
use Rattle.std.specs.Prelude.{option_map}
use Rattle.std.proofs.lemmas.List.{take_at}
use Rattle.std.proofs.lemmas.Option.{slice_get-map, slice_get-get_or}
use Rattle.ak_outside.proofs.arguments.MemoryArgumentsArguments.argument.Goals as goal

pub returns-clause-fills : goal.returns-clause-fills
returns-clause-fills c =
    let all = c.self.inside.all.now in
    let one = c.in-Some.one.now in
    let at = c.in-Some.ensures.lookup.3 in
    let found : slice_get all c.args.index ≡ Some one = slice_get-get_or all c.args.index one at.0 ∙ ap Some (sym (at.1 one)) in
    let mapped : slice_get c.args.self.now c.args.index ≡ Some one.now =
    ap (λ (xs : List (List ℕ)). slice_get xs c.args.index) (sym c.self.view_is) ∙ slice_get-map _ all c.args.index ∙ ap (option_map _) found in
    let copied = c.copy_from_slice.ensures.after in
    mapped ∙ ap Some (sym (take_at _ _ _ (ap length copied) ∙ copied))
