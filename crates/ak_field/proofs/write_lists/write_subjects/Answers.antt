use Rattle.std.proofs.Common.{ap, ◌++◌, List, ℕ, sym, ◌∙◌, ◌∷◌, [], length}
use Rattle.ak_field.proofs.Written.{appended, subjects_there}
use Rattle.ak_field.proofs.write_lists.write_subjects.Goals as goal

pub returns : goal.returns
returns c =
    let list = c.args.indices.now in
    appended c.args.out.now.items c.write_byte.new.out.items c.extend_from_slice.new.self.items (length list ∷ []) list c.in_ok-write_byte.ensures.ok c.in_ok-extend_from_slice.ensures.items
    ∙ ap (λ (l : List ℕ). c.args.out.now.items ++ l) (sym (subjects_there c.args.number list c.if-number-eq0.false))
