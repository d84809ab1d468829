use Rattle.std.proofs.Common.{◌+◌, ◌++◌, ◌∷◌, [], sym, ap, ◌∙◌, append_assoc}
use Rattle.std.proofs.lemmas.Fmt.{decimal_digit}
use Rattle.ak_address.proofs.print.append_after.Goals as goal

pub returns-then-number-lt10-clause-ok : goal.returns-then-number-lt10-clause-ok
returns-then-number-lt10-clause-ok c =
    let digit = 48 + c.args.number in
    c.push_reserved-then-number-lt10.ensures.items
    ∙ ap (λ items. items ++ digit ∷ []) (c.push_reserved.ensures.items ∙ ap (λ items. items ++ c.args.byte ∷ []) c.reserve.ensures.items)
    ∙ append_assoc c.args.out.now.items (c.args.byte ∷ []) (digit ∷ [])
    ∙ ap (λ digits. c.args.out.now.items ++ c.args.byte ∷ digits) (sym (decimal_digit c.args.number c.if-number-lt10.true))
