use Rattle.std.proofs.Common.{◌≡◌, ◌∷◌, IfOk, sym, subst}
use Rattle.std.proofs.lemmas.Fmt.{decimal_digit}
use Rattle.ak_generate.proofs.process.numbered.Goals as goal

pub returns-then-number-lt10 : goal.returns-then-number-lt10
returns-then-number-lt10 c =
    subst (λ digits. IfOk c.from_bytes.result (λ text. text ≡ c.args.letter ∷ digits)) (sym (decimal_digit c.args.number c.if-number-lt10.true)) c.from_bytes.ensures
