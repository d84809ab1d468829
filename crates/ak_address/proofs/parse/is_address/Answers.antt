use Rattle.std.proofs.Common.{Bool, IsTrue, ◌↔◌, subst, sym}
use Rattle.ak_address.specs.Spelling.{SomeAddress}
use Rattle.ak_address.proofs.SpellingLemmas.{address_test}
use Rattle.ak_address.proofs.parse.is_address.Goals as goal

pub returns : goal.returns
returns c =
    subst (λ (b : Bool). IsTrue b ↔ SomeAddress c.args.bytes.now) (sym c.is_ok.ensures.value)
    (address_test c.args.bytes.now _ _ c.checked_port.result c.split_at_byte.ensures.before c.split_at_byte.ensures.after c.checked_port.ensures)
