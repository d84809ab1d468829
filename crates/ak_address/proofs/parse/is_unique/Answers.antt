use Rattle.std.proofs.Common.{◌≡◌, Bool, List, ℕ, Ok, Err, IsTrue, ◌↔◌, subst, sym, refl, ap, ◌∙◌}
use Rattle.std.proofs.lemmas.Bool.{false≢true}
use Rattle.ak_address.specs.Spelling.{SomeUnique, before_byte, after_byte}
use Rattle.ak_address.proofs.SpellingLemmas.{unique_port, unique_test}
use Rattle.ak_address.proofs.parse.is_unique.Goals as goal

pub returns-in-Err : goal.returns-in-Err
returns-in-Err c =
    let port : c.split_at_byte-2.result.0.now ≡ before_byte 35 (after_byte 58 c.args.bytes.now) = c.split_at_byte-2.ensures.before ∙ ap (λ (b : List ℕ). before_byte 35 b) c.split_at_byte.ensures.after in (
      λ is. absurd (false≢true is),
      λ s. unique_port c.args.bytes.now _ _ (Err c.in-Err.field-0) c.split_at_byte.ensures.before port c.in-Err.ensures s,
    )

pub returns-in-Ok : goal.returns-in-Ok
returns-in-Ok c =
    let port : c.split_at_byte-2.result.0.now ≡ before_byte 35 (after_byte 58 c.args.bytes.now) = c.split_at_byte-2.ensures.before ∙ ap (λ (b : List ℕ). before_byte 35 b) c.split_at_byte.ensures.after in
    let uid : c.split_at_byte-2.result.1.now ≡ after_byte 35 (after_byte 58 c.args.bytes.now) = c.split_at_byte-2.ensures.after ∙ ap (λ (b : List ℕ). after_byte 35 b) c.split_at_byte.ensures.after in
    subst (λ (b : Bool). IsTrue b ↔ SomeUnique c.args.bytes.now) (sym c.is_some.ensures)
    (unique_test c.args.bytes.now _ _ _ (Ok c.in-Ok.field-0) c.parse_number.result c.split_at_byte.ensures.before port uid c.in-Ok.ensures refl c.parse_number.ensures.found c.parse_number.ensures.none)
