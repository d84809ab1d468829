-- To be alike is an equivalence: two packets are alike exactly where they are the same without what their versions show.
use Rattle.std.proofs.Common.{◌≡◌, ℕ, Bool, true, false, ◌&&◌, ◌==◌, IsTrue, Decides, refl, sym, ap, ◌∙◌, true≢false, arith}
use Rattle.std.proofs.lemmas.Bool.Decides.{nat_tests}
use Rattle.std.specs.Bool.{one_answer}
use Rattle.std.specs.Cmp.{IsEquivalence, decided, on_equiv, first_so, second_so}
use base.Stored.{Gv, gnil, gnum, gcons}
use Rattle.ak_wire.specs.declared.envelope.Envelope.{Envelope}
use Rattle.ak_wire.specs.contracts.shared.SharedEnvelope as shared
use Rattle.ak_packet.specs.Alike.{bare, is_code, is_alike}

equal : (n k : ℕ) → (n == k) ≡ true → n ≡ k
equal n k e = grind (arith, nat_tests)

equal_itself : (n : ℕ) → (n == n) ≡ true
equal_itself n = grind (arith, nat_tests)

same_code : (x y : Gv) → is_code x y ≡ true → x ≡ y
unfolding is_code
same_code gnil gnil e = refl
same_code gnil (gnum k) e = absurd (true≢false (sym e))
same_code gnil (gcons c d) e = absurd (true≢false (sym e))
same_code (gnum n) gnil e = absurd (true≢false (sym e))
same_code (gnum n) (gnum k) e = ap gnum (equal n k e)
same_code (gnum n) (gcons c d) e = absurd (true≢false (sym e))
same_code (gcons a b) gnil e = absurd (true≢false (sym e))
same_code (gcons a b) (gnum k) e = absurd (true≢false (sym e))
same_code (gcons a b) (gcons c d) e = λ i. gcons (same_code a c (first_so (is_code a c) (is_code b d) e) i) (same_code b d (second_so (is_code a c) (is_code b d) e) i)

code_itself : (x : Gv) → is_code x x ≡ true
unfolding is_code
code_itself gnil = refl
code_itself (gnum n) = equal_itself n
code_itself (gcons a b) = λ i. code_itself a i && code_itself b i

codes_decide : (x y : Gv) → Decides (is_code x y) (x ≡ y)
codes_decide x y = (λ yes. same_code x y yes, λ same. ap (is_code x) (sym same) ∙ code_itself x)

pub alike_decides : (d e : Envelope) → Decides (is_alike d e) (bare d ≡ bare e)
unfolding is_alike
alike_decides d e =
    let decides = codes_decide (shared.the_row.coded.code (bare d)) (shared.the_row.coded.code (bare e)) in
    (λ yes. shared.the_row.coded.inj (bare d) (bare e) (decides.0 yes), λ same. decides.1 (ap shared.the_row.coded.code same))

pub alike_equiv : IsEquivalence is_alike
unfolding is_alike
alike_equiv = on_equiv (λ e. shared.the_row.coded.code (bare e)) (decided is_code codes_decide)

-- whoever tells whether two packets are the same without what their versions show tells whether they are alike
pub tells_alike : (d e : Envelope) → (told : Bool) → (IsTrue told → bare d ≡ bare e) × (bare d ≡ bare e → IsTrue told) → told ≡ is_alike d e
tells_alike d e told tells = one_answer {P = bare d ≡ bare e} told (is_alike d e) tells (alike_decides d e)
