-- What is found of names.
use Rattle.std.proofs.Common.{◌≡◌, ℕ, Bool, true, false, ◌&&◌, if◌then◌else◌, List, [], ◌∷◌, ◌++◌, append_assoc, Option, Some, None, IsSomeAnd, refl, ap, ◌∙◌, subst, true≢false, arith, inl, inr}
use Rattle.std.proofs.lemmas.List.Elements.{All-append}
use Rattle.std.specs.declared.net.socket_addr.SocketAddr.{SocketAddr}
use Rattle.std.specs.Net.Socket.{socket_ip}
use Rattle.ak_address.specs.Unique.{AddressModel}
use Rattle.ak_outside.specs.declared.link.Sent.{Sent}
use Rattle.ak_outside.specs.declared.link.Sent.TheVariants as sent
use Rattle.ak_link.specs.declared.names.Found.{Found}
use Rattle.ak_link.specs.Names.{AddsFound, GoesTo, IsUnfound, LosesUnfound, is_found, is_of, is_over, address_of}

-- an address that is added
pub adds_one : (host : List ℕ) (old now new : List Found) (one : Found) → AddsFound host old now → one.host ≡ host → new ≡ now ++ (one ∷ []) → AddsFound host old new
adds_one host old now new one a is e = (
  a.0 ++ (one ∷ []),
  e ∙ ap (λ l. l ++ (one ∷ [])) a.1 ∙ append_assoc old a.0 (one ∷ []),
  All-append (λ x. x.host ≡ host) a.0 (one ∷ []) a.2 (λ k d low. let e : k ≡ 0 = omega (arith, low) in rw e is),
)

-- one look at an address of another host
passes : (of over found : Bool) (at : SocketAddr) (rest : Option SocketAddr) → (if of then true else found) ≡ false → (found ≡ false → rest ≡ None)
    → (if of && over then Some at else rest) ≡ None
passes false over found at rest e next = next e
passes true over found at rest e next = absurd (true≢false e)

none_of : (host : List ℕ) (v4 : Bool) (found : List Found) → is_found host found ≡ false → address_of host v4 found ≡ None
none_of host v4 [] e = refl
none_of host v4 (one ∷ others) e = passes (is_of host one) (is_over v4 one.at) (is_found host others) one.at (address_of host v4 others) e (none_of host v4 others)

-- a packet that goes somewhere goes to no name that was not found
pub goes_to_found : (found : List Found) (v4 : Bool) (to : AddressModel) (at : SocketAddr) → GoesTo found v4 to (Some at) → IsUnfound found to.host → ⊥
goes_to_found found v4 to at goes unfound =
    elim goes.1 [
      | inl spelled ↦ unfound.0 (socket_ip at) spelled
      | inr named ↦ subst (λ (o : Option SocketAddr). IsSomeAnd o (λ its. socket_ip its ≡ socket_ip at)) (none_of to.host v4 found unfound.1) named.1
    ]

pub answers_found : (found : List Found) (host : List ℕ) (answer : Sent) → (IsUnfound found host → ⊥) → LosesUnfound found host answer
answers_found found host sent.Sent named = named
answers_found found host sent.Failed named = tt
