-- Where hosts are, as a link over the network knows it from what was looked up. This project's choice.
use Rattle.std.specs.Prelude.{◌≡◌, ℕ, Bool, true, false, ◌&&◌, nat_eq, List, [], ◌∷◌, ◌++◌, Option, Some, None, IsSomeAnd, ◌⊎◌, if◌then◌else◌, ⊤}
use Rattle.std.specs.List.{All}
use Rattle.std.specs.Cmp.Lexicographic.{pointwise}
use Rattle.std.specs.declared.net.ip_addr.IpAddr.{IpAddr}
use Rattle.std.specs.declared.net.socket_addr.SocketAddr.{SocketAddr}
use Rattle.std.specs.Net.Addr.{is_ipv4, is_ipv6}
use Rattle.std.specs.Net.Grammar.{IsIpText}
use Rattle.std.specs.Net.Socket.{socket_ip, socket_port}
use Rattle.ak_address.specs.Unique.{AddressModel}
use Rattle.ak_outside.specs.declared.link.Looked.{Looked}
use Rattle.ak_outside.specs.declared.link.Looked.TheVariants as looked
use Rattle.ak_outside.specs.declared.link.Sent.{Sent}
use Rattle.ak_outside.specs.declared.link.Sent.TheVariants as sent
use Rattle.ak_link.specs.declared.names.Found.{Found}

-- the host is a name, and no address in numbers
abbrev pub IsName : List ℕ → Type 0
IsName host = (ip : IpAddr) → IsIpText host ip → ⊥

-- an address was found of this host
abbrev pub is_of : List ℕ → Found → Bool
is_of host one = pointwise nat_eq one.host host

-- some address of the host was found
abbrev pub is_found : List ℕ → List Found → Bool
is_found host [] = false
is_found host (one ∷ others) = if is_of host one then true else is_found host others

-- a socket over IPv4, or one over IPv6, reaches the address
abbrev pub is_over : Bool → SocketAddr → Bool
is_over v4 at = if v4 then is_ipv4 (socket_ip at) else is_ipv6 (socket_ip at)

-- the first address of the host that such a socket reaches
abbrev pub address_of : List ℕ → Bool → List Found → Option SocketAddr
address_of host v4 [] = None
address_of host v4 (one ∷ others) = if is_of host one && is_over v4 one.at then Some one.at else address_of host v4 others

-- Where a packet goes: to the host itself where that is an address in numbers, and else to where it was found; nowhere where it was not.
abbrev pub GoesTo : List Found → Bool → AddressModel → Option SocketAddr → Type 0
GoesTo found v4 to (Some at) =
    (socket_port at ≡ to.port)
    × (IsIpText to.host (socket_ip at)
    ⊎ (IsName to.host × IsSomeAnd (address_of to.host v4 found) (λ its. socket_ip its ≡ socket_ip at)))
GoesTo found v4 to None = IsName to.host × (address_of to.host v4 found ≡ None)

-- a name of which no address was found
abbrev pub IsUnfound : List Found → List ℕ → Type 0
IsUnfound found host = IsName host × (is_found host found ≡ false)

-- a packet to such a name is lost
abbrev pub LosesUnfound : List Found → List ℕ → Sent → Type 0
LosesUnfound found host sent.Sent = IsUnfound found host → ⊥
LosesUnfound found host sent.Failed = ⊤

-- what a look-up adds was found of its host
abbrev pub AddsFound : List ℕ → List Found → List Found → Type 0
AddsFound host old new = (added : List Found) × (new ≡ old ++ added) × All (λ one. one.host ≡ host) added

-- an address is unknown exactly where its host is a name that was not found
abbrev pub LooksUp : List ℕ → List Found → Looked → Type 0
LooksUp host found looked.Known = IsUnfound found host → ⊥
LooksUp host found looked.Unknown = IsUnfound found host
