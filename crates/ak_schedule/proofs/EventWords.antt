-- What the words after the name of an event's kind spell.
use Rattle.std.proofs.Common.{◌≡◌, ◌≤◌, ℕ, List, [], ◌∷◌, codes, if◌then◌else◌, Result, Ok, Err, sym, ◌∙◌, ap, subst, refl}
use Rattle.std.specs.Str.{bytes_eq}
use Rattle.ak_address.specs.Unique.{AddressModel, UniqueModel}
use Rattle.ak_address.specs.Spelling.{IsNumber, SpellsAddress, SpellsUnique}
use Rattle.ak_schedule.specs.declared.event.Event.{Event}
use Rattle.ak_schedule.specs.declared.event.Event.TheVariants.{Start, Found, Join, Tick, Deliver, Leave, Down, Offer, Stop}
use Rattle.ak_schedule.specs.Kind as kind
use Rattle.ak_schedule.specs.declared.fault.LineFault.{LineFault}
use Rattle.ak_schedule.specs.declared.fault.LineFault.TheVariants.{Malformed, BadHeader, NoMemory}
use Rattle.ak_schedule.specs.Kind.{kind_name}
use Rattle.ak_schedule.specs.Reading.{Reads, SpellsOne, SpellsTwo}
use Rattle.ak_schedule.specs.Schedule.{SpellsNumber, SpellsWords}

-- an event's kind
abbrev pub event_kind : Event → kind.Kind
event_kind (Start u) = kind.Start
event_kind (Found u) = kind.Found
event_kind (Join u t) = kind.Join
event_kind (Tick u word) = kind.Tick
event_kind (Deliver packet) = kind.Deliver
event_kind (Leave u who) = kind.Leave
event_kind (Down u who) = kind.Down
event_kind (Offer u entity payload) = kind.Offer
event_kind (Stop u) = kind.Stop

-- the kind that has this name
abbrev named_kind : List ℕ → kind.Kind
named_kind name =
    if bytes_eq name (codes "start") then kind.Start
    else if bytes_eq name (codes "found") then kind.Found
    else if bytes_eq name (codes "join") then kind.Join
    else if bytes_eq name (codes "tick") then kind.Tick
    else if bytes_eq name (codes "deliver") then kind.Deliver
    else if bytes_eq name (codes "leave") then kind.Leave
    else if bytes_eq name (codes "down") then kind.Down
    else if bytes_eq name (codes "offer") then kind.Offer
    else kind.Stop

named_again : (k : kind.Kind) → named_kind (kind_name k) ≡ k
named_again kind.Start = refl
named_again kind.Found = refl
named_again kind.Join = refl
named_again kind.Tick = refl
named_again kind.Deliver = refl
named_again kind.Leave = refl
named_again kind.Down = refl
named_again kind.Offer = refl
named_again kind.Stop = refl

pub same_kind : (j k : kind.Kind) → kind_name k ≡ kind_name j → j ≡ k
same_kind j k names = sym (named_again j) ∙ ap named_kind (sym names) ∙ named_again k

-- the first word of an event line names its kind
pub named : (ws tail : List (List ℕ)) (name : List ℕ) → ws ≡ name ∷ tail → (e : Event) → SpellsWords ws e → name ≡ kind_name (event_kind e)
named ws tail name cut (Start u) h = cc
named ws tail name cut (Found u) h = cc
named ws tail name cut (Join u t) h = cc
named ws tail name cut (Tick u word) h = cc
named ws tail name cut (Deliver packet) h = cc
named ws tail name cut (Leave u who) h = cc
named ws tail name cut (Down u who) h = cc
named ws tail name cut (Offer u entity payload) h = cc
named ws tail name cut (Stop u) h = cc

-- words whose first one names no kind spell no event
pub unnamed : (name : List ℕ) (tail : List (List ℕ)) → ((k : kind.Kind) → name ≡ kind_name k → ⊥) → (e : Event) → SpellsWords (name ∷ tail) e → ⊥
unnamed name tail none e spelt = none (event_kind e) (named (name ∷ tail) tail name refl e spelt)

pub kind_is : (k : kind.Kind) (ws : List (List ℕ)) (e : Event) → SpellsWords (kind_name k ∷ ws) e → event_kind e ≡ k
kind_is k ws e h = same_kind (event_kind e) k (named (kind_name k ∷ ws) ws (kind_name k) refl e h)

-- a fault of a part is the fault of the whole
pub refused : {T U : Type 0} (P : T → Type 0) (Q : U → Type 0) (fault : LineFault) → Reads P (Err fault) → ((u : U) → Q u → (t : T) × P t) → ((t : T) → P t → (u : U) × Q u) → Reads Q (Err fault)
refused P Q Malformed none part whole_of = λ u whole. none (part u whole).0 (part u whole).1
refused P Q BadHeader none part whole_of = none
refused P Q (NoMemory _) some part whole_of = whole_of some.0 some.1

start_of : (ws : List (List ℕ)) (e : Event) → event_kind e ≡ kind.Start → SpellsWords (codes "start" ∷ ws) e → (u : UniqueModel) × SpellsOne ws u
start_of ws (Start u) k h = let rest : ws ≡ h.0 ∷ [] = cc in (u, (h.0, rest, h.2))
start_of ws e k h = absurd (cc)

pub start_only : (ws : List (List ℕ)) (e : Event) → SpellsWords (codes "start" ∷ ws) e → (u : UniqueModel) × SpellsOne ws u
start_only ws e h = start_of ws e (kind_is kind.Start ws e h) h

found_of : (ws : List (List ℕ)) (e : Event) → event_kind e ≡ kind.Found → SpellsWords (codes "found" ∷ ws) e → (u : UniqueModel) × SpellsOne ws u
found_of ws (Found u) k h = let rest : ws ≡ h.0 ∷ [] = cc in (u, (h.0, rest, h.2))
found_of ws e k h = absurd (cc)

pub found_only : (ws : List (List ℕ)) (e : Event) → SpellsWords (codes "found" ∷ ws) e → (u : UniqueModel) × SpellsOne ws u
found_only ws e h = found_of ws e (kind_is kind.Found ws e h) h

stop_of : (ws : List (List ℕ)) (e : Event) → event_kind e ≡ kind.Stop → SpellsWords (codes "stop" ∷ ws) e → (u : UniqueModel) × SpellsOne ws u
stop_of ws (Stop u) k h = let rest : ws ≡ h.0 ∷ [] = cc in (u, (h.0, rest, h.2))
stop_of ws e k h = absurd (cc)

pub stop_only : (ws : List (List ℕ)) (e : Event) → SpellsWords (codes "stop" ∷ ws) e → (u : UniqueModel) × SpellsOne ws u
stop_only ws e h = stop_of ws e (kind_is kind.Stop ws e h) h

leave_of : (ws : List (List ℕ)) (e : Event) → event_kind e ≡ kind.Leave → SpellsWords (codes "leave" ∷ ws) e → (pair : UniqueModel × UniqueModel) × SpellsTwo ws pair
leave_of ws (Leave u who) k h = let rest : ws ≡ h.0 ∷ h.1 ∷ [] = cc in ((u, who), (h.0, h.1, rest, h.3, h.4))
leave_of ws e k h = absurd (cc)

pub leave_only : (ws : List (List ℕ)) (e : Event) → SpellsWords (codes "leave" ∷ ws) e → (pair : UniqueModel × UniqueModel) × SpellsTwo ws pair
leave_only ws e h = leave_of ws e (kind_is kind.Leave ws e h) h

down_of : (ws : List (List ℕ)) (e : Event) → event_kind e ≡ kind.Down → SpellsWords (codes "down" ∷ ws) e → (pair : UniqueModel × UniqueModel) × SpellsTwo ws pair
down_of ws (Down u who) k h = let rest : ws ≡ h.0 ∷ h.1 ∷ [] = cc in ((u, who), (h.0, h.1, rest, h.3, h.4))
down_of ws e k h = absurd (cc)

pub down_only : (ws : List (List ℕ)) (e : Event) → SpellsWords (codes "down" ∷ ws) e → (pair : UniqueModel × UniqueModel) × SpellsTwo ws pair
down_only ws e h = down_of ws e (kind_is kind.Down ws e h) h

join_of : (ws : List (List ℕ)) (a b : List ℕ) → ws ≡ a ∷ b ∷ [] → (e : Event) → event_kind e ≡ kind.Join → SpellsWords (codes "join" ∷ ws) e → (u : UniqueModel) × (t : AddressModel) × SpellsUnique a u × SpellsAddress b t
join_of ws a b two (Join u t) k h =
    let first : h.0 ≡ a = cc in
    let second : h.1 ≡ b = cc in
    (u, t, subst (λ (w : List ℕ). SpellsUnique w u) first h.3, subst (λ (w : List ℕ). SpellsAddress w t) second h.4)
join_of ws a b two e k h = absurd (cc)

pub join_at : (ws : List (List ℕ)) (a b : List ℕ) → ws ≡ a ∷ b ∷ [] → (e : Event) → SpellsWords (codes "join" ∷ ws) e → (u : UniqueModel) × (t : AddressModel) × SpellsUnique a u × SpellsAddress b t
join_at ws a b two e h = join_of ws a b two e (kind_is kind.Join ws e h) h

tick_of : (ws : List (List ℕ)) (a b : List ℕ) → ws ≡ a ∷ b ∷ [] → (e : Event) → event_kind e ≡ kind.Tick → SpellsWords (codes "tick" ∷ ws) e → (u : UniqueModel) × SpellsUnique a u
tick_of ws a b two (Tick u word) k h = let first : h.0 ≡ a = cc in (u, subst (λ (w : List ℕ). SpellsUnique w u) first h.3)
tick_of ws a b two e k h = absurd (cc)

pub tick_at : (ws : List (List ℕ)) (a b : List ℕ) → ws ≡ a ∷ b ∷ [] → (e : Event) → SpellsWords (codes "tick" ∷ ws) e → (u : UniqueModel) × SpellsUnique a u
tick_at ws a b two e h = tick_of ws a b two e (kind_is kind.Tick ws e h) h

offer_of : (ws : List (List ℕ)) (a b c : List ℕ) → ws ≡ a ∷ b ∷ c ∷ [] → (e : Event) → event_kind e ≡ kind.Offer → SpellsWords (codes "offer" ∷ ws) e → (u : UniqueModel) × SpellsUnique a u
offer_of ws a b c three (Offer u entity payload) k h = let first : h.0 ≡ a = cc in (u, subst (λ (w : List ℕ). SpellsUnique w u) first h.3)
offer_of ws a b c three e k h = absurd (cc)

pub offer_at : (ws : List (List ℕ)) (a b c : List ℕ) → ws ≡ a ∷ b ∷ c ∷ [] → (e : Event) → SpellsWords (codes "offer" ∷ ws) e → (u : UniqueModel) × SpellsUnique a u
offer_at ws a b c three e h = offer_of ws a b c three e (kind_is kind.Offer ws e h) h

pub one_at : (ws : List (List ℕ)) (a : List ℕ) (r : Result UniqueModel LineFault) → ws ≡ a ∷ [] → Reads (SpellsUnique a) r → Reads (SpellsOne ws) r
one_at ws a (Ok u) one h = (a, one, h)
one_at ws a (Err fault) one h =
    refused (SpellsUnique a) (SpellsOne ws) fault h (λ u whole. let first : whole.0 ≡ a = cc in (u, subst (λ (w : List ℕ). SpellsUnique w u) first whole.2))
    (λ u spelt. (u, (a, one, spelt)))

pub two_at : (ws : List (List ℕ)) (a b : List ℕ) → ws ≡ a ∷ b ∷ [] → (pair : UniqueModel × UniqueModel) → SpellsTwo ws pair → SpellsUnique a pair.0 × SpellsUnique b pair.1
two_at ws a b two pair h =
    let first : h.0 ≡ a = cc in
    let second : h.1 ≡ b = cc in
    (subst (λ (w : List ℕ). SpellsUnique w pair.0) first h.3, subst (λ (w : List ℕ). SpellsUnique w pair.1) second h.4)

-- a number that was found in a range
pub in_range : {word : List ℕ} {least most n : ℕ} → IsNumber word n × (least ≤ n) × (n ≤ most) → SpellsNumber word least most n
in_range h = record { number = h.0; from = h.1; to = h.2 }
