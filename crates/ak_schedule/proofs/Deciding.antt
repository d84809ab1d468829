-- Of each line it can be decided whether it is passed over, which settings it makes, and which event it spells.
use Rattle.std.proofs.Common.{◌≡◌, ◌≢◌, ℕ, ◌+◌, ◌-◌, ◌*◌, ◌^◌, ◌<◌, ◌≤◌, ◌⊎◌, Bool, true, false, List, [], ◌∷◌, length, refl, sym, ap, subst, inl, inr, ◌∙◌, suc, Some, slice_get, codes, arith}
use Rattle.std.specs.Bool.{Decides}
use Rattle.std.specs.List.{AllZip, AllPairs, AllByRecursion, list_all}
use Rattle.std.specs.Str.{bytes_eq}
use Rattle.std.specs.Char.{digit_value}
use Rattle.std.specs.Str.Parse.{AllDigits, digits_value}
use Rattle.std.proofs.lemmas.Bool.{false≢true}
use Rattle.std.proofs.lemmas.Bool.Decides.{leb_tells}
use Rattle.std.proofs.lemmas.List.Elements.{All-from_recursion, recursion_from_All, All-from_get_or}
use Rattle.std.proofs.lemmas.List.Kept.{AllPairs-cons}
use Rattle.std.proofs.lemmas.Slice.Eq.{bytes_eq-Decides}
use Rattle.ak_field.specs.Ranges.{IsEntity}
use Rattle.ak_shard_id.specs.Division.{is_entity_byte, is_type_name}
use Rattle.ak_address.specs.Unique.{AddressModel, UniqueModel, IsHost, IsAddress, is_host_byte}
use Rattle.ak_address.specs.Spelling.{SpellsAddress, SpellsUnique, before_byte, after_byte}
use Rattle.ak_address.proofs.SpellingLemmas.{address_read, address_parts, unique_read, unique_parts}
use Rattle.ak_schedule.specs.declared.event.Event.{Event}
use Rattle.ak_schedule.specs.declared.event.Event.TheVariants.{Start, Found, Join, Tick, Deliver, Leave, Down, Offer, Stop}
use Rattle.ak_schedule.specs.declared.draft.Extra.{Extra}
use Rattle.ak_schedule.specs.declared.draft.Extra.TheVariants.{Weakly, Role, Types}
use Rattle.ak_schedule.specs.declared.draft.Header as header
use Rattle.ak_settings.specs.declared.settings.Strategy.{Strategy}
use Rattle.ak_settings.specs.declared.settings.Strategy.TheVariants.{StaticQuorum, KeepMajority, KeepOldest, DownAll}
use Rattle.ak_schedule.specs.Line.{words, is_comment, most_bytes, IsPassedOver}
use Rattle.ak_settings.specs.Settings.{SettingsModel, IsListing, IsRole, AreTypes, is_listed}
use Rattle.ak_schedule.specs.Schedule.{SpellsNumber, SpellsOption, SpellsSetting, SpellsStrategy, SpellsListing, SpellsRole, SpellsTypes, Sets, SetsExtra, SetsHeader, SpellsWords, SpellsEvent, NamesExtra, extras}
use Rattle.ak_schedule.specs.Draft.{Drafted, ReadsExtra}
use Rattle.ak_schedule.proofs.Listing.{all_there, there_all}
use Rattle.ak_schedule.proofs.OneWay.{same_addresses, extra_index, at_index}

-- it holds, or it does not
abbrev pub Tells : Type 0 → Type 0
Tells P = P ⊎ (P → ⊥)

-- a value has the property, or none has it
abbrev pub Finds : {T : Type 0} → (T → Type 0) → Type 0
Finds {T} P = Tells ((value : T) × P value)

-- ---- tests
pub at_most : (a b : ℕ) → Tells (a ≤ b)
at_most a b = elim (leb_tells a b) [ inl holds ↦ inl holds.1 | inr fails ↦ inr (λ h. omega arith) ]

pub below : (a b : ℕ) → Tells (a < b)
below a b = elim (leb_tells b a) [ inl fails ↦ inr (λ h. omega arith) | inr holds ↦ inl holds.1 ]

is_true : (b : Bool) → Tells (b ≡ true)
is_true true = inl refl
is_true false = inr false≢true

tested : {P : Type 0} (r : Bool) → Decides r P → Tells P
tested true d = inl (d.0 refl)
tested false d = inr (λ p. false≢true (d.1 p))

same_bytes : (xs ys : List ℕ) → Tells (xs ≡ ys)
same_bytes xs ys = tested (bytes_eq xs ys) (bytes_eq-Decides xs ys)

both : {P Q : Type 0} → Tells P → Tells Q → Tells (P × Q)
both (inl p) (inl q) = inl (p, q)
both (inl p) (inr fails) = inr (λ h. fails h.1)
both (inr fails) q = inr (λ h. fails h.0)

one_of : {P Q : Type 0} → Tells P → Tells Q → Tells (P ⊎ Q)
one_of (inl p) q = inl (inl p)
one_of (inr none) (inl q) = inl (inr q)
one_of (inr none) (inr fails) = inr (λ h. elim h [ inl p ↦ none p | inr q ↦ fails q ])

otherwise : {P : Type 0} → Tells P → Tells (P → ⊥)
otherwise (inl p) = inr (λ fails. fails p)
otherwise (inr fails) = inl fails

alike : {P Q : Type 0} → (P → Q) → (Q → P) → Tells P → Tells Q
alike there back (inl p) = inl (there p)
alike there back (inr fails) = inr (λ q. fails (back q))

each : {X : Type 0} (P : X → Type 0) → ((x : X) → Tells (P x)) → (xs : List X) → Tells (AllByRecursion P xs)
each P tell [] = inl tt
each P tell (x ∷ xs) = both (tell x) (each P tell xs)

-- ---- parts of a word
digits : (bs : List ℕ) → Tells (AllDigits 10 bs)
digits [] = inl tt
digits (b ∷ bs) = both (below (digit_value b) 10) (digits bs)

number : (least most : ℕ) (word : List ℕ) → Finds (SpellsNumber word least most)
number least most word =
    let value = digits_value 10 word in
    alike
    (λ h. (value, record { number = record { not_empty = h.0; short = h.1.0; digits = h.1.1.0; value = refl }; from = h.1.1.1.0; to = h.1.1.1.1 }))
    (λ s. let same : value ≡ s.0 = s.1.number.value in (s.1.number.not_empty, (s.1.number.short, (s.1.number.digits, (subst (λ n. least ≤ n) (sym same) s.1.from, subst (λ n. n ≤ most) (sym same) s.1.to)))))
    (both (at_most 1 (length word)) (both (at_most (length word) 20) (both (digits word) (both (at_most least value) (at_most value most)))))

host : (bytes : List ℕ) → Tells (IsHost bytes)
host bytes =
    alike
    (λ h. record { not_empty = h.0; short = h.1.0; letters = h.1.1 })
    (λ s. (s.not_empty, (s.short, s.letters)))
    (both (at_most 1 (length bytes)) (both (at_most (length bytes) 64) (is_true (list_all is_host_byte bytes))))

address : (bytes : List ℕ) → Finds (SpellsAddress bytes)
address bytes =
    alike
    (λ h. (record { host = before_byte 58 bytes; port = h.1.0 }, address_read bytes _ refl (h.0, h.1.1.number, h.1.1.from, omega (arith, h.1.1.to))))
    (λ s. let parts = address_parts bytes s.0 s.1 in
    (subst IsHost (sym parts.0) s.1.range.host, (s.0.port, record { number = parts.1; from = s.1.range.port; to = omega (arith, s.1.range.port_fits) })))
    (both (host (before_byte 58 bytes)) (number 1 65535 (after_byte 58 bytes)))

unique : (bytes : List ℕ) → Finds (SpellsUnique bytes)
unique bytes =
    let rest = after_byte 58 bytes in
    alike
    (λ h. (
      record { address = record { host = before_byte 58 bytes; port = h.1.0.0 }; uid = h.1.1.0 },
      unique_read bytes _ refl (h.0, h.1.0.1.number, h.1.0.1.from, omega (arith, h.1.0.1.to)) h.1.1.1.number h.1.1.1.from (omega (arith, h.1.1.1.to)),
    ))
    (λ s. let parts = unique_parts bytes s.0 s.1 in (
      subst IsHost (sym parts.0) s.1.range.address.host,
      (
        (s.0.address.port, record { number = parts.1; from = s.1.range.address.port; to = omega (arith, s.1.range.address.port_fits) }),
        (s.0.uid, record { number = parts.2; from = s.1.range.uid; to = omega (arith, s.1.range.uid_fits) }),
      ),
    ))
    (both (host (before_byte 58 bytes)) (both (number 1 65535 (before_byte 35 rest)) (number 1 9223372036854775807 (after_byte 35 rest))))

entity : (name : List ℕ) → Tells (IsEntity name)
entity name =
    alike
    (λ h. record { not_empty = h.0; short = h.1.0; printable = h.1.1 })
    (λ s. (s.not_empty, (s.short, s.printable)))
    (both (at_most 1 (length name)) (both (at_most (length name) 97) (is_true (list_all is_entity_byte name))))

-- ---- words of an event
one : {T : Type 0} (P : List ℕ → T → Type 0) → ((word : List ℕ) → Finds (P word)) → (name : List ℕ) (ws : List (List ℕ))
    → Finds {T = T} (λ t. (a : List ℕ) × (ws ≡ name ∷ a ∷ []) × P a t)
one P find name [] = inr (λ h. cc)
one P find name (n ∷ []) = inr (λ h. cc)
one P find name (n ∷ a ∷ []) =
    alike
    (λ h. (h.1.0, (a, ap (λ (w : List ℕ). w ∷ a ∷ []) h.0, h.1.1)))
    (λ s. let named : n ≡ name = cc in let first : s.1.0 ≡ a = cc in (named, (s.0, subst (λ (w : List ℕ). P w s.0) first s.1.2)))
    (both (same_bytes n name) (find a))
one P find name (n ∷ a ∷ b ∷ ws) = inr (λ h. cc)

two : {T U : Type 0} (P : List ℕ → T → Type 0) (Q : List ℕ → U → Type 0) → ((word : List ℕ) → Finds (P word)) → ((word : List ℕ) → Finds (Q word))
    → (name : List ℕ) (ws : List (List ℕ)) → Finds {T = T × U} (λ t. (a : List ℕ) × (b : List ℕ) × (ws ≡ name ∷ a ∷ b ∷ []) × P a t.0 × Q b t.1)
two P Q find seek name [] = inr (λ h. cc)
two P Q find seek name (n ∷ []) = inr (λ h. cc)
two P Q find seek name (n ∷ a ∷ []) = inr (λ h. cc)
two P Q find seek name (n ∷ a ∷ b ∷ []) =
    alike
    (λ h. ((h.1.0.0, h.1.1.0), (a, b, ap (λ (w : List ℕ). w ∷ a ∷ b ∷ []) h.0, h.1.0.1, h.1.1.1)))
    (λ s. let named : n ≡ name = cc in let first : s.1.0 ≡ a = cc in let second : s.1.1 ≡ b = cc in
    (named, ((s.0.0, subst (λ (w : List ℕ). P w s.0.0) first s.1.3), (s.0.1, subst (λ (w : List ℕ). Q w s.0.1) second s.1.4))))
    (both (same_bytes n name) (both (find a) (seek b)))
two P Q find seek name (n ∷ a ∷ b ∷ c ∷ ws) = inr (λ h. cc)

-- an offer names its process, its entity and its payload
offer : (ws : List (List ℕ)) → Finds {T = UniqueModel × List ℕ × ℕ} (λ t. SpellsWords ws (Offer t.0 t.1 t.2))
offer [] = inr (λ h. cc)
offer (n ∷ []) = inr (λ h. cc)
offer (n ∷ a ∷ []) = inr (λ h. cc)
offer (n ∷ a ∷ e ∷ []) = inr (λ h. cc)
offer (n ∷ a ∷ e ∷ b ∷ []) =
    alike
    (λ h. ((h.1.0.0, e, h.1.1.1.0), (a, b, ap (λ (w : List ℕ). w ∷ a ∷ e ∷ b ∷ []) h.0, h.1.0.1, h.1.1.0, h.1.1.1.1)))
    (λ s. let named : n ≡ codes "offer" = cc in let first : s.1.0 ≡ a = cc in let named_entity : s.0.1 ≡ e = cc in let last : s.1.1 ≡ b = cc in
    (named, ((s.0.0, subst (λ (w : List ℕ). SpellsUnique w s.0.0) first s.1.3), (subst IsEntity named_entity s.1.4, (s.0.2, subst (λ (w : List ℕ). SpellsNumber w 0 (2 ^ 63 - 1) s.0.2) last s.1.5)))))
    (both (same_bytes n (codes "offer")) (both (unique a) (both (entity e) (number 0 (2 ^ 63 - 1) b))))
offer (n ∷ a ∷ e ∷ b ∷ c ∷ ws) = inr (λ h. cc)

no_kind : (ws : List (List ℕ)) → (((u : UniqueModel) × SpellsWords ws (Start u)) → ⊥) → (((u : UniqueModel) × SpellsWords ws (Found u)) → ⊥)
    → (((t : UniqueModel × AddressModel) × SpellsWords ws (Join t.0 t.1)) → ⊥) → (((t : UniqueModel × ℕ) × SpellsWords ws (Tick t.0 t.1)) → ⊥)
    → (((n : ℕ) × SpellsWords ws (Deliver n)) → ⊥) → (((t : UniqueModel × UniqueModel) × SpellsWords ws (Leave t.0 t.1)) → ⊥)
    → (((t : UniqueModel × UniqueModel) × SpellsWords ws (Down t.0 t.1)) → ⊥) → (((t : UniqueModel × List ℕ × ℕ) × SpellsWords ws (Offer t.0 t.1 t.2)) → ⊥)
    → (((u : UniqueModel) × SpellsWords ws (Stop u)) → ⊥) → (event : Event) → SpellsWords ws event → ⊥
no_kind ws start found join tick deliver leave down bid stop (Start u) h = start (u, h)
no_kind ws start found join tick deliver leave down bid stop (Found u) h = found (u, h)
no_kind ws start found join tick deliver leave down bid stop (Join u target) h = join ((u, target), h)
no_kind ws start found join tick deliver leave down bid stop (Tick u word) h = tick ((u, word), h)
no_kind ws start found join tick deliver leave down bid stop (Deliver packet) h = deliver (packet, h)
no_kind ws start found join tick deliver leave down bid stop (Leave u who) h = leave ((u, who), h)
no_kind ws start found join tick deliver leave down bid stop (Down u who) h = down ((u, who), h)
no_kind ws start found join tick deliver leave down bid stop (Offer u name payload) h = bid ((u, name, payload), h)
no_kind ws start found join tick deliver leave down bid stop (Stop u) h = stop (u, h)

some_kind : (ws : List (List ℕ)) → Finds {T = UniqueModel} (λ u. SpellsWords ws (Start u)) → Finds {T = UniqueModel} (λ u. SpellsWords ws (Found u))
    → Finds {T = UniqueModel × AddressModel} (λ t. SpellsWords ws (Join t.0 t.1)) → Finds {T = UniqueModel × ℕ} (λ t. SpellsWords ws (Tick t.0 t.1))
    → Finds {T = ℕ} (λ n. SpellsWords ws (Deliver n)) → Finds {T = UniqueModel × UniqueModel} (λ t. SpellsWords ws (Leave t.0 t.1))
    → Finds {T = UniqueModel × UniqueModel} (λ t. SpellsWords ws (Down t.0 t.1)) → Finds {T = UniqueModel × List ℕ × ℕ} (λ t. SpellsWords ws (Offer t.0 t.1 t.2))
    → Finds {T = UniqueModel} (λ u. SpellsWords ws (Stop u)) → Finds (SpellsWords ws)
some_kind ws (inl h) found join tick deliver leave down bid stop = inl (Start h.0, h.1)
some_kind ws (inr a) (inl h) join tick deliver leave down bid stop = inl (Found h.0, h.1)
some_kind ws (inr a) (inr b) (inl h) tick deliver leave down bid stop = inl (Join h.0.0 h.0.1, h.1)
some_kind ws (inr a) (inr b) (inr c) (inl h) deliver leave down bid stop = inl (Tick h.0.0 h.0.1, h.1)
some_kind ws (inr a) (inr b) (inr c) (inr d) (inl h) leave down bid stop = inl (Deliver h.0, h.1)
some_kind ws (inr a) (inr b) (inr c) (inr d) (inr e) (inl h) down bid stop = inl (Leave h.0.0 h.0.1, h.1)
some_kind ws (inr a) (inr b) (inr c) (inr d) (inr e) (inr f) (inl h) bid stop = inl (Down h.0.0 h.0.1, h.1)
some_kind ws (inr a) (inr b) (inr c) (inr d) (inr e) (inr f) (inr g) (inl h) stop = inl (Offer h.0.0 h.0.1 h.0.2, h.1)
some_kind ws (inr a) (inr b) (inr c) (inr d) (inr e) (inr f) (inr g) (inr i) (inl h) = inl (Stop h.0, h.1)
some_kind ws (inr a) (inr b) (inr c) (inr d) (inr e) (inr f) (inr g) (inr i) (inr j) = inr (λ h. no_kind ws a b c d e f g i j h.0 h.1)

event_words : (ws : List (List ℕ)) → Finds (SpellsWords ws)
event_words ws =
    some_kind ws (one SpellsUnique unique (codes "start") ws) (one SpellsUnique unique (codes "found") ws)
    (two SpellsUnique SpellsAddress unique address (codes "join") ws)
    (two SpellsUnique (λ w n. SpellsNumber w 0 (2 ^ 32 - 1) n) unique (number 0 (2 ^ 32 - 1)) (codes "tick") ws)
    (one (λ w n. SpellsNumber w 0 (2 ^ 63 - 1) n) (number 0 (2 ^ 63 - 1)) (codes "deliver") ws)
    (two SpellsUnique SpellsUnique unique unique (codes "leave") ws) (two SpellsUnique SpellsUnique unique unique (codes "down") ws)
    (offer ws) (one SpellsUnique unique (codes "stop") ws)

pub spelled_event : (line : List ℕ) → Finds (SpellsEvent line)
spelled_event line =
    alike
    (λ h. (h.1.0, record { short = h.0; words = h.1.1 }))
    (λ s. (s.1.short, (s.0, s.1.words)))
    (both (at_most (length line) most_bytes) (event_words (words line)))

-- ---- words of a header
is_address : (a : AddressModel) → Tells (IsAddress a)
is_address a =
    alike
    (λ h. record { host = h.0; port = h.1.0; port_fits = h.1.1 })
    (λ s. (s.host, (s.port, s.port_fits)))
    (both (host a.host) (both (at_most 1 a.port) (below a.port (2 ^ 16))))

same_address : (a b : AddressModel) → Tells (a ≡ b)
same_address a b =
    alike
    (λ h. ap (λ (x : List ℕ). record { host = x; port = a.port }) h.0 ∙ ap (λ (n : ℕ). record { host = b.host; port = n }) (le_same a.port b.port h.1.0 h.1.1))
    (λ s. (ap (λ (x : AddressModel). x.host) s, (omega (arith, ap (λ (x : AddressModel). x.port) s), omega (arith, ap (λ (x : AddressModel). x.port) s))))
    (both (same_bytes a.host b.host) (both (at_most a.port b.port) (at_most b.port a.port)))
  where
    le_same : (m n : ℕ) → m ≤ n → n ≤ m → m ≡ n
    le_same m n h g = omega arith

different : {X : Type 0} → ((x y : X) → Tells (x ≡ y)) → (xs : List X) → Tells (AllPairs (λ x y. x ≢ y) xs)
different same [] = inl (λ i j d below within. absurd (omega arith))
different same (x ∷ xs) =
    alike
    (λ h. AllPairs-cons (λ y z. y ≢ z) x xs (All-from_recursion (λ y. x ≢ y) xs h.0) h.1)
    (λ s. (
      recursion_from_All (λ y. x ≢ y) xs (All-from_get_or (λ y. x ≢ y) xs x (λ k within. s 0 (suc k) x (omega arith) (omega arith))),
      λ i j d low within. s (suc i) (suc j) d (omega arith) (omega arith),
    ))
    (both (each (λ y. x ≢ y) (λ y. otherwise (same x y)) xs) (different same xs))

is_listing : (listed : List AddressModel) → Tells (IsListing listed)
is_listing listed =
    alike
    (λ h. record { count = record { from = h.0; to = h.1.0 }; addresses = h.1.1.0; different = h.1.1.1 })
    (λ s. (s.count.from, (s.count.to, (s.addresses, s.different))))
    (both (at_most 1 (length listed)) (both (at_most (length listed) 32) (both (each IsAddress is_address listed) (different same_address listed))))

addresses : (ws : List (List ℕ)) → Finds (AllZip SpellsAddress ws)
addresses [] = inl ([], tt)
addresses (w ∷ ws) = alike (λ h. (h.0.0 ∷ h.1.0, (h.0.1, h.1.1))) (λ s. parted w ws s.0 s.1) (both (address w) (addresses ws))
  where
    parted : (w : List ℕ) (ws : List (List ℕ)) (listed : List AddressModel) → AllZip SpellsAddress (w ∷ ws) listed
        → ((a : AddressModel) × SpellsAddress w a) × ((more : List AddressModel) × AllZip SpellsAddress ws more)
    parted w ws [] h = absurd h
    parted w ws (a ∷ more) h = ((a, h.0), (more, h.1))

listing_of : (names : List (List ℕ)) → Finds (AllZip SpellsAddress names) → Finds {T = List AddressModel} (λ listed. AllZip SpellsAddress names listed × IsListing listed)
listing_of names (inl h) =
    alike (λ is. (h.0, (h.1, is))) (λ s. subst IsListing (same_addresses names s.0 h.0 s.1.0 h.1) s.1.1) (is_listing h.0)
listing_of names (inr fails) = inr (λ s. fails (s.0, s.1.0))

listing : (ws : List (List ℕ)) → Finds (SpellsListing ws)
listing [] = inr (λ h. let none : [] ≡ codes "listed" ∷ h.1.0 = h.1.1 in cc)
listing (n ∷ names) =
    alike
    (λ h. (h.1.0, (names, ap (λ (w : List ℕ). w ∷ names) h.0, h.1.1.0, h.1.1.1)))
    (λ s. let named : n ≡ codes "listed" = cc in let rest : s.1.0 ≡ names = cc in
    (named, (s.0, (subst (λ (l : List (List ℕ)). AllZip SpellsAddress l s.0) rest s.1.2, s.1.3))))
    (both (same_bytes n (codes "listed")) (listing_of names (addresses names)))

quorum : (ws : List (List ℕ)) → Finds {T = ℕ} (λ q. SpellsStrategy ws (StaticQuorum q))
quorum [] = inr (λ h. cc)
quorum (n ∷ []) = inr (λ h. cc)
quorum (n ∷ k ∷ []) = inr (λ h. cc)
quorum (n ∷ k ∷ w ∷ []) =
    alike
    (λ h. (h.1.1.0, (w, ap (λ (x : List ℕ). x ∷ k ∷ w ∷ []) h.0 ∙ ap (λ (x : List ℕ). codes "strategy" ∷ x ∷ w ∷ []) h.1.0, h.1.1.1)))
    (λ s. let named : n ≡ codes "strategy" = cc in let kind : k ≡ codes "static-quorum" = cc in let word : s.1.0 ≡ w = cc in
    (named, (kind, (s.0, subst (λ (x : List ℕ). SpellsNumber x 1 32 s.0) word s.1.2))))
    (both (same_bytes n (codes "strategy")) (both (same_bytes k (codes "static-quorum")) (number 1 32 w)))
quorum (n ∷ k ∷ w ∷ x ∷ ws) = inr (λ h. cc)

two_words : (name kind : List ℕ) (ws : List (List ℕ)) → Tells (ws ≡ name ∷ kind ∷ [])
two_words name kind [] = inr (λ h. cc)
two_words name kind (n ∷ []) = inr (λ h. cc)
two_words name kind (n ∷ k ∷ []) =
    alike
    (λ h. ap (λ (x : List ℕ). x ∷ k ∷ []) h.0 ∙ ap (λ (x : List ℕ). name ∷ x ∷ []) h.1)
    (λ s. let named : n ≡ name = cc in let same : k ≡ kind = cc in (named, same))
    (both (same_bytes n name) (same_bytes k kind))
two_words name kind (n ∷ k ∷ w ∷ ws) = inr (λ h. cc)

three_words : (name kind last : List ℕ) (ws : List (List ℕ)) → Tells (ws ≡ name ∷ kind ∷ last ∷ [])
three_words name kind last [] = inr (λ h. cc)
three_words name kind last (n ∷ []) = inr (λ h. cc)
three_words name kind last (n ∷ k ∷ []) = inr (λ h. cc)
three_words name kind last (n ∷ k ∷ w ∷ []) =
    alike
    (λ h. ap (λ (x : List ℕ). x ∷ k ∷ w ∷ []) h.0 ∙ ap (λ (x : List ℕ). name ∷ x ∷ w ∷ []) h.1.0 ∙ ap (λ (x : List ℕ). name ∷ kind ∷ x ∷ []) h.1.1)
    (λ s. let named : n ≡ name = cc in let same : k ≡ kind = cc in let word : w ≡ last = cc in (named, (same, word)))
    (both (same_bytes n name) (both (same_bytes k kind) (same_bytes w last)))
three_words name kind last (n ∷ k ∷ w ∷ x ∷ ws) = inr (λ h. cc)

no_strategy : (ws : List (List ℕ)) → (((q : ℕ) × SpellsStrategy ws (StaticQuorum q)) → ⊥) → (SpellsStrategy ws KeepMajority → ⊥) → (((alone : Bool) × SpellsStrategy ws (KeepOldest alone)) → ⊥) → (SpellsStrategy ws DownAll → ⊥)
    → (s : Strategy) → SpellsStrategy ws s → ⊥
no_strategy ws a b c d (StaticQuorum q) h = a (q, h)
no_strategy ws a b c d KeepMajority h = b h
no_strategy ws a b c d (KeepOldest alone) h = c (alone, h)
no_strategy ws a b c d DownAll h = d h

some_strategy : (ws : List (List ℕ)) → Finds {T = ℕ} (λ q. SpellsStrategy ws (StaticQuorum q)) → Tells (SpellsStrategy ws KeepMajority) → Finds {T = Bool} (λ alone. SpellsStrategy ws (KeepOldest alone)) → Tells (SpellsStrategy ws DownAll) → Finds (SpellsStrategy ws)
some_strategy ws (inl h) b c d = inl (StaticQuorum h.0, h.1)
some_strategy ws (inr a) (inl h) c d = inl (KeepMajority, h)
some_strategy ws (inr a) (inr b) (inl h) d = inl (KeepOldest h.0, h.1)
some_strategy ws (inr a) (inr b) (inr c) (inl h) = inl (DownAll, h)
some_strategy ws (inr a) (inr b) (inr c) (inr d) = inr (λ s. no_strategy ws a b c d s.0 s.1)

some_switch : (P : Bool → Type 0) → Tells (P true) → Tells (P false) → Finds P
some_switch P (inl h) off = inl (true, h)
some_switch P (inr on) (inl h) = inl (false, h)
some_switch P (inr on) (inr off) = inr (λ s. neither s.0 s.1)
  where
    neither : (alone : Bool) → P alone → ⊥
    neither true h = on h
    neither false h = off h

oldest : (ws : List (List ℕ)) → Finds {T = Bool} (λ alone. SpellsStrategy ws (KeepOldest alone))
oldest ws = some_switch (λ alone. SpellsStrategy ws (KeepOldest alone)) (three_words (codes "strategy") (codes "keep-oldest") (codes "on") ws) (three_words (codes "strategy") (codes "keep-oldest") (codes "off") ws)

strategy : (ws : List (List ℕ)) → Finds (SpellsStrategy ws)
strategy ws = some_strategy ws (quorum ws) (two_words (codes "strategy") (codes "keep-majority") ws) (oldest ws) (two_words (codes "strategy") (codes "down-all") ws)

put : {T : Type 0} (P : T → Type 0) (new : T → SettingsModel) → Finds P → Finds {T = SettingsModel} (λ s. (t : T) × P t × (s ≡ new t))
put P new h = alike (λ t. (new t.0, (t.0, t.1, refl))) (λ s. (s.1.0, s.1.1)) h

setting : (name : List ℕ) (most : ℕ) (ws : List (List ℕ)) → Finds (SpellsSetting name most ws)
setting name most ws = one (λ w n. SpellsNumber w 1 most n) (number 1 most) name ws

sets : (which : header.Header) (ws : List (List ℕ)) (old : SettingsModel) → Finds (Sets which ws old)
sets header.TheVariants.Listed ws old = put (SpellsListing ws) (λ x. record old { listed = x; role = x }) (listing ws)
sets header.TheVariants.Strategy ws old = put (SpellsStrategy ws) (λ x. record old { strategy = x }) (strategy ws)
sets header.TheVariants.Margin ws old = put (SpellsSetting (codes "margin") 1000000 ws) (λ x. record old { margin = x }) (setting (codes "margin") 1000000 ws)
sets header.TheVariants.Deadline ws old = put (SpellsSetting (codes "deadline") 1000000 ws) (λ x. record old { deadline = x }) (setting (codes "deadline") 1000000 ws)
sets header.TheVariants.Stable ws old = put (SpellsSetting (codes "stable") 1000000 ws) (λ x. record old { stable = x }) (setting (codes "stable") 1000000 ws)
sets header.TheVariants.Shards ws old = put (SpellsSetting (codes "shards") 1000 ws) (λ x. record old { shards = x; types = [] }) (setting (codes "shards") 1000 ws)
sets header.TheVariants.Buffer ws old = put (SpellsSetting (codes "buffer") 100000 ws) (λ x. record old { buffer = x }) (setting (codes "buffer") 100000 ws)
sets header.TheVariants.Threshold ws old = put (SpellsSetting (codes "threshold") 1000 ws) (λ x. record old { threshold = x }) (setting (codes "threshold") 1000 ws)
sets header.TheVariants.Limit ws old = put (SpellsSetting (codes "limit") 1000 ws) (λ x. record old { limit = x }) (setting (codes "limit") 1000 ws)

pub set_header : (which : header.Header) (line : List ℕ) (old : SettingsModel) → Finds (SetsHeader which line old)
set_header which line old =
    alike
    (λ h. (h.1.0, record { short = h.0; words = h.1.1 }))
    (λ s. (s.1.short, (s.0, s.1.words)))
    (both (at_most (length line) most_bytes) (sets which (words line) old))

-- ---- an optional header
pub named_extra : (ws : List (List ℕ)) → Tells (NamesExtra ws)
named_extra [] = inr (λ h. cc)
named_extra (w ∷ ws) = alike names named (one_of (same_bytes w (codes "weakly")) (one_of (same_bytes w (codes "role")) (same_bytes w (codes "types"))))
  where
    names : (w ≡ codes "weakly") ⊎ ((w ≡ codes "role") ⊎ (w ≡ codes "types")) → NamesExtra (w ∷ ws)
    names (inl is) = (Weakly, ws, ap (λ (x : List ℕ). x ∷ ws) is)
    names (inr (inl is)) = (Role, ws, ap (λ (x : List ℕ). x ∷ ws) is)
    names (inr (inr is)) = (Types, ws, ap (λ (x : List ℕ). x ∷ ws) is)

    named : NamesExtra (w ∷ ws) → (w ≡ codes "weakly") ⊎ ((w ≡ codes "role") ⊎ (w ≡ codes "types"))
    named (Weakly, rest, is) = let first : w ≡ codes "weakly" = cc in inl first
    named (Role, rest, is) = let first : w ≡ codes "role" = cc in inr (inl first)
    named (Types, rest, is) = let first : w ≡ codes "types" = cc in inr (inr first)

option : (name : List ℕ) (most : ℕ) (ws : List (List ℕ)) → Finds (SpellsOption name most ws)
option name most ws = one (λ w n. SpellsNumber w 0 most n) (number 0 most) name ws

is_role : (listed role : List AddressModel) → Tells (IsRole listed role)
is_role listed role =
    alike
    (λ h. record { listing = h.0; among = all_there listed role h.1 })
    (λ s. (s.listing, there_all listed role s.among))
    (both (is_listing role) (is_true (list_all (λ a. is_listed listed a) role)))

role_of : (listed : List AddressModel) (names : List (List ℕ)) → Finds (AllZip SpellsAddress names) → Finds {T = List AddressModel} (λ role. AllZip SpellsAddress names role × IsRole listed role)
role_of listed names (inl h) =
    alike (λ is. (h.0, (h.1, is))) (λ s. subst (IsRole listed) (same_addresses names s.0 h.0 s.1.0 h.1) s.1.1) (is_role listed h.0)
role_of listed names (inr fails) = inr (λ s. fails (s.0, s.1.0))

role : (ws : List (List ℕ)) (listed : List AddressModel) → Finds (SpellsRole ws listed)
role [] listed = inr (λ h. let none : [] ≡ codes "role" ∷ h.1.0 = h.1.1 in cc)
role (n ∷ names) listed =
    alike
    (λ h. (h.1.0, (names, ap (λ (w : List ℕ). w ∷ names) h.0, h.1.1.0, h.1.1.1)))
    (λ s. let named : n ≡ codes "role" = cc in let rest : s.1.0 ≡ names = cc in
    (named, (s.0, (subst (λ (l : List (List ℕ)). AllZip SpellsAddress l s.0) rest s.1.2, s.1.3))))
    (both (same_bytes n (codes "role")) (role_of listed names (addresses names)))

are_types : (shards : ℕ) (types : List (List ℕ)) → Tells (AreTypes shards types)
are_types shards types =
    alike
    (λ h. record { few = h.0; names = h.1.0; different = h.1.1.0; within = h.1.1.1 })
    (λ s. (s.few, (s.names, (s.different, s.within))))
    (both (at_most (length types) 8) (both (each (λ name. is_type_name name ≡ true) (λ name. is_true (is_type_name name)) types) (both (different same_bytes types) (at_most (length types * shards) 1000))))

types : (ws : List (List ℕ)) (shards : ℕ) → Finds (SpellsTypes ws shards)
types [] shards = inr (λ h. let none : [] ≡ codes "types" ∷ h.0 = h.1.0 in cc)
types (n ∷ names) shards =
    alike
    (λ h. (names, (ap (λ (w : List ℕ). w ∷ names) h.0, h.1.0, h.1.1)))
    (λ s. let named : n ≡ codes "types" = cc in let rest : s.0 ≡ names = cc in
    (named, (subst (λ (l : List (List ℕ)). 1 ≤ length l) rest s.1.1, subst (AreTypes shards) rest s.1.2)))
    (both (same_bytes n (codes "types")) (both (at_most 1 (length names)) (are_types shards names)))

sets_extra : (which : Extra) (ws : List (List ℕ)) (old : SettingsModel) → Finds (SetsExtra which ws old)
sets_extra Weakly ws old = put (SpellsOption (codes "weakly") 1000000 ws) (λ x. record old { weakly = x }) (option (codes "weakly") 1000000 ws)
sets_extra Role ws old = put (SpellsRole ws old.listed) (λ x. record old { role = x }) (role ws old.listed)
sets_extra Types ws old = put (SpellsTypes ws old.shards) (λ x. record old { types = x }) (types ws old.shards)

-- it may still come, and its words set it
abbrev ReadsAs : Extra → List ℕ → Drafted → Type 0
ReadsAs which line old = (length line ≤ most_bytes) × ((old.extra ≤ extra_index which) × ((t : SettingsModel) × SetsExtra which (words line) old.settings t))

as_read : (which : Extra) (line : List ℕ) (old : Drafted) → slice_get extras (extra_index which) ≡ Some which → ReadsAs which line old → (new : Drafted) × ReadsExtra line old new
as_read which line old there h = (
  record { read = old.read; extra = extra_index which + 1; settings = h.1.1.0 },
  record { which = which; index = extra_index which; next = there; later = h.1.0; sets = record { short = h.0; words = h.1.1.1 }; same_read = refl; past = refl },
)

read_as : (line : List ℕ) (old new : Drafted) (r : ReadsExtra line old new) → ReadsAs r.which line old
read_as line old new r =
    let at : r.index ≡ extra_index r.which = at_index r.index r.which r.next in
    (r.sets.short, (subst (λ n. old.extra ≤ n) at r.later, (new.settings, r.sets.words)))

reads_as : (which : Extra) (line : List ℕ) (old : Drafted) → Tells (ReadsAs which line old)
reads_as which line old = both (at_most (length line) most_bytes) (both (at_most old.extra (extra_index which)) (sets_extra which (words line) old.settings))

pub set_extra : (line : List ℕ) (old : Drafted) → Finds (ReadsExtra line old)
set_extra line old = alike reads read (one_of (reads_as Weakly line old) (one_of (reads_as Role line old) (reads_as Types line old)))
  where
    AnyOf : Type 0
    AnyOf = ReadsAs Weakly line old ⊎ (ReadsAs Role line old ⊎ ReadsAs Types line old)

    reads : AnyOf → (new : Drafted) × ReadsExtra line old new
    reads (inl h) = as_read Weakly line old refl h
    reads (inr (inl h)) = as_read Role line old refl h
    reads (inr (inr h)) = as_read Types line old refl h

    by_which : (which : Extra) → ReadsAs which line old → AnyOf
    by_which Weakly h = inl h
    by_which Role h = inr (inl h)
    by_which Types h = inr (inr h)

    read : (new : Drafted) × ReadsExtra line old new → AnyOf
    read s = by_which s.1.which (read_as line old s.0 s.1)

-- ---- a line that is passed over
no_words : (ws : List (List ℕ)) → Tells (ws ≡ [])
no_words [] = inl refl
no_words (w ∷ ws) = inr (λ h. cc)

pub passed_over : (line : List ℕ) → Tells (IsPassedOver line)
passed_over line =
    alike
    (λ h. record { short = h.0; empty = h.1 })
    (λ s. (s.short, s.empty))
    (both (at_most (length line) most_bytes) (one_of (no_words (words line)) (is_true (is_comment line))))
