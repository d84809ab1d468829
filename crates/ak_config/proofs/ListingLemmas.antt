-- The addresses, or texts, of some items, from the left.
use Rattle.std.proofs.Common.{◌≡◌, ℕ, true, false, ◌&&◌, List, [], ◌∷◌, ◌++◌, length, get_or, Option, Some, Result, Ok, Err, refl, arith, append_assoc}
use Rattle.std.proofs.lemmas.List.Elements.{recursion_from_All, Contains-get_or}
use Rattle.std.specs.Prelude.{nat_le, IsTrue}
use Rattle.toml.specs.View.{items_view}
use Rattle.toml.specs.declared.value.Value.{Value}
use Rattle.toml.specs.Data.{Data, Items, item}
use Rattle.ak_address.proofs.AmongLaws.{among_means}
use Rattle.ak_address.specs.Distinct.{is_among}
use Rattle.ak_address.specs.Unique.{AddressModel}
use Rattle.ak_config.specs.declared.fault.ConfigFault.{ConfigFault}
use Rattle.ak_config.specs.declared.fault.ConfigFault.TheVariants.{NotToml, Missing, Unknown, WrongType, Range, BadAddress, SelfUnlisted, Repeated, NoMemory}
use Rattle.ak_config.specs.Configuration.{◌>>=◌, addresses_in, address_among, text_in, texts_in, are_texts, item_count, listing_in}
use Rattle.ak_config.specs.ConfigContracts.{Fails, MayStand}
use Rattle.ak_config.proofs.Steps.{fails_first}

-- after some values, those of the items that are left
abbrev pub with_first : {X : Type 0} → List X → Result (List X) ConfigFault → Result (List X) ConfigFault
with_first done (Ok rest) = Ok (done ++ rest)
with_first done (Err fault) = Err fault

one_done : {X : Type 0} (done : List X) (x : X) (r : Result (List X) ConfigFault) → with_first done (r >>= (λ rest. Ok (x ∷ rest))) ≡ with_first (done ++ x ∷ []) r
one_done done x (Ok rest) = rw (append_assoc done (x ∷ []) rest) refl
one_done done x (Err fault) = refl

-- one more item spells its address
pub one_more : (key : List ℕ) (among : Option (List AddressModel)) (done : List AddressModel) (value : Data) (others : Items) (a : AddressModel) → address_among key among value ≡ Ok a
    → with_first done (addresses_in key among (item value others)) ≡ with_first (done ++ a ∷ []) (addresses_in key among others)
one_more key among done value others a is = rw is (one_done done a (addresses_in key among others))

-- one more item is a text
pub one_text_more : (key : List ℕ) (done : List (List ℕ)) (value : Data) (others : Items) (text : List ℕ) → text_in key value ≡ Ok text
    → with_first done (texts_in key (item value others)) ≡ with_first (done ++ text ∷ []) (texts_in key others)
one_text_more key done value others text is = rw is (one_done done text (texts_in key others))

fails_after : {X : Type 0} (fault : ConfigFault) (done : List X) (r : Result (List X) ConfigFault) → Fails fault r → Fails fault (with_first done r)
fails_after NotToml done r h = rw h refl
fails_after (Missing key) done r h = rw h refl
fails_after (Unknown key) done r h = rw h refl
fails_after (WrongType key) done r h = rw h refl
fails_after (Range key) done r h = rw h refl
fails_after (BadAddress key) done r h = rw h refl
fails_after (SelfUnlisted key) done r h = rw h refl
fails_after (Repeated key) done r h = rw h refl
fails_after (NoMemory _) done r h = tt

-- a fault of one item is that of all
pub fails_there : (key : List ℕ) (among : Option (List AddressModel)) (fault : ConfigFault) (done : List AddressModel) (value : Data) (others : Items) → Fails fault (address_among key among value)
    → Fails fault (with_first done (addresses_in key among (item value others)))
fails_there key among fault done value others h = fails_after fault done _ (fails_first fault (address_among key among value) _ h)

pub text_fails_there : (key : List ℕ) (fault : ConfigFault) (done : List (List ℕ)) (value : Data) (others : Items) → Fails fault (text_in key value)
    → Fails fault (with_first done (texts_in key (item value others)))
text_fails_there key fault done value others h = fails_after fault done _ (fails_first fault (text_in key value) _ h)

-- as many items as values
pub items_counted : (vs : List Value) → item_count (items_view vs) ≡ length vs
items_counted [] = refl
items_counted (v ∷ vs) = rw (items_counted vs) (omega arith)

-- a list of texts that is too short or too long
pub listing_refused : (key : List ℕ) (among : Option (List AddressModel)) (vs : List Value) → are_texts (items_view vs) ≡ true → (nat_le 1 (length vs) && nat_le (length vs) 32) ≡ false
    → listing_in key among (items_view vs) ≡ Err (Range key)
unfolding listing_in
listing_refused key among vs texts few = rw (texts, items_counted vs, few) refl

pub listing_read : (key : List ℕ) (among : Option (List AddressModel)) (vs : List Value) → are_texts (items_view vs) ≡ true → (nat_le 1 (length vs) && nat_le (length vs) 32) ≡ true
    → listing_in key among (items_view vs) ≡ addresses_in key among (items_view vs)
unfolding listing_in
listing_read key among vs texts few = rw (texts, items_counted vs, few) refl

-- each of some addresses is one of them
pub may_all_stand : (some : List AddressModel) → MayStand (Some some) some
may_all_stand some = recursion_from_All (λ a. IsTrue (is_among some a)) some (λ k d within. (among_means some (get_or some k d)).1 (Contains-get_or some k d within))
