-- The addresses of a header line, read one after another.
use Rattle.std.proofs.Common.{◌≡◌, ◌≢◌, ℕ, ◌≤◌, List, [], ◌∷◌, ◌++◌, length, sym, ◌∙◌, ap, subst, refl, arith, append_assoc, length-append, rules, codes, Bool, true, false, ◌&&◌, inl, inr, true≢false}
use Rattle.std.specs.Prelude.{MatchOption, Option, Contains}
use Rattle.std.specs.List.{AllZip, AllPairs, AllByRecursion, list_all}
use Rattle.std.proofs.lemmas.List.{get_or_append_left, get_or_at}
use Rattle.std.proofs.lemmas.List.Elements.{All-from_recursion, recursion_from_All, All-push, Contains-get_or}
use Rattle.std.proofs.lemmas.List.Quantifiers.{all_pairs_push}
use Rattle.ak_address.specs.Unique.{AddressModel, IsAddress}
use Rattle.ak_address.specs.Spelling.{SpellsAddress}
use Rattle.ak_address.proofs.SpellingLemmas.{address_same}
use Rattle.ak_schedule.specs.declared.fault.LineFault.{LineFault}
use Rattle.ak_schedule.specs.declared.fault.LineFault.TheVariants.{Malformed, BadHeader, NoMemory}
use Rattle.ak_settings.specs.declared.settings.Strategy.{Strategy}
use Rattle.ak_settings.specs.Settings.{IsListing, IsRole, AreTypes, is_listed}
use Rattle.ak_address.proofs.AmongLaws.{contains_from, among_means}
use Rattle.ak_address.proofs.Elements.{contains_first, contains_rest, contains_nothing, first_or_rest}
use Rattle.ak_schedule.specs.Draft.{RefusesValue, SpellsAddresses, SpellsNext}
use Rattle.ak_schedule.proofs.OneWay.{same_addresses}
use Rattle.ak_schedule.specs.Schedule.{SpellsRole, SpellsStrategy, SpellsTypes}

-- the names up to here spell these addresses, and each list that all names spell begins with them
pub record SpelledSoFar (names rest : List (List ℕ)) (listed : List AddressModel) : Type 0 where
  pub onward : (tail : List AddressModel) → AllZip SpellsAddress rest tail → AllZip SpellsAddress names (listed ++ tail)
  pub back : (all : List AddressModel) → AllZip SpellsAddress names all → (tail : List AddressModel) × (all ≡ listed ++ tail) × AllZip SpellsAddress rest tail
  pub room : length listed ≤ 32
  pub addresses : AllByRecursion IsAddress listed
  pub different : AllPairs (λ a b. a ≢ b) listed

pub spelled_more : (names rest after : List (List ℕ)) (name : List ℕ) (listed : List AddressModel) (a : AddressModel)
    → rest ≡ name ∷ after → SpelledSoFar names rest listed → SpellsNext name listed a → SpelledSoFar names after (listed ++ a ∷ [])
spelled_more names rest after name listed a cut before next = record {
  onward = λ tail spelt. rw append_assoc (before.onward (a ∷ tail) (rw cut (next.0, spelt)));
  back = λ all spelt.
      let split = before.back all spelt in
      let after_it : AllZip SpellsAddress (name ∷ after) split.0 = subst (λ (ws : List (List ℕ)). AllZip SpellsAddress ws split.0) cut split.2 in
      next_of name after listed split.0 all a next.0 split.1 after_it;
  room = omega (arith, length-append listed (a ∷ []), next.1.room);
  addresses = recursion_from_All IsAddress (listed ++ a ∷ []) (All-push IsAddress listed a (All-from_recursion IsAddress listed before.addresses) next.0.range);
  different = all_pairs_push (λ x y. x ≢ y) listed a before.different (λ k d within same. next.1.other (subst (Contains listed) same (Contains-get_or listed k d within)));
}
  where
    next_of : (name : List ℕ) (after : List (List ℕ)) (listed tail all : List AddressModel) (a : AddressModel) → SpellsAddress name a → all ≡ listed ++ tail
        → AllZip SpellsAddress (name ∷ after) tail → (after_it : List AddressModel) × (all ≡ (listed ++ a ∷ []) ++ after_it) × AllZip SpellsAddress after after_it
    next_of name after listed [] all a spelt cut none = absurd none
    next_of name after listed (b ∷ tail) all a spelt cut zip =
        (tail, cut ∙ ap (λ (x : AddressModel). listed ++ x ∷ tail) (address_same name b a zip.0 spelt) ∙ sym (append_assoc listed (a ∷ []) tail), zip.1)

-- where all names are read
pub spelled_all : (names rest : List (List ℕ)) (listed : List AddressModel) → rest ≡ [] → SpelledSoFar names rest listed → 1 ≤ length listed → SpellsAddresses names listed
spelled_all names rest listed none so_far some = (
  subst (λ (all : List AddressModel). AllZip SpellsAddress names all) (append_nil listed) (so_far.onward [] (rw none tt)),
  record { count = record { from = some; to = so_far.room }; addresses = so_far.addresses; different = so_far.different },
)
  where
    append_nil : (xs : List AddressModel) → xs ++ [] ≡ xs
    append_nil xs = search rules

-- where the next name may not follow, no list is spelled
pub spelled_no_further : (names rest after : List (List ℕ)) (name : List ℕ) (listed : List AddressModel) → rest ≡ name ∷ after → SpelledSoFar names rest listed
    → ((a : AddressModel) → SpellsNext name listed a → ⊥) → (all : List AddressModel) → SpellsAddresses names all → ⊥
spelled_no_further names rest after name listed cut so_far none all spelt =
    let split = so_far.back all spelt.0 in
    stuck name after listed split.0 all none split.1 (subst (λ (ws : List (List ℕ)). AllZip SpellsAddress ws split.0) cut split.2) spelt.1
  where
    stuck : (name : List ℕ) (after : List (List ℕ)) (listed tail all : List AddressModel) → ((a : AddressModel) → SpellsNext name listed a → ⊥) → all ≡ listed ++ tail
        → AllZip SpellsAddress (name ∷ after) tail → IsListing all → ⊥
    stuck name after listed [] all none cut zip listing = zip
    stuck name after listed (a ∷ tail) all none cut zip listing =
        none a (
          zip.0,
          record {
            room = omega (arith, ap length cut, length-append listed (a ∷ tail), listing.count.to);
            other = λ among. twice listed tail a (subst (AllPairs (λ x y. x ≢ y)) cut listing.different) among;
          },
        )
      where
        twice : (listed tail : List AddressModel) (a : AddressModel) → AllPairs (λ x y. x ≢ y) (listed ++ a ∷ tail) → Contains listed a → ⊥
        twice listed tail a different (k, within, here) =
            different k (length listed) a within (omega (arith, length-append listed (a ∷ tail)))
            (get_or_append_left listed (a ∷ tail) a k within ∙ here ∙ sym (get_or_at listed a tail a (length listed) refl))

-- a fault of the next name is the fault of the whole
pub listing_refused : (names rest after : List (List ℕ)) (name : List ℕ) (listed : List AddressModel) (fault : LineFault) → rest ≡ name ∷ after → SpelledSoFar names rest listed
    → RefusesValue (SpellsNext name listed) fault → RefusesValue (SpellsAddresses names) fault
listing_refused names rest after name listed Malformed cut so_far h = h
listing_refused names rest after name listed BadHeader cut so_far h = spelled_no_further names rest after name listed cut so_far h
listing_refused names rest after name listed (NoMemory _) cut so_far h = tt

-- a fault of a part is the fault of the whole
pub value_refused : {T U : Type 0} (P : T → Type 0) (Q : U → Type 0) (fault : LineFault) → RefusesValue P fault → ((u : U) → Q u → (t : T) × P t) → RefusesValue Q fault
value_refused P Q Malformed none part = none
value_refused P Q BadHeader none part = λ u whole. none (part u whole).0 (part u whole).1
value_refused P Q (NoMemory _) none part = tt

-- an address that is among the others does not follow
pub not_twice : (name : List ℕ) (listed : List AddressModel) (a : AddressModel) → SpellsAddress name a → Contains listed a → (b : AddressModel) → SpellsNext name listed b → ⊥
not_twice name listed a spelt among b next = next.1.other (subst (Contains listed) (address_same name a b spelt next.0) among)

-- the words of a line, in the strategy that they spell
pub strategy_words : (ws vs : List (List ℕ)) (r : Option Strategy) → ws ≡ vs → MatchOption r ((s : Strategy) → SpellsStrategy vs s → ⊥) (λ s. SpellsStrategy vs s)
    → MatchOption r ((s : Strategy) → SpellsStrategy ws s → ⊥) (λ s. SpellsStrategy ws s)
strategy_words ws vs r same h = rw same h

-- ---- those that have the role
role_words : (ws names : List (List ℕ)) (listed role : List AddressModel) → ws ≡ codes "role" ∷ names → SpellsRole ws listed role → AllZip SpellsAddress names role × IsRole listed role
role_words ws names listed role cut s =
    let whole : codes "role" ∷ s.0 ≡ codes "role" ∷ names = sym s.1 ∙ cut in
    let same : s.0 ≡ names = cc in
    (subst (λ (ns : List (List ℕ)). AllZip SpellsAddress ns role) same s.2, s.3)

pub role_refused : (ws names : List (List ℕ)) (listed : List AddressModel) (fault : LineFault) → ws ≡ codes "role" ∷ names → RefusesValue (SpellsAddresses names) fault → RefusesValue (SpellsRole ws listed) fault
role_refused ws names listed fault cut h = value_refused (SpellsAddresses names) (SpellsRole ws listed) fault h (λ r s. let w = role_words ws names listed r cut s in (r, (w.0, w.1.listing)))

-- they are all listed
pub all_there : (listed role : List AddressModel) → list_all (λ a. is_listed listed a) role ≡ true → (a : AddressModel) → Contains role a → Contains listed a
all_there listed [] is a there = absurd (contains_nothing a there)
all_there listed (b ∷ role) is a there = by_first (is_listed listed b) refl is (λ rest. all_there listed role rest a)
  where
    by_first : (t : Bool) → is_listed listed b ≡ t → (t && list_all (λ a. is_listed listed a) role) ≡ true → (list_all (λ a. is_listed listed a) role ≡ true → Contains role a → Contains listed a) → Contains listed a
    by_first true first rest on = elim (first_or_rest b a role there) [ inl same ↦ subst (Contains listed) (sym same) (contains_from listed b first) | inr later ↦ on rest later ]
    by_first false first rest on = absurd (true≢false (sym rest))

pub there_all : (listed role : List AddressModel) → ((a : AddressModel) → Contains role a → Contains listed a) → list_all (λ a. is_listed listed a) role ≡ true
there_all listed [] among = refl
there_all listed (b ∷ role) among = λ i. (among_means listed b).1 (among b (contains_first b role)) i && there_all listed role (λ a there. among a (contains_rest b a role there)) i

pub role_unlisted : (ws names : List (List ℕ)) (listed role : List AddressModel) → ws ≡ codes "role" ∷ names → SpellsAddresses names role → list_all (λ a. is_listed listed a) role ≡ false
    → (r : List AddressModel) → SpellsRole ws listed r → ⊥
role_unlisted ws names listed role cut spelt never r s =
    let w = role_words ws names listed r cut s in
    let same : r ≡ role = same_addresses names r role w.0 spelt.0 in
    true≢false (sym (there_all listed role (λ a there. w.1.among a (subst (λ (l : List AddressModel). Contains l a) (sym same) there))) ∙ never)

pub role_spelled : (ws names : List (List ℕ)) (listed role : List AddressModel) → ws ≡ codes "role" ∷ names → SpellsAddresses names role → list_all (λ a. is_listed listed a) role ≡ true → SpellsRole ws listed role
role_spelled ws names listed role cut spelt all = (names, cut, spelt.0, record { listing = spelt.1; among = all_there listed role all })

-- ---- the names of types
types_words : (ws names types : List (List ℕ)) (shards : ℕ) → ws ≡ codes "types" ∷ names → SpellsTypes ws shards types → types ≡ names
types_words ws names types shards cut s = let whole : codes "types" ∷ types ≡ codes "types" ∷ names = sym s.0 ∙ cut in cc

pub types_spelled : (ws names types : List (List ℕ)) (shards : ℕ) → ws ≡ codes "types" ∷ names → types ≡ names → 1 ≤ length types → AreTypes shards types → SpellsTypes ws shards types
types_spelled ws names types shards cut same some are = (cut ∙ ap (λ (l : List (List ℕ)). codes "types" ∷ l) (sym same), some, are)

-- where the names are none, or may not be types, no types are spelled
pub types_refused : (ws names types : List (List ℕ)) (shards : ℕ) → ws ≡ codes "types" ∷ names → types ≡ names → (1 ≤ length types → AreTypes shards types → ⊥)
    → (other : List (List ℕ)) → SpellsTypes ws shards other → ⊥
types_refused ws names types shards cut same fails other s =
    let is : other ≡ types = types_words ws names other shards cut s ∙ sym same in
    fails (subst (λ (l : List (List ℕ)). 1 ≤ length l) is s.1) (subst (AreTypes shards) is s.2)

-- ---- the words of a line, one after another
pub one_word_more : (line rest later before now : List (List ℕ)) (word : List ℕ) → rest ≡ word ∷ later → now ≡ before ++ word ∷ [] → before ++ rest ≡ line → now ++ later ≡ line
one_word_more line rest later before now word cut pushed so_far =
    ap (λ (l : List (List ℕ)). l ++ later) pushed ∙ append_assoc before (word ∷ []) later ∙ ap (λ (l : List (List ℕ)). before ++ l) (sym cut) ∙ so_far

pub all_words : (line rest texts : List (List ℕ)) → rest ≡ [] → texts ++ rest ≡ line → texts ≡ line
all_words line rest texts none so_far = sym (append_nil texts) ∙ ap (λ (l : List (List ℕ)). texts ++ l) (sym none) ∙ so_far
  where
    append_nil : (xs : List (List ℕ)) → xs ++ [] ≡ xs
    append_nil xs = search rules
