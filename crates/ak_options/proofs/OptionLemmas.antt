-- Words as pairs: what the words that are left say of the pairs that are left.
use Rattle.std.proofs.Common.{◌≡◌, ◌≢◌, ◌↔◌, ◌==◌, suc, ℕ, ◌<◌, Bool, true, false, IsTrue, List, [], ◌∷◌, length, map, All, Contains, nat_eq, refl, sym, ◌∙◌, ap, subst, arith, inl, inr}
use Rattle.std.specs.Prelude.{◌||◌, Option, None, Some, MatchOption}
use Rattle.std.specs.Bool.{Decides}
use Rattle.std.specs.List.{list_any}
use Rattle.std.specs.Cmp.Lexicographic.{pointwise}
use Rattle.std.specs.Str.{bytes_eq}
use Rattle.std.proofs.lemmas.Slice.Eq.{bytes_eq-Decides}
use Rattle.std.proofs.lemmas.Bool.{false≢true}
use Rattle.std.proofs.lemmas.Bool.Decides.{nat_tests}
use Rattle.std.proofs.lemmas.List.Elements.{All-cons, All-head, All-tail}
use Rattle.std.proofs.lemmas.Map.Made.{Contains-tail}
use Rattle.ak_address.proofs.Elements.{contains_first, contains_rest}
use denote.Ref.{Bor}
use Rattle.ak_options.specs.Options.{Pair, words_of, values, AreNamed, IsNumberOnce, IsNumberAtMostOnce}

-- words that begin with a name and a value are pairs, and then the others
pub record BeginsWith (pairs : List Pair) (name value : List ℕ) (rest : List (List ℕ)) : Type 0 where
  pub pair : Pair
  pub others : List Pair
  pub whole : pairs ≡ pair ∷ others
  pub name_is : pair.name ≡ name
  pub value_is : pair.value ≡ value
  pub rest_is : rest ≡ words_of others

pub first_pair : (pairs : List Pair) (words : List (List ℕ)) (name value : List ℕ) (rest : List (List ℕ)) →
    words ≡ words_of pairs → words ≡ name ∷ value ∷ rest → BeginsWith pairs name value rest
first_pair [] words name value rest are is = absurd (let e : [] ≡ name ∷ value ∷ rest = sym are ∙ is in cc)
first_pair (p ∷ pairs) words name value rest are is =
    let e : p.name ∷ p.value ∷ words_of pairs ≡ name ∷ value ∷ rest = sym are ∙ is in
    record { pair = p; others = pairs; whole = refl; name_is = cc; value_is = cc; rest_is = cc }

pub no_pair : (pairs : List Pair) (words : List (List ℕ)) → words ≡ words_of pairs → length words < 2 → pairs ≡ []
no_pair [] words are few = refl
no_pair (p ∷ pairs) words are few = absurd (omega (arith, ap (length {A = List ℕ}) are))

equal_bytes : (a b : List ℕ) → a ≡ b → bytes_eq a b ≡ true
equal_bytes a b same = (bytes_eq-Decides a b).1 same

other_bytes : (a b : List ℕ) → a ≢ b → bytes_eq a b ≡ false
other_bytes a b other = at (bytes_eq a b) refl
  where
    at : (r : Bool) → bytes_eq a b ≡ r → bytes_eq a b ≡ false
    at true is = absurd (other ((bytes_eq-Decides a b).0 is))
    at false is = is

-- the first value of an option is that of the first pair with its name
pub values_here : (name : List ℕ) (pair : Pair) (others : List Pair) → pair.name ≡ name → values name (pair ∷ others) ≡ pair.value ∷ values name others
values_here name pair others same = rw (equal_bytes pair.name name same) refl

pub values_later : (name : List ℕ) (pair : Pair) (others : List Pair) → pair.name ≢ name → values name (pair ∷ others) ≡ values name others
values_later name pair others other = rw (other_bytes pair.name name other) refl

-- the words that are left are pairs that have all values of the option
pub record HasAll (name : List ℕ) (pairs : List Pair) (left : List (List ℕ)) : Type 0 where
  pub others : List Pair
  pub are : left ≡ words_of others
  pub values_are : values name pairs ≡ values name others

pub has_all : (name : List ℕ) (pairs : List Pair) (words : List (List ℕ)) → words ≡ words_of pairs → HasAll name pairs words
has_all name pairs words are = record { others = pairs; are = are; values_are = refl }

pub one_less : (name : List ℕ) (pairs : List Pair) (left : List (List ℕ)) (option value : List ℕ) (rest : List (List ℕ)) →
    HasAll name pairs left → left ≡ option ∷ value ∷ rest → option ≢ name → HasAll name pairs rest
one_less name pairs left option value rest has is other =
    let b = first_pair has.others left option value rest has.are is in
    let apart : b.pair.name ≢ name = λ same. other (sym b.name_is ∙ same) in
    record { others = b.others; are = b.rest_is; values_are = has.values_are ∙ ap (values name) b.whole ∙ values_later name b.pair b.others apart }

pub found_here : (name : List ℕ) (pairs : List Pair) (left : List (List ℕ)) (option value : List ℕ) (rest : List (List ℕ)) →
    HasAll name pairs left → left ≡ option ∷ value ∷ rest → option ≡ name →
    (others : List Pair) × (rest ≡ words_of others) × (values name pairs ≡ value ∷ values name others)
found_here name pairs left option value rest has is same =
    let b = first_pair has.others left option value rest has.are is in (
      b.others,
      b.rest_is,
      has.values_are ∙ ap (values name) b.whole ∙ values_here name b.pair b.others (b.name_is ∙ same) ∙ ap (λ (v : List ℕ). v ∷ values name b.others) b.value_is,
    )

pub none_left : (name : List ℕ) (pairs : List Pair) (left : List (List ℕ)) → HasAll name pairs left → length left < 2 → values name pairs ≡ []
none_left name pairs left has few = has.values_are ∙ ap (values name) (no_pair has.others left has.are few)

-- the words are pairs with these names
abbrev pub AreOptions : List (List ℕ) → List (List ℕ) → Type 0
AreOptions names words = (pairs : List Pair) × (words ≡ words_of pairs) × AreNamed names pairs

pub options_first : (names words : List (List ℕ)) (name value : List ℕ) (rest : List (List ℕ)) → words ≡ name ∷ value ∷ rest → AreOptions names words → Contains names name × AreOptions names rest
options_first names words name value rest is options =
    let b = first_pair options.0 words name value rest options.1 is in
    let all : All (λ (p : Pair). Contains names p.name) (b.pair ∷ b.others) = subst (λ (ps : List Pair). All (λ (p : Pair). Contains names p.name) ps) b.whole options.2 in
    (subst (λ (n : List ℕ). Contains names n) b.name_is (All-head (λ (p : Pair). Contains names p.name) b.pair b.others all), (b.others, b.rest_is, All-tail (λ (p : Pair). Contains names p.name) b.pair b.others all))

pub options_more : (names words : List (List ℕ)) (name value : List ℕ) (rest : List (List ℕ)) → words ≡ name ∷ value ∷ rest → Contains names name → AreOptions names rest → AreOptions names words
options_more names words name value rest is one options =
    (record { name = name; value = value } ∷ options.0, is ∙ ap (λ (ws : List (List ℕ)). name ∷ value ∷ ws) options.1, All-cons (λ (p : Pair). Contains names p.name) (record { name = name; value = value }) options.0 one options.2)

contained_more : (x name : List ℕ) (xs : List (List ℕ)) (r t : Bool) → Decides t (x ≡ name) → IsTrue r ↔ Contains xs name → IsTrue (t || r) ↔ Contains (x ∷ xs) name
contained_more x name xs r true d rest = ((λ h. subst (λ (n : List ℕ). Contains (x ∷ xs) n) (d.0 refl) (contains_first x xs)), (λ h. refl))
contained_more x name xs r false d rest =
    ((λ h. contains_rest x name xs (rest.0 h)), (λ h. rest.1 (Contains-tail x xs name (λ e. false≢true (d.1 e)) h)))

-- a name is found among the names that have it
pub contained : (names : List (Bor (List ℕ))) (name : List ℕ) →
    IsTrue (list_any (λ one. pointwise nat_eq one.now name) names) ↔ Contains (map (λ one. one.now) names) name
contained [] name = ((λ h. absurd (false≢true h)), (λ h. absurd (omega (arith, h.1))))
contained (one ∷ names) name =
    contained_more one.now name (map (λ n. n.now) names) (list_any (λ n. pointwise nat_eq n.now name) names) (pointwise nat_eq one.now name)
    (bytes_eq-Decides one.now name) (contained names name)

-- no word is left, or one that is no pair
pub empty_options : (names words : List (List ℕ)) → words ≡ [] → AreOptions names words
empty_options names words is = ([], is, (λ k d few. absurd (omega (arith, few))))

pub single_word : (names words : List (List ℕ)) → length words < 2 → AreOptions names words → words ≡ []
single_word names words few options = options.1 ∙ ap words_of (no_pair options.0 words options.1 few)

-- an option that stands in some pair has no default
pub number_given : (name : List ℕ) (least most default : ℕ) (pairs : List Pair) (value : List ℕ) (more : List (List ℕ)) (r : Option ℕ) → values name pairs ≡ value ∷ more →
    MatchOption r ((n : ℕ) → IsNumberOnce name least most pairs n → ⊥) (λ n. IsNumberOnce name least most pairs n) →
    MatchOption r ((n : ℕ) → IsNumberAtMostOnce name least most default pairs n → ⊥) (λ n. IsNumberAtMostOnce name least most default pairs n)
number_given name least most default pairs value more None some h = λ n at_most. elim at_most [ inl once ↦ h n once | inr absent ↦ (let e : value ∷ more ≡ [] = sym some ∙ absent.0 in cc) ]
number_given name least most default pairs value more (Some n) some h = inl h

pub empty_test : (words : List (List ℕ)) (r : Bool) → r ≡ (length words == 0) → IsTrue r ↔ (words ≡ [])
empty_test [] r is = ((λ h. refl), (λ h. is))
empty_test (word ∷ words) r is = ((λ h. absurd (false≢true (sym (is ∙ none (length words)) ∙ h))), (λ h. cc))
  where
    none : (n : ℕ) → (suc n == 0) ≡ false
    none n = grind (arith, nat_tests)
