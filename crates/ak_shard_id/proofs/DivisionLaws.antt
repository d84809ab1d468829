-- What a division means: each entity has one of the shards, and no shard has entities of two types.
use Rattle.std.proofs.Common.{◌≡◌, ◌≢◌, ℕ, zero, suc, ◌+◌, ◌*◌, ◌/◌, ◌==◌, ◌<◌, ◌≤◌, Bool, true, false, cond, not, ◌&&◌, nat_lt, nat_le, IsTrue, List, [], ◌∷◌, ◌++◌, length, take, drop, drop-cons, get_or, Contains, Option, None, Some, is_some, option_map, refl, sym, ap, ◌∙◌, subst, arith, one-add, mul_comm, true≢false, pos}
use Rattle.std.proofs.lemmas.Int.{rem_below}
use Rattle.std.proofs.lemmas.Nat.{mul-add-lt, div-mul-add}
use Rattle.std.proofs.lemmas.Bool.{and_parts, eqb-true, lt-ltb}
use Rattle.std.proofs.lemmas.Option.{same_Some}
use Rattle.std.proofs.lemmas.Cmp.{nat_list_cmp_total, tied_itself}
use Rattle.std.proofs.lemmas.Map.Lookups.{exact_bytes}
use Rattle.std.proofs.lemmas.List.Quantifiers.{position-Some}
use Rattle.std.proofs.lemmas.List.Sums.{position_or_len_is, prefix_len-le-length}
use Rattle.std.proofs.lemmas.Bool.Decides.{nat_tests}
use Rattle.std.proofs.lemmas.List.{take-append-drop, length-append}
use Rattle.std.proofs.lemmas.List.Folds.{list_all-append}
use Rattle.std.specs.List.{AllByRecursion, list_all, position, position_or_len}
use Rattle.std.specs.Ordering.{nat_cmp, is_eq}
use Rattle.std.specs.declared.cmp.Ordering.{Ordering}
use Rattle.std.specs.declared.cmp.Ordering.TheVariants.{Less, Equal, Greater}
use Rattle.std.specs.Cmp.Lexicographic.{slice_cmp}
use Rattle.ak_shard_id.specs.Shard.{shard_of, text_hash}
use Rattle.ak_shard_id.specs.Division.{DivisionModel, IsDivision, shards_of_all, many_shards, is_entity_byte, is_id, is_name_byte, is_type_name, has_id, is_entity_of, entity_ok, is_named, place_of, slash_in, typed_at, typed, shard_from, shard_in, IsOfType}

pub shard_below : (entity : List ℕ) (shards : ℕ) → 1 ≤ shards → shard_of entity shards < shards
shard_below entity shards some = rem_below (text_hash entity) (pos shards) (omega (arith, some))

-- ---- which type
equal_name : (o : Ordering) → is_eq o ≡ true → o ≡ Equal
equal_name Less is = absurd (true≢false (sym is))
equal_name Equal is = refl
equal_name Greater is = absurd (true≢false (sym is))

named_same : (name type : List ℕ) → is_named name type ≡ true → type ≡ name
named_same name type is = exact_bytes type name (equal_name (slice_cmp nat_cmp type name) is)

itself_named : (name : List ℕ) → is_named name name ≡ true
itself_named name = ap is_eq (tied_itself nat_list_cmp_total name)

-- a place is one of the types', and that type has the name
pub place_is : (types : List (List ℕ)) (name : List ℕ) (place : ℕ) → place_of types name ≡ Some place → (place < length types) × (get_or types place [] ≡ name)
place_is types name place at = let p = position-Some (is_named name) types place [] at in (p.0, named_same name (get_or types place []) p.1)

passes : (name : List ℕ) (xs : List (List ℕ)) → Contains xs name → position_or_len (is_named name) xs < length xs
passes name [] c = absurd (omega (arith, c.1))
passes name (x ∷ xs) c = by (is_named name x) refl c (λ k lt here. passes name xs (k, lt, here))
  where
    by : (b : Bool) → is_named name x ≡ b → Contains (x ∷ xs) name → ((k : ℕ) → k < length xs → get_or xs k name ≡ name → position_or_len (is_named name) xs < length xs)
        → cond (not b) (1 + position_or_len (is_named name) xs) 0 < length (x ∷ xs)
    by true is c rest = omega arith
    by false is (zero, lt, here) rest = absurd (true≢false (sym (itself_named name) ∙ ap (is_named name) (sym here) ∙ is))
    by false is (suc k, lt, here) rest = omega (arith, rest k (omega (arith, lt)) here)

placed : (name : List ℕ) (types : List (List ℕ)) → Contains types name → place_of types name ≡ Some (position_or_len (is_named name) types)
placed name types listed = ap (λ b. cond b (Some (position_or_len (is_named name) types)) None) (lt-ltb (position_or_len (is_named name) types) (length types) (passes name types listed))

-- ---- the first `/`
not_slash : (b : ℕ) → is_name_byte b ≡ true → (b == 47) ≡ false
not_slash b is = by (b == 47) refl
  where
    by : (t : Bool) → (b == 47) ≡ t → t ≡ false
    by true same = absurd (true≢false (sym is ∙ ap is_name_byte (eqb-true b 47 same)))
    by false same = refl

after_name : (name id : List ℕ) → list_all is_name_byte name ≡ true → position_or_len (λ b. b == 47) (name ++ 47 ∷ id) ≡ length name
after_name [] id all = refl
after_name (b ∷ name) id all =
    let (here, rest) = and_parts (is_name_byte b) (list_all is_name_byte name) all in
    ap (λ t. cond (not t) (1 + position_or_len (λ c. c == 47) (name ++ 47 ∷ id)) 0) (not_slash b here) ∙ ap (λ n. 1 + n) (after_name name id rest) ∙ one-add (length name)

take_name : (name more : List ℕ) → take (length name) (name ++ more) ≡ name
take_name [] more = refl
take_name (b ∷ name) more = ap (λ l. b ∷ l) (take_name name more)

within : (name id : List ℕ) → length name < length (name ++ 47 ∷ id)
within [] id = omega arith
within (b ∷ name) id = omega (arith, within name id)

slash_there : (name id : List ℕ) → list_all is_name_byte name ≡ true → slash_in (name ++ 47 ∷ id) ≡ Some (length name)
slash_there name id all =
    let n = after_name name id all in
    ap (λ i. cond (nat_lt i (length (name ++ 47 ∷ id))) (Some i) None) n
    ∙ ap (λ b. cond b (Some (length name)) None) (lt-ltb (length name) (length (name ++ 47 ∷ id)) (within name id))

-- the type of an entity is the one that it names
pub typed_as : (d : DivisionModel) (name entity : List ℕ) → IsOfType d name entity → (place : ℕ) × (id : List ℕ) × (place_of d.types name ≡ Some place) × (typed d.types entity ≡ Some (place, id))
typed_as d name entity t =
    let place = position_or_len (is_named name) d.types in
    let there = placed name d.types t.listed in
    let id = drop (length name + 1) (name ++ 47 ∷ t.id) in (
      place,
      id,
      there,
      ap (typed d.types) t.is
          ∙ ap (typed_at d.types (name ++ 47 ∷ t.id)) (slash_there name t.id t.letters)
          ∙ ap (λ n. option_map (λ (place : ℕ). (place, id)) (place_of d.types n)) (take_name name (47 ∷ t.id))
          ∙ ap (option_map (λ (place : ℕ). (place, id))) there,
    )

-- ---- each entity has one of the shards
typed_below : (types : List (List ℕ)) (entity : List ℕ) (x : ℕ × List ℕ) → typed types entity ≡ Some x → x.0 < length types
typed_below types entity x at = by_slash (slash_in entity) at
  where
    by_place : (id : List ℕ) (o : Option ℕ) → ((place : ℕ) → o ≡ Some place → place < length types) → option_map (λ (place : ℕ). (place, id)) o ≡ Some x → x.0 < length types
    by_place id None below is = absurd (true≢false (sym (ap is_some is)))
    by_place id (Some place) below is = subst (λ (y : ℕ × List ℕ). y.0 < length types) (same_Some (place, id) x is) (below place refl)

    by_slash : (o : Option ℕ) → typed_at types entity o ≡ Some x → x.0 < length types
    by_slash None is = absurd (true≢false (sym (ap is_some is)))
    by_slash (Some slash) is = by_place (drop (slash + 1) entity) (place_of types (take slash entity)) (λ place there. (place_is types (take slash entity) place there).0) is

from_each : (types : List (List ℕ)) (each n : ℕ) → n < each → n < shards_of_all types each
from_each [] each n lt = lt
from_each (name ∷ names) each n lt =
    let below = mul-add-lt 0 each n (length (name ∷ names)) (omega arith) lt in
    let same : 0 * each + n ≡ n = grind arith in
    subst (λ k. n < k) (mul_comm each (length (name ∷ names))) (subst (λ k. k < each * length (name ∷ names)) same below)

of_types : (types : List (List ℕ)) (each place n : ℕ) → place < length types → n < each → place * each + n < shards_of_all types each
of_types [] each place n below lt = absurd (omega (arith, below))
of_types (name ∷ names) each place n below lt = subst (λ k. place * each + n < k) (mul_comm each (length (name ∷ names))) (mul-add-lt place each n (length (name ∷ names)) below lt)

-- there is one at least
pub some_shards : (d : DivisionModel) → 1 ≤ d.each → 1 ≤ many_shards d
some_shards d some = let lt = from_each d.types d.each 0 (omega (arith, some)) in omega (arith, lt)

-- and 1000 at most
pub few_shards : (d : DivisionModel) → IsDivision d → many_shards d ≤ 1000
few_shards d is = by d.types is.within
  where
    by : (types : List (List ℕ)) → length types * d.each ≤ 1000 → shards_of_all types d.each ≤ 1000
    by [] within = is.bounded
    by (name ∷ names) within = within

pub shard_within : (d : DivisionModel) (entity : List ℕ) → 1 ≤ d.each → shard_in d entity < many_shards d
shard_within d entity some = by_type (typed d.types entity) refl
  where
    by_type : (o : Option (ℕ × List ℕ)) → typed d.types entity ≡ o → shard_from d.each entity o < many_shards d
    by_type None at = from_each d.types d.each (shard_of entity d.each) (shard_below entity d.each some)
    by_type (Some x) at = of_types d.types d.each x.0 (shard_of x.1 d.each) (typed_below d.types entity x at) (shard_below x.1 d.each some)

-- without types the shard is that of the whole text
pub without_types : (entity : List ℕ) (each : ℕ) → shard_in (record { types = []; each = each }) entity ≡ shard_of entity each
without_types entity each = by_slash (slash_in entity)
  where
    by_slash : (o : Option ℕ) → shard_from each entity (typed_at [] entity o) ≡ shard_of entity each
    by_slash None = refl
    by_slash (Some slash) = refl

-- ---- no shard has entities of two types
place_in_shard : (d : DivisionModel) (name entity : List ℕ) → 1 ≤ d.each → (t : IsOfType d name entity) → place_of d.types name ≡ Some (shard_in d entity / d.each)
place_in_shard d name entity some t =
    let x = typed_as d name entity t in
    let below = shard_below x.1 d.each some in
    x.2 ∙ ap Some (sym (ap (λ (o : Option (ℕ × List ℕ)). shard_from d.each entity o / d.each) x.3 ∙ div-mul-add x.0 d.each (shard_of x.1 d.each) below))

pub types_apart : (d : DivisionModel) (one other entity more : List ℕ) → 1 ≤ d.each → IsOfType d one entity → IsOfType d other more → one ≢ other → shard_in d entity ≢ shard_in d more
types_apart d one other entity more some t u apart same =
    let p = place_is d.types one (shard_in d entity / d.each) (place_in_shard d one entity some t) in
    let q = place_is d.types other (shard_in d more / d.each) (place_in_shard d other more some u) in
    apart (sym p.1 ∙ ap (λ n. get_or d.types (n / d.each) []) same ∙ q.1)

-- ---- what an entity is made of
name_byte_printed : (b : ℕ) → is_name_byte b ≡ true → is_entity_byte b ≡ true
name_byte_printed b is = grind (arith, nat_tests)

name_printed : (name : List ℕ) → list_all is_name_byte name ≡ true → list_all is_entity_byte name ≡ true
name_printed [] all = refl
name_printed (b ∷ name) all =
    let (here, rest) = and_parts (is_name_byte b) (list_all is_name_byte name) all in
    ap (λ t. t && list_all is_entity_byte name) (name_byte_printed b here) ∙ name_printed name rest

-- an id, or the name of a type
within_of : (most n : ℕ) (more : Bool) → ((nat_le 1 n && nat_le n most) && more) ≡ true → (1 ≤ n) × (n ≤ most) × (more ≡ true)
within_of most n more is =
    let (range, rest) = and_parts (nat_le 1 n && nat_le n most) more is in
    let (least, last) = and_parts (nat_le 1 n) (nat_le n most) range in
    (le_of 1 n least, le_of n most last, rest)
  where
    le_of : (a b : ℕ) → nat_le a b ≡ true → a ≤ b
    le_of a b e = grind (arith, nat_tests)

-- 1 to 97 bytes from `!` to `~`
pub record IsPrinted (entity : List ℕ) : Type 0 where
  pub not_empty : 1 ≤ length entity
  pub short : length entity ≤ 97
  pub printable : list_all is_entity_byte entity ≡ true

of_id : (entity : List ℕ) → is_id entity ≡ true → IsPrinted entity
of_id entity is = let w = within_of 64 (length entity) (list_all is_entity_byte entity) is in record { not_empty = w.0; short = omega (arith, w.1); printable = w.2 }

-- a text that is cut at its first `/`
cut_text : (entity : List ℕ) (slash : ℕ) → slash_in entity ≡ Some slash → entity ≡ take slash entity ++ 47 ∷ drop (slash + 1) entity
cut_text entity slash at =
    let p = position-Some (λ b. b == 47) entity slash 0 at in
    let here : get_or entity slash 0 ≡ 47 = eqb-true (get_or entity slash 0) 47 p.1 in
    let next : suc slash ≡ slash + 1 = omega arith in
    sym (take-append-drop slash entity) ∙ ap (λ l. take slash entity ++ l) (drop-cons entity slash 0 p.0 ∙ (λ j. here j ∷ drop (next j) entity))

named_all : (types : List (List ℕ)) → AllByRecursion (λ name. IsTrue (is_type_name name)) types → (place : ℕ) → place < length types → is_type_name (get_or types place []) ≡ true
named_all [] all place lt = absurd (omega (arith, lt))
named_all (name ∷ names) all zero lt = all.0
named_all (name ∷ names) all (suc place) lt = named_all names all.1 place (omega (arith, lt))

joined : (name id : List ℕ) → is_type_name name ≡ true → is_id id ≡ true → IsPrinted (name ++ 47 ∷ id)
joined name id named is =
    let n = within_of 32 (length name) (list_all is_name_byte name) named in
    let i = within_of 64 (length id) (list_all is_entity_byte id) is in
    let many = length-append name (47 ∷ id) in
    record {
      not_empty = omega (arith, many, n.0);
      short = omega (arith, many, n.1, i.1);
      printable = list_all-append is_entity_byte name (47 ∷ id) ∙ ap (λ b. b && list_all is_entity_byte id) (name_printed name n.2) ∙ i.2;
    }

typed_is : (types : List (List ℕ)) (entity : List ℕ) → AllByRecursion (λ name. IsTrue (is_type_name name)) types → (o : Option ℕ) → slash_in entity ≡ o → has_id (typed_at types entity o) ≡ true → IsPrinted entity
typed_is types entity all None at is = absurd (true≢false (sym is))
typed_is types entity all (Some slash) at is = by_place (place_of types (take slash entity)) refl is
  where
    by_place : (o : Option ℕ) → place_of types (take slash entity) ≡ o → has_id (option_map (λ (place : ℕ). (place, drop (slash + 1) entity)) o) ≡ true → IsPrinted entity
    by_place None there is = absurd (true≢false (sym is))
    by_place (Some place) there is =
        let p = place_is types (take slash entity) place there in
        subst IsPrinted (sym (cut_text entity slash at)) (joined (take slash entity) (drop (slash + 1) entity) (ap is_type_name (sym p.1) ∙ named_all types all place p.0) is)

pub entity_printed : (d : DivisionModel) (entity : List ℕ) → AllByRecursion (λ name. IsTrue (is_type_name name)) d.types → entity_ok d entity ≡ true → IsPrinted entity
entity_printed d entity all is = by_types d.types all is
  where
    by_types : (types : List (List ℕ)) → AllByRecursion (λ name. IsTrue (is_type_name name)) types → is_entity_of types entity ≡ true → IsPrinted entity
    by_types [] all is = of_id entity is
    by_types (name ∷ names) all is = typed_is (name ∷ names) entity all (slash_in entity) refl is
