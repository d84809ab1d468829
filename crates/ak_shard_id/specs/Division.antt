-- How entities are divided into shards: by their types, each of which has shards of its own, and within a type by their ids
-- (Akka's Cluster Sharding: each type of entities has a region of its own, with its own shards). That the shards of all types are
-- numbered in one row, and how a type is named in an entity's text, are this project's choices.
use Rattle.std.specs.Prelude.{◌≡◌, ℕ, ◌+◌, ◌*◌, ◌==◌, ◌≤◌, ◌&&◌, ◌||◌, Bool, true, false, IsTrue, nat_le, List, [], ◌∷◌, ◌++◌, length, take, drop, Contains, Option, None, Some, option_map, refl}
use Rattle.std.specs.Coded.{Coded, code_by, coded×, coded_ℕ, coded_list}
use Rattle.std.specs.List.{list_all, position}
use Rattle.std.specs.Ordering.{nat_cmp, is_eq}
use Rattle.std.specs.Cmp.Lexicographic.{slice_cmp}
use Rattle.ak_shard_id.specs.Shard.{shard_of}

-- the names of the types, none where there are no types, and how many shards there are of each
pub record DivisionModel : Type 0 where
  pub types : List (List ℕ)
  pub each : ℕ

abbrev pub coded_division : Coded DivisionModel
coded_division = code_by (List (List ℕ) × ℕ) (coded× (coded_list (coded_list coded_ℕ)) coded_ℕ) (λ d. (d.types, d.each)) (λ p. record { types = p.0; each = p.1 }) (λ _. refl)

-- how many shards there are: those of each type, or, without types, those of the one that has no name
abbrev pub shards_of_all : List (List ℕ) → ℕ → ℕ
shards_of_all [] each = each
shards_of_all (name ∷ names) each = length (name ∷ names) * each

abbrev pub many_shards : DivisionModel → ℕ
many_shards d = shards_of_all d.types d.each

-- at most 8 types, and 1 to 1000 shards, those of all types
pub record IsDivision (d : DivisionModel) : Type 0 where
  pub each : 1 ≤ d.each
  pub bounded : d.each ≤ 1000
  pub few : length d.types ≤ 8
  pub within : length d.types * d.each ≤ 1000

-- `!` to `~`
abbrev pub is_entity_byte : ℕ → Bool
is_entity_byte b = nat_le 33 b && nat_le b 126

-- an id: 1 to 64 bytes from `!` to `~`
abbrev pub is_id : List ℕ → Bool
is_id bytes = (nat_le 1 (length bytes) && nat_le (length bytes) 64) && list_all is_entity_byte bytes

-- letters, digits, `-` and `_`
abbrev pub is_name_byte : ℕ → Bool
is_name_byte b = ((nat_le 48 b && nat_le b 57) || (nat_le 65 b && nat_le b 90)) || ((nat_le 97 b && nat_le b 122) || (b == 45 || b == 95))

-- the name of a type: 1 to 32 letters, digits, `-` and `_`
abbrev pub is_type_name : List ℕ → Bool
is_type_name bytes = (nat_le 1 (length bytes) && nat_le (length bytes) 32) && list_all is_name_byte bytes

abbrev pub is_named : List ℕ → List ℕ → Bool
is_named name type = is_eq (slice_cmp nat_cmp type name)

-- the place of the type of a name, from 0 on
abbrev pub place_of : List (List ℕ) → List ℕ → Option ℕ
place_of types name = position (is_named name) types

-- the place of the first `/`
abbrev pub slash_in : List ℕ → Option ℕ
slash_in entity = position (λ b. b == 47) entity

-- the place of an entity's type, which its bytes before the first `/` name, and its id, the bytes after that
abbrev pub typed_at : List (List ℕ) → List ℕ → Option ℕ → Option (ℕ × List ℕ)
typed_at types entity None = None
typed_at types entity (Some slash) = option_map (λ place. (place, drop (slash + 1) entity)) (place_of types (take slash entity))

abbrev pub typed : List (List ℕ) → List ℕ → Option (ℕ × List ℕ)
typed types entity = typed_at types entity (slash_in entity)

-- an entity is an id, or with types a type, `/` and an id
abbrev pub has_id : Option (ℕ × List ℕ) → Bool
has_id None = false
has_id (Some x) = is_id x.1

abbrev pub is_entity_of : List (List ℕ) → List ℕ → Bool
is_entity_of [] entity = is_id entity
is_entity_of (name ∷ names) entity = has_id (typed (name ∷ names) entity)

abbrev pub entity_ok : DivisionModel → List ℕ → Bool
entity_ok d entity = is_entity_of d.types entity

-- the shard of an entity: that of its id among the shards of its type, which come after those of the types before it
abbrev pub shard_from : ℕ → List ℕ → Option (ℕ × List ℕ) → ℕ
shard_from each entity None = shard_of entity each
shard_from each entity (Some x) = x.0 * each + shard_of x.1 each

abbrev pub shard_in : DivisionModel → List ℕ → ℕ
shard_in d entity = shard_from d.each entity (typed d.types entity)

-- an entity has one of the types, and an id within it
pub record IsOfType (d : DivisionModel) (name entity : List ℕ) : Type 0 where
  pub listed : Contains d.types name
  pub letters : IsTrue (list_all is_name_byte name)
  pub id : List ℕ
  pub is : entity ≡ name ++ 47 ∷ id
