-- The entities that are active at a node, as a value.
use Rattle.std.specs.Prelude.{ℕ, List, refl}
use Rattle.std.specs.FinMap as map
use Rattle.std.specs.Coded.{Coded, code_by, coded×, coded_ℕ, coded_list}
use Rattle.std.specs.Ordering.{nat_cmp}
use Rattle.std.specs.Cmp.Lexicographic.{slice_cmp}
use Rattle.std.specs.declared.cmp.Ordering.{Ordering}

-- an active entity: its shard, and what was delivered to it, the first payload first
pub record ActiveEntity : Type 0 where
  pub shard : ℕ
  pub log : List ℕ

abbrev pub coded_active : Coded ActiveEntity
coded_active = code_by (ℕ × List ℕ) (coded× coded_ℕ (coded_list coded_ℕ)) (λ a. (a.shard, a.log)) (λ p. record { shard = p.0; log = p.1 }) (λ _. refl)

-- entities are told apart by the bytes of their ids
abbrev pub entity_cmp : List ℕ → List ℕ → Ordering
entity_cmp = slice_cmp nat_cmp

abbrev pub ActiveEntities : Type 0
ActiveEntities = map.FinMap entity_cmp ActiveEntity

abbrev pub coded_entities : Coded ActiveEntities
coded_entities = map.code (coded_list coded_ℕ) coded_active
