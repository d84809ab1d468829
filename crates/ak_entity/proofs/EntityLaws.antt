-- Entities by themselves: after a delivery, and after a shard was stopped.
use Rattle.std.proofs.Common.{◌≡◌, ◌≢◌, ◌↔◌, ℕ, Bool, true, false, cond, T, not, ◌==◌, List, [], ◌∷◌, Option, Some, None, is_some, unwrap_or, refl, sym, ap, ◌∙◌, true≢false}
use Rattle.std.specs.FinMap as finmap
use Rattle.std.specs.FinMap.{find, is_sorted}
use Rattle.std.specs.List.{filter}
use Rattle.std.specs.Ordering.{is_eq}
use Rattle.std.proofs.lemmas.Bool.{eqb-true, eq-eqb}
use Rattle.std.proofs.lemmas.Cmp.{nat_list_cmp_total, tied_itself}
use Rattle.std.proofs.lemmas.Map.Lookups.{exact_bytes}
use Rattle.ak_address.proofs.Pairs.{second, first, is_equal, find_below, below_tied}
use Rattle.ak_entity.specs.Active.{ActiveEntity, ActiveEntities, entity_cmp}
use Rattle.ak_entity.specs.Entities.{delivered, after_delivery, is_elsewhere, without_shard}
use Rattle.ak_entity.proofs.StoredLemmas.{sorted_filter}

pub own_delivery : (entities : ActiveEntities) (shard payload : ℕ) (entity : List ℕ) → finmap.get (after_delivery entities shard entity payload) entity ≡ Some (delivered shard payload (finmap.get entities entity))
own_delivery entities shard payload entity =
    finmap.get-insert nat_list_cmp_total entities entity _ entity
    ∙ ap (λ o. cond (is_eq o) (Some (delivered shard payload (finmap.get entities entity))) (finmap.get entities entity)) (tied_itself nat_list_cmp_total entity)

pub other_delivery : (entities : ActiveEntities) (shard payload : ℕ) (entity other : List ℕ) → other ≢ entity → finmap.get (after_delivery entities shard entity payload) other ≡ finmap.get entities other
other_delivery entities shard payload entity other apart =
    finmap.get-insert nat_list_cmp_total entities entity _ other ∙ go (is_eq (entity_cmp other entity)) refl
  where
    go : (b : Bool) → is_eq (entity_cmp other entity) ≡ b → cond b (Some (delivered shard payload (finmap.get entities entity))) (finmap.get entities other) ≡ finmap.get entities other
    go true same = absurd (apart (exact_bytes other entity (is_equal (entity_cmp other entity) _ refl same)))
    go false same = refl

-- an entity of another shard stays
abbrev stays : ℕ → Option ActiveEntity → Option ActiveEntity
stays shard None = None
stays shard (Some active) = cond (not (active.shard == shard)) (Some active) None

find_rest : (shard : ℕ) (entity : List ℕ) (es : List (List ℕ × ActiveEntity)) → T (is_sorted entity_cmp es) → find entity_cmp entity (filter (is_elsewhere shard) es) ≡ stays shard (find entity_cmp entity es)
find_rest shard entity [] h = refl
find_rest shard entity (e ∷ es) h = go (not (e.1.shard == shard)) refl (is_eq (entity_cmp entity e.0)) refl (find_rest shard entity es (second _ _ h))
  where
    go : (b : Bool) → not (e.1.shard == shard) ≡ b → (c : Bool) → is_eq (entity_cmp entity e.0) ≡ c → find entity_cmp entity (filter (is_elsewhere shard) es) ≡ stays shard (find entity_cmp entity es)
        → find entity_cmp entity (cond b (e ∷ filter (is_elsewhere shard) es) (filter (is_elsewhere shard) es)) ≡ stays shard (cond c (Some e.1) (find entity_cmp entity es))
    go true stay true same rest = ap (λ c. cond c (Some e.1) (find entity_cmp entity (filter (is_elsewhere shard) es))) same ∙ ap (λ b. cond b (Some e.1) None) (sym stay)
    go true stay false same rest = ap (λ c. cond c (Some e.1) (find entity_cmp entity (filter (is_elsewhere shard) es))) same ∙ rest
    go false stay true same rest =
        rest
        ∙ ap (stays shard) (find_below entity_cmp nat_list_cmp_total entity es (below_tied entity_cmp nat_list_cmp_total entity e.0 es (is_equal (entity_cmp entity e.0) _ refl same) (first _ _ h)))
        ∙ ap (λ b. cond b (Some e.1) None) (sym stay)
    go false stay false same rest = rest

rest_of : (entities : ActiveEntities) (shard : ℕ) (entity : List ℕ) → finmap.get (without_shard entities shard) entity ≡ stays shard (finmap.get entities entity)
rest_of entities shard entity =
    let es = finmap.entries entities in
    finmap.get-from_sorted entity_cmp (filter (is_elsewhere shard) es) entity (sorted_filter entity_cmp (is_elsewhere shard) es (finmap.entries_sorted entities))
    ∙ find_rest shard entity es (finmap.entries_sorted entities)
    ∙ ap (stays shard) (sym (finmap.get-entries entities entity))

stays_means : (shard : ℕ) (o : Option ActiveEntity) (active : ActiveEntity) → (stays shard o ≡ Some active) ↔ ((o ≡ Some active) × (active.shard ≢ shard))
stays_means shard None active = (λ is. absurd (true≢false (sym (ap is_some is))), λ is. is.0)
stays_means shard (Some a) active = (forward (a.shard == shard) refl, λ h. back (a.shard == shard) refl h.0 h.1)
  where
    same : (is : Some a ≡ Some active) → a ≡ active
    same is = ap (λ o. unwrap_or o a) is

    forward : (b : Bool) → (a.shard == shard) ≡ b → cond (not b) (Some a) None ≡ Some active → (Some a ≡ Some active) × (active.shard ≢ shard)
    forward true at is = absurd (true≢false (sym (ap is_some is)))
    forward false at is = (is, λ there. true≢false (sym (eq-eqb a.shard shard (ap (λ x. x.shard) (same is) ∙ there)) ∙ at))

    back : (b : Bool) → (a.shard == shard) ≡ b → Some a ≡ Some active → active.shard ≢ shard → cond (not b) (Some a) None ≡ Some active
    back true at is apart = absurd (apart (ap (λ x. x.shard) (sym (same is)) ∙ eqb-true _ _ at))
    back false at is apart = is

pub stopped_shard : (entities : ActiveEntities) (shard : ℕ) (entity : List ℕ) (active : ActiveEntity) → (finmap.get (without_shard entities shard) entity ≡ Some active) ↔ ((finmap.get entities entity ≡ Some active) × (active.shard ≢ shard))
stopped_shard entities shard entity active =
    let m = stays_means shard (finmap.get entities entity) active in
    (λ is. m.0 (sym (rest_of entities shard entity) ∙ is), λ is. rest_of entities shard entity ∙ m.1 is)
