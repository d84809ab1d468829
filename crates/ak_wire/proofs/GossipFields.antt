-- A gossip is read as it is spelled: as its parts.
use Rattle.std.proofs.Common.{◌≡◌, ℕ, zero, suc, true, IsTrue, List, [], ◌∷◌, slice_get, map, Option, Some, None, is_some, Result, Ok, refl, sym, ap, subst, ◌∙◌}
use Rattle.std.specs.FinMap as table
use Rattle.std.specs.List.{AllByRecursion}
use Rattle.ak_address.specs.Unique.{UniqueModel, IsUnique}
use Rattle.ak_address.proofs.Pairs.{not_None, same_Some}
use Rattle.ak_address.proofs.TableLaws.{get_at, index_of_get}
use Rattle.ak_member.specs.declared.standing.Standing.{Standing}
use Rattle.ak_member.specs.Standing.{Standings}
use Rattle.ak_gossip.specs.declared.part.Part.{Part}
use Rattle.ak_gossip.specs.Gossip.{GossipState, IsGossip, is_known}
use Rattle.ak_gossip.specs.Parts.{part_of, parts_of, AreParts}
use Rattle.ak_gossip.proofs.PartsBack.{made_is_gossip, parts_back}
use Rattle.ak_gossip.proofs.PartsLaws.{valid_parts, one_gossip}
use Rattle.ak_field.specs.declared.fault.WireFault.{WireFault}
use Rattle.ak_field.specs.Laws.{IsBytes, IsField}
use Rattle.ak_field.specs.Parts.{parts_at, parts, AreSpelled}
use Rattle.ak_field.proofs.Combined.{made_field}
use Rattle.ak_field.proofs.PartFields.{parts_field}
use Rattle.ak_wire.specs.Datagram.{Process, IsSendable}
use Rattle.ak_wire.specs.ReadingDatagram.{made_at, gossip_from, gossip_at}

abbrev done : GossipState × List ℕ → Result (GossipState × List ℕ) WireFault
done x = Ok x

-- each process in the list is in its ranges
abbrev pub AllUnique : List Process → Type 0
AllUnique es = (i : ℕ) (pair : Process) → slice_get es i ≡ Some pair → IsUnique pair.0

abbrev Named : Part → Type 0
Named p = IsUnique p.unique

unique_parts : (g : GossipState) (es : List Process) → AllUnique es → AllByRecursion Named (map (part_of g) es)
unique_parts g [] all = tt
unique_parts g (e ∷ es) all = (all 0 e refl, unique_parts g es (λ i pair at. all (suc i) pair at))

unique_pairs : (g : GossipState) (es : List Process) → AllByRecursion Named (map (part_of g) es) → AllUnique es
unique_pairs g [] each i pair at = absurd (not_None pair (sym at))
unique_pairs g (e ∷ es) each zero pair at = subst (λ (p : Process). IsUnique p.0) (same_Some e pair at) each.0
unique_pairs g (e ∷ es) each (suc i) pair at = unique_pairs g es each.1 i pair at

there : (o : Option Standing) → is_some o ≡ true → (x : Standing) × (o ≡ Some x)
there None e = absurd cc
there (Some x) e = (x, refl)

-- of each process that is known, or of each pair of the table
pub known_pairs : (g : GossipState) → ((who : UniqueModel) → IsTrue (is_known g.view.standings who) → IsUnique who) → AllUnique (table.entries g.view.standings)
known_pairs g all i pair at = all pair.0 (ap is_some (get_at g.view.standings i pair at))

pub pairs_known : (g : GossipState) → AllUnique (table.entries g.view.standings) → (who : UniqueModel) → IsTrue (is_known g.view.standings who) → IsUnique who
pairs_known g all who known =
    let x = there (table.get g.view.standings who) known in
    let at = index_of_get g.view.standings who x.0 x.1 in
    all at.0 (who, x.0) at.1

-- the parts of a gossip that can be sent have a spelling
pub spelled_parts : (g : GossipState) → IsSendable g → AreSpelled (parts_of g)
spelled_parts g is = record { parts = valid_parts g is.gossip; uniques = unique_parts g (table.entries g.view.standings) (known_pairs g is.uniques) }

pub gossip_again : (g : GossipState) → IsGossip g → gossip_from (parts_of g) ≡ g
gossip_again g is =
    let valid : AreParts (parts_of g) = valid_parts g is in
    one_gossip (gossip_from (parts_of g)) g (made_is_gossip (parts_of g) valid) is (parts_back (parts_of g) valid)

pub sendable_from : (ps : List Part) → AreSpelled ps → IsSendable (gossip_from ps)
sendable_from ps is =
    let g = gossip_from ps in
    let back : parts_of g ≡ ps = parts_back ps is.parts in
    record {
      gossip = made_is_gossip ps is.parts;
      uniques = pairs_known g (unique_pairs g (table.entries g.view.standings) (subst (AllByRecursion Named) (sym back) is.uniques));
    }

pub gossip_field : IsField gossip_at (λ g. parts (parts_of g)) IsSendable
unfolding made_at gossip_at
gossip_field =
    made_field parts_at parts AreSpelled gossip_from parts_of IsSendable parts_field
    (λ g is. (spelled_parts g is, gossip_again g is.gossip))
    (λ ps is fits. (parts_back ps is.parts, sendable_from ps is))

-- ---- what a call makes of parts
pub read_parts : (bytes rest : List ℕ) (ps : List Part) → IsBytes bytes → parts_at bytes ≡ Ok (ps, rest) → AreParts ps
read_parts bytes rest ps fits read = (parts_field.was bytes ps rest fits read).1.parts

pub gossip_read : (bytes rest : List ℕ) (ps : List Part) (g : GossipState) → AreParts ps → parts_at bytes ≡ Ok (ps, rest) → ((h : GossipState) → IsGossip h → parts_of h ≡ ps → g ≡ h) → gossip_at bytes ≡ Ok (g, rest)
unfolding gossip_at made_at
gossip_read bytes rest ps g are read back =
    ap (made_at gossip_from) read ∙ ap (λ (h : GossipState). done (h, rest)) (sym (back (gossip_from ps) (made_is_gossip ps are) (parts_back ps are)))

pub sendable_when : (g : GossipState) (members : Standings) → IsGossip g → members ≡ g.view.standings → AllUnique (table.entries members) → IsSendable g
sendable_when g members is same all = record { gossip = is; uniques = pairs_known g (subst (λ (s : Standings). AllUnique (table.entries s)) same all) }
