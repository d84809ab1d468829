-- Any two settled versions of a run are comparable, where fewer addresses are listed than twice as many as a settled view counts.
use Rattle.std.proofs.Common.{◌≡◌, ℕ, ◌+◌, ◌*◌, ◌<◌, ◌≤◌, true, false, Bool, if◌then◌else◌, ◌⊎◌, inl, inr, List, [], ◌∷◌, length, Some, slice_get, Contains, refl, sym, ap, ◌∙◌, subst, arith}
use Rattle.std.proofs.lemmas.Option.{same_Some}
use Rattle.std.specs.List.{list_any}
use Rattle.std.specs.Ordering.{is_eq}
use Rattle.ak_address.specs.Distinct.{distinct}
use Rattle.ak_address.specs.Unique.{AddressModel, UniqueModel, address_cmp}
use Rattle.ak_address.proofs.Elements.{in_filter, in_map}
use Rattle.ak_address.proofs.SharedAddress.{shared_address}
use Rattle.ak_clock.specs.Version.{Counts, Covers}
use Rattle.ak_clock.proofs.VersionLaws.{covers_along}
use Rattle.ak_member.specs.declared.effect.Effect.TheVariants.{Joined, Rise}
use Rattle.ak_member.specs.declared.status.Status.TheVariants.{Up}
use Rattle.ak_member.specs.Standing.{members_of}
use Rattle.ak_member.specs.Age.{IsCounted, counted_pairs, has_role, role_pairs, role_addresses}
use Rattle.ak_history.specs.declared.entry.Entry.{Entry}
use Rattle.ak_history.specs.History.{view}
use Rattle.ak_history.specs.Shown.{IsNamed}
use Rattle.ak_history.proofs.Covering.{size}
use Rattle.ak_line.proofs.Comparable as line
use Rattle.ak_settings.specs.Settings.{SettingsModel, settling_size, is_listed}
use Rattle.ak_address.proofs.AmongLaws.{contains_from}
use Rattle.ak_node.specs.declared.node.State.{State}
use Rattle.ak_node.specs.Node.{me_of}
use Rattle.ak_world.specs.Remembered.{Remembered}
use Rattle.ak_world.proofs.Agreed.{IsAgreed}
use Rattle.ak_node.proofs.CountedPairs.{counted_have}
use Rattle.ak_world.proofs.Founding.{either_way, in_history, risen, founding_covered, one_founding}
use Rattle.ak_world.proofs.Processes.{IsThere}
use Rattle.ak_world.proofs.RaisedFor.{Raised}
use Rattle.ak_world.proofs.Rises.{counted_named, named_more}

-- no more are different than there are
pub distinct-length : (addresses : List AddressModel) → distinct addresses ≤ length addresses
distinct-length [] = omega arith
distinct-length (a ∷ rest) = by_case (list_any (λ b. is_eq (address_cmp a b)) rest) (distinct-length rest)
  where
    by_case : (b : Bool) → distinct rest ≤ length rest → (if b then distinct rest else distinct rest + 1) ≤ length (a ∷ rest)
    by_case true le = omega arith
    by_case false le = omega arith

module _ (settings : SettingsModel) (r : Remembered) (k : Raised settings r) (few : distinct settings.role < 2 * settling_size settings.strategy) where
  -- ---- the words of the argument: versions under one another, their sizes, what they name, who held them, who is at one address
  abbrev below : Counts → Counts → Type 0
  below v w = Covers w v

  abbrev size_of : Counts → ℕ
  size_of v = size r.world.history v

  abbrev on : Counts → Type 0
  on v = IsAgreed r (settling_size settings.strategy) settings.role v

  abbrev names : Counts → ℕ → Type 0
  names v j = (m : State) × (slice_get r.world.nodes j ≡ Some m) × IsNamed r.world.history v (me_of m)

  abbrev held_at : ℕ → Counts → Type 0
  held_at i v = (n : State) × (slice_get r.world.nodes i ≡ Some n) × Contains r.held (me_of n, v)

  abbrev beside : ℕ → ℕ → Type 0
  beside i j = (n : State) × (m : State) × (slice_get r.world.nodes i ≡ Some n) × (slice_get r.world.nodes j ≡ Some m) × ((me_of n).address ≡ (me_of m).address)

  some : 1 ≤ settling_size settings.strategy
  some = omega (arith, few)

  -- ---- whom a version names was started, at a listed address
  named_there : (v : Counts) (who : UniqueModel) → IsNamed r.world.history v who → IsThere r.world.nodes who
  named_there v who (inl joined) = k.basis.processes.written joined.entry (Joined who) who joined.in_history joined.does refl
  named_there v who (inr rose) = k.basis.processes.written rose.2.entry (Rise who rose.0 rose.1) who rose.2.in_history rose.2.does refl

  counted_there : (v : Counts) (who : UniqueModel) (number : ℕ) → IsCounted (view r.world.history v).standings who number → IsThere r.world.nodes who
  counted_there v who number c = named_there v who (counted_named r.world.history v who number c)

  -- a counted member is at the address
  abbrev CountedAt : Counts → AddressModel → Type 0
  CountedAt v a = (pair : UniqueModel × ℕ) × IsCounted (view r.world.history v).standings pair.0 pair.1 × (a ≡ pair.0.address)

  counted_at : (v : Counts) (a : AddressModel) → Contains (role_addresses settings.role (view r.world.history v).standings) a → CountedAt v a
  counted_at v a there =
      let counted = counted_pairs (members_of (view r.world.history v).standings) in
      let h = in_map (λ (pair : UniqueModel × ℕ). pair.0.address) (role_pairs settings.role (members_of (view r.world.history v).standings)) a there in
      (h.0, counted_have (view r.world.history v).standings h.0 (in_filter (has_role settings.role) counted h.0 h.1).0, h.2)

  all_with_role : (v : Counts) (a : AddressModel) → Contains (role_addresses settings.role (view r.world.history v).standings) a → Contains settings.role a
  all_with_role v a there =
      let counted = counted_pairs (members_of (view r.world.history v).standings) in
      let h = in_map (λ (pair : UniqueModel × ℕ). pair.0.address) (role_pairs settings.role (members_of (view r.world.history v).standings)) a there in
      contains_from settings.role a (ap (is_listed settings.role) h.2 ∙ (in_filter (has_role settings.role) counted h.0 h.1).1)

  -- ---- why a counted one counts, in the words of the argument
  rose_as : (w : Counts) → on w → (who : UniqueModel) (number : ℕ) → IsCounted (view r.world.history w).standings who number → (j : ℕ) (m : State) → slice_get r.world.nodes j ≡ Some m → me_of m ≡ who
      → line.Rose Counts below size_of on names held_at beside w j
  rose_as w is_on who number c j m at is =
      let h = risen settings r k w is_on.closed who number c in
      elim h.may.1 [
        | inl foundation ↦ line.founded (λ v on_v.
            let f = founding_covered settings r k some v on_v in
            let same = one_founding settings r k f.entry h.entry f.base h.base f.made_from h.made_from f.foundation foundation in (
              m,
              at,
              subst (IsNamed r.world.history v) (sym is) (inr (
                Up,
                h.up,
                record {
                  entry = f.entry;
                  in_history = subst (Contains r.world.history) (sym same) (in_history settings r k h.entry h.base h.made_from);
                  covered = f.covered;
                  does = subst (λ (e : Entry). Contains e.effects (Rise who Up h.up)) (sym same) h.does;
                },
              )),
            ))
        | inr agreed ↦ line.led h.base agreed (m, at, subst (IsNamed r.world.history h.base) (sym is) h.may.0) h.under h.less
      ]

  -- two agreed versions were held at one address
  sharing : (v w : Counts) → on v → on w → line.Shared Counts below size_of on names held_at beside v w
  sharing v w on_v on_w =
      let a = shared_address settings.role (role_addresses settings.role (view r.world.history v).standings) (role_addresses settings.role (view r.world.history w).standings) (settling_size settings.strategy) (all_with_role v) (all_with_role w) few on_v.enough on_w.enough in
      let c = counted_at v a.0 a.1 in
      let d = counted_at w a.0 a.2 in
      let n = counted_there v c.0.0 c.0.1 c.1 in
      let m = counted_there w d.0.0 d.0.1 d.1 in
      let address : (me_of n.node).address ≡ (me_of m.node).address = ap (λ (u : UniqueModel). u.address) n.is_who ∙ sym c.2 ∙ d.2 ∙ ap (λ (u : UniqueModel). u.address) (sym m.is_who) in
      record {
        i = n.index;
        j = m.index;
        held_i = (n.node, n.at, subst (λ u. Contains r.held (u, v)) (sym n.is_who) (on_v.held c.0.0 c.0.1 c.1));
        held_j = (m.node, m.at, subst (λ u. Contains r.held (u, w)) (sym m.is_who) (on_w.held d.0.0 d.0.1 d.1));
        rose_i = rose_as v on_v c.0.0 c.0.1 c.1 n.index n.node n.at n.is_who;
        rose_j = rose_as w on_w d.0.0 d.0.1 d.1 m.index m.node m.at m.is_who;
        order = elim (either_way n.index m.index) [
          | inl less ↦ inr (inl (less, (n.node, m.node, n.at, m.at, address)))
          | inr rest ↦ elim rest [
            | inl more ↦ inr (inr (more, (m.node, n.node, m.at, n.at, sym address)))
            | inr same ↦ inl same
          ]
        ];
      }

  settling : line.Settling Counts below size_of on names held_at beside
  settling = record {
    transitive = λ u v w under over. covers_along w v u over under;
    still_named = λ v w i under named. (named.0, named.1, named_more r.world.history v w (me_of named.0) under named.2);
    shared = sharing;
    one_process = λ i v w first second.
        let same : me_of first.0 ≡ me_of second.0 = ap me_of (same_Some first.0 second.0 (sym first.1 ∙ second.1)) in
        elim (k.basis.in_order.comparable (me_of second.0) v w (subst (λ u. Contains r.held (u, v)) same first.2) second.2) [ inl over ↦ inr over | inr under ↦ inl under ];
    no_foresight = λ i j v lt at_one has named.
        let n_is : me_of has.0 ≡ me_of at_one.0 = ap me_of (same_Some has.0 at_one.0 (sym has.1 ∙ at_one.2)) in
        let m_is : me_of named.0 ≡ me_of at_one.1 = ap me_of (same_Some named.0 at_one.1 (sym named.1 ∙ at_one.3)) in
        k.no_foresight i j at_one.0 at_one.1 v lt at_one.2 at_one.3 at_one.4 (subst (λ u. Contains r.held (u, v)) n_is has.2) (subst (IsNamed r.world.history v) m_is named.2);
  }

  pub agreed_comparable : (v w : Counts) → on v → on w → Covers v w ⊎ Covers w v
  agreed_comparable v w on_v on_w = elim (line.comparable Counts below size_of on names held_at beside settling v w on_v on_w) [ inl under ↦ inr under | inr over ↦ inl over ]
